-- The masks of a program.
use Rattle.std.specs.Prelude.{ℕ, ◌≡◌, ◌+◌, ◌<◌, Some, List, length, map, vec_len, slice_index_or}
use Rattle.cs_syntax.specs.Matching.{Tree}
use Rattle.cs_match.specs.declared.position.Input.{Input}
use Rattle.cs_match.specs.declared.position.Position.{Position}
use Rattle.cs_match.specs.declared.position.Mask.{Mask}
use Rattle.cs_match.specs.declared.position.Masks.{Masks}
use Rattle.cs_match.specs.declared.glushkov.Scratch.{Scratch}
use Rattle.cs_match.specs.Glushkov.{position_count, repeats}
use Rattle.cs_match.specs.Entered.{position_list, if_entered, if_previous, if_kept}

-- the mask has a bit for each of so many positions
pub record HasRoom (count : ℕ) (mask : Mask) : Type 0 where
  pub entered : length mask.entered ≡ count
  pub previous : length mask.previous ≡ count
  pub kept : length mask.kept ≡ count

-- the mask says what each position does over the input
pub record IsMask (ps : List Position) (input : Input) (mask : Mask) : Type 0 where
  pub entered : mask.entered ≡ map (if_entered input) ps
  pub previous : mask.previous ≡ map (if_previous input) ps
  pub kept : mask.kept ≡ map (if_kept input) ps

-- there is a mask, and each that is computed is that of its input
pub record AreMasks (ps : List Position) (masks : Masks) : Type 0 where
  pub some : 0 < length masks.slots.items
  pub room : (k : ℕ) (other : Mask) → k < length masks.slots.items → HasRoom (length ps) (slice_index_or masks.slots.items k other)
  pub known : (k : ℕ) (other : Mask) (input : Input) → k < length masks.slots.items →
      (slice_index_or masks.slots.items k other).input ≡ Some input → IsMask ps input (slice_index_or masks.slots.items k other)

-- the memory of the steps of a tree
pub record IsScratch (t : Tree) (scratch : Scratch) : Type 0 where
  pub loops : vec_len scratch.loops ≡ repeats t
  pub entries : length scratch.entries ≡ position_count t + 1
  pub masks : AreMasks (position_list t) scratch.masks
