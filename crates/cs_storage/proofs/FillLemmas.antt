-- Appending to FILE~ any number of times.
use Rattle.std.proofs.Common.{◌≡◌, Option, Some, None, refl, sym, ap, subst, ◌∙◌}
use Rattle.std.specs.Prelude.{IsSome, MatchOption}
use Rattle.cs_storage.specs.Storing.{Folder, OwnFile, Moves, ChangesNothing, FillsOwn, Fills, IsHeld}
use Rattle.cs_storage.specs.NewFiles.{FillsOn}

abbrev Filled : Folder → Folder → Option OwnFile → Type 0
Filled x y own = MatchOption own (ChangesNothing x y) (λ _. FillsOwn x y)

fills_none_at : (x : Folder) (own : Option OwnFile) → x.own ≡ own → Filled x x own
fills_none_at x None is = record { leaves = record { own = refl; stuck = refl; replaced = refl; added = refl; refused = refl }; seen = refl; held = λ _. refl }
fills_none_at x (Some own) is = (own, ap {A = Option OwnFile} {B = Folder} (λ own. record x { own = own }) is)

fills_none : (folder : Option Folder) → Moves Fills folder folder
fills_none None = refl
fills_none (Some x) = fills_none_at x x.own refl

-- what an output over FILE~ has done
pub fills : (old new : Option Folder) → FillsOn old new → Moves Fills old new
fills old new on = on old (fills_none old)

stays_held_at : (x y : Folder) (own : Option OwnFile) → x.own ≡ own → IsSome own → Filled x y own → IsSome y.own
stays_held_at x y None is held filled = absurd (let e = held in cc)
stays_held_at x y (Some own) is held filled = rw filled.1

-- FILE~ stays held
pub stays_held : (old new : Option Folder) → IsHeld old → Moves Fills old new → IsHeld new
stays_held None new held moves = subst IsHeld (sym moves) tt
stays_held (Some x) None held moves = absurd moves
stays_held (Some x) (Some y) held moves = stays_held_at x y x.own refl held moves

keeps_at : (x y : Folder) (own : Option OwnFile) → x.own ≡ own → Filled x y own →
    (y.seen ≡ x.seen) × (y.stuck ≡ x.stuck) × (y.replaced ≡ x.replaced) × (y.added ≡ x.added) × (x.own ≡ None → y.own ≡ None)
keeps_at x y None is filled =
    (filled.seen, filled.leaves.stuck, filled.leaves.replaced, filled.leaves.added, λ none. filled.leaves.own ∙ none)
keeps_at x y (Some own) is filled = (
  ap (λ y. y.seen) filled.1,
  ap (λ y. y.stuck) filled.1,
  ap (λ y. y.replaced) filled.1,
  ap (λ y. y.added) filled.1,
  λ none. absurd (let e = sym is ∙ none in cc),
)

-- what does not change
pub fills_keeps : (x y : Folder) → Fills x y → (y.seen ≡ x.seen) × (y.stuck ≡ x.stuck) × (y.replaced ≡ x.replaced) ×
    (y.added ≡ x.added) × (x.own ≡ None → y.own ≡ None)
fills_keeps x y filled = keeps_at x y x.own refl filled
