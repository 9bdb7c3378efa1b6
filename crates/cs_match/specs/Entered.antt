-- A step in two parts. Which positions are *entered* before a byte depends on the tree; which of them are in the set
-- after it depends on each position alone, so this part is bit-parallel. In a run of sets each position enters the
-- next one: Shift-And (Baeza-Yates, Gonnet).
use Rattle.std.specs.Prelude.{ℕ, suc, ◌≡◌, Bool, true, false, ◌&&◌, ◌||◌, List, [], ◌∷◌, ◌++◌, take, drop, length, slice_index_or}
use Rattle.cs_syntax.specs.Matching.{Tree, Trees, empty, one_of, one_char, cat, alt, rep, line_start, line_end, word_edge, not_word_edge, none, more, member}
use Rattle.cs_syntax.specs.CharSteps.{taken_after, begun_after}
use Rattle.cs_match.specs.declared.position.Input.{Input}
use Rattle.cs_match.specs.declared.state.LookAround.{LookAround}
use Rattle.cs_match.specs.declared.position.Position.{Position}
use Rattle.cs_match.specs.declared.position.Position.TheVariants.{Bytes, Begun, Taken}
use Rattle.cs_match.specs.Glushkov.{position_count, is_final, accepts}

-- the positions of a tree, from left to right
abbrev mutual
  pub position_list : Tree → List Position
  position_list empty = []
  position_list (one_of set) = Bytes set ∷ []
  position_list (one_char ranges) = Begun ∷ Taken ranges ∷ []
  position_list (cat ts) = position_list_of ts
  position_list (alt ts) = position_list_of ts
  position_list (rep x n m) = position_list x
  position_list line_start = []
  position_list line_end = []
  position_list word_edge = []
  position_list not_word_edge = []

  pub position_list_of : Trees → List Position
  position_list_of none = []
  position_list_of (more t ts) = position_list t ++ position_list_of ts

-- the positions that are entered at an offset: what ends there can be followed by them
abbrev mutual
  pub entered : Tree → Bool → List Bool → LookAround → List Bool
  entered empty enter ms a = []
  entered (one_of set) enter ms a = enter ∷ []
  entered (one_char ranges) enter ms a = enter ∷ slice_index_or ms 0 false ∷ []
  entered (cat ts) enter ms a = entered_all ts enter ms a
  entered (alt ts) enter ms a = entered_each ts enter ms a
  entered (rep x n m) enter ms a = entered x (enter || is_final x ms a) ms a
  entered line_start enter ms a = []
  entered line_end enter ms a = []
  entered word_edge enter ms a = []
  entered not_word_edge enter ms a = []

  pub entered_all : Trees → Bool → List Bool → LookAround → List Bool
  entered_all none enter ms a = []
  entered_all (more t ts) enter ms a =
      entered t enter (take (position_count t) ms) a
      ++ entered_all ts (accepts t enter (take (position_count t) ms) a) (drop (position_count t) ms) a

  pub entered_each : Trees → Bool → List Bool → LookAround → List Bool
  entered_each none enter ms a = []
  entered_each (more t ts) enter ms a =
      entered t enter (take (position_count t) ms) a ++ entered_each ts enter (drop (position_count t) ms) a

-- the entries have one position more than the set, and hold from p + 1 on the set, moved by one position
pub record AreShifted (p : ℕ) (ms es : List Bool) : Type 0 where
  pub long : length es ≡ suc (length ms)
  pub same : drop (suc p) es ≡ drop p ms

-- A position is in the set after the input if it was entered, ..
abbrev pub if_entered : Input → Position → Bool
if_entered b (Bytes set) = member set b.byte
if_entered b Begun = begun_after true false b.char
if_entered b (Taken ranges) = taken_after ranges false true b.char

-- .. or if the position before it was entered, which an ASCII byte begins and takes at once, ..
abbrev pub if_previous : Input → Position → Bool
if_previous b (Bytes set) = false
if_previous b Begun = false
if_previous b (Taken ranges) = taken_after ranges true false b.char

-- .. or if it was in the set, inside a character.
abbrev pub if_kept : Input → Position → Bool
if_kept b (Bytes set) = false
if_kept b Begun = begun_after false true b.char
if_kept b (Taken ranges) = false

-- the set after the input, from the entered positions `es` and the set `ms`; `previous` says whether the position
-- before these was entered
abbrev pub moved : Bool → List Position → Input → List Bool → List Bool → List Bool
moved previous [] b es ms = []
moved previous (p ∷ ps) b es ms =
    (((slice_index_or es 0 false && if_entered b p) || (previous && if_previous b p)) || (slice_index_or ms 0 false && if_kept b p))
    ∷ moved (slice_index_or es 0 false) ps b (drop 1 es) (drop 1 ms)
