-- Glushkov's position automaton. The positions of a tree are its sets, from left to right. A position set is a
-- list with a truth value for each position: the position is in the set after a prefix of the line if a span that
-- ends there is matched with this position last. A set of characters has two: it is *begun* if it was entered where
-- the unfinished character begins, and it is *taken* as a set of bytes is. The automaton is not built; its sets
-- nullable, last and follow are computed from the tree at each byte. The tree is expanded (`IsExpanded`): every
-- repeat is a loop of at least 0 or 1 iterations.
use Rattle.std.specs.Prelude.{ℕ, zero, suc, ◌≡◌, ◌+◌, Bool, true, false, ◌&&◌, ◌||◌, not, List, [], ◌∷◌, ◌++◌, take, drop, length, replicate, nat_eq, ◌≤◌, slice_index, slice_index_or, None, if◌then◌else◌}
use Rattle.cs_syntax.specs.Matching.{Tree, Trees, empty, one_of, one_char, cat, alt, rep, line_start, line_end, word_edge, not_word_edge, none, more, member, is_at_word_boundary}
use Rattle.cs_syntax.specs.Cuts.{utf8_cuts, range_cuts, char_ranges}
use Rattle.cs_syntax.specs.CharSteps.{finished, char_step, unfinished_after, taken_after, begun_after}
use Rattle.cs_syntax.specs.declared.char_step.Unfinished.{Unfinished}
use Rattle.cs_syntax.specs.declared.char_step.CharStep.{CharStep}
use Rattle.cs_syntax.specs.declared.char_step.CharStep.TheVariants.{Nothing}
use Rattle.cs_match.specs.declared.position.Input.{Input}
use Rattle.cs_match.specs.declared.state.LookAround.{LookAround}
use Rattle.cs_match.specs.declared.state.LookBehind.{LookBehind}
use Rattle.cs_match.specs.LookBehind.{look_behind}

-- the look-around at offset i of the line; what the tree has no assertion for is false
abbrev pub look_around : Tree → List ℕ → ℕ → LookAround
look_around t s i = record {
  first = nat_eq i 0 && (look_behind t).first;
  last = nat_eq i (length s);
  edge = is_at_word_boundary s i && (look_behind t).word;
}

abbrev mutual
  pub position_count : Tree → ℕ
  position_count empty = 0
  position_count (one_of set) = 1
  position_count (one_char ranges) = 2
  position_count (cat ts) = position_count_of ts
  position_count (alt ts) = position_count_of ts
  position_count (rep x n m) = position_count x
  position_count line_start = 0
  position_count line_end = 0
  position_count word_edge = 0
  position_count not_word_edge = 0

  pub position_count_of : Trees → ℕ
  position_count_of none = 0
  position_count_of (more t ts) = position_count t + position_count_of ts

-- the number of repeats
abbrev mutual
  pub repeats : Tree → ℕ
  repeats empty = 0
  repeats (one_of set) = 0
  repeats (one_char ranges) = 0
  repeats (cat ts) = repeats_of ts
  repeats (alt ts) = repeats_of ts
  repeats (rep x n m) = suc (repeats x)
  repeats line_start = 0
  repeats line_end = 0
  repeats word_edge = 0
  repeats not_word_edge = 0

  pub repeats_of : Trees → ℕ
  repeats_of none = 0
  repeats_of (more t ts) = repeats t + repeats_of ts

-- the tree is nullable at an offset with this look-around: it matches the empty span there
abbrev mutual
  pub nullable : Tree → LookAround → Bool
  nullable empty a = true
  nullable (one_of set) a = false
  nullable (one_char ranges) a = false
  nullable (cat ts) a = nullable_all ts a
  nullable (alt ts) a = nullable_some ts a
  nullable (rep x n m) a = nat_eq n 0 || nullable x a
  nullable line_start a = a.first
  nullable line_end a = a.last
  nullable word_edge a = a.edge
  nullable not_word_edge a = not a.edge

  pub nullable_all : Trees → LookAround → Bool
  nullable_all none a = true
  nullable_all (more t ts) a = nullable t a && nullable_all ts a

  pub nullable_some : Trees → LookAround → Bool
  nullable_some none a = false
  nullable_some (more t ts) a = nullable t a || nullable_some ts a

-- The set contains a last position of the tree. If what follows in a concatenation is nullable, the last
-- positions before it are last positions too.
abbrev mutual
  pub is_final : Tree → List Bool → LookAround → Bool
  is_final empty ms a = false
  is_final (one_of set) ms a = slice_index_or ms 0 false
  is_final (one_char ranges) ms a = slice_index_or ms 1 false
  is_final (cat ts) ms a = is_final_all ts ms a
  is_final (alt ts) ms a = is_final_some ts ms a
  is_final (rep x n m) ms a = is_final x ms a
  is_final line_start ms a = false
  is_final line_end ms a = false
  is_final word_edge ms a = false
  is_final not_word_edge ms a = false

  pub is_final_all : Trees → List Bool → LookAround → Bool
  is_final_all none ms a = false
  is_final_all (more t ts) ms a =
      (is_final t (take (position_count t) ms) a && nullable_all ts a) || is_final_all ts (drop (position_count t) ms) a

  pub is_final_some : Trees → List Bool → LookAround → Bool
  is_final_some none ms a = false
  is_final_some (more t ts) ms a = is_final t (take (position_count t) ms) a || is_final_some ts (drop (position_count t) ms) a

-- the tree accepts here; `enter` says whether it can begin here
abbrev pub accepts : Tree → Bool → List Bool → LookAround → Bool
accepts t enter ms a = is_final t ms a || (enter && nullable t a)

-- For each repeat of the tree, an outer one before the inner ones: the set contains a last position of the
-- body. The positions of the tree come first in `ms`.
abbrev mutual
  pub loop_ends : Tree → List Bool → LookAround → List Bool
  loop_ends empty ms a = []
  loop_ends (one_of set) ms a = []
  loop_ends (one_char ranges) ms a = []
  loop_ends (cat ts) ms a = loop_ends_of ts ms a
  loop_ends (alt ts) ms a = loop_ends_of ts ms a
  loop_ends (rep x n m) ms a = is_final x ms a ∷ loop_ends x ms a
  loop_ends line_start ms a = []
  loop_ends line_end ms a = []
  loop_ends word_edge ms a = []
  loop_ends not_word_edge ms a = []

  pub loop_ends_of : Trees → List Bool → LookAround → List Bool
  loop_ends_of none ms a = []
  loop_ends_of (more t ts) ms a = loop_ends t ms a ++ loop_ends_of ts (drop (position_count t) ms) a

-- the cuts of the sets of characters of the tree
abbrev pub cuts_of : Tree → List ℕ
cuts_of t = utf8_cuts ++ range_cuts (char_ranges t)

-- what the byte b does after this unfinished character, if the tree has sets of characters
abbrev pub char_step_of : Tree → Unfinished → ℕ → CharStep
char_step_of t at b = if (look_behind t).char then char_step (cuts_of t) at b else Nothing

-- the two positions of a set of characters after a step
abbrev pub step_chars : List (ℕ × ℕ) → Bool → List Bool → CharStep → List Bool
step_chars ranges enter ms char =
    begun_after enter (slice_index_or ms 0 false) char
    ∷ taken_after ranges enter (slice_index_or ms 0 false) char ∷ []

-- the position set after a byte
abbrev mutual
  pub step : Tree → Bool → List Bool → LookAround → Input → List Bool
  step empty enter ms a b = []
  step (one_of set) enter ms a b = (enter && member set b.byte) ∷ []
  step (one_char ranges) enter ms a b = step_chars ranges enter ms b.char
  step (cat ts) enter ms a b = step_all ts enter ms a b
  step (alt ts) enter ms a b = step_each ts enter ms a b
  step (rep x n m) enter ms a b = step x (enter || is_final x ms a) ms a b
  step line_start enter ms a b = []
  step line_end enter ms a b = []
  step word_edge enter ms a b = []
  step not_word_edge enter ms a b = []

  pub step_all : Trees → Bool → List Bool → LookAround → Input → List Bool
  step_all none enter ms a b = []
  step_all (more t ts) enter ms a b =
      step t enter (take (position_count t) ms) a b
      ++ step_all ts (accepts t enter (take (position_count t) ms) a) (drop (position_count t) ms) a b

  pub step_each : Trees → Bool → List Bool → LookAround → Input → List Bool
  step_each none enter ms a b = []
  step_each (more t ts) enter ms a b =
      step t enter (take (position_count t) ms) a b ++ step_each ts enter (drop (position_count t) ms) a b

-- the unfinished character before offset i of the line
abbrev pub unfinished_before : Tree → List ℕ → ℕ → Unfinished
unfinished_before t s zero = finished
unfinished_before t s (suc i) = unfinished_after (char_step_of t (unfinished_before t s i) (slice_index s i))

-- the byte at offset i of the line
abbrev pub input_at : Tree → List ℕ → ℕ → Input
input_at t s i = record { byte = slice_index s i; char = char_step_of t (unfinished_before t s i) (slice_index s i) }

-- the position set at offset i of a line with this look-around and input at each offset; `enter` says at which
-- offsets the tree can begin
abbrev pub positions : (ℕ → LookAround) → (ℕ → Input) → Tree → (ℕ → Bool) → ℕ → List Bool
positions a b t enter zero = replicate (position_count t) false
positions a b t enter (suc i) = step t (enter i) (positions a b t enter i) (a i) (b i)

-- the tree accepts at offset i
abbrev pub accepts_at : (ℕ → LookAround) → (ℕ → Input) → Tree → (ℕ → Bool) → ℕ → Bool
accepts_at a b t enter i = accepts t (enter i) (positions a b t enter i) (a i)

-- the tree accepts at offset i of the line, and can begin anywhere
abbrev pub accepts_in : List ℕ → Tree → ℕ → Bool
accepts_in s t i = accepts_at (look_around t s) (input_at t s) t (λ _. true) i

-- each repeat is a loop of at least 0 or 1 iterations
abbrev mutual
  pub IsExpanded : Tree → Type 0
  IsExpanded empty = Unit {0}
  IsExpanded (one_of set) = Unit {0}
  IsExpanded (one_char ranges) = Unit {0}
  IsExpanded (cat ts) = AreExpanded ts
  IsExpanded (alt ts) = AreExpanded ts
  IsExpanded (rep x n m) = (n ≤ 1) × (m ≡ None) × IsExpanded x
  IsExpanded line_start = Unit {0}
  IsExpanded line_end = Unit {0}
  IsExpanded word_edge = Unit {0}
  IsExpanded not_word_edge = Unit {0}

  pub AreExpanded : Trees → Type 0
  AreExpanded none = Unit {0}
  AreExpanded (more t ts) = IsExpanded t × AreExpanded ts

-- an expanded tree, with the number of its repeats and the look-behind bits that it reads
abbrev pub IsProgram : Tree → ℕ → LookBehind → Type 0
IsProgram t n bits = (n ≡ repeats t) × (bits ≡ look_behind t) × IsExpanded t
