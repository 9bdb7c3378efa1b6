-- The work of a search for spans, in steps (`Work`). One search is a few scans of the line: linear, times a logarithm.
-- docs/PROMISES.md, "Work".
use Rattle.std.specs.Prelude.{ℕ, ◌+◌, ◌*◌, ◌^◌, ◌<◌, ◌≤◌, refl}
use Rattle.std.specs.Coded.{Coded, code_by, coded_ℕ, coded×}
use Rattle.cs_syntax.specs.Matching.{Tree}
use Rattle.cs_syntax.specs.TreeCode.{tree_code}
use Rattle.cs_match.specs.Glushkov.{position_count}
use Rattle.cs_match.specs.Work.{words, step_work}

-- what contracts see of a finder: the tree that is matched, and the numbers of bytes and of steps of all calls so far
pub record Finding : Type 0 where
  pub tree : Tree
  pub bytes : ℕ
  pub steps : ℕ

-- a finding is stored as its fields
abbrev pub finding_code : Coded Finding
finding_code =
    code_by (Tree × (ℕ × ℕ)) (coded× tree_code (coded× coded_ℕ coded_ℕ)) (λ f. (f.tree, (f.bytes, f.steps)))
    (λ p. record { tree = p.0; bytes = p.1.0; steps = p.1.1 }) (λ _. refl)

-- the most steps of a pass for a byte that it reads: the step of the automaton, and a set that is cleared or compared
abbrev pub pass_work : Tree → ℕ
pass_work t = step_work t + words (position_count t) + 3

-- the most bytes that a pass over a line of so many reads: each of them, its end, and where the pass begins
abbrev pub pass_bytes : ℕ → ℕ
pass_bytes bytes = bytes + 2

-- the most bytes that one search reads: three passes, and one for each half of the line that a bisection leaves
abbrev pub find_bytes : ℕ → ℕ → ℕ
find_bytes halves bytes = (halves + 3) * pass_bytes bytes

-- the calls read at most so many bytes and take at most as many steps as these, and take none back
pub record ReadsAtMost (bytes : ℕ) (old new : Finding) : Type 0 where
  pub on : old.bytes ≤ new.bytes
  pub few : new.bytes ≤ old.bytes + bytes
  pub low : old.steps ≤ new.steps
  pub high : new.steps ≤ old.steps + bytes * pass_work old.tree

-- one search over a line of so many bytes
abbrev pub SearchesWithin : ℕ → Finding → Finding → Type 0
SearchesWithin bytes old new = (halves : ℕ) → bytes < 2 ^ halves → ReadsAtMost (find_bytes halves bytes) old new

-- a list of spans: the bytes of the budget, and one search that had begun
abbrev pub ListsWithin : ℕ → ℕ → Finding → Finding → Type 0
ListsWithin budget bytes old new =
    (halves : ℕ) → bytes < 2 ^ halves → ReadsAtMost (budget + find_bytes halves bytes) old new
