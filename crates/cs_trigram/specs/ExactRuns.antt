-- The exact runs of a tree, runs of neighbouring parts with few exact strings, and its crosses, each of a part and a run
-- after it with few exact strings. A query has to be at least as selective as they are.
-- docs/PATTERNS.md, "Queries".
use Rattle.std.specs.Prelude.{true, ℕ, zero, suc, ◌≡◌, ◌≤◌, ◌*◌, ◌⊎◌, ◌++◌, Bool, List, IsTrue, reverse, take}
use Rattle.cs_syntax.specs.TreeList.{append}
use Rattle.cs_syntax.specs.Matching.{Tree, Trees, cat, alt, rep, none, more}
use Rattle.cs_trigram.specs.Query.{matches_set, HasTrigrams}
use Rattle.cs_trigram.specs.MayMatch.{MayMatch, MayMatchSequence}
use Rattle.cs_trigram.specs.ExactStrings.{HaveExactStrings, HaveFewExactStrings, HaveLongStrings}
use Rattle.cs_trigram.specs.declared.queries.Query.{Query}

-- the set has the trigrams of an exact string of the run
abbrev pub HasRun : (ℕ → Bool) → Trees → Type 0
HasRun set ts = (string : List ℕ) × MayMatchSequence true ts string × HasTrigrams set string

-- the set has each run of neighbouring parts that has few exact strings
abbrev pub HasEachRun : (ℕ → Bool) → Trees → Type 0
HasEachRun set ts =
    (before run after : Trees) → ts ≡ append before (append run after) → HaveFewExactStrings run →
    HasRun set run

-- the set has the trigrams of the last m bytes of an exact string of the tree and the first n of one of the run
abbrev pub HasCross : (ℕ → Bool) → ℕ → ℕ → Tree → Trees → Type 0
HasCross set m n t run =
    (u v : List ℕ) × MayMatch true t u × MayMatchSequence true run v
    × HasTrigrams set (reverse (take m (reverse u)) ++ take n v)

-- The set has the crosses of the tree and each run at the start of the trees after it, if the tree has at most twenty
-- exact strings and the run at most ten, of at least two bytes each. With at most 32 pairs of strings, these are both
-- trigrams across for some pair; with at most 128, each of the two for some pair.
abbrev pub HasCrosses : (ℕ → Bool) → Tree → Trees → Type 0
HasCrosses set t ts =
    (run after : Trees) (a b : ℕ) → ts ≡ append run after → a ≤ 20 → b ≤ 10 → HaveExactStrings a (more t none) →
    HaveExactStrings b run → HaveLongStrings 2 run →
    (a * b ≤ 32 → HasCross set 2 2 t run) × (a * b ≤ 128 → HasCross set 2 1 t run × HasCross set 1 2 t run)

-- the set has the crosses of each part and the parts after it
abbrev pub HasEachCross : (ℕ → Bool) → Trees → Type 0
HasEachCross set ts = (before : Trees) (t : Tree) (after : Trees) → ts ≡ append before (more t after) → HasCrosses set t after

-- the set has the tree itself as a run, if its exact strings are few
abbrev pub HasWhole : (ℕ → Bool) → Tree → Type 0
HasWhole set t = HaveFewExactStrings (more t none) → HasRun set (more t none)

-- The set has the runs and crosses within the tree. Of a sequence, these are each run and each cross of its parts and
-- those within each part; of an alternation, some branch as a whole and those within it; of a repeat of at least one
-- iteration, its body as a whole and those within it.
abbrev mutual
  pub HasRunsWithin : (ℕ → Bool) → Tree → Type 0
  HasRunsWithin set (cat ts) = HasEachRun set ts × HasEachCross set ts × AllHaveRunsWithin set ts
  HasRunsWithin set (alt ts) = SomeHasExactRuns set ts
  HasRunsWithin set (rep x zero m) = Unit {0}
  HasRunsWithin set (rep x (suc n) m) = HasWhole set x × HasRunsWithin set x
  HasRunsWithin set part = Unit {0}

  pub AllHaveRunsWithin : (ℕ → Bool) → Trees → Type 0
  AllHaveRunsWithin set none = Unit {0}
  AllHaveRunsWithin set (more t ts) = HasRunsWithin set t × AllHaveRunsWithin set ts

  pub SomeHasExactRuns : (ℕ → Bool) → Trees → Type 0
  SomeHasExactRuns set none = ⊥
  SomeHasExactRuns set (more t ts) = (HasWhole set t × HasRunsWithin set t) ⊎ SomeHasExactRuns set ts

-- the set has the tree as a whole, and the runs and crosses within it
abbrev pub HasExactRuns : (ℕ → Bool) → Tree → Type 0
HasExactRuns set t = HasWhole set t × HasRunsWithin set t

-- the query is at least as selective as the exact runs and the crosses: it matches only sets that have them
abbrev pub IsSelective : Query → Tree → Type 0
IsSelective query tree = (set : ℕ → Bool) → IsTrue (matches_set query set) → HasExactRuns set tree
