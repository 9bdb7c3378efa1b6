-- The longest path over a sequence of calls, and lookups over one.
use Rattle.std.proofs.Common.{ℕ, ◌∙◌, refl, Option, Some, None, arith}
use Rattle.cs_tree.specs.Clean.{longest_path}
use Rattle.cs_tree.specs.ReadCounts.{ReadCounts}
use Rattle.cs_tree.specs.Snapshot.{Snapshot}
use Rattle.cs_tree.specs.Walks.{RequestsWithin}
use Rattle.cs_tree.specs.WalkSteps.{LooksUp}

pub requests_none : (most : ℕ) (a : Option ℕ) → RequestsWithin most a a
requests_none most None = tt
requests_none most (Some n) = omega arith

pub requests_on : (most : ℕ) (a b c : Option ℕ) → RequestsWithin most a b → RequestsWithin most b c → RequestsWithin most a c
requests_on most None b c first next = tt
requests_on most (Some n) None c first next = absurd first
requests_on most (Some n) (Some m) None first next = absurd next
requests_on most (Some n) (Some m) (Some l) first next = omega (arith, first, next)

pub no_lookup : {T : Type 0} (snapshot : T → Option Snapshot) (failed : T → ℕ) (longest : T → Option ℕ)
    (counts : T → Option ReadCounts) (tree : T) → LooksUp snapshot failed longest counts tree tree
no_lookup snapshot failed longest counts tree = (refl, omega arith, requests_none longest_path (longest tree), refl)

pub more_lookups : {T : Type 0} (snapshot : T → Option Snapshot) (failed : T → ℕ) (longest : T → Option ℕ)
    (counts : T → Option ReadCounts) (a b c : T) → LooksUp snapshot failed longest counts a b
    → LooksUp snapshot failed longest counts b c → LooksUp snapshot failed longest counts a c
more_lookups snapshot failed longest counts a b c first next = (
  next.0 ∙ first.0,
  omega (arith, first.1, next.1),
  requests_on longest_path (longest a) (longest b) (longest c) first.2 next.2,
  next.3 ∙ first.3,
)
