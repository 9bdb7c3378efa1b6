use Rattle.std.proofs.Common.{◌≡◌, ℕ, List, true, false, Option, refl, sym, ap, subst, ◌∙◌, MatchOption}
use Rattle.cs_merge.proofs.Common.{and_from, are_distinct, uncovered, SortedNames, AreSortedNames}
use Rattle.cs_merge.proofs.SortedNamesLemmas.{sorted_distinct}
use Rattle.cs_merge.proofs.merging.sort_names.Goals as goal

-- what is found is sorted names
abbrev IsFound : List (List ℕ) → Option SortedNames → Type 0
IsFound names found = MatchOption found (are_distinct names ≡ false) (λ ordered. (ordered.names ≡ names) × AreSortedNames ordered)

pub returns-then-not-is_under-clause-fault : goal.returns-then-not-is_under-clause-fault
returns-then-not-is_under-clause-fault c most parts same =
    let old = subst (IsFound c.args.old) c.in-Some.is c.in_ok-old_names.ensures.sorted in
    let newer = subst (IsFound c.name_table.result) c.in-Some-2.is c.in_ok-newer_names.ensures.sorted in
    let first : are_distinct parts.names ≡ true = ap are_distinct (same ∙ sym old.0) ∙ sorted_distinct c.in-Some.old_names old.1 in
    let second : are_distinct c.args.newer.now.names ≡ true = ap are_distinct (sym (newer.0 ∙ c.name_table.ensures))
    ∙ sorted_distinct c.in-Some-2.newer_names newer.1 in
    uncovered refl (and_from (are_distinct parts.names) (are_distinct c.args.newer.now.names) first second)
    (sym c.is_under.ensures ∙ c.if-not-is_under.true)
