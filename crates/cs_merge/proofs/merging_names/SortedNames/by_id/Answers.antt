use Rattle.std.proofs.Common.{◌≡◌, ℕ, List, length, sym, ap, subst, ◌∙◌, Some, Result, Ok, Err, option_map, IfOk}
use Rattle.cs_merge.proofs.Common.{SortedNames, AreSortedNames, NewIds, AreByRank, AreScattered, AreDistinctIds}
use Rattle.cs_merge.proofs.SortedNamesLemmas.{are_ordering, scattered_by_rank}
use Rattle.cs_merge.proofs.merging_names.SortedNames.by_id.Goals as goal

abbrev in_order : List (List ℕ) → List ℕ → SortedNames
in_order names ids = record { names = names; order = Some ids }

put : {E : Type 0} (names : List (List ℕ)) (ids : List ℕ) (ranks : NewIds) (result : Result NewIds E) →
    AreSortedNames (in_order names ids) → length ranks ≡ length names →
    IfOk result (λ new_ids. length new_ids ≡ length ranks) →
    IfOk result (λ new_ids. AreScattered ids ranks (length ids) new_ids) →
    IfOk result (λ new_ids. AreByRank (in_order names ids) ranks new_ids)
put names ids ranks (Ok new_ids) is all long each = scattered_by_rank names ids is ranks new_ids all long each
put names ids ranks (Err fault) is all long each = tt

pub scatter-requires-clause-order : goal.scatter-requires-clause-order
scatter-requires-clause-order c =
    let names = c.self.inside.names in
    let e : c.args.self.now ≡ in_order names c.in-Some.ids.items = sym c.self.view_is
    ∙ ap (λ o. let r : SortedNames = record { names = names; order = option_map (λ ids. ids.items) o } in r)
    c.in-Some.is in
    subst (λ (ids : List ℕ). AreDistinctIds (length ids) ids) (sym c.deref.ensures.value)
    (are_ordering names c.in-Some.ids.items (subst AreSortedNames e c.requires.sorted))

pub returns-in-Some : goal.returns-in-Some
returns-in-Some c =
    let names = c.self.inside.names in
    let ids : List ℕ = c.deref.result.now in
    let e : c.args.self.now ≡ in_order names ids = sym c.self.view_is
    ∙ ap (λ o. let r : SortedNames = record { names = names; order = option_map (λ ids. ids.items) o } in r)
    c.in-Some.is ∙ ap (in_order names) (sym c.deref.ensures.value) in
    subst (λ (r : SortedNames). IfOk c.scatter.result (λ new_ids. AreByRank r c.args.ranks new_ids)) (sym e)
    (put names ids c.args.ranks c.scatter.result (subst AreSortedNames e c.requires.sorted)
    (c.requires.all ∙ ap (λ (r : SortedNames). length r.names) e) c.scatter.ensures.long c.scatter.ensures.each)
