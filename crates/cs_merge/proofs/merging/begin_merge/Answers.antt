use Rattle.std.proofs.Common.{◌≡◌, ◌∙◌, sym, ap, subst, List, ℕ, Result, Ok, Err, IfOk, IfErr}
use Rattle.std.proofs.lemmas.Result.{IfErr-weaker, err_from_is_err_and}
use Rattle.cs_merge.proofs.Common.{Parts, known_parts, paths_in, merge_paths, AreTestedNames, IsMergeFault, MergeFault}
use Rattle.cs_tree.specs.PathSet as set
use Rattle.cs_merge.proofs.MergeResultLemmas.{begin_fails, is_begun}
use Rattle.cs_merge.proofs.merging.begin_merge.Goals as goal

-- two facts of a value give a third
both_ok : {A E : Type 0} {P Q R : A → Type 0} (r : Result A E) → ((x : A) → P x → Q x → R x) → IfOk r P → IfOk r Q →
    IfOk r R
both_ok (Ok x) f p q = f x p q
both_ok (Err e) f p q = tt

pub returns-clause-begun : goal.returns-clause-begun
returns-clause-begun c =
    let newer : Parts = c.args.newer.now in
    let known = known_parts c.args.old.now in
    let names = c.in_ok-names.names in
    both_ok c.begin_merged.result
    (λ begun paths named. is_begun known newer names.old names.newer
    (subst (λ (ns : List (List ℕ)). AreTestedNames ns newer names.old names.newer) c.name_table.ensures
    c.in_ok-names.ensures.tested) begun.0 begun.1.older begun.1.newer
    (paths ∙ ap (λ (ps : List (List ℕ)). set.items (merge_paths (set.from_list ps) (paths_in newer))) c.paths.ensures)
    named) c.begin_merged.ensures.paths c.begin_merged.ensures.ids

pub returns-clause-fault : goal.returns-clause-fault
returns-clause-fault c =
    let newer : Parts = c.args.newer.now in
    let names = c.in_ok-names.names in
    IfErr-weaker c.begin_merged.result _ _ (λ fault is most parts same.
    begin_fails parts newer names.old names.newer
    (subst (λ (ns : List (List ℕ)). AreTestedNames ns newer names.old names.newer)
    (c.name_table.ensures ∙ sym same) c.in_ok-names.ensures.tested) most fault is) c.begin_merged.ensures.fault

-- a fact of an error that is passed on
err_of : {A : Type 0} (P : MergeFault → Type 0) (r : Result A MergeFault) (fault was : MergeFault) → r ≡ Err fault →
    fault ≡ was → P was → IfErr r P
err_of P r fault was is same h = subst (λ o. IfErr o P) (sym is) (subst P (sym same) h)

pub returns-in_err-names-clause-fault : goal.returns-in_err-names-clause-fault
returns-in_err-names-clause-fault c =
    let p = err_from_is_err_and c.from_residual.result c.from_residual.ensures.1 in
    err_of (λ fault. (most : ℕ) → (parts : Parts) → parts.names ≡ (known_parts c.args.old.now).names →
    IsMergeFault parts c.args.newer.now most fault) c.from_residual.result p.0 _ p.1 p.2
    (λ most parts same. c.in_err-names.ensures.fault most parts (same ∙ sym c.name_table.ensures))
