use Rattle.std.proofs.Common.{◌≡◌, ◌<◌, ◌∙◌, length, map, get_or, [], ◌∷◌, ap, sym, subst, arith, below_more, string_bytes, is_some}
use Rattle.cs_cindex.proofs.Common.{err_from_is_err_and, length-map, map-append, clean_path, IsCleanFault, clean_fault}
use Rattle.cs_cindex.proofs.JobPathLemmas.{refusal_at, none_bad, cleaned_more, text_at}
use Rattle.cs_cindex.proofs.walked.clean_all.Goals as goal

pub returns-in_err-cleaned-clause-fault : goal.returns-in_err-cleaned-clause-fault
returns-in_err-cleaned-clause-fault c =
    let p = err_from_is_err_and c.from_residual.result c.from_residual.ensures.1 in
    let within : c.paths.path_index < length c.args.paths.now = omega arith in
    let inside : c.paths.path_index < length (map string_bytes c.args.paths.now) =
    (let l = length-map c.args.paths.now string_bytes in omega (arith, l, within)) in
    let text : c.deref.result.now ≡ get_or (map string_bytes c.args.paths.now) c.paths.path_index [] = c.deref.ensures
    ∙ text_at c.args.paths.now c.paths.path_index c.index-paths-path_index.result within
    c.index-paths-path_index.is in
    rw (p.1, p.2) (refusal_at c.args.folder.now (map string_bytes c.args.paths.now) c.paths.path_index
    c.in_err-cleaned.field-0.0 inside c.paths.invariant.good
    (subst (λ t. IsCleanFault c.args.folder.now t c.paths.path_index c.in_err-cleaned.field-0.0) text
    c.in_err-cleaned.ensures.fault))

pub paths-preserved : goal.paths-preserved
paths-preserved c =
    let within : c.paths.path_index < length c.args.paths.now = omega arith in
    let text : c.deref.result.now ≡ get_or (map string_bytes c.args.paths.now) c.paths.path_index [] = c.deref.ensures
    ∙ text_at c.args.paths.now c.paths.path_index c.index-paths-path_index.result within
    c.index-paths-path_index.is in
    record {
      cleaned_are = cleaned_more c.args.folder.now c.args.paths.now c.paths.path_index c.index-paths-path_index.result
          (map string_bytes c.paths.given.items) _ (string_bytes c.in_ok-cleaned.cleaned) within
          c.index-paths-path_index.is c.paths.invariant.cleaned_are (c.in_ok-cleaned.ensures.cleaned
          ∙ ap (λ t. clean_path c.args.folder.now t) c.deref.ensures) (ap (map string_bytes) c.in_ok-push.ensures.items
          ∙ map-append string_bytes c.paths.given.items (c.in_ok-cleaned.cleaned ∷ []));
      good = below_more _ _ c.paths.invariant.good
          (ap is_some (ap (clean_fault c.args.folder.now) (sym text) ∙ c.in_ok-cleaned.ensures.fault));
    }

pub returns-clause-fault : goal.returns-clause-fault
returns-clause-fault c = none_bad c.args.folder.now (map string_bytes c.args.paths.now)
    (λ k h. c.paths.invariant.good k (let l = length-map c.args.paths.now string_bytes in
    omega (arith, l, h, c.paths-test.false)))
