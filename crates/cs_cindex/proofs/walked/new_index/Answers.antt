use Rattle.std.proofs.Common.{◌≡◌, ◌≢◌, ◌∙◌, cond, length, map, ap, sym, subst, refl, Some, None, string_bytes}
use Rattle.cs_cindex.proofs.Common.{err_from_is_err_and, eqb-false, ne_eqb, IndexJob, NoIndex, Memory, output, EarlyOr, IsOutputFault, IsWalkFault, base_fault}
use Rattle.cs_tree.specs.PathSet as set
use Rattle.cs_cindex.specs.Effects.{effects}
use Rattle.cs_cindex.proofs.JobOutputLemmas.{nothing_printed, own_walked, prefix_over, prints_over}
use Rattle.cs_cindex.proofs.WalkedPathLemmas.{own_paths, some_path}
use Rattle.cs_cindex.proofs.NextIndexLemmas.{own_index, next_new, index_refusal}
use Rattle.cs_cindex.proofs.walked.new_index.Goals as goal

pub index_paths-requires : goal.index_paths-requires
index_paths-requires g c =
    own_paths c.args.job.now (map string_bytes c.args.given.now) (map string_bytes c.deref.result.now) c.requires
    (ap (λ ps. map string_bytes ps) c.deref.ensures.value ∙ c.in_ok-paths.ensures)

-- the job has a path
none_early : (job : IndexJob) → length job.paths.items ≢ 0 → base_fault job None ≡ None
none_early job some = ap (λ b. cond b (Some NoIndex) None) (ne_eqb (length job.paths.items) 0 some)

pub returns-in_err-paths-clause-walk : goal.returns-in_err-paths-clause-walk
returns-in_err-paths-clause-walk g c =
    let p = err_from_is_err_and c.from_residual.result c.from_residual.ensures.1 in
    let some = some_path c.args.job.now c.args.given.now c.requires (eqb-false (length c.args.given.now) 0 (sym c.if-is_empty.ensures)) in
    let none = none_early c.args.job.now some in
    rw (p.1, p.2) (
      tt,
      subst (λ o. EarlyOr o (IsWalkFault c.args.job.now (g.T.Tree.snapshot c.args.tree.now) None Memory) Memory) (sym none) tt,
      nothing_printed (base_fault c.args.job.now None) Memory c.args.job.now
          (g.T.Tree.snapshot c.args.tree.now) None (g.T.Tree.failed c.args.tree.now)
          (output g.E.Sink.model g.E.Sink.failed c.args.err.now) refl
          (subst (λ o. EarlyOr o (IsOutputFault Memory) Memory) (sym none) tt),
    )

pub returns-in_err-index-clause-walk : goal.returns-in_err-index-clause-walk
returns-in_err-index-clause-walk g c =
    let p = err_from_is_err_and c.from_residual-in_err-index.result c.from_residual-in_err-index.ensures.1 in
    let job = c.args.job.now in
    let fault = c.in_err-index.field-0.0 in
    let to = effects g.T.Tree.snapshot g.T.Tree.failed g.E.Sink.model g.E.Sink.failed c.args.tree.now
    c.index_paths.new.tree c.args.err.now c.index_paths.new.err in
    let paths = set.from_list (map string_bytes c.deref.result.now) in
    let part = c.in_err-index.ensures.walk in
    let some = some_path job c.args.given.now c.requires (eqb-false (length c.args.given.now) 0 (sym c.if-is_empty.ensures)) in
    let none = none_early job some in
    let walked = own_walked job (map string_bytes c.args.given.now) (map string_bytes c.deref.result.now)
    None c.requires some (ap (λ ps. map string_bytes ps) c.deref.ensures.value ∙ c.in_ok-paths.ensures) in
    let late : IsWalkFault job to.tree.snapshot None fault = index_refusal job to.tree.snapshot None paths fault walked
    part.0.0 part.0.1 in
    rw (p.1, p.2) (
      tt,
      subst (λ o. EarlyOr o (IsWalkFault job to.tree.snapshot None fault) fault) (sym none) late,
      prefix_over job to.tree paths None to.err to.later walked (base_fault job None) fault none part.0.0 part.1
          part.0.2 part.0.3,
    )

pub returns-clause-walk : goal.returns-clause-walk
returns-clause-walk g c =
    let job = c.args.job.now in
    let to = effects g.T.Tree.snapshot g.T.Tree.failed g.E.Sink.model g.E.Sink.failed c.args.tree.now
    c.index_paths.new.tree c.args.err.now c.index_paths.new.err in
    let paths = set.from_list (map string_bytes c.deref.result.now) in
    let part = c.in_ok-index.ensures.walk.0 in
    let some = some_path job c.args.given.now c.requires (eqb-false (length c.args.given.now) 0 (sym c.if-is_empty.ensures)) in
    let walked = own_walked job (map string_bytes c.args.given.now) (map string_bytes c.deref.result.now)
    None c.requires some (ap (λ ps. map string_bytes ps) c.deref.ensures.value ∙ c.in_ok-paths.ensures) in (
      next_new job to.tree.snapshot c.in_ok-index.index.bytes
          (own_index job to.tree.snapshot None paths c.in_ok-index.index.bytes walked part.0.1 part.0.0 part.0.2),
      none_early job some,
      prints_over job to.tree paths None to.err to.later walked part.1,
    )
