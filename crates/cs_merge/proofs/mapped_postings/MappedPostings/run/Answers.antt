use Rattle.std.proofs.Common.{◌≡◌, ℕ, ◌+◌, ◌-◌, ◌<◌, ◌≤◌, List, Some, sym, ap, subst, ◌∙◌, arith, slice_get}
use Rattle.cs_merge.proofs.Common.{same_Some, cons_option, AllByRecursion, Ids, new_ids_of, IsRunOf, none-some}
use Rattle.cs_merge.proofs.IdRunLemmas.{is_run}
use Rattle.cs_merge.proofs.mapped_postings.MappedPostings.run.Goals as goal
use Rattle.cs_merge.proofs.mapped_postings.MappedPostings.run.Goals.{in-None, in-Some}

pub returns-clause-run : goal.returns-clause-run
returns-clause-run c =
    let s = c.self.inside in
    let there : slice_get (cons_option s.first (new_ids_of s.runs.now s.rest.ids)) 0 ≡ Some c.args.id =
    ap (λ (r : Ids). slice_get r.ids 0) c.self.view_is ∙ c.requires in
    let short : (least : ℕ) → c.args.limit ≡ Some least → c.match-limit.most ≤ s.last + (least - c.args.id) =
    elim c.match-limit.branch [
      | in-None w ↦ λ least e. absurd (none-some least (sym w.in-None.is ∙ e))
      | in-Some w ↦ λ least e.
          let same = same_Some w.in-Some.limit least (sym w.in-Some.is ∙ e) in
          omega (arith, same, w.saturating_sub.ensures, w.saturating_add-most.ensures, w.most-is)
    ] in
    subst (λ (ids : List ℕ). IsRunOf c.args.id c.args.limit c.encoded_run.result ids
    (cons_option s.first (new_ids_of s.runs.now c.encoded_run.new.self.ids)))
    (ap (λ (r : Ids). r.ids) c.self.view_is)
    (is_run s.runs.now s.first s.last c.args.id s.rest c.self.invariant there c.args.limit c.end-end.result
    c.match-limit.most c.encoded_run.result c.encoded_run.new.self.ids
    c.encoded_run.ensures.ids c.end-end.ensures
    (subst (λ n. AllByRecursion (λ other. s.last + 1 + other < n) c.encoded_run.result) c.min.ensures c.encoded_run.ensures.below) short)
