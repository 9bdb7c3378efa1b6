use Rattle.std.proofs.Common.{◌≡◌, ◌<◌, ℕ, List, length, sym, ap, subst, ◌∙◌}
use Rattle.cs_merge.proofs.Common.{Ids, Written, last_ids, next_after, without_number, IsWrittenBelow}
use Rattle.cs_merge.proofs.IdMergeLemmas.{first_rises}
use Rattle.cs_merge.proofs.WrittenBelowLemmas.{fewer_first, one_written, run_fewer, run_fits, run_written, some_written}
use Rattle.cs_merge.proofs.merging_lists.write_next.Goals as goal
use Rattle.cs_merge.proofs.merging_lists.write_next.Goals.{then-has_long_run+in_ok-encoded_run, else-has_long_run}

pub id-requires-clause-named : goal.id-requires-clause-named
id-requires-clause-named c = (first_rises (length c.args.sections.now.names) (next_after 0 (last_ids c.args.sections.now))
    c.args.id c.args.list.now.ids c.requires.rise c.requires.first).1

pub id-requires-clause-above : goal.id-requires-clause-above
id-requires-clause-above c = (first_rises (length c.args.sections.now.names) (next_after 0 (last_ids c.args.sections.now))
    c.args.id c.args.list.now.ids c.requires.rise c.requires.first).0

pub encoded_run-requires-clause-some : goal.encoded_run-requires-clause-some
encoded_run-requires-clause-some c = some_written c.args.limit c.args.sections.now c.id.new.self c.args.list.now.ids
    c.args.id c.requires.first c.requires.within c.requires.begun c.in_ok-id.ensures.ok c.requires.rise

pub encoded_run-requires-clause-named : goal.encoded_run-requires-clause-named
encoded_run-requires-clause-named c = run_fits c.args.limit c.args.sections.now c.id.new.self c.args.list.now.ids
    c.args.id c.requires.first c.requires.within c.requires.begun c.in_ok-id.ensures.ok c.requires.rise
    c.run-run.result c.run-run.new.self.ids c.run-run.ensures.run

pub returns-clause-ok : goal.returns-clause-ok
returns-clause-ok c =
    let before = c.args.sections.now in
    let ids = c.args.list.now.ids in
    let left : c.advance.new.self.ids ≡ without_number c.args.id c.if-has_long_run.list.ids =
    ap (λ (r : Ids). r.ids) c.in_ok-advance.ensures.ok in
    elim c.if-has_long_run.branch [
      | then-has_long_run+in_ok-encoded_run w ↦
          subst (λ (s : Written). IsWrittenBelow c.args.limit before s ids c.advance.new.self.ids) (sym w.sections-is)
          (subst (λ (l : List ℕ). IsWrittenBelow c.args.limit before w.encoded_run.new.self ids l)
          (sym (left ∙ ap (λ (r : Ids). without_number c.args.id r.ids) w.list-is))
          (run_written c.args.limit before c.id.new.self ids c.args.id c.requires.first c.requires.within
          c.requires.begun c.in_ok-id.ensures.ok c.requires.rise w.run-run.result w.run-run.new.self.ids
          w.run-run.ensures.run w.encoded_run.new.self w.in_ok-encoded_run.ensures.ok))
      | else-has_long_run w ↦
          subst (λ (s : Written). IsWrittenBelow c.args.limit before s ids c.advance.new.self.ids) (sym w.sections-is)
          (subst (λ (l : List ℕ). IsWrittenBelow c.args.limit before c.id.new.self ids l)
          (sym (left ∙ ap (λ (r : Ids). without_number c.args.id r.ids) w.list-is))
          (one_written c.args.limit before c.id.new.self ids c.args.id c.requires.first c.requires.within
          c.requires.begun c.in_ok-id.ensures.ok c.requires.rise))
    ]

pub returns-clause-fewer : goal.returns-clause-fewer
returns-clause-fewer c =
    let before = c.args.sections.now in
    let ids = c.args.list.now.ids in
    let left : c.advance.new.self.ids ≡ without_number c.args.id c.if-has_long_run.list.ids =
    ap (λ (r : Ids). r.ids) c.in_ok-advance.ensures.ok in
    elim c.if-has_long_run.branch [
      | then-has_long_run+in_ok-encoded_run w ↦
          subst (λ (l : List ℕ). length l < length ids)
          (sym (left ∙ ap (λ (r : Ids). without_number c.args.id r.ids) w.list-is))
          (run_fewer c.args.limit before c.id.new.self ids c.args.id c.requires.first c.requires.within
          c.requires.begun c.in_ok-id.ensures.ok c.requires.rise w.run-run.result w.run-run.new.self.ids
          w.run-run.ensures.run)
      | else-has_long_run w ↦
          subst (λ (l : List ℕ). length l < length ids)
          (sym (left ∙ ap (λ (r : Ids). without_number c.args.id r.ids) w.list-is))
          (fewer_first c.args.id ids c.requires.first)
    ]
