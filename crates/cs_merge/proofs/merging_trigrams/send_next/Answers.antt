use Rattle.std.proofs.Common.{sym, subst}
use Rattle.cs_merge.proofs.Common.{Parts}
use Rattle.cs_index.proofs.writer.SentOn.{sent_nothing}
use Rattle.cs_index.specs.Sending.{IsSentOn}
use Rattle.cs_index.specs.Written.{IsSentEarly}
use Rattle.cs_merge.proofs.ListLoopLemmas.{if_ok, merged_on, on_ok}
use Rattle.cs_merge.proofs.merging_trigrams.send_next.Goals as goal

pub returns-in-Ok-false-clause-early : goal.returns-in-Ok-false-clause-early
returns-in-Ok-false-clause-early g c =
    subst IsSentEarly (sym (if_ok _ c.in-Ok-false.is c.in_ok-merge_next.ensures.same c.in-Ok-false.field-0-test))
    c.requires.early

pub returns-clause-so_far : goal.returns-clause-so_far
returns-clause-so_far g c =
    let sides = c.args.sides.now in
    let newer : Parts = sides.newer.now in
    let before = c.args.sections.now in
    let at = c.args.progress.now in
    let next = c.merge_next.new.progress in
    merged_on (g.S.Store.model c.args.store.now) sides.older.now newer sides.runs.older sides.runs.newer at.reader
    next.reader before before c.merge_next.new.sections c.send.new.self at.older at.newer next.older next.newer
    c.requires.so_far (on_ok c.in-Ok-true.is c.in_ok-merge_next.ensures.so_far) c.in-Ok.ensures.ok

pub returns-clause-given : goal.returns-clause-given
returns-clause-given g c =
    subst (λ sent. IsSentOn sent c.send.new.self.sent (g.O.Output.given c.args.out.now)
    (g.O.Output.given c.send.new.out)) (on_ok c.in-Ok-true.is c.in_ok-merge_next.ensures.sent) c.in-Ok.ensures.given

pub returns-in-Ok-false-clause-so_far : goal.returns-in-Ok-false-clause-so_far
returns-in-Ok-false-clause-so_far g c = on_ok c.in-Ok-false.is c.in_ok-merge_next.ensures.so_far

pub returns-in-Ok-false-clause-all : goal.returns-in-Ok-false-clause-all
returns-in-Ok-false-clause-all g c none =
    if_ok _ c.in-Ok-false.is c.in_ok-merge_next.ensures.all c.in-Ok-false.field-0-test

pub returns-in-Ok-false-clause-given : goal.returns-in-Ok-false-clause-given
returns-in-Ok-false-clause-given g c =
    let given = g.O.Output.given c.args.out.now in
    subst (λ sent. IsSentOn c.args.sections.now.sent sent given given)
    (sym (on_ok c.in-Ok-false.is c.in_ok-merge_next.ensures.sent)) (sent_nothing c.args.sections.now.sent given)
