use Rattle.std.proofs.Common.{arith}
use Rattle.cs_index.proofs.common.ResultClauses.{on_ok}
use Rattle.cs_index.proofs.writer.SectionsSteps.{few_unsent, none_unsent}
use Rattle.cs_index.proofs.writing.sections.Sections.send.Goals as goal

pub returns-then-unsent_len-lt-SEND_AT-clause-early : goal.returns-then-unsent_len-lt-SEND_AT-clause-early
returns-then-unsent_len-lt-SEND_AT-clause-early g c =
    few_unsent c.self.inside c.args.self.now c.self.invariant c.self.view_is
    (omega (arith, c.unsent_len.ensures, c.if-unsent_len-lt-SEND_AT.true))

pub returns-clause-early : goal.returns-clause-early
returns-clause-early g c =
    on_ok c.send.result (none_unsent c.self.inside c.send.new.self c.self.invariant) c.send.ensures.ok
