use Rattle.std.proofs.Common.{◌∙◌}
use Rattle.cs_prefilter.proofs.RunLemmas.{behind_edge}
use Rattle.cs_prefilter.proofs.runs.Runs.before_set.Goals as goal

pub returns-then-are_all-clause-before : goal.returns-then-are_all-clause-before
returns-then-are_all-clause-before c = λ line i e low is.
    behind_edge line c.args.self.now i c.args.set.now c.other_bytes.result e (c.if-self-len.true ∙ c.len.ensures) c.if-self.true
    (c.are_all.ensures c.if-are_all.true) c.other_bytes.ensures low is
