use Rattle.std.proofs.Common.{◌∙◌, sym}
use Rattle.std.proofs.lemmas.Bool.{not-true}
use Rattle.cs_match.proofs.DeadLemmas.{intersect_self}
use Rattle.cs_match.proofs.spans.pass.Pass.is_empty.Goals as goal

pub returns : goal.returns
returns c = λ h. intersect_self c.args.self.now.positions (sym c.meets.ensures ∙ not-true c.meets.result h)
