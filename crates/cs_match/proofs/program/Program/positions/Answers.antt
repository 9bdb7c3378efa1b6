use Rattle.std.proofs.Common.{length, ◌∙◌, ap}
use Rattle.cs_match.specs.Entered.{position_list}
use Rattle.cs_match.proofs.EnteredLemmas.{length-position_list}
use Rattle.cs_match.proofs.program.Program.positions.Goals as goal

pub returns-clause-count : goal.returns-clause-count
returns-clause-count c =
    ap length (c.deref.ensures.value ∙ c.self.invariant.4 ∙ ap position_list c.self.view_is) ∙ length-position_list c.args.self.now
