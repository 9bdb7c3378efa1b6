use Rattle.std.proofs.Common.{◌≡◌, ◌∙◌, subst}
use Rattle.cs_syntax.specs.Matching.{Tree}
use Rattle.cs_syntax.specs.Node.{tree_of}
use Rattle.cs_match.specs.Glushkov.{char_step_of}
use Rattle.cs_match.proofs.CharStepLemmas.{char_step_is}
use Rattle.cs_match.proofs.program.Program.char_step.Goals as goal

pub returns-then-self : goal.returns-then-self
returns-then-self c =
    let inside = c.self.inside in
    subst (λ (t : Tree). c.step.result ≡ char_step_of t c.args.at c.args.byte) c.self.view_is
    (c.step.ensures ∙ char_step_is (tree_of inside.root) inside.look_behind inside.cuts c.self.invariant.0.1
    c.if-self.true c.self.invariant.6 c.args.at c.args.byte)
