use Rattle.std.proofs.Common.{◌∙◌, sym}
use Rattle.std.specs.Prelude.{string_bytes}
use Rattle.cs_learned.proofs.StateKnowledgeLemmas.{none_in, some_in}
use Rattle.cs_learned.proofs.state_knowledge.StateKnowledge.open.Goals as goal

pub returns-then-is_open-clause-holds : goal.returns-then-is_open-clause-holds
returns-then-is_open-clause-holds g c tree held =
    let left = some_in _ c.args.self.now.prepared c.in-Some.prepared (sym c.take.ensures.value ∙ c.in-Some.is) held.0.1 in
    ((held.0.0, none_in _ c.take.new.self c.take.ensures.after), c.in_ok-self.ensures (string_bytes c.args.self.now.known.root) tree left)

pub returns-else-is_open-clause-holds : goal.returns-else-is_open-clause-holds
returns-else-is_open-clause-holds g c tree held =
    let left = some_in _ c.args.self.now.prepared c.in-Some.prepared (sym c.take.ensures.value ∙ c.in-Some.is) held.0.1 in
    ((held.0.0, none_in _ c.take.new.self c.take.ensures.after), c.in_ok-self.ensures (string_bytes c.args.self.now.known.root) tree left)
