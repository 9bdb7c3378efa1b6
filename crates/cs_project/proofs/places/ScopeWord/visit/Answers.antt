use Rattle.std.proofs.Common.{sym, ◌∙◌}
use Rattle.std.proofs.lemmas.Bool.{false≢true}
use Rattle.cs_listing.specs.Models.{chosen_in}
use Rattle.cs_project.specs.Scopes.{unread}
use Rattle.cs_project.proofs.ScopeLemmas.{any_input, if_input, input_visited, path_visited}
use Rattle.cs_project.proofs.places.ScopeWord.visit.Goals as goal

pub returns-then-is_input-clause-visits : goal.returns-then-is_input-clause-visits
returns-then-is_input-clause-visits g c =
    let word = c.args.self.now in
    if_input (unread word.is_read (g.R.Source.model c.args.input.now))
    (λ input has known. input_visited g.V.Visitor.Begins g.V.Visitor.Visits g.V.Visitor.is_done g.V.Visitor.is_wrong c.args.visitor.now
    c.visit_input.new.self c.args.out.now.sent.bytes c.visit_input.new.out.sent.bytes c.visit_input.result (g.T.Tree.snapshot c.args.tree.now)
    (chosen_in word.scope.choices.now) word.scope.folder.now word.word.now input (sym c.is_input.ensures ∙ c.if-is_input.true) has)
    c.visit_input.ensures.visits

pub returns-clause-visits : goal.returns-clause-visits
returns-clause-visits g c =
    let word = c.args.self.now in
    any_input (unread word.is_read (g.R.Source.model c.args.input.now))
    (λ input known. path_visited g.V.Visitor.Begins g.V.Visitor.Visits g.V.Visitor.is_done g.V.Visitor.is_wrong c.args.visitor.now
    c.visit_path.new.visitor c.args.out.now.sent.bytes c.visit_path.new.out.sent.bytes c.visit_path.result (g.T.Tree.snapshot c.args.tree.now)
    (chosen_in word.scope.choices.now) word.scope.folder.now word.word.now input (sym c.is_input.ensures ∙ c.if-is_input.false)
    (c.visit_path.ensures.visits known))

pub returns-then-is_input-clause-left : goal.returns-then-is_input-clause-left
returns-then-is_input-clause-left g c = λ path. absurd (false≢true (sym path ∙ sym c.is_input.ensures ∙ c.if-is_input.true))
