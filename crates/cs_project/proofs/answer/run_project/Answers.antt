use Rattle.std.proofs.Common.{false}
use Rattle.cs_listing.specs.Models.{chosen_in}
use Rattle.cs_project.specs.Scopes.{unread}
use Rattle.cs_project.proofs.CallLemmas.{project_begun, project_done}
use Rattle.cs_project.proofs.ScopeLemmas.{if_input}
use Rattle.cs_project.proofs.answer.run_project.Goals as goal

pub returns-in_ok-status-in-Ok-clause-does : goal.returns-in_ok-status-in-Ok-clause-does
returns-in_ok-status-in-Ok-clause-does g c =
    if_input (unread false (g.R.Source.model c.args.input.now))
    (λ input. project_done (g.K.Knowledge.Holds c.args.known.now) g.T.Look.stamps (g.T.Tree.snapshot c.args.tree.now)
    (g.T.Tree.snapshot c.base_of.new.tree) input c.args.call.now
    (chosen_in c.in_ok-base.base.choices) c.in-Ok.request c.args.out.now.sent.bytes c.answer.new.out.sent.bytes
    c.in_ok-status-in-Ok.status c.status_after.result c.status_after.ensures c.in_ok-base.ensures.keeps c.in_ok-base.ensures.base
    c.in-Ok.ensures.request)
    c.in_ok-status-in-Ok.ensures.answers

pub returns-in_err-status-in-Ok-clause-begins : goal.returns-in_err-status-in-Ok-clause-begins
returns-in_err-status-in-Ok-clause-begins g c =
    project_begun (g.K.Knowledge.Holds c.args.known.now) g.T.Look.stamps (g.T.Tree.snapshot c.args.tree.now)
    (g.T.Tree.snapshot c.base_of.new.tree) (g.R.Source.model c.args.input.now) c.args.call.now
    (chosen_in c.in_ok-base.base.choices) c.in-Ok.request c.args.out.now.sent.bytes c.answer.new.out.sent.bytes c.in_ok-base.ensures.keeps
    c.in_ok-base.ensures.base c.in-Ok.ensures.request c.answer.ensures.begins

pub returns-in_ok-status-in-Ok-clause-begins : goal.returns-in_ok-status-in-Ok-clause-begins
returns-in_ok-status-in-Ok-clause-begins g c =
    project_begun (g.K.Knowledge.Holds c.args.known.now) g.T.Look.stamps (g.T.Tree.snapshot c.args.tree.now)
    (g.T.Tree.snapshot c.base_of.new.tree) (g.R.Source.model c.args.input.now) c.args.call.now
    (chosen_in c.in_ok-base.base.choices) c.in-Ok.request c.args.out.now.sent.bytes c.answer.new.out.sent.bytes c.in_ok-base.ensures.keeps
    c.in_ok-base.ensures.base c.in-Ok.ensures.request c.answer.ensures.begins
