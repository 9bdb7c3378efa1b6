use Rattle.std.proofs.Common.{refl}
use Rattle.cs_project.proofs.CallLemmas.{list_begun, lists_for, none_begun}
use Rattle.cs_project.specs.Calls.{BeginsList}
use Rattle.cs_project.proofs.answer.list.Goals as goal

pub returns-clause-lists : goal.returns-clause-lists
returns-clause-lists g c =
    lists_for (g.T.Tree.snapshot c.args.tree.now) c.args.call.now c.args.request.now c.scope_of-scope.result c.name_end.result.now
    c.args.out.now.sent.bytes c.list_project.new.out.sent.bytes c.list_project.result c.scope_of-scope.ensures
    c.name_end.ensures c.list_project.ensures.listed

pub returns-clause-begins : goal.returns-clause-begins
returns-clause-begins g c =
    let tree = g.T.Tree.snapshot c.args.tree.now in
    list_begun tree tree c.args.call.now c.args.request.now c.scope_of-scope.result c.name_end.result.now
    c.args.out.now.sent.bytes c.list_project.new.out.sent.bytes refl c.scope_of-scope.ensures c.name_end.ensures c.list_project.ensures.begins

pub returns-in_err-words-clause-begins : goal.returns-in_err-words-clause-begins
returns-in_err-words-clause-begins g c =
    none_begun (g.T.Tree.snapshot c.args.tree.now)
    (λ items. BeginsList items c.args.call.now c.args.request.now c.args.out.now.sent.bytes c.args.out.now.sent.bytes) c.args.out.now.sent.bytes
