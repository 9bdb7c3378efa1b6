use Rattle.std.proofs.Common.{◌≡◌, Some, refl, sym, subst, rules}
use Rattle.std.specs.Prelude.{IsSomeAnd}
use Rattle.cs_search.specs.Printed.{search_outputs}
use Rattle.cs_trigram.specs.QueryOf.{IsQueryOf}
use Rattle.cs_search.specs.Searched.{IsSearch}
use Rattle.cs_cindex.specs.OldIndex.{IsIndex}
use Rattle.codesearch.proofs.CallLemmas.{of_known}
use Rattle.codesearch.proofs.running.search_index.Goals as goal

pub returns-in_ok-answer-in-Some-clause-answers : goal.returns-in_ok-answer-in-Some-clause-answers
returns-in_ok-answer-in-Some-clause-answers g c = λ index is.
    let world = c.args.world.now in
    let ran = c.in_ok-answer-in-Some.ensures in
    let answer = c.in_ok-answer-in-Some.answer in
    let found : c.args.index.now ≡ Some c.in-Some.store = search rules in
    let known = subst (λ o. IsIndex g.S.Store.model o index) found is in
    let same = subst (λ model. IsSomeAnd model (λ bytes. index ≡ Some bytes)) (sym c.open.ensures.store.0) known in
    let outputs = search_outputs g.O.Sink.model g.E.Sink.model world.out c.csearch_stored.new.out world.err c.csearch_stored.new.err in
    let searches = of_known _ index (λ bytes. IsSearch IsQueryOf c.args.job.now bytes (g.T.Tree.snapshot world.tree)
    (g.T.Tree.failed world.tree) (g.T.Tree.failed c.csearch_stored.new.tree) outputs answer) same ran.selective in
    (answer, c.searched.ensures, (refl, refl), ran.outputs.1, searches)
