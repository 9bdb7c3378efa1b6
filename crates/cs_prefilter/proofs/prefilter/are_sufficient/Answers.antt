use Rattle.std.proofs.Common.{subst}
use Rattle.std.specs.List.{All}
use Rattle.std.proofs.lemmas.List.{take_all}
use Rattle.std.proofs.lemmas.List.Elements.{All-more}
use Rattle.cs_syntax.specs.Node.{tree_of}
use Rattle.cs_prefilter.specs.WordAt.{IsSufficient}
use Rattle.cs_prefilter.proofs.SufficientLemmas.{matched}
use Rattle.cs_prefilter.proofs.prefilter.are_sufficient.Goals as goal

pub loop-word-preserved : goal.loop-word-preserved
loop-word-preserved c =
    let sufficient = IsSufficient (tree_of c.args.root.now) in
    All-more sufficient c.args.words.now c.loop-word.word-index c.word-item.result c.loop-word-test.true c.loop-word.invariant
    (subst sufficient c.word-item.is (record { found = matched _ _ _ c.in-Some.ensures; in_line = c.is_in_line.ensures c.if-is_in_line.true }))

pub returns : goal.returns
returns c = λ _.
    subst (All (IsSufficient (tree_of c.args.root.now)))
    (take_all c.loop-word.word-index c.args.words.now c.loop-word-test.false) c.loop-word.invariant
