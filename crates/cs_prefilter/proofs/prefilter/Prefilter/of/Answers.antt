use Rattle.cs_syntax.specs.Node.{tree_of}
use Rattle.cs_prefilter.proofs.RunLemmas.{required_ok}
use Rattle.cs_prefilter.proofs.prefilter.Prefilter.of.Goals as goal

pub returns-then-not-are_slow : goal.returns-then-not-are_slow
returns-then-not-are_slow c = required_ok (tree_of c.args.root.now) c.in_ok-pairs.pairs c.by.result
    c.in_ok-pairs.ensures c.by.ensures.required c.by.ensures.sufficient

pub returns-then-are_better : goal.returns-then-are_better
returns-then-are_better c =
    required_ok (tree_of c.args.root.now) c.in_ok-trigrams.trigrams c.by-then-are_better.result
    c.in_ok-trigrams.ensures c.by-then-are_better.ensures.required c.by-then-are_better.ensures.sufficient

pub returns : goal.returns
returns c = required_ok (tree_of c.args.root.now) c.in_ok-pairs.pairs c.by-2.result c.in_ok-pairs.ensures
    c.by-2.ensures.required c.by-2.ensures.sufficient
