use Rattle.std.proofs.Common.{subst}
use Rattle.cs_prefilter.specs.declared.prefilter.WordSearch.{WordSearch}
use Rattle.cs_prefilter.specs.WordSearch.{Finds}
use Rattle.cs_prefilter.specs.WordBuckets.{AreFound}
use Rattle.cs_prefilter.proofs.prefilter.WordSearch.list.Goals as goal

pub list-requires-clause-finds : goal.list-requires-clause-finds
list-requires-clause-finds c = subst (λ (s : WordSearch). AreFound (Finds s) c.args.words.now.words.items) c.in-Pair.is c.requires.finds

pub list-requires-in-FoldedPair-clause-finds : goal.list-requires-in-FoldedPair-clause-finds
list-requires-in-FoldedPair-clause-finds c = subst (λ (s : WordSearch). AreFound (Finds s) c.args.words.now.words.items) c.in-FoldedPair.is c.requires.finds

pub list-requires-in-TwoPairs-clause-finds : goal.list-requires-in-TwoPairs-clause-finds
list-requires-in-TwoPairs-clause-finds c = subst (λ (s : WordSearch). AreFound (Finds s) c.args.words.now.words.items) c.in-TwoPairs.is c.requires.finds

pub list-requires-in-TwoFoldedPairs-clause-finds : goal.list-requires-in-TwoFoldedPairs-clause-finds
list-requires-in-TwoFoldedPairs-clause-finds c = subst (λ (s : WordSearch). AreFound (Finds s) c.args.words.now.words.items) c.in-TwoFoldedPairs.is c.requires.finds

pub list-requires-in-LowNibbles-clause-finds : goal.list-requires-in-LowNibbles-clause-finds
list-requires-in-LowNibbles-clause-finds c = subst (λ (s : WordSearch). AreFound (Finds s) c.args.words.now.words.items) c.in-LowNibbles.is c.requires.finds

pub list-requires-in-FiveNibbles-clause-finds : goal.list-requires-in-FiveNibbles-clause-finds
list-requires-in-FiveNibbles-clause-finds c = subst (λ (s : WordSearch). AreFound (Finds s) c.args.words.now.words.items) c.in-FiveNibbles.is c.requires.finds

pub list-requires-in-AllNibbles-clause-finds : goal.list-requires-in-AllNibbles-clause-finds
list-requires-in-AllNibbles-clause-finds c = subst (λ (s : WordSearch). AreFound (Finds s) c.args.words.now.words.items) c.in-AllNibbles.is c.requires.finds
