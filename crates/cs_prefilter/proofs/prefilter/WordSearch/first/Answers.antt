use Rattle.std.proofs.Common.{subst}
use Rattle.cs_prefilter.specs.declared.prefilter.WordSearch.{WordSearch}
use Rattle.cs_prefilter.specs.WordSearch.{Finds}
use Rattle.cs_prefilter.specs.WordBuckets.{AreFound}
use Rattle.cs_prefilter.proofs.prefilter.WordSearch.first.Goals as goal

pub first-requires-clause-finds : goal.first-requires-clause-finds
first-requires-clause-finds c = subst (λ (s : WordSearch). AreFound (Finds s) c.args.words.now.words.items) c.in-Pair.is c.requires.finds

pub first-requires-in-FoldedPair-clause-finds : goal.first-requires-in-FoldedPair-clause-finds
first-requires-in-FoldedPair-clause-finds c = subst (λ (s : WordSearch). AreFound (Finds s) c.args.words.now.words.items) c.in-FoldedPair.is c.requires.finds

pub first-requires-in-TwoPairs-clause-finds : goal.first-requires-in-TwoPairs-clause-finds
first-requires-in-TwoPairs-clause-finds c = subst (λ (s : WordSearch). AreFound (Finds s) c.args.words.now.words.items) c.in-TwoPairs.is c.requires.finds

pub first-requires-in-TwoFoldedPairs-clause-finds : goal.first-requires-in-TwoFoldedPairs-clause-finds
first-requires-in-TwoFoldedPairs-clause-finds c = subst (λ (s : WordSearch). AreFound (Finds s) c.args.words.now.words.items) c.in-TwoFoldedPairs.is c.requires.finds

pub first-requires-in-LowNibbles-clause-finds : goal.first-requires-in-LowNibbles-clause-finds
first-requires-in-LowNibbles-clause-finds c = subst (λ (s : WordSearch). AreFound (Finds s) c.args.words.now.words.items) c.in-LowNibbles.is c.requires.finds

pub first-requires-in-FiveNibbles-clause-finds : goal.first-requires-in-FiveNibbles-clause-finds
first-requires-in-FiveNibbles-clause-finds c = subst (λ (s : WordSearch). AreFound (Finds s) c.args.words.now.words.items) c.in-FiveNibbles.is c.requires.finds

pub first-requires-in-AllNibbles-clause-finds : goal.first-requires-in-AllNibbles-clause-finds
first-requires-in-AllNibbles-clause-finds c = subst (λ (s : WordSearch). AreFound (Finds s) c.args.words.now.words.items) c.in-AllNibbles.is c.requires.finds
