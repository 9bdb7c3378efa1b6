-- Searches for words.
use Rattle.std.specs.Prelude.{ℕ, true, false}
use Rattle.cs_prefilter.specs.declared.word.Word.{Word}
use Rattle.cs_prefilter.specs.declared.prefilter.WordSearch.{WordSearch}
use Rattle.cs_prefilter.specs.declared.prefilter.WordSearch.TheVariants.{Pair, FoldedPair, TwoPairs, TwoFoldedPairs, LowNibbles, FiveNibbles, AllNibbles}
use Rattle.cs_prefilter.specs.Pairs.{HasPair}
use Rattle.cs_prefilter.specs.Buckets.{HasBucket}

-- the search stops where the word of the bucket occurs
abbrev pub Finds : WordSearch → ℕ → Word → Type 0
Finds (Pair pairs) bucket word = HasPair false false pairs.first pairs.second bucket word
Finds (FoldedPair pairs) bucket word = HasPair true false pairs.first pairs.second bucket word
Finds (TwoPairs pairs) bucket word = HasPair false true pairs.first pairs.second bucket word
Finds (TwoFoldedPairs pairs) bucket word = HasPair true true pairs.first pairs.second bucket word
Finds (LowNibbles nibbles) bucket word = HasBucket nibbles.masks bucket word
Finds (FiveNibbles nibbles) bucket word = HasBucket nibbles.masks bucket word
Finds (AllNibbles nibbles) bucket word = HasBucket nibbles.masks bucket word
