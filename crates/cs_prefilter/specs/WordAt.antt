-- Occurrences of words in a text, and the words that every matching line contains.
use Rattle.std.specs.Prelude.{◌≡◌, ◌≢◌, ℕ, ◌+◌, ◌-◌, ◌<◌, ◌≤◌, ◌++◌, ◌∷◌, [], Bool, true, false, List, length, slice_index, slice_index_or, All, Any}
use Rattle.cs_syntax.specs.Matching.{Tree, HasMatch, member}
use Rattle.cs_prefilter.specs.declared.word.Word.{Word}

-- the byte before offset k lets the word occur there, or the text begins there: it begins at the start of a line
abbrev pub MayBeAt : List ℕ → ℕ → Word → Type 0
MayBeAt text k word = 0 < k → member word.before (slice_index text (k - 1)) ≡ true

-- the word occurs at offset k: the byte before lets it, and each of the bytes from there on is in its set
pub record WordAt (text : List ℕ) (k : ℕ) (word : Word) : Type 0 where
  pub before : MayBeAt text k word
  pub within : k + length word.sets.items ≤ length text
  pub each : (i : ℕ) (d : List Bool) → i < length word.sets.items →
      member (slice_index_or word.sets.items i d) (slice_index text (k + i)) ≡ true

-- none of the words occurs at an offset from `from` up to `to`
abbrev pub NoWordFrom : List Word → List ℕ → ℕ → ℕ → Type 0
NoWordFrom words text from to = (k : ℕ) → from ≤ k → k < to → All (λ word. WordAt text k word → ⊥) words

-- the text contains one of the words
abbrev pub HasWord : List Word → List ℕ → Type 0
HasWord words text = (at : ℕ) × Any (WordAt text at) words

-- a line and the newline that ends it
abbrev pub with_newline : List ℕ → List ℕ
with_newline line = line ++ 10 ∷ []

-- a line: bytes other than the newline (`slice_index` is 0 past the end)
abbrev pub IsLine : List ℕ → Type 0
IsLine line = (i : ℕ) → (slice_index line i < 256) × (slice_index line i ≢ 10)

-- every matching line contains one of the words; the last set of a word may be that of its newline
abbrev pub AreRequired : Tree → List Word → Type 0
AreRequired tree words = (line : List ℕ) → IsLine line → HasMatch tree line → HasWord words (with_newline line)

-- no set of the word but the last contains a newline
abbrev pub IsInLine : Word → Type 0
IsInLine word = (i : ℕ) (d : List Bool) → i + 1 < length word.sets.items → member (slice_index_or word.sets.items i d) 10 ≡ false

-- each line that contains the word has a match, and no set of the word but the last contains a newline
pub record IsSufficient (tree : Tree) (word : Word) : Type 0 where
  pub found : (line : List ℕ) (at : ℕ) → IsLine line → WordAt (with_newline line) at word → HasMatch tree line
  pub in_line : IsInLine word

abbrev pub AreSufficient : Tree → List Word → Type 0
AreSufficient tree words = All (IsSufficient tree) words

-- every matching line contains one of the words; and each line that contains one has a match, if the flag is set
pub record IsPrefilterOf (tree : Tree) (prefilter : List Word × Bool) : Type 0 where
  pub required : AreRequired tree prefilter.0
  pub sufficient : prefilter.1 ≡ true → AreSufficient tree prefilter.0
