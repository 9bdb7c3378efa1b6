-- The query of a sequence.
use Rattle.std.specs.Prelude.{false, Contains, ℕ, zero, suc, ◌≡◌, ◌+◌, ◌*◌, ◌≤◌, ◌&&◌, ◌++◌, Bool, true, List, [], ◌∷◌, length, map, nat_lt, reverse, take, IsTrue}
use Rattle.std.specs.List.{list_all, sum_by}
use Rattle.cs_tree.specs.Cover.{is_among}
use Rattle.cs_tree.specs.Folders.{are_distinct}
use Rattle.cs_syntax.specs.Matching.{Tree, Trees, more}
use Rattle.cs_syntax.specs.TreeList.{append}
use Rattle.cs_syntax.specs.Weight.{weights}
use Rattle.cs_trigram.specs.Query.{matches_set, query_size, HasTrigrams}
use Rattle.cs_trigram.specs.ExactStrings.{HaveExactStrings, HaveFewExactStrings, HaveLongStrings}
use Rattle.cs_trigram.specs.ExactQuery.{HasFewExactStrings}
use Rattle.cs_trigram.specs.MayMatch.{MayMatchSequence, HaveMembers}
use Rattle.cs_trigram.specs.EndStrings.{Direction, read, HasSomeEndString, with_end_strings, whole_end, all_truncated}
use Rattle.cs_trigram.specs.Analysis.{IsQueryBeyondRun, AreExactStrings, AreTrigramsOf, MentionsOnly, all_match, some_mentions}
use Rattle.cs_trigram.specs.declared.queries.Query.{Query}
use Rattle.cs_trigram.specs.declared.end_strings.EndString.{EndString}
use Rattle.cs_trigram.specs.declared.sequence_query.SequenceQuery.{SequenceQuery}

-- the query is that of the sequence, with the crosses of its last parts
abbrev pub IsSequenceQueryWith : SequenceQuery → Trees → Trees → Type 0
IsSequenceQueryWith sequence_query ts last =
    IsQueryBeyondRun sequence_query.leading.items (λ set. all_match sequence_query.conjuncts.items set) ts last
    × AreTrigramsOf (some_mentions sequence_query.conjuncts.items) (HaveMembers ts) (MayMatchSequence false ts)

-- with all crosses
abbrev pub IsSequenceQueryOf : SequenceQuery → Trees → Type 0
IsSequenceQueryOf sequence_query ts = IsSequenceQueryWith sequence_query ts ts

-- f 0 + .. + f k
abbrev pub sum_to : (ℕ → ℕ) → ℕ → ℕ
sum_to f zero = f 0
sum_to f (suc k) = sum_to f k + f (suc k)

-- the trees have at most n exact strings together
abbrev pub HaveAtMost : ℕ → Trees → Type 0
HaveAtMost n ts =
    (strings : List (List ℕ)) → IsTrue (are_distinct strings) →
    ((string : List ℕ) → IsTrue (is_among strings string) → MayMatchSequence true ts string) → length strings ≤ n

-- The queries are small for these trees, with room for `room` more nodes, and for a string of each leading run that
-- the queries may still require. `heaviest n` bounds the weight of a leading run with at most n + 1 exact strings: each
-- part with more than one string makes the strings of a run more, so it pays for at most twenty runs with at most
-- twenty strings each, of at most four bytes for each unit of its weight.
pub record AreSmall (room : ℕ) (queries : List Query) (ts : Trees) : Type 0 where
  pub heaviest : ℕ → ℕ
  pub runs : (n : ℕ) (run after : Trees) → ts ≡ append run after → HaveFewExactStrings run → HaveAtMost (suc n) run →
      weights run ≤ heaviest n
  pub within : sum_by query_size queries + 80 * sum_to heaviest 19 + room ≤ 3000 * weights ts

-- the strings of the run have at least two bytes after the first part, which has this suffix
abbrev pub goes_two_past : List (List ℕ) → EndString → Bool
goes_two_past leading suffix =
    suffix.whole && list_all (λ string. nat_lt (length suffix.string + 1) (length string)) leading

-- each suffix, which is stored reversed, followed by each prefix
abbrev pub pairs : List EndString → List EndString → List (List ℕ)
pairs [] prefixes = []
pairs (suffix ∷ suffixes) prefixes =
    map (λ prefix. reverse suffix.string ++ prefix.string) prefixes ++ pairs suffixes prefixes

-- the text is one of the suffixes followed by one of the prefixes
abbrev pub IsAcross : List EndString → List EndString → List ℕ → Type 0
IsAcross suffixes prefixes text =
    (suffix prefix : EndString) × Contains suffixes suffix × Contains prefixes prefix
    × (text ≡ reverse suffix.string ++ prefix.string)

-- The query matches each set that has the trigrams of two adjacent texts, the first with one of the suffixes
-- and the second with one of the prefixes, and mentions only trigrams of a suffix followed by a prefix.
pub record IsCrossQuery (query : Query) (suffixes prefixes : List EndString) : Type 0 where
  pub required : (set : ℕ → Bool) (u v : List ℕ) → HasSomeEndString suffixes (reverse u) →
      HasSomeEndString prefixes v → HasTrigrams set (u ++ v) → matches_set query set ≡ true
  pub mentioned : MentionsOnly query (IsAcross suffixes prefixes)

-- the set has the trigrams of the last m bytes of a suffix, which is stored reversed, and the first n of a prefix
abbrev pub HasPair : (ℕ → Bool) → ℕ → ℕ → List EndString → List EndString → Type 0
HasPair set m n suffixes prefixes =
    (suffix prefix : EndString) × Contains suffixes suffix × Contains prefixes prefix
    × HasTrigrams set (reverse (take m suffix.string) ++ take n prefix.string)

-- The set has the pairs of suffixes and prefixes: if at most 64 pairs are left by two bytes of each, both trigrams
-- across, and if at most 256, each of the two by itself.
abbrev pub HasPairs : (ℕ → Bool) → List EndString → List EndString → Type 0
HasPairs set suffixes prefixes =
    (length (all_truncated 2 suffixes) * length (all_truncated 2 prefixes) ≤ 64 → HasPair set 2 2 suffixes prefixes)
    × (length (all_truncated 2 suffixes) * length (all_truncated 2 prefixes) ≤ 256 →
    HasPair set 2 1 suffixes prefixes × HasPair set 1 2 suffixes prefixes)

-- if the exact strings of the tree are few, the end strings are theirs
abbrev pub AreExactEnds : Direction → List EndString → Tree → Type 0
AreExactEnds direction end_strings t =
    HasFewExactStrings t → (texts : List (List ℕ)) × AreExactStrings texts t
    × (end_strings ≡ with_end_strings [] (map (λ text. whole_end (read direction text)) texts))

-- the first n bytes of the end string are those of an exact string of the run
abbrev pub BeginsAs : ℕ → Trees → EndString → Type 0
BeginsAs n run end_string = (w : List ℕ) × MayMatchSequence true run w × (take n end_string.string ≡ take n w)

-- up to two bytes, each prefix begins as an exact string of each run at the start of the trees that has at most ten
abbrev pub BeginRuns : List EndString → Trees → Type 0
BeginRuns prefixes ts =
    (run after : Trees) (n b : ℕ) → ts ≡ append run after → n ≤ 2 → b ≤ 10 → HaveExactStrings b run → HaveLongStrings n run →
    (prefix : EndString) → Contains prefixes prefix → BeginsAs n run prefix

-- the requirements stay small with one more part at the start
abbrev pub StaysSmall : ℕ → SequenceQuery → SequenceQuery → Tree → Trees → Type 0
StaysSmall room old sequence_query t ts =
    IsSequenceQueryOf old ts → AreSmall 0 old.conjuncts.items ts → AreSmall room sequence_query.conjuncts.items (more t ts)

-- the new query is that of the sequence with one more part at the start, with the crosses of the parts after it
abbrev pub ExtendsSequenceQuery : SequenceQuery → SequenceQuery → Tree → Trees → Type 0
ExtendsSequenceQuery old sequence_query t ts =
    IsSequenceQueryOf old ts → IsSequenceQueryWith sequence_query (more t ts) ts
