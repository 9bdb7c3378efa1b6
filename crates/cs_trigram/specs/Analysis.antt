-- The query analysis: enumerations of exact strings up to twenty-one, and correct queries.
use Rattle.std.specs.Prelude.{false, ℕ, ◌≡◌, ◌≤◌, ◌<◌, ◌+◌, ◌*◌, ◌&&◌, ◌++◌, ◌∷◌, [], Bool, true, not, List, length, map, nat_le, if◌then◌else◌, IsTrue}
use Rattle.cs_trigram.specs.TrigramSets.{trigram_count}
use Rattle.cs_trigram.specs.MayMatch.{MayMatch, MayMatchBranch, HasMembers, HaveMembers, IsTrigramOf}
use Rattle.cs_syntax.specs.TreeList.{append}
use Rattle.std.specs.List.{list_any, list_all, sum_by}
use Rattle.cs_tree.specs.Cover.{is_among}
use Rattle.cs_tree.specs.Folders.{are_distinct}
use Rattle.cs_syntax.specs.Matching.{Tree, Trees, none, more, cat, MatchesSpan, MatchesSequence, MatchesBranch}
use Rattle.cs_trigram.specs.Trigram.{tri}
use Rattle.cs_syntax.specs.Weight.{weight, weights}
use Rattle.cs_trigram.specs.Query.{matches_set, mentions, query_size, HasTrigrams}
use Rattle.cs_trigram.specs.ExactRuns.{HasEachRun, HasEachCross, AllHaveRunsWithin, SomeHasExactRuns, IsSelective}
use Rattle.cs_trigram.specs.ExactStrings.{HaveFewExactStrings, is_finite}
use Rattle.cs_trigram.specs.ExactQuery.{HasFewExactStrings}
use Rattle.cs_trigram.specs.declared.queries.Query.{Query}

-- adds a string that is not in the list, if there are at most twenty
abbrev pub with_string : List (List ℕ) → List ℕ → List (List ℕ)
with_string strings string =
    if nat_le (length strings) 20 && not (is_among strings string) then strings ++ string ∷ []
    else strings

abbrev pub with_strings : List (List ℕ) → List (List ℕ) → List (List ℕ)
with_strings strings [] = strings
with_strings strings (v ∷ vs) = with_strings (with_string strings v) vs

-- each string of the first list followed by each of the second
abbrev pub concatenations : List (List ℕ) → List (List ℕ) → List (List ℕ)
concatenations [] suffixes = []
concatenations (u ∷ us) suffixes = map (λ v. u ++ v) suffixes ++ concatenations us suffixes

-- Distinct strings with a property: all of them if they are at most twenty, else at least twenty-one.
pub record IsEnumeration (strings : List (List ℕ)) (P : List ℕ → Type 0) : Type 0 where
  pub right : (string : List ℕ) → IsTrue (is_among strings string) → P string
  pub different : IsTrue (are_distinct strings)
  pub whole : length strings ≤ 20 → (string : List ℕ) → P string → IsTrue (is_among strings string)

abbrev pub all_match : List Query → (ℕ → Bool) → Bool
all_match queries set = list_all (λ q. matches_set q set) queries

abbrev pub some_matches : List Query → (ℕ → Bool) → Bool
some_matches queries set = list_any (λ q. matches_set q set) queries

-- whether the trigram occurs in one of the queries
abbrev pub some_mentions : List Query → ℕ → Bool
some_mentions queries g = list_any (λ q. mentions q g) queries

-- each number that passes the test is a trigram and, if A holds, one of a text with the property
abbrev pub AreTrigramsOf : (ℕ → Bool) → Type 0 → (List ℕ → Type 0) → Type 0
AreTrigramsOf test A P = (g : ℕ) → test g ≡ true → (g < trigram_count) × (A → IsTrigramOf P g)

-- the query mentions only trigrams of texts with the property
abbrev pub MentionsOnly : Query → (List ℕ → Type 0) → Type 0
MentionsOnly query P = AreTrigramsOf (mentions query) (Unit {0}) P

-- the most nodes of a query for the trigrams across two parts
abbrev pub cross_size : ℕ
cross_size = 1027

-- The query loses no line, is at least as selective as the exact runs of the tree, and mentions only trigrams of
-- texts that the tree may match. It is small, and leaves room for one more node and a query across two parts.
pub record IsCorrect (query : Query) (t : Tree) : Type 0 where
  pub matching : (s : List ℕ) (set : ℕ → Bool) (i j : ℕ) → MatchesSpan s t i j → HasTrigrams set s →
      matches_set query set ≡ true
  pub selective : IsSelective query t
  pub mentioned : AreTrigramsOf (mentions query) (HasMembers t) (MayMatch false t)
  pub small : query_size query + cross_size + 1 ≤ 3000 * weight t

-- the same for the disjunction of the queries and the alternation of the trees
pub record AreCorrect (queries : List Query) (ts : Trees) : Type 0 where
  pub matching : (s : List ℕ) (set : ℕ → Bool) (i j : ℕ) → MatchesBranch s ts i j → HasTrigrams set s →
      some_matches queries set ≡ true
  pub selective : (set : ℕ → Bool) → some_matches queries set ≡ true → SomeHasExactRuns set ts
  pub mentioned : AreTrigramsOf (some_mentions queries) (HaveMembers ts) (MayMatchBranch false ts)
  pub small : sum_by query_size queries ≤ 3000 * weights ts

-- the query is correct for the tree, unless the exact strings of the tree are few
abbrev pub IsMatchQuery : Query → Tree → Type 0
IsMatchQuery query t = (HasFewExactStrings t → ⊥) → IsCorrect query t

-- the strings enumerate the exact strings of a finite tree
abbrev pub EnumeratesTree : List (List ℕ) → Tree → Type 0
EnumeratesTree strings t = (is_finite t ≡ true) × IsEnumeration strings (MayMatch true t)

-- the strings are the exact strings of a finite tree, which are few
pub record AreExactStrings (strings : List (List ℕ)) (t : Tree) : Type 0 where
  pub are : EnumeratesTree strings t
  pub some : 0 < length strings
  pub few : length strings ≤ 20

-- the next part cannot extend the run: its strings would not be few
abbrev pub IsBlocked : Trees → Trees → Type 0
IsBlocked run none = Unit {0}
IsBlocked run (more t rest) = HaveFewExactStrings (append run (more t none)) → ⊥

-- the exact strings of the longest leading run that has few
pub record IsLongestLeadingRun (ts : Trees) (strings : List (List ℕ)) : Type 0 where
  pub run : Trees
  pub after : Trees
  pub is : ts ≡ append run after
  pub exact : AreExactStrings strings (cat run)
  pub blocked : IsBlocked run after

-- whether the set has all trigrams of the text
abbrev pub has_trigrams : (ℕ → Bool) → List ℕ → Bool
has_trigrams set text = list_all set (tri text)

-- the set has the trigrams of one of the strings
abbrev pub has_any : (ℕ → Bool) → List (List ℕ) → Bool
has_any set strings = list_any (λ w. has_trigrams set w) strings

-- the query requires exactly the trigrams of the text
abbrev pub RequiresText : Query → List ℕ → Type 0
RequiresText query text = (set : ℕ → Bool) → matches_set query set ≡ has_trigrams set text

-- The requirements of a sequence other than its longest leading run. Each set with the trigrams of a matching
-- line satisfies them. If a set satisfies them and has a string of that run, it has all runs within the sequence, and
-- the crosses of its last parts, which are all parts but maybe the first.
pub record IsQueryBeyondRun (leading : List (List ℕ)) (conjuncts : (ℕ → Bool) → Bool)
    (ts last : Trees) : Type 0 where
  pub run : IsLongestLeadingRun ts leading
  pub matching : (s : List ℕ) (set : ℕ → Bool) (i j : ℕ) → MatchesSequence s ts i j → HasTrigrams set s →
      conjuncts set ≡ true
  pub selective : (set : ℕ → Bool) → conjuncts set ≡ true → has_any set leading ≡ true →
      HasEachRun set ts × HasEachCross set last × AllHaveRunsWithin set ts
