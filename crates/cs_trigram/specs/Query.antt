-- When a query matches a set of trigrams, which trigrams it mentions, how large it is, and when it loses no line.
-- docs/PATTERNS.md, "Queries"; Cox, "Regular Expression Matching with a Trigram Index".
use Rattle.std.specs.Prelude.{ℕ, ◌+◌, ◌*◌, ◌≤◌, Bool, true, false, List, IsTrue, nat_eq}
use Rattle.cs_syntax.specs.Matching.{Tree, HasMatch}
use Rattle.cs_syntax.specs.Weight.{weight}
use Rattle.cs_trigram.specs.Trigram.{tri}
use Rattle.std.specs.List.{list_all, list_any, sum}
use Rattle.cs_trigram.specs.declared.queries.Query.{Query}
use Rattle.cs_trigram.specs.declared.queries.Query.TheOpen.{Query-F}
use Rattle.cs_trigram.specs.declared.queries.Query.TheFolds.{fold-Query}

-- one level of a query, its members already evaluated
abbrev pub matches_set_step : (ℕ → Bool) → Query-F Bool → Bool
matches_set_step set Query-F.All = true
matches_set_step set Query-F.Nothing = false
matches_set_step set (Query-F.Tri number) = set number
matches_set_step set (Query-F.And members) = list_all (λ matched. matched) members.items
matches_set_step set (Query-F.Or members) = list_any (λ matched. matched) members.items

-- whether the query matches the set, given as a test of trigrams
abbrev pub matches_set : Query → (ℕ → Bool) → Bool
matches_set query set = fold-Query Bool (matches_set_step set) query

-- one level of the query: whether the trigram occurs in it
abbrev pub mentions_step : ℕ → Query-F Bool → Bool
mentions_step g Query-F.All = false
mentions_step g Query-F.Nothing = false
mentions_step g (Query-F.Tri number) = nat_eq g number
mentions_step g (Query-F.And members) = list_any (λ is_mentioned. is_mentioned) members.items
mentions_step g (Query-F.Or members) = list_any (λ is_mentioned. is_mentioned) members.items

-- whether the trigram occurs in the query
abbrev pub mentions : Query → ℕ → Bool
mentions query g = fold-Query Bool (mentions_step g) query

-- one level of a query, its members already counted
abbrev pub query_size_step : Query-F ℕ → ℕ
query_size_step (Query-F.And members) = 1 + sum members.items
query_size_step (Query-F.Or members) = 1 + sum members.items
query_size_step leaf = 1

-- the number of nodes of a query
abbrev pub query_size : Query → ℕ
query_size query = fold-Query ℕ query_size_step query

-- the query has at most 3000 nodes for each unit of the weight of the tree
abbrev pub IsSmall : Query → Tree → Type 0
IsSmall query tree = query_size query ≤ 3000 * weight tree

-- the set has all trigrams of the text
abbrev pub HasTrigrams : (ℕ → Bool) → List ℕ → Type 0
HasTrigrams set text = IsTrue (list_all set (tri text))

-- The query loses no line: it matches each set that has the trigrams of a line with a match.
abbrev pub LosesNoLine : Query → Tree → Type 0
LosesNoLine query tree =
    (line : List ℕ) (set : ℕ → Bool) → HasMatch tree line → HasTrigrams set line →
    IsTrue (matches_set query set)
