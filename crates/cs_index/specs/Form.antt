-- A form: a query as numbered nodes. Number 0 matches nothing and number 1 everything; the posting lists follow, and
-- then conjunctions and disjunctions.
use Rattle.std.specs.Prelude.{◌≡◌, ◌<◌, ◌≤◌, ℕ, ◌+◌, Bool, true, false, ◌&&◌, ◌||◌, List, [], ◌∷◌, ◌++◌, length, map, slice_index_or, if◌then◌else◌}
use Rattle.std.specs.List.{AllByRecursion, list_all, list_any}
use Rattle.cs_trigram.specs.Trigram.{has}
use Rattle.cs_trigram.specs.Query.{matches_set}
use Rattle.cs_trigram.specs.declared.queries.Query.{Query}
use Rattle.cs_index.specs.declared.reading.form.FormNode.{FormNode}

-- whether all members match, or some member
abbrev pub members_match : Bool → List Bool → List ℕ → Bool
members_match is_and known members = if is_and then list_all (λ m. slice_index_or known m false) members
    else list_any (λ m. slice_index_or known m false) members

abbrev pub node_matches : List Bool → FormNode → Bool
node_matches known node = members_match node.is_and known node.members.items

-- both, or one of the two
abbrev pub joined : Bool → Bool → Bool → Bool
joined is_and a b = if is_and then a && b else a || b

-- whether all queries match, or some query
abbrev pub queries_match : Bool → (ℕ → Bool) → List Query → Bool
queries_match is_and set queries = if is_and then list_all (λ q. matches_set q set) queries
    else list_any (λ q. matches_set q set) queries

-- whether each node matches, after those that are known
abbrev pub matched_from : List Bool → List FormNode → List Bool
matched_from known [] = known
matched_from known (node ∷ nodes) = matched_from (known ++ node_matches known node ∷ []) nodes

-- the same by number, where these lists match
abbrev pub matched : List Bool → List FormNode → List Bool
matched lists nodes = matched_from (false ∷ true ∷ lists) nodes

abbrev pub number_matches : List Bool → List FormNode → ℕ → Bool
number_matches lists nodes n = slice_index_or (matched lists nodes) n false

-- the set has only trigrams of the list
abbrev pub IsWithin : List ℕ → (ℕ → Bool) → Type 0
IsWithin trigrams set = (g : ℕ) → has trigrams g ≡ false → set g ≡ false

-- the node matches as the query does, if each list stands for its trigram
abbrev pub IsNumberOf : List ℕ → List FormNode → Query → ℕ → Type 0
IsNumberOf trigrams nodes query n = (set : ℕ → Bool) → IsWithin trigrams set →
    number_matches (map set trigrams) nodes n ≡ matches_set query set

-- the list at this position matches whenever the number does
abbrev pub IsRequired : ℕ → List FormNode → ℕ → ℕ → Type 0
IsRequired lists nodes n at =
    (at < lists) × ((bits : List Bool) → length bits ≡ lists → number_matches bits nodes n ≡ true → slice_index_or bits at false ≡ true)

-- how many numbers there are
abbrev pub numbers : ℕ → List FormNode → ℕ
numbers lists nodes = 2 + lists + length nodes

-- these numbers exist
abbrev pub Exist : ℕ → List FormNode → List ℕ → Type 0
Exist lists nodes members = AllByRecursion (λ m. m < numbers lists nodes) members

-- The members of each node exist, and the node matches as they do, whichever lists match.
pub record IsForm (lists : ℕ) (nodes : List FormNode) : Type 0 where
  pub exist : AllByRecursion (λ (node : FormNode). Exist lists nodes node.members.items) nodes
  pub matches : (bits : List Bool) → length bits ≡ lists → (k : ℕ) → k < length nodes → (node : FormNode) →
      number_matches bits nodes (2 + lists + k) ≡ node_matches (matched bits nodes) (slice_index_or nodes k node)

-- The later nodes are a form too, and the earlier numbers match as before.
pub record Grows (lists : ℕ) (earlier later : List FormNode) : Type 0 where
  pub form : IsForm lists later
  pub more : length earlier ≤ length later
  pub same : (bits : List Bool) → length bits ≡ lists → (n : ℕ) → n < numbers lists earlier →
      number_matches bits later n ≡ number_matches bits earlier n

-- The node with more members matches if the node and what is wanted do, or one of them.
pub record Gathers (trigrams : List ℕ) (earlier later : List FormNode) (node more : FormNode) (wanted : (ℕ → Bool) → Bool) : Type 0 where
  pub grows : Grows (length trigrams) earlier later
  pub kind : more.is_and ≡ node.is_and
  pub exist : Exist (length trigrams) later more.members.items
  pub matches : (set : ℕ → Bool) → IsWithin trigrams set →
      node_matches (matched (map set trigrams) later) more
      ≡ joined node.is_and (node_matches (matched (map set trigrams) later) node) (wanted set)
