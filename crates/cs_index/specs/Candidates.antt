-- Candidates: the names whose trigrams match a query.
-- docs/FORMAT.md, "The index as it is read".
use Rattle.std.specs.Prelude.{◌≡◌, ℕ, Bool, true, false, List, length, filter, Result, Ok, Err, Vec}
use Rattle.std.specs.declared.alloc.Global.{Global}
use Rattle.cs_index.specs.Answerable.{is_answerable}
use Rattle.cs_index.specs.PostingLists.{set_at}
use Rattle.cs_trigram.specs.Trigram.{has}
use Rattle.std.specs.List.{range_with_len}
use Rattle.cs_trigram.specs.declared.queries.Query.{Query}
use Rattle.cs_trigram.specs.Query.{matches_set}
use Rattle.cs_index.specs.OpenedParts.{Parts, lists_in}
use Rattle.cs_index.specs.declared.fault.IndexFault.{IndexFault}
use Rattle.cs_index.specs.declared.fault.IndexFault.TheVariants.{BadList}

-- whether the query matches the trigrams of the name with this id
abbrev pub name_matches : Parts → Query → ℕ → Bool
name_matches parts query id = matches_set query (λ g. has (set_at id (lists_in parts)) g)

-- the ids of names that satisfy a test, ascending
abbrev pub ids_where : Parts → (ℕ → Bool) → List ℕ
ids_where parts test = filter test (range_with_len 0 (length parts.names))

-- the ids of the names whose trigrams match the query, ascending
unfoldable pub candidates_of : Parts → Query → List ℕ
candidates_of parts query = ids_where parts (name_matches parts query)

-- the ids of the names whose trigrams match the query, or `BadList` if a posting list that it mentions is damaged
abbrev pub AreCandidates : Query → Parts → Result (Vec ℕ Global) IndexFault → Type 0
AreCandidates query parts (Ok ids) = (ids.items ≡ candidates_of parts query) × (is_answerable parts query ≡ true)
AreCandidates query parts (Err fault) = (fault ≡ BadList) × (is_answerable parts query ≡ false)
