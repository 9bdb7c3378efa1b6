-- Which indexed files match a query.
use Rattle.std.specs.Prelude.{ℕ, List, filter}
use Rattle.cs_trigram.specs.Trigram.{has}
use Rattle.cs_trigram.specs.Query.{matches_set}
use Rattle.cs_trigram.specs.declared.queries.Query.{Query}
use Rattle.cs_index.specs.Encoding.{Entry, names_of}

-- the names of the files whose trigrams match the query, in their order
unfoldable pub names_matching : Query → List Entry → List (List ℕ)
names_matching query files = names_of (filter (λ (entry : Entry). matches_set query (has entry.1)) files)
