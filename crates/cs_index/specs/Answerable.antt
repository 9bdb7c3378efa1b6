-- Whether an index can answer a query: every posting list that the query mentions is whole.
-- docs/FORMAT.md, "The index as it is read".
use Rattle.std.specs.Prelude.{Bool, not, ◌||◌}
use Rattle.std.specs.List.{list_all}
pub use Rattle.cs_trigram.specs.Query.{mentions, mentions_step}
use Rattle.cs_trigram.specs.declared.queries.Query.{Query}
use Rattle.cs_index.specs.Encoding.{ListEntry}
use Rattle.cs_index.specs.OpenedParts.{Parts, ids_read}

-- whether every posting list of a trigram in the query is whole
unfoldable pub is_answerable : Parts → Query → Bool
is_answerable parts query =
    list_all (λ (e : ListEntry). not (mentions query e.trigram) || (ids_read parts e).whole) parts.entries
