-- Whole posting lists.
-- docs/FORMAT.md, "The index as it is read".
use Rattle.std.specs.Prelude.{◌≡◌, ℕ, true, List}
use Rattle.cs_index.specs.Encoding.{ListEntry}
use Rattle.cs_index.specs.PostingLists.{read_list}

-- the list of the entry is whole and has these ids
abbrev pub IsList : List ℕ → ℕ → ListEntry → List ℕ → Type 0
IsList postings name_count e ids = read_list postings name_count e ≡ record { ids = ids; whole = true }
