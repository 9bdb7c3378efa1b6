-- Encoding and opening an index gives its paths and entries back.
-- docs/FORMAT.md, "The index as it is written" and "The index as it is read".
use Rattle.std.specs.Prelude.{◌≡◌, ℕ, true, List}
use Rattle.cs_trigram.specs.Trigram.{Ascends}
use Rattle.std.specs.List.{AllByRecursion}
use Rattle.cs_index.specs.Encoding.{sections_of, Entry, names_of, list_entries, postings_of}
use Rattle.cs_index.specs.OpenedParts.{Parts, lists_in, are_whole, files_read}

-- the parts of the index that paths and entries are encoded as
unfoldable pub parts_written : List (List ℕ) → List Entry → Parts
parts_written paths entries = record {
  paths = paths;
  names = names_of entries;
  entries = list_entries 0 (postings_of entries);
  postings = (sections_of paths (names_of entries) (postings_of entries)).postings;
}

-- The index has these paths and entries, and each of its lists is whole.
pub record IsIndexWith (parts : Parts) (paths : List (List ℕ)) (entries : List Entry) : Type 0 where
  pub has_paths : parts.paths ≡ paths
  pub has_names : parts.names ≡ names_of entries
  pub has_lists : lists_in parts ≡ postings_of entries
  pub whole : are_whole parts ≡ true
  pub has_files : AllByRecursion (λ ((name, trigrams) : Entry). Ascends trigrams) entries → files_read parts ≡ entries
