-- The paths and entries that an index can store.
-- docs/FORMAT.md, "The index as it is written".
use Rattle.std.specs.Prelude.{ℕ, ◌<◌, ◌^◌, List, length}
use Rattle.cs_trigram.specs.Trigram.{closing_trigram}
use Rattle.std.specs.List.{AllByRecursion}
use Rattle.cs_index.specs.Encoding.{Entry, names_of, encoding_of, IsString}
use Rattle.cs_index.specs.AscendingIds.{max_ids}

pub record IsIndexable (paths : List (List ℕ)) (entries : List Entry) : Type 0 where
  pub each_path : AllByRecursion IsString paths
  pub each_name : AllByRecursion IsString (names_of entries)
  pub trigrams : AllByRecursion (λ ((name, gs) : Entry). AllByRecursion (λ g. g < closing_trigram) gs) entries
  pub bound : length entries < max_ids
  pub short : length (encoding_of paths entries) < 2 ^ 32
