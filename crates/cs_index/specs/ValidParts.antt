-- The invariant of the parts of an opened index.
-- docs/FORMAT.md, "The index as it is read".
use Rattle.std.specs.Prelude.{◌≡◌, ◌<◌, true, length}
use Rattle.cs_index.specs.Encoding.{IsString}
use Rattle.std.specs.List.{AllByRecursion, list_all}
use Rattle.cs_index.specs.MaxNames.{max_names}
use Rattle.cs_index.specs.Opening.{is_entry, rises}
use Rattle.cs_index.specs.OpenedParts.{Parts}

-- Paths and names are strings, the entries have ascending trigrams and fit the section of posting lists, and
-- `ff ff ff` has no file.
pub record AreValidParts (parts : Parts) : Type 0 where
  pub each_path : AllByRecursion IsString parts.paths
  pub each_name : AllByRecursion IsString parts.names
  pub names_bound : length parts.names < max_names
  pub rise : rises parts.entries ≡ true
  pub fit : list_all (λ e. is_entry (length parts.postings) e) parts.entries ≡ true
