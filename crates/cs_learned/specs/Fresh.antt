-- The promise of a search over a state.
--
--     For any files, options and state, a search that skips files prints exactly what a search of every file as it is now
--     prints, and has its status, if each file whose stamp an earlier run saw, and was old then, still reads as it read then.
use Rattle.std.specs.Prelude.{◌≡◌, ℕ, Bool, false, List, filter, map}
use Rattle.cs_trigram.specs.declared.queries.Query.{Query}
use Rattle.cs_index.specs.OpenedParts.{Parts}
use Rattle.cs_lines.specs.Findings.{Finding}
use Rattle.cs_lines.specs.declared.form.ShowOptions.{ShowOptions}
use Rattle.cs_lines.specs.declared.search.LineSearch.{LineSearch}
use Rattle.cs_project.specs.Searched.{NamedItem, are_marked, binary_as, items_printed}
use Rattle.cs_known.specs.Skipped.{IsSkipped}
use Rattle.cs_known.specs.Learned.{Run, StillHolds, View}
use Rattle.cs_known.specs.Unprinted.{IsQueryOf}

-- A file of a search: its name in the project, the name that it is printed with, and whether a word names it.
pub record ListedFile : Type 0 where
  pub name : List ℕ
  pub printed : List ℕ
  pub named : Bool

-- the file as it is now
abbrev pub item_now : View → ListedFile → NamedItem
item_now now listed = (listed.printed, now.item listed.name, listed.named)

-- each file that is not read is skipped, with the stamp that it has now
abbrev pub ReadsUnskipped : ShowOptions → Bool → Query → Parts → View → (ListedFile → Bool) → Type 0
ReadsUnskipped options takes_binary query parts now is_read = (listed : ListedFile) → is_read listed ≡ false →
    IsSkipped options (binary_as takes_binary listed.named) query parts listed.name (now.stamp listed.name)

-- the files that are read, as they are now
abbrev pub items_read : View → (ListedFile → Bool) → List ListedFile → List NamedItem
items_read now is_read files = map (item_now now) (filter is_read files)

-- Whatever was printed before, the same is printed for both, and a line is marked in both or in none.
abbrev pub PrintAlike : ShowOptions → Bool → Finding → List NamedItem → List NamedItem → Type 0
PrintAlike options takes_binary finding items others = (marked : Bool) →
    (items_printed options takes_binary finding marked items ≡ items_printed options takes_binary finding marked others)
    × (are_marked options takes_binary finding marked items ≡ are_marked options takes_binary finding marked others)

-- A search over what earlier runs learned is a search of every file as it is now.
abbrev pub IsFresh : Type 0
IsFresh = (options : ShowOptions) (takes_binary : Bool) (search : LineSearch) (finding : Finding) (query : Query) →
    IsQueryOf search finding query →
    (runs : List Run) (parts : Parts) (now : View) → StillHolds runs parts now → (is_read : ListedFile → Bool) →
    ReadsUnskipped options takes_binary query parts now is_read → (files : List ListedFile) →
    PrintAlike options takes_binary finding (items_read now is_read files) (map (item_now now) files)
