-- A file that a search over a state skips prints nothing.
use Rattle.std.specs.Prelude.{◌≡◌, ℕ, List, ◌++◌, Option}
use Rattle.cs_tree.specs.Snapshot.{Item, file}
use Rattle.cs_tree.specs.declared.tree.Stamp.{Stamp}
use Rattle.cs_trigram.specs.Query.{LosesNoLine}
use Rattle.cs_trigram.specs.declared.queries.Query.{Query}
use Rattle.cs_index.specs.OpenedParts.{Parts}
use Rattle.cs_lines.specs.Findings.{Finding, IsFoundBy}
use Rattle.cs_lines.specs.Project.{nothing_shown, text_shown}
use Rattle.cs_lines.specs.declared.binary.BinaryFiles.{BinaryFiles}
use Rattle.cs_lines.specs.declared.form.ShowOptions.{ShowOptions}
use Rattle.cs_lines.specs.declared.search.LineSearch.{LineSearch}
use Rattle.cs_known.specs.Skipped.{IsSkipped}
use Rattle.cs_known.specs.Learned.{Run, StillHolds, View}

-- The query loses no line of the search, and the finding is that of the search.
pub record IsQueryOf (search : LineSearch) (finding : Finding) (query : Query) : Type 0 where
  pub found : IsFoundBy finding search
  pub loses : LosesNoLine query search.matcher.tree

-- A file that is skipped can be read, and its text prints nothing under any name, so no error is hidden.
abbrev pub SkippedPrintNothing : Type 0
SkippedPrintNothing = (options : ShowOptions) (binaries : BinaryFiles) (search : LineSearch) (finding : Finding) (query : Query) →
    IsQueryOf search finding query →
    (runs : List Run) (parts : Parts) (now : View) → StillHolds runs parts now → (name : List ℕ) →
    IsSkipped options binaries query parts name (now.stamp name) →
    (text : List ℕ) × (now.item name ≡ file text)
    × ((printed : List ℕ) → text_shown options finding printed binaries text ≡ nothing_shown)

-- what a run sees of items and stamps at the paths below a folder
abbrev pub view_below : List ℕ → (List ℕ → Item) → (List ℕ → Option Stamp) → View
view_below root items stamps = record { item = λ name. items (root ++ name); stamp = λ name. stamps (root ++ name) }

-- the path is that of a file below a folder which is skipped, if it has this stamp
abbrev pub IsSkippedBelow : List ℕ → ShowOptions → BinaryFiles → Query → Parts → List ℕ → Option Stamp → Type 0
IsSkippedBelow root options binaries query parts path seen =
    (name : List ℕ) × (path ≡ root ++ name) × IsSkipped options binaries query parts name seen

-- The same of the file at a path below the folder of the project.
abbrev pub SkippedPathsPrintNothing : Type 0
SkippedPathsPrintNothing = (options : ShowOptions) (binaries : BinaryFiles) (search : LineSearch) (finding : Finding) (query : Query) →
    IsQueryOf search finding query →
    (runs : List Run) (parts : Parts) (root : List ℕ) (items : List ℕ → Item) (stamps : List ℕ → Option Stamp) →
    StillHolds runs parts (view_below root items stamps) → (path : List ℕ) →
    IsSkippedBelow root options binaries query parts path (stamps path) →
    (text : List ℕ) × (items path ≡ file text)
    × ((printed : List ℕ) → text_shown options finding printed binaries text ≡ nothing_shown)
