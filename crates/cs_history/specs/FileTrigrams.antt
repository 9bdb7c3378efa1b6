-- The trigrams of a file. docs/FORMAT.md, "Which files are text".
use Rattle.std.specs.Prelude.{◌≡◌, ℕ, List, Option, Some}
use Rattle.std.specs.List.{AllByRecursion}
use Rattle.cs_tree.specs.Snapshot.{Snapshot, item_at}
use Rattle.cs_tree.specs.Reachability.{read_item}
use Rattle.cs_trigram.specs.Text.{text_trigrams, limits}
use Rattle.cs_index.specs.Encoding.{Entry}

-- the trigrams of the file with this name, if it is a text file
abbrev pub file_trigrams : Snapshot → List ℕ → Option (List ℕ)
file_trigrams tree name = read_item (text_trigrams limits) (item_at tree name)

-- each file still has the trigrams that it was indexed with
abbrev pub ReadAsIndexed : Snapshot → List Entry → Type 0
ReadAsIndexed tree files = AllByRecursion (λ (entry : Entry). file_trigrams tree entry.0 ≡ Some entry.1) files
