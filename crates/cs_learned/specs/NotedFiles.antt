-- What a search notes of the files of a project, and that a run saw it.
use Rattle.std.specs.Prelude.{◌≡◌, ℕ, List, ◌++◌, map, Option, Some, string_bytes}
use Rattle.std.specs.List.{AllByRecursion}
use Rattle.cs_tree.specs.Snapshot.{Item}
use Rattle.cs_tree.specs.declared.tree.Stamp.{Stamp}
use Rattle.cs_project.specs.Noted.{AreSeen, NotedFile}
use Rattle.cs_known.specs.Learned.{View}
use Rattle.cs_known.specs.Unprinted.{view_below}
use Rattle.cs_known.specs.declared.types.SeenFile.{SeenFile}
use Rattle.cs_learned.specs.declared.known_project.KnownProject.{KnownProject}

-- the files below a folder, by their paths
abbrev pub noted_below : List ℕ → List SeenFile → List NotedFile
noted_below root files = map (λ (file : SeenFile). (root ++ string_bytes file.name, file.stamp)) files

abbrev pub noted_in : {S : Type 0} → KnownProject S → List NotedFile
noted_in known = noted_below (string_bytes known.root) known.unknown.items

-- Each file has the stamp that is seen at its name.
abbrev pub AreSeenIn : View → List SeenFile → Type 0
AreSeenIn view files = AllByRecursion (λ (file : SeenFile). view.stamp (string_bytes file.name) ≡ Some file.stamp) files

-- Where the stamps that are noted are those of a tree, a run over this tree sees them below the folder.
abbrev pub AreSeenBelow : List ℕ → List NotedFile → List SeenFile → Type 0
AreSeenBelow root noted files = (items : List ℕ → Item) (stamps : List ℕ → Option Stamp) → AreSeen stamps noted →
    AreSeenIn (view_below root items stamps) files
