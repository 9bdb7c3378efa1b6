-- Which files of a tree a search of a folder lists: those that no rule file on the way leaves out. docs/PROMISES.md, "Rules".
use Rattle.std.specs.Prelude.{ℕ, ◌≡◌, ◌+◌, ◌-◌, Bool, true, false, not, ◌&&◌, if◌then◌else◌, nat_le, List, [], ◌∷◌, ◌++◌, length, reverse, Option, Some, None, option_map, is_some, unwrap_or, codes}
use Rattle.std.specs.Path.{slash}
use Rattle.cs_tree.specs.Snapshot.{Item, folder}
use Rattle.cs_tree.specs.Elements.{is_among}
use Rattle.cs_tree.specs.Folders.{lists}
use Rattle.cs_tree.specs.Clean.{path_of, with_slashes, longest_path}
use Rattle.cs_tree.specs.Walks.{is_file}
use Rattle.cs_listing.specs.Rules.{Rule}
use Rattle.cs_listing.specs.RuleFiles.{rules_of}
pub use Rattle.cs_listing.specs.GitFolders.{TreeItems, bytes_of_item}
use Rattle.cs_listing.specs.GitFolders.{is_there, root_at}
use Rattle.cs_listing.specs.Layers.{FolderRules, without_rules, room_after, is_left_out}
pub use Rattle.cs_listing.specs.Choices.{Settings, after}

-- the rules of an item
abbrev pub rules_of_item : Item → List Rule
rules_of_item item = rules_of (bytes_of_item item)

-- ---- the rule files of a folder, which have to fit into what is left of the limit of all along a path

-- the bytes of a file; one that does not fit counts as empty
abbrev pub bytes_within : ℕ → List ℕ → List ℕ
bytes_within room bytes = if nat_le (length bytes) room then bytes else []

-- what is left after a file
abbrev pub left_after : ℕ → List ℕ → ℕ
left_after room bytes = room - length (bytes_within room bytes)

-- a folder by the bytes of its `.ignore`, of its `.gitignore`, and of `info/exclude` if a repository begins in it
abbrev pub folder_with : List ℕ → List ℕ → Option (List ℕ) → FolderRules
folder_with ignore gitignore exclude = record {
  ignore = rules_of ignore;
  gitignore = rules_of gitignore;
  exclude = option_map rules_of exclude;
  bytes = length ignore + (length gitignore + length (unwrap_or exclude []));
}

-- each of them takes from what is left for the next one
abbrev pub folder_within : ℕ → List ℕ → List ℕ → Option (List ℕ) → FolderRules
folder_within room ignore gitignore exclude = folder_with (bytes_within room ignore) (bytes_within (left_after room ignore) gitignore)
    (option_map (bytes_within (left_after (left_after room ignore) gitignore)) exclude)

-- ---- the folders along a path. The elements of a folder are given last one first, as to `path_of`.

-- the name of a file that rules come from, if something is there
abbrev pub name_there : TreeItems → List ℕ → List ℕ → List (List ℕ)
name_there items stem name = if is_there items (stem ++ slash ∷ name) then name ∷ [] else []

abbrev pub names_there : TreeItems → List ℕ → List (List ℕ)
names_there items stem =
    (name_there items stem (codes ".ignore") ++ name_there items stem (codes ".gitignore")) ++ name_there items stem (codes ".git")

-- The names by which the rules of an item are looked up: those that a folder lists; where nothing can be listed, those of files
-- that are there.
abbrev pub rule_names : TreeItems → List ℕ → Item → List (List ℕ)
rule_names items stem (folder names unnamed) = names
rule_names items stem _ = names_there items stem

abbrev pub rule_names_at : TreeItems → List (List ℕ) → List (List ℕ)
rule_names_at items above = rule_names items (with_slashes above) (items (path_of above))

-- the bytes of the file with this name, if it is looked up
abbrev pub bytes_listed : TreeItems → List (List ℕ) → List ℕ → List ℕ
bytes_listed items above name =
    if is_among (rule_names_at items above) name then bytes_of_item (items (path_of (name ∷ above))) else []

-- the path of the rules that a repository with these folders has for itself
abbrev pub exclude_path : List ℕ × List ℕ → List ℕ
exclude_path folders = folders.1 ++ slash ∷ codes "info/exclude"

-- the bytes at this path
abbrev pub exclude_bytes : TreeItems → List ℕ × List ℕ → List ℕ
exclude_bytes items folders = bytes_of_item (items (exclude_path folders))

-- the folders of the repository that begins in a folder of the tree
abbrev pub root_of : TreeItems → List (List ℕ) → Option (List ℕ × List ℕ)
root_of items above = root_at items (with_slashes above) (rule_names_at items above)

-- a folder of the tree within what is left of the limit; without, no rule file counts
abbrev pub folder_at : Option ℕ → TreeItems → List (List ℕ) → FolderRules
folder_at None items above = without_rules (is_some (root_of items above))
folder_at (Some room) items above = folder_within room (bytes_listed items above (codes ".ignore"))
    (bytes_listed items above (codes ".gitignore")) (option_map (exclude_bytes items) (root_of items above))

-- the folders from `/` down to this one; if ignored files are taken, no rule file counts
abbrev pub folders_to : Bool → TreeItems → List (List ℕ) → List FolderRules
folders_to takes_ignored items [] = folder_at (room_after takes_ignored []) items [] ∷ []
folders_to takes_ignored items (name ∷ above) = folders_to takes_ignored items above
    ++ folder_at (room_after takes_ignored (folders_to takes_ignored items above)) items (name ∷ above) ∷ []

-- ---- what is listed

-- whether the entry of a folder is left out, by the rule files from `/` down to the folder
abbrev pub leaves_out : Settings → TreeItems → Bool → List (List ℕ) → List ℕ → Bool
leaves_out settings items is_folder above name =
    is_left_out settings is_folder (folders_to settings.takes_ignored items above) (reverse (name ∷ above))

-- whether the folder lists the name, at a path within the limit, and does not leave it out
abbrev pub is_taken : Settings → TreeItems → Bool → List (List ℕ) → List ℕ → Bool
is_taken settings items is_folder above name =
    (lists (items (path_of above)) name && nat_le (length (path_of (name ∷ above))) longest_path)
    && not (leaves_out settings items is_folder above name)

abbrev pub has_more : List (List ℕ) → Bool
has_more [] = false
has_more (name ∷ path) = true

-- whether each element of a path below a folder is taken; all but the last one are folders
abbrev pub is_reached : Settings → TreeItems → List (List ℕ) → List (List ℕ) → Bool
is_reached settings items above [] = true
is_reached settings items above (name ∷ path) =
    is_taken settings items (has_more path) above name && is_reached settings items (name ∷ above) path

-- the elements of a path below a folder, last one first
abbrev pub down : List (List ℕ) → List (List ℕ) → List (List ℕ)
down above [] = above
down above (name ∷ path) = down (name ∷ above) path

-- whether a search of the folder `start` lists the file at a path below it
abbrev pub is_listed : Settings → TreeItems → List (List ℕ) → List (List ℕ) → Bool
is_listed settings items start path =
    is_reached settings items start path && is_file (items (path_of (down start path)))

-- whether a search of a folder lists the file at what follows it in a path
abbrev pub is_found_at : Settings → TreeItems → List (List ℕ) → Option (List (List ℕ)) → Bool
is_found_at settings items start None = false
is_found_at settings items start (Some []) = false
is_found_at settings items start (Some (name ∷ path)) = is_listed settings items start (name ∷ path)

-- whether a search of a folder lists the file at a path; both are given by their elements from `/` down
abbrev pub is_found : Settings → TreeItems → List (List ℕ) → List (List ℕ) → Bool
is_found settings items start path = is_found_at settings items (reverse start) (after start path)

-- ---- searches of folders

-- whether a search of the folder `start` enters all these folders, each in the one before
abbrev pub enters : Settings → TreeItems → List (List ℕ) → List (List ℕ) → Bool
enters settings items start [] = true
enters settings items start (name ∷ path) = is_taken settings items true start name && enters settings items (name ∷ start) path

-- Below a folder that it enters, a search lists what a search of that folder lists.
abbrev pub ListsAsBelow : Type 0
ListsAsBelow = (settings : Settings) (items : TreeItems) (start entered : List (List ℕ)) (name : List ℕ) (path : List (List ℕ)) →
    enters settings items start entered ≡ true →
    is_listed settings items start (entered ++ name ∷ path) ≡ is_listed settings items (down start entered) (name ∷ path)
