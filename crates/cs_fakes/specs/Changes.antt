-- How putting and removing an item change a tree. docs/FORMAT.md, "Paths and names".
use Rattle.std.specs.Prelude.{ℕ, Bool, true, false, not, ◌&&◌, ◌||◌, nat_eq, cond, if◌then◌else◌, List, [], ◌∷◌, ◌++◌, Option, None, option_map, filter, length, bytes_eq}
use Rattle.std.specs.Path.{slash}
use Rattle.cs_tree.specs.Folders.{child, last_element}
use Rattle.std.specs.List.{before_last}
use Rattle.std.specs.FinMap as map
use Rattle.cs_tree.specs.Cover.{is_among, covers}
use Rattle.cs_tree.specs.Snapshot.{Snapshot, Item, folder, item_at}

-- the parent folder of a path: the text before its last slash, or the root
abbrev pub parent_of : List ℕ → List ℕ
parent_of path =
    let prefix = before_last (λ b. nat_eq b slash) path in if bytes_eq prefix [] then slash ∷ [] else prefix

abbrev pub is_folder : Item → Bool
is_folder (folder names unnamed) = true
is_folder _ = false

abbrev pub has_entries : Item → Bool
has_entries (folder names unnamed) = not (nat_eq (length names) 0) || unnamed
has_entries _ = false

-- the tree with the folder `/` alone
abbrev pub root_alone : Snapshot
root_alone = map.insert map.empty (slash ∷ []) (folder [] false)

-- the names with one more, if it is not among them
abbrev pub names_with : List ℕ → List (List ℕ) → List (List ℕ)
names_with name names = if is_among names name then names else names ++ name ∷ []

-- an item with one more name, if it is a folder without that name
abbrev pub with_listed_name : List ℕ → Item → Item
with_listed_name name (folder names unnamed) = folder (names_with name names) unnamed
with_listed_name name item = item

-- the tree with one more name in the folder at the path
abbrev pub with_name : Snapshot → List ℕ → List ℕ → Snapshot
with_name tree path name = map.insert tree path (with_listed_name name (item_at tree path))

-- the tree with an item at a path, and with the path's name in its parent; a folder put over a folder changes nothing
abbrev pub with_item : Snapshot → List ℕ → Item → Snapshot
with_item tree path item =
    let listed = with_name tree (parent_of path) (last_element path) in
    if is_folder (item_at tree path) && is_folder item then listed else map.insert listed path item

-- the names of the folder `at` that remain when the path is removed
abbrev pub names_left : List ℕ → List ℕ → List (List ℕ) → List (List ℕ)
names_left path at names = filter (λ name. not (covers path (child at name))) names

-- an item without the names that the path covers
abbrev pub without_listed_names : List ℕ → List ℕ → Item → Item
without_listed_names path at (folder names unnamed) = folder (names_left path at names) unnamed
without_listed_names path at item = item

-- whether removing the path removes `at`: it is covered, and not the root
abbrev pub is_removed_with : List ℕ → List ℕ → Bool
is_removed_with path at = covers path at && not (bytes_eq at (slash ∷ []))

-- the item at `at` after the path is removed, with everything that it covers
abbrev pub left_without : Snapshot → List ℕ → List ℕ → Option Item
left_without tree path at = cond (is_removed_with path at) None (option_map (without_listed_names path at) (map.get tree at))
