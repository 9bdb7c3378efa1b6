-- The entries of folders, and well-formed snapshots.
-- docs/FORMAT.md, "Paths and names".
use Rattle.std.specs.Prelude.{◌≡◌, ℕ, Bool, true, nat_eq, if◌then◌else◌, List, [], ◌∷◌, ◌++◌, Option, IsSomeAnd, IsUtf8, bytes_eq}
use Rattle.std.specs.Path.{slash}
use Rattle.std.specs.List.{AllByRecursion, after_last}
pub use Rattle.cs_tree.specs.Elements.{is_element, are_distinct, are_elements}
use Rattle.cs_tree.specs.Elements.{is_among}
use Rattle.cs_tree.specs.Snapshot.{Item, Snapshot, item_at, folder}

-- the text before the slash in the paths of a folder's entries: the folder's path, or nothing for the root
abbrev pub stem_of : List ℕ → List ℕ
stem_of folder_path = if bytes_eq folder_path (slash ∷ []) then [] else folder_path

-- the path of a folder's entry
abbrev pub child : List ℕ → List ℕ → List ℕ
child folder_path name = stem_of folder_path ++ slash ∷ name

-- the names that an item lists; only a folder lists any
abbrev pub names_listed : Item → List (List ℕ)
names_listed (folder names unnamed) = names
names_listed _ = []

-- whether an item is a folder that lists the name
abbrev pub lists : Item → List ℕ → Bool
lists item name = is_among (names_listed item) name

abbrev pub ListsElements : Item → Type 0
ListsElements (folder names unnamed) = (are_elements names ≡ true) × AllByRecursion IsUtf8 names
ListsElements _ = Unit {0}

-- The snapshot is well-formed: each folder lists distinct names, which are UTF-8, not empty, and without `/` and NUL.
abbrev pub IsTree : Snapshot → Type 0
IsTree tree = (path : List ℕ) → ListsElements (item_at tree path)

-- the model is a well-formed snapshot
abbrev pub IsModelled : Option Snapshot → Type 0
IsModelled snapshot = IsSomeAnd snapshot IsTree

-- the last element of a path: the text after its last slash
abbrev pub last_element : List ℕ → List ℕ
last_element path = after_last (λ b. nat_eq b slash) path
