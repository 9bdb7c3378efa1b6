-- Which paths a search of a folder cannot read: folders, their entries, and files that rules come from. docs/PROMISES.md, "Rules".
use Rattle.std.specs.Prelude.{ℕ, ◌≡◌, ◌⊎◌, Bool, true, false, ◌&&◌, ◌||◌, nat_lt, if◌then◌else◌, List, [], ◌∷◌, ◌++◌, length, reverse, flat_map, Option, Some, None, is_some, codes}
use Rattle.cs_tree.specs.Snapshot.{Item, folder, bad, missing}
use Rattle.cs_tree.specs.Elements.{is_among}
use Rattle.cs_tree.specs.Folders.{names_listed}
use Rattle.cs_tree.specs.Clean.{path_of, with_slashes, longest_path}
use Rattle.cs_listing.specs.GitFolders.{git_folder, shared_folder, root_at}
use Rattle.cs_listing.specs.Listing.{Settings, TreeItems, bytes_of_item, exclude_path, left_after, rule_names_at, folders_to, leaves_out, is_taken, down}
use Rattle.cs_listing.specs.Layers.{FolderRules, room_after}
use Rattle.cs_listing.specs.FolderReads.{rules_fault, entry_path, bytes_among}

-- the path, if something holds
abbrev pub only_if : Bool → List ℕ → List (List ℕ)
only_if true path = path ∷ []
only_if false path = []

-- ---- one path. A folder is given by the text before the slash in the paths of its entries, and by its names.

-- the file at a path, if it cannot be read whole
abbrev pub unread_file : TreeItems → List ℕ → List (List ℕ)
unread_file items path = only_if (is_some (rules_fault (items path))) path

-- the same, if it is not within what is left for it
abbrev pub unread_within : ℕ → TreeItems → List ℕ → List (List ℕ)
unread_within room items path = unread_file items path ++ only_if (nat_lt room (length (bytes_of_item (items path)))) path

-- the same of the file with this name, if it is one of the names of the folder
abbrev pub unread_among : ℕ → TreeItems → List ℕ → List (List ℕ) → List ℕ → List (List ℕ)
unread_among room items stem names name = if is_among names name then unread_within room items (entry_path stem name) else []

-- whether an item cannot be listed whole: it is no folder, or the name of an entry is not text
abbrev pub is_unlisted : Item → Bool
is_unlisted (folder names unnamed) = unnamed
is_unlisted _ = true

-- whether the look-up of an item fails for another reason than that nothing is there
abbrev pub is_refused : Item → Bool
is_refused (bad missing) = false
is_refused (bad fault) = true
is_refused _ = false

-- the path of an entry, if it is too long, or its look-up fails
abbrev pub unseen : TreeItems → List ℕ → List (List ℕ)
unseen items path = only_if (nat_lt longest_path (length path) || is_refused (items path)) path

-- ---- the files that the rules of a folder come from

-- the files by which a repository names its folders, if they cannot be read whole
abbrev pub unread_git : TreeItems → List ℕ → List (List ℕ)
unread_git items stem = unread_file items (entry_path stem (codes ".git"))
    ++ unread_file items (entry_path (git_folder items stem) (codes "commondir"))

-- what says whether two folders are those of a repository, if a look-up of it fails
abbrev pub unseen_parts : TreeItems → List ℕ → List ℕ → List (List ℕ)
unseen_parts items own shared = unseen items (entry_path own (codes "HEAD"))
    ++ (unseen items (entry_path shared (codes "objects")) ++ unseen items (entry_path shared (codes "refs")))

abbrev pub unread_repository : TreeItems → List ℕ → List (List ℕ)
unread_repository items stem =
    unread_git items stem ++ unseen_parts items (git_folder items stem) (shared_folder items (git_folder items stem))

-- the same of all that says whether the folder is the root of a repository
abbrev pub unread_root : TreeItems → List ℕ → List (List ℕ) → List (List ℕ)
unread_root items stem names = if is_among names (codes ".git") then unread_repository items stem else []

-- `info/exclude` of a repository with these folders
abbrev pub unread_exclude : ℕ → TreeItems → Option (List ℕ × List ℕ) → List (List ℕ)
unread_exclude room items None = []
unread_exclude room items (Some folders) = unread_within room items (exclude_path folders)

-- the rule files of a folder, within what is left of the limit
abbrev pub unread_files : ℕ → TreeItems → List ℕ → List (List ℕ) → Option (List ℕ × List ℕ) → List (List ℕ)
unread_files room items stem names folders =
    let rest = left_after room (bytes_among items stem names (codes ".ignore")) in
    unread_among room items stem names (codes ".ignore") ++ (unread_among rest items stem names (codes ".gitignore")
    ++ unread_exclude (left_after rest (bytes_among items stem names (codes ".gitignore"))) items folders)

-- all that the rules of a folder come from; without what is left no rule file counts
abbrev pub unread_rules : Option ℕ → TreeItems → List ℕ → List (List ℕ) → List (List ℕ)
unread_rules None items stem names = unread_root items stem names
unread_rules (Some room) items stem names =
    unread_root items stem names ++ unread_files room items stem names (root_at items stem names)

-- ---- the entries of a folder

-- The same of an entry that is looked at: `left_out` does not say of its name that it is left out both as a file and as a folder.
abbrev pub unseen_entry : (List ℕ → Bool → Bool) → TreeItems → List ℕ → List ℕ → List (List ℕ)
unseen_entry left_out items stem name =
    if left_out name false && left_out name true then [] else unseen items (entry_path stem name)

abbrev pub unseen_entries : (List ℕ → Bool → Bool) → TreeItems → List ℕ → List (List ℕ) → List (List ℕ)
unseen_entries left_out items stem names = flat_map (unseen_entry left_out items stem) names

-- ---- searches. The elements of a folder are given last one first.

-- the folders above one
abbrev pub folders_above : Bool → TreeItems → List (List ℕ) → List FolderRules
folders_above takes_ignored items [] = []
folders_above takes_ignored items (name ∷ above) = folders_to takes_ignored items above

-- what of the rules of a folder cannot be read
abbrev pub unread_rules_at : Bool → TreeItems → List (List ℕ) → List (List ℕ)
unread_rules_at takes_ignored items above = unread_rules (room_after takes_ignored (folders_above takes_ignored items above)) items
    (with_slashes above) (rule_names_at items above)

-- the same of the folders from `/` down to this one
abbrev pub unread_rules_to : Bool → TreeItems → List (List ℕ) → List (List ℕ)
unread_rules_to takes_ignored items [] = unread_rules_at takes_ignored items []
unread_rules_to takes_ignored items (name ∷ above) =
    unread_rules_to takes_ignored items above ++ unread_rules_at takes_ignored items (name ∷ above)

-- what cannot be read of a folder: the folder, and its entries
abbrev pub unread_folder : Settings → TreeItems → List (List ℕ) → List (List ℕ)
unread_folder settings items above = only_if (is_unlisted (items (path_of above))) (path_of above)
    ++ unseen_entries (λ name is_folder. leaves_out settings items is_folder above name) items (with_slashes above)
    (names_listed (items (path_of above)))

abbrev pub is_folder : Item → Bool
is_folder (folder names unnamed) = true
is_folder _ = false

-- whether a search of a folder opens the folder at a path below it
abbrev pub opens : Settings → TreeItems → List (List ℕ) → List (List ℕ) → Bool
opens settings items start [] = true
opens settings items start (name ∷ path) =
    (is_taken settings items true start name && is_folder (items (path_of (name ∷ start)))) && opens settings items (name ∷ start) path

-- the path cannot be read of a folder that a search of `start` opens: its rules, the folder, and its entries
abbrev pub IsUnreadFrom : Settings → TreeItems → List (List ℕ) → List ℕ → Type 0
IsUnreadFrom settings items start text = (path : List (List ℕ)) × (opens settings items start path ≡ true)
    × (is_among (unread_rules_at settings.takes_ignored items (down start path) ++ unread_folder settings items (down start path)) text ≡ true)

-- The path cannot be read by a search of the folder `start`, whose elements are given from `/` down: it is a file that the rules
-- of a folder from `/` down to it come from, or cannot be read of a folder that the search opens.
abbrev pub IsUnreadable : Settings → TreeItems → List (List ℕ) → List ℕ → Type 0
IsUnreadable settings items start text =
    (is_among (unread_rules_to settings.takes_ignored items (reverse start)) text ≡ true)
    ⊎ IsUnreadFrom settings items (reverse start) text
