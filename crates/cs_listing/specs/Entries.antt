-- The entries of a folder, as the code has them.
use denote.Ref.{Bor}
use Rattle.std.specs.Prelude.{ℕ, ◌≡◌, Bool, true, List, Option, Some, None, Vec, String, map, reverse, string_bytes}
use Rattle.cs_tree.specs.Elements.{is_among, is_element}
use Rattle.cs_listing.specs.Layers.{is_left_out}
use Rattle.cs_listing.specs.Models.{names, settings_of, folders_in}
use Rattle.cs_listing.specs.FolderReads.{key_of}
use Rattle.cs_listing.specs.declared.git_folders.FoundRepository.{FoundRepository}
use Rattle.cs_listing.specs.declared.git_folders.GitFolders.{GitFolders}
use Rattle.cs_listing.specs.declared.entries.Entry.{Entry}
use Rattle.cs_listing.specs.declared.entries.FolderNames.{FolderNames}
use Rattle.cs_listing.specs.declared.entries.Taken.{Taken}
use Rattle.cs_listing.specs.declared.layers.Layers.{Layers}

abbrev pub taken_folder : Taken → Bool
taken_folder taken = taken.is_folder

abbrev pub entry_key : Entry → List ℕ
entry_key entry = string_bytes entry.key

-- the names by which the rules of a folder are looked up: those that it lists, or where it cannot be listed those that are there
abbrev pub names_unless : {A B : Type 0} → Option (Vec (String A) B) → List (List ℕ) → List (List ℕ)
names_unless None listed = listed
names_unless (Some there) listed = map string_bytes there.items

abbrev pub names_for_rules : FolderNames → List (List ℕ)
names_for_rules listed = names_unless listed.there (map string_bytes listed.names.items)

-- the git folder of a repository, and the folder that its worktrees share
abbrev pub repository_folders : GitFolders → List ℕ × List ℕ
repository_folders folders = (string_bytes folders.own, string_bytes folders.shared)

-- the root of a repository, and its git folder
abbrev pub repository_found : FoundRepository → List ℕ × List ℕ
repository_found found = (string_bytes found.root, string_bytes found.git)

-- the keys of entries that are popped from the end
abbrev pub entry_keys : List Entry → List (List ℕ)
entry_keys entries = map entry_key (reverse entries)

-- whether the layers leave out the path, as a folder or as a file
abbrev pub left_out_by : Layers → List (Bor (List ℕ)) → Bool → Bool
left_out_by layers path is_folder =
    is_left_out (settings_of layers) is_folder (folders_in layers) (names path)

-- the same keys, in whatever order
abbrev pub AreKeysOf : List (List ℕ) → List (List ℕ) → Type 0
AreKeysOf keys others = (key : List ℕ) → is_among keys key ≡ is_among others key

-- the name of an entry, whether it is a folder or a file
abbrev pub IsNameOf : List ℕ → List ℕ → Type 0
IsNameOf key name = (is_folder : Bool) (own : List ℕ) → key ≡ key_of is_folder own → is_element own ≡ true → name ≡ own
