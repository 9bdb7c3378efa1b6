-- What the functions behind a search of folders promise each other.
use Rattle.std.specs.Prelude.{ℕ, ◌≡◌, Bool, true, false, List, map, length, string_bytes, String, Option, Some, None}
use Rattle.std.specs.declared.alloc.Global.{Global}
use Rattle.cs_tree.specs.Snapshot.{Snapshot}
use Rattle.cs_tree.specs.Clean.{clean_path}
use Rattle.cs_tree.specs.Cleaning.{clean_fault}
use Rattle.cs_listing.specs.Choices.{Settings, within_depth}
use Rattle.cs_listing.specs.FolderReads.{InTree}
use Rattle.cs_listing.specs.Listing.{TreeItems}
use Rattle.cs_listing.specs.PathNames.{names_along}
use Rattle.cs_listing.specs.Stamps.{AreStamped, Stamps}
use Rattle.cs_listing.specs.Walk.{Begins, GivesAll, settings_in, IsWalkIn, TakesFirst, is_left, path_text}
use Rattle.cs_project.specs.Names.{name_of, prefix_of, with_slash}
use Rattle.cs_project.specs.Scopes.{GivesSome, is_there, leads_to_folder, may_clean, path_in}
use Rattle.cs_project.specs.Searched.{NamedItem}
use Rattle.cs_project.specs.declared.names.NameForm.{NameForm}
use Rattle.cs_project.specs.declared.places.PathKind.{PathKind}
use Rattle.cs_project.specs.declared.places.PathKind.TheVariants as kind
use Rattle.cs_project.specs.declared.walks.FolderWalk.{FolderWalk}
use Rattle.cs_project.specs.declared.listing.NameListing.{NameListing}
use Rattle.cs_project.specs.declared.walks.NamedPath.{NamedPath}

-- The first of the files that are left is given, with its name, or the end if none is left.
abbrev pub GivesNamed : NameForm → (List (List ℕ) → Bool) → (List (List ℕ) → Bool) → Option NamedPath → Type 0
GivesNamed form old new None = (path : List (List ℕ)) → old path ≡ false
GivesNamed form old new (Some file) = (path : List (List ℕ)) × (string_bytes file.path ≡ path_text path)
    × (string_bytes file.name ≡ name_of form (string_bytes file.path)) × TakesFirst old new path

abbrev pub GivesFile : TreeItems → FolderWalk → FolderWalk → Option NamedPath → Type 0
GivesFile items old new file =
    IsWalkIn items new.walk × GivesNamed old.form (is_left old.walk items) (is_left new.walk items) file

-- A file that is given has the stamp of its path, and so will the others.
abbrev pub GivesStampedFile : Stamps → FolderWalk → Option NamedPath → Type 0
GivesStampedFile stamps new None = AreStamped stamps new.walk
GivesStampedFile stamps new (Some file) = AreStamped stamps new.walk × (file.stamp ≡ stamps (string_bytes file.path))

-- the item at a path of the tree, with its name
abbrev pub named_item : TreeItems → NameForm → List (List ℕ) → NamedItem
named_item items form path = (name_of form (path_text path), items (path_text path), false)

-- All files that are left to the walk, in their order.
abbrev pub AreLeft : TreeItems → FolderWalk → List NamedItem → Type 0
AreLeft items walk named = (paths : List (List (List ℕ))) × GivesAll (is_left walk.walk items) paths
    × (named ≡ map (named_item items walk.form) paths)

-- the first of them
abbrev pub AreFirstLeft : TreeItems → FolderWalk → List NamedItem → Type 0
AreFirstLeft items walk named = (paths : List (List (List ℕ))) × GivesSome (is_left walk.walk items) paths
    × (named ≡ map (named_item items walk.form) paths)

-- the walk of a folder, whose files are named after the word that names it
pub record WalksFolder (snapshot : Option Snapshot) (settings : Settings) (folder word : List ℕ) (walk : FolderWalk) : Type 0 where
  pub begins : InTree snapshot (λ items. Begins items (names_along folder) walk.walk)
  pub chosen : settings_in walk.walk ≡ within_depth settings (length (names_along folder))
  pub stem : string_bytes walk.form.stem ≡ with_slash folder
  pub prefix : string_bytes walk.form.prefix ≡ prefix_of word

-- what is at a path
abbrev pub IsKindAt : TreeItems → List ℕ → PathKind → Type 0
IsKindAt items path kind.Folder = leads_to_folder items path ≡ true
IsKindAt items path kind.File = (is_there (items path) ≡ true) × (leads_to_folder items path ≡ false)
IsKindAt items path (kind.Unread fault) = is_there (items path) ≡ false

abbrev pub IsPathOf : TreeItems → List ℕ → List ℕ → List ℕ → PathKind → Type 0
IsPathOf items here word path kind =
    (clean_fault here word ≡ None) × (path ≡ path_in items here word) × IsKindAt items path kind

-- the path after one more name, or none where cleaning leads elsewhere
abbrev pub StepsTo : TreeItems → List ℕ → List ℕ → Option (String Global) → Type 0
StepsTo items path name None = may_clean items path name ≡ false
StepsTo items path name (Some next) = (may_clean items path name ≡ true) × (string_bytes next ≡ clean_path path name)

-- the path that a word leads to, and what is there
abbrev pub IsWordPath : TreeItems → List ℕ → List ℕ → List ℕ → PathKind → Type 0
IsWordPath items here word path kind.Folder = IsPathOf items here word path kind.Folder
IsWordPath items here word path kind.File = IsPathOf items here word path kind.File
IsWordPath items here word path (kind.Unread fault) =
    clean_fault here word ≡ None → is_there (items (path_in items here word)) ≡ false

-- the names end alike, and an error that was reported stays reported
abbrev pub KeepsListing : NameListing → NameListing → Type 0
KeepsListing old new = (new.end ≡ old.end) × (new.reports.wrong ≡ false → old.reports.wrong ≡ false)
