-- Which items a search of a project has, one after another, and the names that they are printed with.
use Rattle.std.specs.Prelude.{ℕ, ◌≡◌, ◌⊎◌, Bool, true, false, not, ◌&&◌, ◌||◌, if◌then◌else◌, List, [], ◌∷◌, ◌++◌, map, length, Option, Some, None, IfSome, is_none, codes, bytes_eq}
use Rattle.std.specs.Path.{slash}
use Rattle.cs_tree.specs.Snapshot.{Item, folder, file, cut, other, bad}
use Rattle.cs_tree.specs.StreamModels.{SourceModel, ends, fails}
use Rattle.cs_tree.specs.Clean.{absolute, clean_path}
use Rattle.cs_tree.specs.Cleaning.{clean_fault}
use Rattle.cs_tree.specs.PathParts.{texts}
use Rattle.cs_listing.specs.Choices.{Settings, within_depth}
use Rattle.cs_listing.specs.Listing.{TreeItems, is_found}
use Rattle.cs_listing.specs.Models.{chosen_in}
use Rattle.cs_listing.specs.PathNames.{names_along}
use Rattle.cs_listing.specs.Walk.{TakesFirst, path_text}
use Rattle.cs_listing.specs.Listed.{AreListed}
use Rattle.cs_project.specs.Names.{name_below, prefix_of, with_slash}
use Rattle.cs_project.specs.Searched.{NamedItem}
use Rattle.cs_project.specs.declared.scope.Scope.{Scope}

-- ---- what is at a path

abbrev pub is_there : Item → Bool
is_there (bad fault) = false
is_there _ = true

abbrev pub is_folder : Item → Bool
is_folder (folder names unnamed) = true
is_folder _ = false

-- A folder, or a link to one: the second item is what it leads to.
abbrev pub is_entered : Item → Item → Bool
is_entered (folder names unnamed) entered = true
is_entered other entered = is_folder entered
is_entered _ entered = false

-- Whether a path leads to a folder. A link is followed where a slash stands after it.
abbrev pub leads_to_folder : TreeItems → List ℕ → Bool
leads_to_folder items path = is_entered (items path) (items (path ++ slash ∷ []))

-- ---- the standard input

-- whether a word is `-`, which is no path, but names the input
abbrev pub is_input : List ℕ → Bool
is_input word = bytes_eq word (codes "-")

-- The bytes that a source gives, and how they end.
abbrev pub source_item : SourceModel → Item
source_item source = elim source.ending [ ends ↦ file source.bytes | fails ↦ cut source.bytes ]

abbrev pub no_bytes : Item
no_bytes = file []

-- It is read once: after that it has no bytes.
abbrev pub left_if : Bool → Item → Item
left_if is_read input = if is_read then no_bytes else input

-- what is left of it to a word, if it is modelled
abbrev pub unread : Bool → Option SourceModel → Option Item
unread true model = Some no_bytes
unread false (Some source) = Some (source_item source)
unread false None = None

-- This holds of the input, if it is modelled.
abbrev pub InInput : Option SourceModel → (Item → Type 0) → Type 0
InInput model P = IfSome (unread false model) P

-- what words leave of it, one after another
abbrev pub left_by : List (List ℕ) → Item → Item
left_by [] input = input
left_by (word ∷ words) input = left_by words (left_if (is_input word) input)

-- ---- the paths of words

-- Whether cleaning joins a name to a path as the system does: `..` follows a folder.
abbrev pub may_clean : TreeItems → List ℕ → List ℕ → Bool
may_clean items path name = (not (bytes_eq name (codes "..")) || is_folder (items path)) && is_none (clean_fault path name)

-- the same of names, one after another
abbrev pub is_straight : TreeItems → List ℕ → List (List ℕ) → Bool
is_straight items path [] = true
is_straight items path (name ∷ names) = may_clean items path name && is_straight items (clean_path path name) names

-- The path that a word leads to. After a link, `..` leads to the folder of what the link leads to.
abbrev pub path_in : TreeItems → List ℕ → List ℕ → List ℕ
path_in items here word =
    let names = names_along (absolute here word) in
    if is_straight items (slash ∷ []) names then clean_path here word else path_text names

-- whether a word names a folder
abbrev pub names_folder : TreeItems → List ℕ → List ℕ → Bool
names_folder items here word =
    not (is_input word) && (is_none (clean_fault here word) && leads_to_folder items (path_in items here word))

-- The first of some paths, in their order: each is the first of those that are left.
abbrev pub GivesSome : (List (List ℕ) → Bool) → List (List (List ℕ)) → Type 0
GivesSome left [] = Unit {0}
GivesSome left (path ∷ paths) = (later : List (List ℕ) → Bool) × TakesFirst left later path × GivesSome later paths

module _ (items : TreeItems) (settings : Settings) where
  -- the file at a path below a folder; a word names the folder, and begins the name
  abbrev pub file_below : List ℕ → List ℕ → List ℕ → NamedItem
  file_below start word path = (name_below (with_slash start) (prefix_of word) path, items path, false)

  -- The files that a search of a folder lists, in the order of their paths.
  abbrev pub AreFilesBelow : List ℕ → List ℕ → List NamedItem → Type 0
  AreFilesBelow start word named = (paths : List (List ℕ))
      × AreListed (within_depth settings (length (names_along start))) items (names_along start) paths
      × (named ≡ map (file_below start word) paths)

  -- one of these files
  abbrev pub IsFileBelow : List ℕ → List ℕ → NamedItem → Type 0
  IsFileBelow start word one = (path : List (List ℕ)) × (one ≡ file_below start word (path_text path))
      × (is_found (within_depth settings (length (names_along start))) items (names_along start) path ≡ true)

  -- The first of the files that a search of a folder lists.
  abbrev pub AreFirstBelow : List ℕ → List ℕ → List NamedItem → Type 0
  AreFirstBelow start word named = (paths : List (List (List ℕ)))
      × GivesSome (is_found (within_depth settings (length (names_along start))) items (names_along start)) paths
      × (named ≡ map (file_below start word) (map path_text paths))

  -- all files below a folder, or the item at a path that leads to none
  abbrev pub AreAt : Bool → List ℕ → List ℕ → List NamedItem → Type 0
  AreAt true path word named = AreFilesBelow path word named
  AreAt false path word named = named ≡ (word, items path, true) ∷ []

  -- the first of these
  abbrev pub AreFirstAt : Bool → List ℕ → List ℕ → List NamedItem → Type 0
  AreFirstAt true path word named = AreFirstBelow path word named
  AreFirstAt false path word named = named ≡ (word, items path, true) ∷ []

  -- one of these
  abbrev pub IsAt : Bool → List ℕ → List ℕ → NamedItem → Type 0
  IsAt true path word one = IsFileBelow path word one
  IsAt false path word one = one ≡ (word, items path, true)

  module _ (here : List ℕ) where
    -- The path of a word, at which something is, and whether it leads to a folder. This holds of both.
    abbrev pub ForPath : List ℕ → (Bool → List ℕ → Type 0) → Type 0
    ForPath word P =
        let path = path_in items here word in
        (clean_fault here word ≡ None) × (is_there (items path) ≡ true) × P (leads_to_folder items path) path

    -- what is at the path of a word
    abbrev pub AreAtPath : List ℕ → List NamedItem → Type 0
    AreAtPath word named = ForPath word (λ leads path. AreAt leads path word named)

    -- one of these
    abbrev pub IsAtPath : List ℕ → NamedItem → Type 0
    IsAtPath word one = ForPath word (λ leads path. IsAt leads path word one)

    -- What is at the path of a word, which may be nothing.
    abbrev pub AreThereAt : List ℕ → List NamedItem → Type 0
    AreThereAt word named = AreAtPath word named
        ⊎ ((clean_fault here word ≡ None → is_there (items (path_in items here word)) ≡ false) × (named ≡ []))

    -- the first of what is at the path of a word, or nothing
    abbrev pub AreFirstAtPath : List ℕ → List NamedItem → Type 0
    AreFirstAtPath word named = ForPath word (λ leads path. AreFirstAt leads path word named) ⊎ (named ≡ [])

    -- what a word names: the input, or what is at its path
    abbrev pub AreNamedIf : Bool → Item → List ℕ → List NamedItem → Type 0
    AreNamedIf true input word named = named ≡ (word, input, true) ∷ []
    AreNamedIf false input word named = AreAtPath word named

    abbrev pub AreNamed : Item → List ℕ → List NamedItem → Type 0
    AreNamed input word named = AreNamedIf (is_input word) input word named

    -- What a word names, which may be nothing.
    abbrev pub AreThereIf : Bool → Item → List ℕ → List NamedItem → Type 0
    AreThereIf true input word named = named ≡ (word, input, true) ∷ []
    AreThereIf false input word named = AreThereAt word named

    abbrev pub AreThere : Item → List ℕ → List NamedItem → Type 0
    AreThere input word named = AreThereIf (is_input word) input word named

    -- the first of what a word names, or nothing
    abbrev pub AreFirstIf : Bool → Item → List ℕ → List NamedItem → Type 0
    AreFirstIf true input word named = named ≡ (word, input, true) ∷ []
    AreFirstIf false input word named = AreFirstAtPath word named

    abbrev pub AreFirstNamed : Item → List ℕ → List NamedItem → Type 0
    AreFirstNamed input word named = AreFirstIf (is_input word) input word named

    -- one of what a word names
    abbrev pub IsNamedIf : Bool → Item → List ℕ → NamedItem → Type 0
    IsNamedIf true input word one = one ≡ (word, input, true)
    IsNamedIf false input word one = IsAtPath word one

    abbrev pub IsNamed : Item → List ℕ → NamedItem → Type 0
    IsNamed input word one = IsNamedIf (is_input word) input word one

    -- one of what words name
    abbrev pub IsAnyNamed : Item → List (List ℕ) → NamedItem → Type 0
    IsAnyNamed input words one = (before : List (List ℕ)) × (word : List ℕ) × (after : List (List ℕ))
        × (words ≡ before ++ word ∷ after) × IsNamed (left_by before input) word one

    -- what words name, one after another
    abbrev pub AreAllNamed : Item → List (List ℕ) → List NamedItem → Type 0
    AreAllNamed input [] named = named ≡ []
    AreAllNamed input (word ∷ words) named = (first rest : List NamedItem) × (named ≡ first ++ rest)
        × AreNamed input word first × AreAllNamed (left_if (is_input word) input) words rest

    -- the same, where a word may name nothing
    abbrev pub AreAllThere : Item → List (List ℕ) → List NamedItem → Type 0
    AreAllThere input [] named = named ≡ []
    AreAllThere input (word ∷ words) named = (first rest : List NamedItem) × (named ≡ first ++ rest)
        × AreThere input word first × AreAllThere (left_if (is_input word) input) words rest

    -- the first of what words name, one after another
    abbrev pub AreFirstOfAll : Item → List (List ℕ) → List NamedItem → Type 0
    AreFirstOfAll input [] named = named ≡ []
    AreFirstOfAll input (word ∷ words) named = AreFirstNamed input word named
        ⊎ ((first rest : List NamedItem) × (named ≡ first ++ rest)
        × AreThere input word first × AreFirstOfAll (left_if (is_input word) input) words rest)

    -- without words the files below the current folder
    abbrev pub AreMeant : Item → List (List ℕ) → List NamedItem → Type 0
    AreMeant input [] named = AreFilesBelow here [] named
    AreMeant input (word ∷ words) named = AreAllNamed input (word ∷ words) named

    -- the first of these
    abbrev pub AreFirstMeant : Item → List (List ℕ) → List NamedItem → Type 0
    AreFirstMeant input [] named = AreFirstBelow here [] named
    AreFirstMeant input (word ∷ words) named = AreFirstOfAll input (word ∷ words) named

    -- one of these
    abbrev pub IsMeant : Item → List (List ℕ) → NamedItem → Type 0
    IsMeant input [] one = IsFileBelow here [] one
    IsMeant input (word ∷ words) one = IsAnyNamed input (word ∷ words) one

-- The items of a scope. The folder of the scope is the current one.
abbrev pub AreItemsOf : TreeItems → Item → Scope → List NamedItem → Type 0
AreItemsOf items input scope named =
    AreMeant items (chosen_in scope.choices.now) scope.folder.now input (texts scope.words.now) named

-- The first of the items of a scope, in their order. A word that names nothing has none.
abbrev pub AreFirstItemsOf : TreeItems → Item → Scope → List NamedItem → Type 0
AreFirstItemsOf items input scope named =
    AreFirstMeant items (chosen_in scope.choices.now) scope.folder.now input (texts scope.words.now) named

-- one of the items of a scope
abbrev pub IsItemOf : TreeItems → Item → Scope → NamedItem → Type 0
IsItemOf items input scope one =
    IsMeant items (chosen_in scope.choices.now) scope.folder.now input (texts scope.words.now) one

-- Whether there may be more than one item: not where a single word names no folder.
abbrev pub are_several : TreeItems → List ℕ → List (List ℕ) → Bool
are_several items here [] = true
are_several items here (word ∷ []) = names_folder items here word
are_several items here (word ∷ next ∷ words) = true

-- This holds of the items, which are known.
abbrev pub ForItems : (List NamedItem → Type 0) → (List NamedItem → Type 0) → Type 0
ForItems AreThese P = (named : List NamedItem) × AreThese named × P named
