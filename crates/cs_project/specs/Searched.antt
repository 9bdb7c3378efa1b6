-- What a search prints for items one after another.
use Rattle.std.specs.Prelude.{ℕ, ◌≡◌, ◌⊎◌, ◌^◌, Bool, true, false, ◌||◌, nat_lt, List, [], ◌∷◌, ◌++◌, length}
use Rattle.std.specs.List.{flat_map}
use Rattle.cs_tree.specs.Snapshot.{Item, file, cut}
use Rattle.cs_lines.specs.Findings.{Finding, IsFoundBy}
use Rattle.cs_tree.specs.SinkOutputs.{Begins}
use Rattle.cs_lines.specs.Project.{ItemShown, nothing_shown, text_shown}
use Rattle.cs_lines.specs.Shown.{between, following}
use Rattle.cs_lines.specs.declared.binary.BinaryFiles.{BinaryFiles}
use Rattle.cs_lines.specs.declared.binary.BinaryFiles.TheVariants.{WithoutMatch, Binary, Text}
use Rattle.cs_lines.specs.declared.form.ShowOptions.{ShowOptions}
use Rattle.cs_project.specs.declared.file_search.FileSearch.{FileSearch}

-- An item, after the name that it is printed with, and whether a word names it.
abbrev pub NamedItem : Type 0
NamedItem = List ℕ × Item × Bool

-- what a binary file is searched as: with -a as text, and else only if a word names it
abbrev pub binary_as : Bool → Bool → BinaryFiles
binary_as true named = Text
binary_as false true = Binary
binary_as false false = WithoutMatch

module _ (options : ShowOptions) (finding : Finding) where
  -- Only a file prints anything.
  abbrev pub item_groups : BinaryFiles → List ℕ → Item → ItemShown
  item_groups binaries name (file text) = text_shown options finding name binaries text
  item_groups binaries name (cut text) = text_shown options finding name binaries text
  item_groups binaries name _ = nothing_shown

module _ (options : ShowOptions) (binary : Bool) (finding : Finding) where
  abbrev pub shown_of : NamedItem → ItemShown
  shown_of item = item_groups options finding (binary_as binary item.2) item.0 item.1

  -- What is printed for items one after another. A line of an earlier item is marked, or none.
  abbrev pub items_printed : Bool → List NamedItem → List ℕ
  items_printed marked [] = []
  items_printed marked (item ∷ items) =
      following (between options) marked (shown_of item).groups ++ items_printed (marked || (shown_of item).marked) items

  -- a line of an item is marked, or was before
  abbrev pub are_marked : Bool → List NamedItem → Bool
  are_marked marked [] = marked
  are_marked marked (item ∷ items) = are_marked (marked || (shown_of item).marked) items

-- a line of the item is marked
abbrev pub IsMarked : FileSearch → NamedItem → Type 0
IsMarked search one = (finding : Finding) → IsFoundBy finding search.search →
    (shown_of search.options search.binary finding one).marked ≡ true

-- whether an item may not be read to its end: its reads fail, or it has more than 2^62 bytes
abbrev pub is_cut : Item → Bool
is_cut (file text) = nat_lt (2 ^ 62) (length text)
is_cut (cut text) = true
is_cut _ = false

module _ (options : ShowOptions) (binary : Bool) (finding : Finding) (cuts : Item → Bool) where
  -- What is printed for an item was printed, or, of one that may be cut, a beginning of it. A line of an earlier item is marked, or
  -- none; `next` says the same after this item.
  abbrev pub PrintsOne : NamedItem → Bool → Bool → List ℕ → List ℕ → Type 0
  PrintsOne item marked next given later =
      let shown = shown_of options binary finding item in
      let all = given ++ following (between options) marked shown.groups in
      let found = marked || shown.marked in
      ((later ≡ all) × (next ≡ found)) ⊎ ((cuts item.1 ≡ true) × Begins later all × ((next ≡ marked) ⊎ (next ≡ found)))

  -- the same of items, one after another
  abbrev pub PrintsEach : List NamedItem → Bool → Bool → List ℕ → List ℕ → Type 0
  PrintsEach [] marked next given later = (next ≡ marked) × (later ≡ given)
  PrintsEach (item ∷ items) marked next given later = (middle : List ℕ) × (found : Bool)
      × PrintsOne item marked found given middle × PrintsEach items found next middle later

  -- What was printed begins this.
  abbrev pub BeginsEach : List NamedItem → Bool → List ℕ → List ℕ → Type 0
  BeginsEach items marked given later = (all : List ℕ) × (next : Bool) × PrintsEach items marked next given all × Begins later all

-- the names of items, each with what ends it
abbrev pub names_printed : List ℕ → List NamedItem → List ℕ
names_printed end items = flat_map (λ item. item.0 ++ end) items

-- What was printed begins these names.
abbrev pub BeginsNames : List ℕ → List NamedItem → List ℕ → List ℕ → Type 0
BeginsNames end items given later = Begins later (given ++ names_printed end items)
