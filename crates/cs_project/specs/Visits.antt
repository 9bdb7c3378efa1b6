-- What a walk promises of the items that it visits, whatever is done with them, and what a search promises of them.
use Rattle.std.specs.Prelude.{ℕ, ◌≡◌, ◌≢◌, ◌⊎◌, Bool, true, false, ◌&&◌, List, [], ◌∷◌, ◌++◌, Option, IfSome, OnOk, Result, string_bytes}
use Rattle.cs_tree.specs.Snapshot.{Item, Snapshot, item_at}
use Rattle.cs_lines.specs.Findings.{Finding, IsFoundBy, KeepsSearch, StopsBySpans, has_stopped}
use Rattle.cs_lines.specs.Project.{status_by}
use Rattle.cs_listing.specs.Listing.{TreeItems}
use Rattle.cs_listing.specs.Stamps.{Stamps}
use Rattle.cs_project.specs.Knowledge.{SearchedTree}
use Rattle.cs_project.specs.Searched.{BeginsEach, IsMarked, NamedItem, PrintsEach, is_cut, names_printed}
use Rattle.cs_project.specs.declared.file_search.FileSearch.{FileSearch}
use Rattle.cs_project.specs.declared.listing.NameListing.{NameListing}
use Rattle.cs_project.specs.declared.walks.NamedPath.{NamedPath}

-- what is known holds for the searches that a visitor asks it for
abbrev pub KnowsFor : {V : Type 0} → (V → TreeItems → Stamps → SearchedTree → Type 0) → (SearchedTree → Type 0) →
    (Snapshot → Stamps) → Option Snapshot → V → Type 0
KnowsFor Asks Holds stamps snapshot visitor =
    IfSome snapshot (λ tree. (searched : SearchedTree) → Asks visitor (item_at tree) (stamps tree) searched → Holds searched)

-- the item of a file that a walk met
abbrev pub met_item : TreeItems → NamedPath → NamedItem
met_item items file = (string_bytes file.name, items (string_bytes file.path), false)

-- The first items were visited, with what was printed a beginning of what is printed for them. Without an error that is printed,
-- and they are all, unless the visits ended early.
module _ {V : Type 0} (Begins Visits : V → V → List NamedItem → List ℕ → List ℕ → Type 0) (is_done : V → Bool) where
  abbrev pub VisitsSome : {A E : Type 0} → (List NamedItem → Type 0) → (List NamedItem → Type 0) → V → V → List ℕ → List ℕ → Result A E → Type 0
  VisitsSome AreFirst AreAll old new given later result = (named : List NamedItem) × AreFirst named
      × Begins old new named given later
      × OnOk result (Visits old new named given later × (is_done new ≡ false → AreAll named))

-- These items are what is there; if no error was reported, they are what was asked for.
abbrev pub AreAnswered : {V : Type 0} → (V → Bool) → V → (List NamedItem → Type 0) → (List NamedItem → Type 0) → List NamedItem → Type 0
AreAnswered is_wrong new AreThere AreAsked named = AreThere named × (is_wrong new ≡ false → AreAsked named)

-- one item was visited
module _ {V : Type 0} (Begins Visits : V → V → List NamedItem → List ℕ → List ℕ → Type 0) where
  abbrev pub VisitsOne : {A E : Type 0} → V → V → NamedItem → List ℕ → List ℕ → Result A E → Type 0
  VisitsOne old new item given later result =
      Begins old new (item ∷ []) given later × OnOk result (Visits old new (item ∷ []) given later)

-- Visits that follow visits are visits of both.
pub record Follows {V : Type 0} (Asks : V → TreeItems → Stamps → SearchedTree → Type 0) (is_wrong : V → Bool) (Stays : V → V → Type 0)
    (Begins Visits : V → V → List NamedItem → List ℕ → List ℕ → Type 0) : Type 0 where
  pub itself : (x : V) → Stays x x
  pub again : (x y z : V) → Stays x y → Stays y z → Stays x z
  pub right : (x y : V) → Stays x y → is_wrong y ≡ false → is_wrong x ≡ false
  pub asked : (x y : V) → Stays x y → (items : TreeItems) → (stamps : Stamps) → (searched : SearchedTree) →
      Asks y items stamps searched → Asks x items stamps searched
  pub none : (x : V) → (bytes : List ℕ) → Begins x x [] bytes bytes × Visits x x [] bytes bytes
  pub visits : (x y z : V) → (items more : List NamedItem) → (given middle later : List ℕ) → Stays x y → Stays y z →
      Visits x y items given middle → Visits y z more middle later → Visits x z (items ++ more) given later
  pub begins : (x y z : V) → (items more : List NamedItem) → (given middle later : List ℕ) → Stays x y → Stays y z →
      Begins x y items given middle → Visits x y items given middle → Begins y z more middle later →
      Begins x z (items ++ more) given later

-- ---- a search

-- whether the search may have cut an item: then an error was reported
abbrev pub may_cut : FileSearch → Item → Bool
may_cut search item = search.reports.wrong && is_cut item

-- The items were searched, unless the matches of a line were not all found.
abbrev pub ShowsItems : FileSearch → FileSearch → List NamedItem → List ℕ → List ℕ → Type 0
ShowsItems old new items given later = has_stopped new.search ≡ false → (finding : Finding) → IsFoundBy finding old.search →
    PrintsEach old.options old.binary finding (may_cut new) items old.marked new.marked given later

-- What was printed begins what is printed for the items, also after an error, unless the matches of a line were not all found.
abbrev pub BeginsItems : FileSearch → FileSearch → List NamedItem → List ℕ → List ℕ → Type 0
BeginsItems old new items given later = has_stopped new.search ≡ false → (finding : Finding) → IsFoundBy finding old.search →
    BeginsEach old.options old.binary finding (may_cut new) items old.marked given later

-- The search ends at the first marked line, and has come to one.
abbrev pub is_done : FileSearch → Bool
is_done search = search.quick && search.marked

-- The search is for the same, in the same form, and an error that was reported stays reported. No line uses up its budget if the form
-- shows no matches.
abbrev pub KeepsForm : FileSearch → FileSearch → Type 0
KeepsForm old new = (new.options ≡ old.options) × (new.binary ≡ old.binary) × KeepsSearch old.search new.search
    × (new.reports.wrong ≡ false → old.reports.wrong ≡ false) × (new.quick ≡ old.quick)
    × StopsBySpans old.options.form old.search new.search

-- If a line is marked, and none was before, it is one of such an item, even if an error was reported.
abbrev pub FindsAmong : FileSearch → FileSearch → (NamedItem → Type 0) → Type 0
FindsAmong old new IsOne = new.marked ≡ true → old.marked ≡ false → has_stopped new.search ≡ false →
    (one : NamedItem) × IsOne one × IsMarked old one

abbrev pub IsAmong : NamedItem → List NamedItem → Type 0
IsAmong one [] = ⊥
IsAmong one (item ∷ items) = (one ≡ item) ⊎ IsAmong one items

-- What is printed for the items was printed, and a marked line is one of theirs.
abbrev pub SearchesItems : FileSearch → FileSearch → List NamedItem → List ℕ → List ℕ → Type 0
SearchesItems old new items given later = ShowsItems old new items given later × FindsAmong old new (λ one. IsAmong one items)

-- The status is 2, or there was no error, all matches were found, and it says whether a line is marked.
abbrev pub IsStatusOf : FileSearch → ℕ → Type 0
IsStatusOf search status = status ≢ 2 → (search.reports.wrong ≡ false) × (has_stopped search.search ≡ false)
    × (status ≡ status_by false search.marked)

-- a search asks what is known for each of its findings
abbrev pub AsksFor : FileSearch → TreeItems → Stamps → SearchedTree → Type 0
AsksFor search items stamps searched = (finding : Finding) × IsFoundBy finding search.search × (searched ≡ record {
  options = search.options;
  binary = search.binary;
  finding = finding;
  items = items;
  stamps = stamps;
})

-- ---- a listing

abbrev pub ListsItems : NameListing → NameListing → List NamedItem → List ℕ → List ℕ → Type 0
ListsItems old new items given later = later ≡ given ++ names_printed old.end.now items
