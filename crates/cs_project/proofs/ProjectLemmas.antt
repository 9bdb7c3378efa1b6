-- The search of a project.
use Rattle.std.proofs.Common.{◌≡◌, ◌≢◌, ℕ, Bool, true, false, ◌&&◌, ◌||◌, List, [], ◌∷◌, ◌++◌, Option, Some, None, Result, Ok, Err, IfOk, refl, sym, ap, ◌∙◌, arith}
use Rattle.std.proofs.lemmas.Bool.{false≢true}
use Rattle.cs_tree.specs.Snapshot.{Item, Snapshot, item_at, folder, file, cut, other, bad}
use Rattle.cs_tree.specs.StreamModels.{SourceModel, source_model}
use Rattle.cs_listing.specs.FolderReads.{InTree}
use Rattle.cs_listing.specs.Listing.{TreeItems}
use Rattle.cs_lines.specs.Findings.{Finding, has_stopped}
use Rattle.cs_lines.specs.Project.{searched_as, shown_as, status_by}
use Rattle.cs_lines.specs.declared.binary.BinaryFiles.{BinaryFiles}
use Rattle.cs_lines.specs.declared.binary.BinaryFiles.TheVariants.{WithoutMatch, Binary, Text}
use Rattle.cs_lines.specs.declared.form.Mode.TheVariants.{Names}
use Rattle.cs_lines.specs.declared.form.ShowOptions.{ShowOptions}
use Rattle.cs_project.specs.Projects.{FindsInProject, ListsProject, SearchesProject}
use Rattle.cs_project.specs.Scopes.{AreFirstItemsOf, AreItemsOf, ForItems, InInput, no_bytes}
use Rattle.cs_project.specs.Searched.{BeginsNames, NamedItem, names_printed, are_marked, binary_as, item_groups, shown_of}
use Rattle.cs_project.specs.Visits.{BeginsItems, IsStatusOf, ListsItems, SearchesItems, VisitsSome, is_done}
use Rattle.cs_project.specs.declared.file_search.FileSearch.{FileSearch}
use Rattle.cs_project.specs.declared.listing.NameListing.{NameListing}
use Rattle.cs_project.specs.declared.scope.Scope.{Scope}
use Rattle.cs_project.proofs.FoundLemmas.{item_of_first}
use Rattle.cs_project.proofs.ListedLemmas.{BeginsListing}
use Rattle.cs_project.proofs.ScopeLemmas.{of_nothing}
use Rattle.cs_project.proofs.TextLemmas.{shows_all}
use Rattle.cs_project.proofs.VisitorLemmas.{in_same}

-- what follows for the value of a success
pub if_ok : {A E : Type 0} {P Q : A → Type 0} (result : Result A E) → ((answer : A) → P answer → Q answer) → IfOk result P → IfOk result Q
if_ok (Ok answer) f p = f answer p
if_ok (Err fault) f p = tt

-- what a search of a scope says
abbrev pub SearchesScope : {A E : Type 0} → TreeItems → Item → Scope → FileSearch → FileSearch → List ℕ → List ℕ → Result A E → Type 0
SearchesScope items input scope old new given later result = VisitsSome BeginsItems SearchesItems is_done (AreFirstItemsOf items input scope)
    (λ named. new.reports.wrong ≡ false → AreItemsOf items input scope named) old new given later result

pub project_searched : {A : Type 0} (E : Type 0) (snapshot : Option Snapshot) (input : Item) (scope : Scope) (old new : FileSearch) (given later : List ℕ)
    (answer : A) → new.quick ≡ false →
    InTree snapshot (λ items. SearchesScope {E = E} items input scope old new given later (Ok answer)) →
    (status : ℕ) → IsStatusOf new status → InTree snapshot (λ items. SearchesProject items input scope old given later status)
project_searched E None input scope old new given later answer slow has status is = tt
project_searched E (Some tree) input scope old new given later answer slow has status is = λ differs.
    let says = is differs in (
      has.0,
      (has.3).1 (ap (λ q. q && new.marked) slow) says.0,
      λ finding found.
          let shown = shows_all old new has.0 given later says.0 says.1 ((has.3).0).0 finding found in
          (shown.0, says.2 ∙ ap (status_by false) shown.1),
    )

-- what was printed begins what is printed for the first items, also after an error
pub search_begun : {A E : Type 0} (snapshot : Option Snapshot) (input : Item) (scope : Scope) (old new : FileSearch) (given later : List ℕ)
    (result : Result A E) → InTree snapshot (λ items. SearchesScope items input scope old new given later result) →
    InTree snapshot (λ items. ForItems (AreFirstItemsOf items input scope) (λ named. BeginsItems old new named given later))
search_begun snapshot input scope old new given later result has = in_same snapshot snapshot
    (λ items. SearchesScope items input scope old new given later result)
    (λ items. ForItems (AreFirstItemsOf items input scope) (λ named. BeginsItems old new named given later)) refl
    (λ items some. (some.0, some.1, some.2)) has

-- ---- a search for names alone

module _ (options : ShowOptions) (finding : Finding) where
  abbrev by_name : ShowOptions
  by_name = record options { mode = Names }

  alike_as : (name bytes : List ℕ) (kind : BinaryFiles) →
      (shown_as by_name finding name kind bytes).marked ≡ (shown_as options finding name kind bytes).marked
  alike_as name bytes WithoutMatch = refl
  alike_as name bytes Binary = refl
  alike_as name bytes Text = refl

  alike_item : (binary : BinaryFiles) (name : List ℕ) (item : Item) →
      (item_groups by_name finding binary name item).marked ≡ (item_groups options finding binary name item).marked
  alike_item binaries name (folder names unnamed) = refl
  alike_item binaries name (file bytes) = alike_as name bytes (searched_as binaries bytes)
  alike_item binaries name (cut bytes) = alike_as name bytes (searched_as binaries bytes)
  alike_item binaries name other = refl
  alike_item binaries name (bad fault) = refl

  alike : (binary : Bool) (one : NamedItem) → (shown_of by_name binary finding one).marked ≡ (shown_of options binary finding one).marked
  alike binary one = alike_item (binary_as binary one.2) one.0 one.1

  all_alike : (binary marked : Bool) (items : List NamedItem) →
      are_marked by_name binary finding marked items ≡ are_marked options binary finding marked items
  all_alike binary marked [] = refl
  all_alike binary marked (one ∷ items) =
      ap (λ m. are_marked by_name binary finding (marked || m) items) (alike binary one)
      ∙ all_alike binary (marked || (shown_of options binary finding one).marked) items

-- the search as it begins
abbrev pub begun_by : FileSearch → ShowOptions → FileSearch
begun_by first options = record {
  options = options;
  binary = first.binary;
  search = first.search;
  buffer = first.buffer;
  quick = true;
  marked = false;
  reports = first.reports;
}

-- it has come to a marked line
pub found_one : {A : Type 0} (E : Type 0) (snapshot : Option Snapshot) (input : Item) (scope : Scope) (options : ShowOptions) (first new : FileSearch)
    (given later : List ℕ) (answer : A) →
    options ≡ record first.options { mode = Names } → new.marked ≡ true → has_stopped new.search ≡ false →
    InTree snapshot (λ items. SearchesScope {E = E} items input scope (begun_by first options) new given later (Ok answer)) →
    InTree snapshot (λ items. FindsInProject items input scope first 0)
found_one E None input scope options first new given later answer is marked running has = tt
found_one E (Some tree) input scope options first new given later answer is marked running has =
    let h = ((has.3).0).1 marked refl running in (
      λ _. (
        h.0,
        item_of_first (item_at tree) input scope has.0 has.1 h.0 h.1,
        λ finding found. sym (alike first.options finding first.binary h.0)
            ∙ ap (λ o. (shown_of o first.binary finding h.0).marked) (sym is) ∙ h.2 finding found,
      ),
      λ wrong. absurd (omega (arith, wrong)),
    )

and_false : (b : Bool) → (b && false) ≡ false
and_false true = refl
and_false false = refl

-- it has come to the end, or to a line with too many matches
pub found_none : {A : Type 0} (E : Type 0) (snapshot : Option Snapshot) (input : Item) (scope : Scope) (options : ShowOptions) (first new : FileSearch)
    (given later : List ℕ) (answer : A) →
    options ≡ record first.options { mode = Names } → (new.marked ≡ true → has_stopped new.search ≡ true) →
    InTree snapshot (λ items. SearchesScope {E = E} items input scope (begun_by first options) new given later (Ok answer)) →
    (status : ℕ) → IsStatusOf new status → InTree snapshot (λ items. FindsInProject items input scope first status)
found_none E None input scope options first new given later answer is ended has status says = tt
found_none E (Some tree) input scope options first new given later answer is ended has status says = by_mark new.marked refl
  where
    by_mark : (m : Bool) → new.marked ≡ m → FindsInProject (item_at tree) input scope first status
    by_mark true e = (
      λ zero. let all = says (λ two. absurd (omega (arith, zero, two))) in absurd (false≢true (sym all.1 ∙ ended e)),
      λ one. let all = says (λ two. absurd (omega (arith, one, two))) in absurd (omega (arith, one, all.2 ∙ ap (status_by false) e)),
    )
    by_mark false e = (
      λ zero. let all = says (λ two. absurd (omega (arith, zero, two))) in absurd (omega (arith, zero, all.2 ∙ ap (status_by false) e)),
      λ one.
          let all = says (λ two. absurd (omega (arith, one, two))) in (
            has.0,
            (has.3).1 (ap (λ m. new.quick && m) e ∙ and_false new.quick) all.0,
            λ finding found. sym (all_alike first.options finding first.binary false has.0)
                ∙ ap (λ o. are_marked o first.binary finding false has.0) (sym is)
                ∙ sym (shows_all (begun_by first options) new has.0 given later all.0 all.1 ((has.3).0).0 finding found).1 ∙ e,
          ),
    )

-- ---- a listing

-- what a listing of a scope says
abbrev pub ListsScope : {A E : Type 0} → TreeItems → Item → Scope → NameListing → NameListing → List ℕ → List ℕ → Result A E → Type 0
ListsScope items input scope old new given later result = VisitsSome BeginsListing ListsItems (λ listing. false) (AreFirstItemsOf items input scope)
    (λ named. new.reports.wrong ≡ false → AreItemsOf items input scope named) old new given later result

module _ (snapshot : Option Snapshot) (scope : Scope) (old new : NameListing) (given later : List ℕ) where
  -- of an input that has no bytes
  pub scope_listed : {A E : Type 0} (Known : Type 0) (model : Option SourceModel) (result : Result A E) → model ≡ Some (source_model [] false) →
      Known → InInput model (λ input. Known → InTree snapshot (λ items. ListsScope items input scope old new given later result)) →
      InTree snapshot (λ items. ListsScope items no_bytes scope old new given later result)
  scope_listed Known model result is known has =
      of_nothing (λ input. Known → InTree snapshot (λ items. ListsScope items input scope old new given later result)) model is has known

  pub project_begun : {A E : Type 0} (result : Result A E) →
      InTree snapshot (λ items. ListsScope items no_bytes scope old new given later result) →
      InTree snapshot (λ items. ForItems (AreFirstItemsOf items no_bytes scope) (λ named. BeginsNames old.end.now named given later))
  project_begun result has = in_same snapshot snapshot (λ items. ListsScope items no_bytes scope old new given later result)
      (λ items. ForItems (AreFirstItemsOf items no_bytes scope) (λ named. BeginsNames old.end.now named given later)) refl
      (λ items some. (some.0, some.1, some.2)) has

  pub project_listed : {A : Type 0} (E : Type 0) (answer : A) (status : ℕ) → status ≡ status_by new.reports.wrong true →
      InTree snapshot (λ items. ListsScope {E = E} items no_bytes scope old new given later (Ok answer)) →
      InTree snapshot (λ items. ListsProject items scope old.end.now given later status)
  project_listed E answer status is has = in_same snapshot snapshot
      (λ items. ListsScope {E = E} items no_bytes scope old new given later (Ok answer))
      (λ items. ListsProject items scope old.end.now given later status) refl
      (λ items some differs. by_wrong items new.reports.wrong refl differs some) has
    where
      by_wrong : (items : TreeItems) (wrong : Bool) → new.reports.wrong ≡ wrong → status ≢ 2 →
          ListsScope {E = E} items no_bytes scope old new given later (Ok answer) →
          (status ≡ 0) × ForItems (AreItemsOf items no_bytes scope) (λ named. later ≡ given ++ names_printed old.end.now named)
      by_wrong items true e differs some = absurd (differs (is ∙ ap (λ w. status_by w true) e))
      by_wrong items false e differs some = (is ∙ ap (λ w. status_by w true) e, (some.0, (some.3).1 refl e, (some.3).0))
