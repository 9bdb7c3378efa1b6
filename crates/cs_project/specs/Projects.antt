-- What a search of a project prints, and its exit status.
use Rattle.std.specs.Prelude.{ℕ, ◌≡◌, ◌≢◌, false, List, ◌++◌}
use Rattle.cs_tree.specs.Snapshot.{Item}
use Rattle.cs_listing.specs.Listing.{TreeItems}
use Rattle.cs_lines.specs.Findings.{Finding, IsFoundBy}
use Rattle.cs_lines.specs.Printing.{needs_spans}
use Rattle.cs_lines.specs.Project.{status_by}
use Rattle.cs_project.specs.Scopes.{AreFirstItemsOf, AreItemsOf, IsItemOf, ForItems, no_bytes}
use Rattle.cs_project.specs.Searched.{BeginsEach, IsMarked, NamedItem, are_marked, is_cut, items_printed, names_printed}
use Rattle.cs_project.specs.declared.file_search.FileSearch.{FileSearch}
use Rattle.cs_project.specs.declared.scope.Scope.{Scope}

-- If the status is not 2, what a search of every item of the scope prints was printed, and the status is 0 if a line of them is
-- marked, or else 1.
abbrev pub SearchesProject : TreeItems → Item → Scope → FileSearch → List ℕ → List ℕ → ℕ → Type 0
SearchesProject items input scope search given later status =
    status ≢ 2 → ForItems (AreItemsOf items input scope) (λ named. (finding : Finding) → IsFoundBy finding search.search →
    (later ≡ given ++ items_printed search.options search.binary finding search.marked named)
    × (status ≡ status_by false (are_marked search.options search.binary finding search.marked named)))

-- What was printed begins what such a search prints for the first items of the scope, if the form does not show where matches are:
-- else a line may use up its budget.
abbrev pub BeginsSearch : TreeItems → Item → Scope → FileSearch → List ℕ → List ℕ → Type 0
BeginsSearch items input scope search given later =
    needs_spans search.options.form ≡ false → ForItems (AreFirstItemsOf items input scope) (λ named. (finding : Finding) →
    IsFoundBy finding search.search → BeginsEach search.options search.binary finding is_cut named search.marked given later)

-- If the status is not 2, it is 0, and the name of every item of the scope was printed. Nothing of the input is read.
abbrev pub ListsProject : TreeItems → Scope → List ℕ → List ℕ → List ℕ → ℕ → Type 0
ListsProject items scope end given later status =
    status ≢ 2 → (status ≡ 0) × ForItems (AreItemsOf items no_bytes scope) (λ named. later ≡ given ++ names_printed end named)

-- If the status is 0, a line of an item of the scope is marked; if it is 1, none is.
abbrev pub FindsInProject : TreeItems → Item → Scope → FileSearch → ℕ → Type 0
FindsInProject items input scope search status =
    (status ≡ 0 → (one : NamedItem) × IsItemOf items input scope one × IsMarked search one)
    × (status ≡ 1 → ForItems (AreItemsOf items input scope) (λ named. (finding : Finding) → IsFoundBy finding search.search →
    are_marked search.options search.binary finding false named ≡ false))
