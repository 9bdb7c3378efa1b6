-- What a search does with items, one after another.
use Rattle.std.proofs.Common.{◌≡◌, ℕ, Bool, true, false, List, [], ◌∷◌, ◌++◌, append-nil, Option, Some, None, Result, Ok, Err, inl, inr, refl, sym, ap, subst, ◌∙◌}
use Rattle.std.specs.Prelude.{IfSome, OnOk}
use Rattle.cs_tree.specs.Snapshot.{Snapshot, item_at}
use Rattle.cs_tree.specs.StreamModels.{SourceModel, source_model}
use Rattle.cs_listing.specs.Listing.{TreeItems}
use Rattle.cs_listing.specs.Stamps.{Stamps}
use Rattle.cs_lines.specs.declared.form.ShowOptions.{ShowOptions}
use Rattle.cs_project.specs.Knowledge.{HoldsFor, SearchedTree}
use Rattle.cs_project.specs.Scopes.{InInput, no_bytes, unread}
use Rattle.cs_project.specs.Searched.{NamedItem}
use Rattle.cs_project.specs.Visits.{AsksFor, BeginsItems, FindsAmong, IsAmong, KeepsForm, KnowsFor, SearchesItems, ShowsItems, VisitsOne}
use Rattle.cs_project.specs.declared.file_search.FileSearch.{FileSearch}
use Rattle.cs_project.proofs.FoundLemmas.{found_in, found_more, found_none}
use Rattle.cs_project.proofs.ScopeLemmas.{of_nothing}
use Rattle.cs_project.proofs.SearchLemmas.{was_found}
use Rattle.cs_project.proofs.TextLemmas.{shows_more}

-- ---- what is known

pub still_asks : (old new : FileSearch) → KeepsForm old new → (items : TreeItems) → (stamps : Stamps) → (searched : SearchedTree) →
    AsksFor new items stamps searched → AsksFor old items stamps searched
still_asks old new kept items stamps searched asks = (
  asks.0,
  was_found old.search new.search kept.2 asks.0 asks.1,
  asks.2 ∙ ap (λ o. at o new.binary) kept.0 ∙ ap (λ b. at old.options b) kept.1,
)
  where
    at : ShowOptions → Bool → SearchedTree
    at o b = record { options = o; binary = b; finding = asks.0; items = items; stamps = stamps }

pub knows_held : (Holds : SearchedTree → Type 0) (stamps : Snapshot → Stamps) (snapshot : Option Snapshot) (search : FileSearch) →
    KnowsFor AsksFor Holds stamps snapshot search → HoldsFor Holds stamps snapshot search
knows_held Holds stamps None search known = tt
knows_held Holds stamps (Some tree) search known = λ finding found. known (record {
  options = search.options;
  binary = search.binary;
  finding = finding;
  items = item_at tree;
  stamps = stamps tree;
}) (finding, found, refl)

pub held_knows : (Holds : SearchedTree → Type 0) (stamps : Snapshot → Stamps) (snapshot : Option Snapshot) (search : FileSearch) →
    HoldsFor Holds stamps snapshot search → KnowsFor AsksFor Holds stamps snapshot search
held_knows Holds stamps None search known = tt
held_knows Holds stamps (Some tree) search known = λ searched asks. subst Holds (sym asks.2) (known asks.0 asks.1)

-- ---- items after items

among_left : (one : NamedItem) (items more : List NamedItem) → IsAmong one items → IsAmong one (items ++ more)
among_left one [] more is = absurd is
among_left one (item ∷ items) more (inl same) = inl same
among_left one (item ∷ items) more (inr is) = inr (among_left one items more is)

among_right : (one : NamedItem) (items more : List NamedItem) → IsAmong one more → IsAmong one (items ++ more)
among_right one [] more is = is
among_right one (item ∷ items) more is = inr (among_right one items more is)

-- perhaps an error was reported, and nothing else
pub nothing_visited : (old new : FileSearch) → (bytes : List ℕ) → new.marked ≡ old.marked →
    BeginsItems old new [] bytes bytes × SearchesItems old new [] bytes bytes
nothing_visited old new bytes same = (
  λ running finding found. (bytes, old.marked, (refl, refl), ([], sym (append-nil bytes))),
  (λ running finding found. (same, refl), found_none old new (λ one. IsAmong one []) same),
)

pub searched_more : (old mid new : FileSearch) → (items more : List NamedItem) → (given middle later : List ℕ) → KeepsForm old mid →
    KeepsForm mid new → SearchesItems old mid items given middle → SearchesItems mid new more middle later →
    SearchesItems old new (items ++ more) given later
searched_more old mid new items more given middle later kept keeps had has = (
  shows_more old mid new items more given middle later kept keeps had.0 has.0,
  found_more old mid new (λ one. IsAmong one (items ++ more)) kept keeps
      (found_in old mid (λ one. IsAmong one items) (λ one. IsAmong one (items ++ more)) (λ one is. among_left one items more is) had.1)
      (found_in mid new (λ one. IsAmong one more) (λ one. IsAmong one (items ++ more)) (λ one is. among_right one items more is) has.1),
)

-- ---- one item

module _ (old new : FileSearch) (given later : List ℕ) where
  one_searched : {A E : Type 0} (item : NamedItem) (result : Result A E) → BeginsItems old new (item ∷ []) given later →
      OnOk result (ShowsItems old new (item ∷ []) given later) → OnOk result (FindsAmong old new (λ one. one ≡ item)) →
      VisitsOne BeginsItems SearchesItems old new item given later result
  one_searched item (Ok answer) begins shown found =
      (begins, (shown, found_in old new (λ one. one ≡ item) (λ one. IsAmong one (item ∷ [])) (λ one same. inl same) found))
  one_searched item (Err fault) begins shown found = (begins, tt)

  -- the same of an item of a tree, or of the input
  pub one_in : {X A E : Type 0} (model : Option X) (item : X → NamedItem) (result : Result A E) →
      IfSome model (λ x. BeginsItems old new (item x ∷ []) given later) →
      OnOk result (IfSome model (λ x. ShowsItems old new (item x ∷ []) given later)) →
      OnOk result (IfSome model (λ x. FindsAmong old new (λ one. one ≡ item x))) →
      IfSome model (λ x. VisitsOne BeginsItems SearchesItems old new (item x) given later result)
  one_in None item result begins shown found = tt
  one_in (Some x) item result begins shown found = one_searched (item x) result begins shown found

  -- an input that has no bytes
  pub nothing_read : {A E : Type 0} (model : Option SourceModel) (word : List ℕ) (result : Result A E) → model ≡ Some (source_model [] false) →
      InInput model (λ item. BeginsItems old new ((word, item, true) ∷ []) given later) →
      OnOk result (InInput model (λ item. ShowsItems old new ((word, item, true) ∷ []) given later)) →
      OnOk result (InInput model (λ item. FindsAmong old new (λ one. one ≡ (word, item, true)))) →
      VisitsOne BeginsItems SearchesItems old new (word, no_bytes, true) given later result
  nothing_read model word result is begins shown found =
      of_nothing (λ item. VisitsOne BeginsItems SearchesItems old new (word, item, true) given later result) model is
      (one_in (unread false model) (λ item. (word, item, true)) result begins shown found)
