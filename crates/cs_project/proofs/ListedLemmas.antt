-- Names that are printed one after another.
use Rattle.std.proofs.Common.{◌≡◌, ℕ, List, [], ◌∷◌, ◌++◌, Option, Some, None, Result, Ok, Err, refl, sym, ap, ◌∙◌, append_assoc, append-nil}
use Rattle.std.specs.Prelude.{OnOk}
use Rattle.std.proofs.lemmas.Grind.{flat_map-append}
use Rattle.cs_tree.specs.Snapshot.{Snapshot}
use Rattle.cs_listing.specs.Stamps.{Stamps}
use Rattle.cs_tree.specs.SinkOutputs.{Begins}
use Rattle.cs_project.specs.Knowledge.{SearchedTree}
use Rattle.cs_project.specs.Searched.{BeginsNames, NamedItem, names_printed}
use Rattle.cs_project.specs.Visits.{KnowsFor, ListsItems, VisitsOne}
use Rattle.cs_project.specs.Walked.{KeepsListing}
use Rattle.cs_project.specs.declared.listing.NameListing.{NameListing}

-- what a listing begins
abbrev pub BeginsListing : NameListing → NameListing → List NamedItem → List ℕ → List ℕ → Type 0
BeginsListing old new items given later = BeginsNames old.end.now items given later

-- names after names
names_on : (end' end given middle : List ℕ) (items more : List NamedItem) → end' ≡ end → middle ≡ given ++ names_printed end items →
    middle ++ names_printed end' more ≡ given ++ names_printed end (items ++ more)
names_on end' end given middle items more same had = ap (λ e. middle ++ names_printed e more) same
    ∙ ap (λ m. m ++ names_printed end more) had
    ∙ append_assoc given (names_printed end items) (names_printed end more)
    ∙ ap (λ n. given ++ n) (sym (flat_map-append (λ (item : NamedItem). item.0 ++ end) items more))

pub lists_later : (old mid new : NameListing) → (items more : List NamedItem) → (given middle later : List ℕ) → KeepsListing old mid →
    KeepsListing mid new → ListsItems old mid items given middle → ListsItems mid new more middle later →
    ListsItems old new (items ++ more) given later
lists_later old mid new items more given middle later kept keeps had has =
    has ∙ names_on mid.end.now old.end.now given middle items more (ap (λ e. e.now) kept.0) had

pub begins_later : (old mid new : NameListing) → (items more : List NamedItem) → (given middle later : List ℕ) → KeepsListing old mid →
    KeepsListing mid new → BeginsListing old mid items given middle → ListsItems old mid items given middle → BeginsListing mid new more middle later →
    BeginsListing old new (items ++ more) given later
begins_later old mid new items more given middle later kept keeps begun had begins =
    (begins.0, sym (names_on mid.end.now old.end.now given middle items more (ap (λ e. e.now) kept.0) had) ∙ begins.1)

pub lists_none : (old new : NameListing) → (bytes : List ℕ) → BeginsListing old new [] bytes bytes × ListsItems old new [] bytes bytes
lists_none old new bytes = (([], refl), sym (append-nil bytes))

-- one name
pub lists_one : {A E : Type 0} (old new : NameListing) (item : NamedItem) (name given later : List ℕ) (result : Result A E) → name ≡ item.0 →
    Begins later (given ++ (name ++ old.end.now)) → OnOk result (later ≡ given ++ (name ++ old.end.now)) →
    VisitsOne BeginsListing ListsItems old new item given later result
lists_one old new item name given later (Ok answer) same begins printed =
    ((begins.0, sym (alone old.end.now item name given same) ∙ begins.1), printed ∙ alone old.end.now item name given same)
  where
    alone : (end : List ℕ) (item : NamedItem) (name given : List ℕ) → name ≡ item.0 →
        given ++ (name ++ end) ≡ given ++ names_printed end (item ∷ [])
    alone end item name given same = ap (λ n. given ++ (n ++ end)) same ∙ ap (λ r. given ++ r) (sym (append-nil (item.0 ++ end)))
lists_one old new item name given later (Err fault) same begins printed =
    ((begins.0, sym (ap (λ n. given ++ (n ++ old.end.now)) same ∙ ap (λ r. given ++ r) (sym (append-nil (item.0 ++ old.end.now)))) ∙ begins.1), tt)

-- no name, at an error
pub lists_failed : {A E : Type 0} (old new : NameListing) (item : NamedItem) (given : List ℕ) (result : Result A E) → OnOk result ⊥ →
    VisitsOne BeginsListing ListsItems old new item given given result
lists_failed old new item given (Ok answer) fails = absurd fails
lists_failed old new item given (Err fault) fails = ((names_printed old.end.now (item ∷ []), refl), tt)

-- a listing asks for nothing that is known
pub knows_nothing : (Holds : SearchedTree → Type 0) (stamps : Snapshot → Stamps) (snapshot : Option Snapshot) (listing : NameListing) →
    KnowsFor (λ listing items stamps searched. ⊥) Holds stamps snapshot listing
knows_nothing Holds stamps None listing = tt
knows_nothing Holds stamps (Some tree) listing = λ searched none. absurd none
