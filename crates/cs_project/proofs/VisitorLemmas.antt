-- Items that are visited one after another, whatever is done with them.
use Rattle.std.proofs.Common.{◌≡◌, ℕ, Bool, List, [], ◌∷◌, ◌++◌, append-nil, Option, Some, None, Result, Ok, Err, sym, subst}
use Rattle.std.specs.Prelude.{IsErr, OnOk}
use Rattle.std.proofs.lemmas.Bool.{false≢true}
use Rattle.cs_tree.specs.Snapshot.{Snapshot, item_at}
use Rattle.cs_listing.specs.FolderReads.{InTree}
use Rattle.cs_listing.specs.Listing.{TreeItems}
use Rattle.cs_listing.specs.Stamps.{Stamps}
use Rattle.cs_project.specs.Knowledge.{HoldsAsBefore, SearchedTree}
use Rattle.cs_project.specs.Searched.{NamedItem}
use Rattle.cs_project.specs.Visits.{Follows, KnowsFor, VisitsOne, VisitsSome, met_item}
use Rattle.cs_project.specs.declared.walks.NamedPath.{NamedPath}

-- what follows from what a success says
pub on_ok : {A E P Q : Type 0} (result : Result A E) → (P → Q) → OnOk result P → OnOk result Q
on_ok (Ok answer) f p = f p
on_ok (Err fault) f p = tt

-- what holds in any case
pub on_any : {A E P : Type 0} (result : Result A E) → P → OnOk result P
on_any (Ok answer) p = p
on_any (Err fault) p = tt

-- at an error
pub on_err : {A E : Type 0} (P : Type 0) (result : Result A E) → IsErr result → OnOk result P
on_err P (Ok answer) fails = absurd (false≢true fails)
on_err P (Err fault) fails = tt

-- what holds of any tree
pub in_any : (snapshot : Option Snapshot) (P : TreeItems → Type 0) → ((items : TreeItems) → P items) → InTree snapshot P
in_any None P has = tt
in_any (Some tree) P has = has (item_at tree)

-- what follows in a tree, which is still the same
pub in_same : (snapshot now : Option Snapshot) (P Q : TreeItems → Type 0) → now ≡ snapshot → ((items : TreeItems) → P items → Q items) →
    InTree now P → InTree snapshot Q
in_same None now P Q same f has = tt
in_same (Some tree) now P Q same f has = f (item_at tree) (subst (λ s. InTree s P) same has)

-- knowledge still holds for what is asked of the same tree
pub still_known : {V : Type 0} (Asks : V → TreeItems → Stamps → SearchedTree → Type 0) (Old New : SearchedTree → Type 0)
    (stamps : Snapshot → Stamps) (snapshot now : Option Snapshot) (old new : V) → now ≡ snapshot → HoldsAsBefore Old New →
    ((items : TreeItems) → (stamps : Stamps) → (searched : SearchedTree) → Asks new items stamps searched → Asks old items stamps searched) →
    KnowsFor Asks Old stamps snapshot old → KnowsFor Asks New stamps now new
still_known Asks Old New stamps None now old new same on asked known = subst (λ s. KnowsFor Asks New stamps s new) (sym same) tt
still_known Asks Old New stamps (Some tree) now old new same on asked known = subst (λ s. KnowsFor Asks New stamps s new) (sym same)
    (λ searched asks. on searched (known searched (asked (item_at tree) (stamps tree) searched asks)))

-- such items are others
pub visits_as : {V A E : Type 0} (Begins Visits : V → V → List NamedItem → List ℕ → List ℕ → Type 0) (is_done : V → Bool)
    (AreFirst AreFirst' AreAll AreAll' : List NamedItem → Type 0) (old new : V) (given later : List ℕ) (result : Result A E) →
    ((named : List NamedItem) → AreFirst named → AreFirst' named) → ((named : List NamedItem) → AreAll named → AreAll' named) →
    VisitsSome Begins Visits is_done AreFirst AreAll old new given later result →
    VisitsSome Begins Visits is_done AreFirst' AreAll' old new given later result
visits_as Begins Visits is_done AreFirst AreFirst' AreAll AreAll' old new given later (Ok answer) f h has =
    (has.0, f has.0 has.1, has.2, ((has.3).0, λ going. h has.0 ((has.3).1 going)))
visits_as Begins Visits is_done AreFirst AreFirst' AreAll AreAll' old new given later (Err fault) f h has =
    (has.0, f has.0 has.1, has.2, tt)

-- a single item
pub visits_single : {V A E : Type 0} (Begins Visits : V → V → List NamedItem → List ℕ → List ℕ → Type 0) (is_done : V → Bool)
    (AreFirst AreAll : List NamedItem → Type 0) (old new : V) (given later : List ℕ) (item : NamedItem) (result : Result A E) →
    AreFirst (item ∷ []) → AreAll (item ∷ []) → VisitsOne Begins Visits old new item given later result →
    VisitsSome Begins Visits is_done AreFirst AreAll old new given later result
visits_single Begins Visits is_done AreFirst AreAll old new given later item (Ok answer) first all has =
    (item ∷ [], first, has.0, (has.1, λ going. all))
visits_single Begins Visits is_done AreFirst AreAll old new given later item (Err fault) first all has = (item ∷ [], first, has.0, tt)

-- no item
pub visits_nothing : {V A E : Type 0} (Begins Visits : V → V → List NamedItem → List ℕ → List ℕ → Type 0) (is_done : V → Bool)
    (AreFirst AreAll : List NamedItem → Type 0) (old new : V) (given : List ℕ) (result : Result A E) →
    AreFirst [] → OnOk result (AreAll []) → Begins old new [] given given × Visits old new [] given given →
    VisitsSome Begins Visits is_done AreFirst AreAll old new given given result
visits_nothing Begins Visits is_done AreFirst AreAll old new given (Ok answer) first all none = ([], first, none.0, (none.1, λ going. all))
visits_nothing Begins Visits is_done AreFirst AreAll old new given (Err fault) first all none = ([], first, none.0, tt)

-- visits after visits
module _ {V : Type 0} {Asks : V → TreeItems → Stamps → SearchedTree → Type 0} {is_wrong : V → Bool} {Stays : V → V → Type 0}
    {Begins Visits : V → V → List NamedItem → List ℕ → List ℕ → Type 0} (law : Follows Asks is_wrong Stays Begins Visits) where
  -- and nothing more
  pub none_more : (old mid new : V) (given later : List ℕ) → Stays old mid → Stays mid new →
      Begins mid new [] later later × Visits mid new [] later later → (items : List NamedItem) →
      Begins old mid items given later × Visits old mid items given later → Begins old new items given later × Visits old new items given later
  none_more old mid new given later kept keeps none items had = (
    subst (λ all. Begins old new all given later) (append-nil items)
        (law.begins old mid new items [] given later later kept keeps had.0 had.1 none.0),
    subst (λ all. Visits old new all given later) (append-nil items)
        (law.visits old mid new items [] given later later kept keeps had.1 none.1),
  )

  -- more of them, up to an error
  pub more_visited : {A E : Type 0} (old mid new : V) (given middle later : List ℕ) (result : Result A E) → Stays old mid → Stays mid new →
      (items more : List NamedItem) → Begins old mid items given middle × Visits old mid items given middle →
      Begins mid new more middle later × OnOk result (Visits mid new more middle later) →
      Begins old new (items ++ more) given later × OnOk result (Visits old new (items ++ more) given later)
  more_visited old mid new given middle later result kept keeps items more had has = (
    law.begins old mid new items more given middle later kept keeps had.0 had.1 has.0,
    on_ok result (law.visits old mid new items more given middle later kept keeps had.1) has.1,
  )

  -- one more file of a walk
  pub file_visited : {A E : Type 0} (Known : Type 0) (snapshot now : Option Snapshot) (one : NamedPath) (old mid new : V)
      (given middle later : List ℕ) (result : Result A E) → now ≡ snapshot → Stays old mid → Stays mid new →
      (Known → InTree now (λ items. VisitsOne Begins Visits mid new (met_item items one) middle later result)) →
      InTree snapshot (λ items. (all : List NamedItem) →
      (Known → Begins old mid all given middle × Visits old mid all given middle) → Known →
      Begins old new (all ++ met_item items one ∷ []) given later × OnOk result (Visits old new (all ++ met_item items one ∷ []) given later))
  file_visited Known None now one old mid new given middle later result same kept keeps has = tt
  file_visited Known (Some tree) now one old mid new given middle later result same kept keeps has = λ all had known.
      more_visited old mid new given middle later result kept keeps all (met_item (item_at tree) one ∷ []) (had known)
      (subst (λ s. InTree s (λ items. VisitsOne Begins Visits mid new (met_item items one) middle later result)) same (has known))
