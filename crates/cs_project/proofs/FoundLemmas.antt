-- Marked lines that a search has come to.
use Rattle.std.proofs.Common.{◌≡◌, ℕ, Bool, true, false, List, [], ◌∷◌, ◌++◌, map, length, inl, inr, refl, sym, ap, subst, ◌∙◌}
use Rattle.std.specs.Prelude.{◌⊎◌}
use Rattle.std.specs.List.{AllByRecursion}
use Rattle.std.proofs.lemmas.Bool.{false≢true}
use Rattle.cs_tree.specs.PathParts.{texts}
use Rattle.cs_tree.specs.Snapshot.{Item}
use Rattle.cs_listing.specs.Choices.{Settings, within_depth}
use Rattle.cs_listing.specs.Listing.{TreeItems, is_found}
use Rattle.cs_listing.specs.Models.{chosen_in}
use Rattle.cs_listing.specs.PathNames.{names_along}
use Rattle.cs_listing.specs.Walk.{path_text}
use Rattle.cs_project.specs.Scopes.{AreAt, AreFilesBelow, AreFirstAt, AreFirstBelow, AreFirstIf, AreFirstItemsOf, AreFirstMeant, AreFirstOfAll, AreThereIf, GivesSome, IsAnyNamed, IsAt, IsFileBelow, IsItemOf, IsMeant, IsNamedIf, file_below, is_input, leads_to_folder, left_if, path_in}
use Rattle.cs_project.specs.Searched.{IsMarked, NamedItem, shown_of}
use Rattle.cs_project.specs.Visits.{FindsAmong, IsAmong, KeepsForm}
use Rattle.cs_project.specs.declared.file_search.FileSearch.{FileSearch}
use Rattle.cs_project.specs.declared.scope.Scope.{Scope}
use Rattle.cs_project.proofs.SearchLemmas.{still_found}
use Rattle.cs_project.proofs.WalkedLemmas.{map_map}

-- ---- one search after another

-- no line was marked
pub found_none : (old new : FileSearch) (P : NamedItem → Type 0) → new.marked ≡ old.marked → FindsAmong old new P
found_none old new P same marks none running = absurd (false≢true (sym none ∙ sym same ∙ marks))

-- such items are others
pub found_in : (old new : FileSearch) (P Q : NamedItem → Type 0) → ((one : NamedItem) → P one → Q one) →
    FindsAmong old new P → FindsAmong old new Q
found_in old new P Q f has marks none running = let h = has marks none running in (h.0, f h.0 h.1, h.2)

marked_before : (old mid : FileSearch) → KeepsForm old mid → (one : NamedItem) → IsMarked mid one → IsMarked old one
marked_before old mid kept one marked finding found =
    ap (λ o. (shown_of o old.binary finding one).marked) (sym kept.0)
    ∙ ap (λ b. (shown_of mid.options b finding one).marked) (sym kept.1)
    ∙ marked finding (still_found old.search mid.search kept.2 finding found)

-- more of them
pub found_more : (old mid new : FileSearch) (P : NamedItem → Type 0) → KeepsForm old mid → KeepsForm mid new →
    FindsAmong old mid P → FindsAmong mid new P → FindsAmong old new P
found_more old mid new P kept keeps had has = by_mark mid.marked refl
  where
    by_mark : (m : Bool) → mid.marked ≡ m → FindsAmong old new P
    by_mark true e marks none running = had e none ((keeps.2).3 running)
    by_mark false e marks none running = let h = has marks e running in (h.0, h.1, marked_before old mid kept h.0 h.2)

-- ---- one of the first items of a scope

-- a file that is given was left
some_left : (f : List (List ℕ) → NamedItem) (left : List (List ℕ) → Bool) (one : NamedItem) (paths : List (List (List ℕ))) →
    GivesSome left paths → IsAmong one (map f paths) → (path : List (List ℕ)) × (one ≡ f path) × (left path ≡ true)
some_left f left one [] gives is = absurd is
some_left f left one (path ∷ paths) gives (inl same) = (path, same, gives.1.taken)
some_left f left one (path ∷ paths) gives (inr is) =
    let h = some_left f gives.0 one paths gives.2 is in (h.0, h.1, by_left h.0 h.2 (left h.0) refl)
  where
    by_left : (at : List (List ℕ)) → gives.0 at ≡ true → (l : Bool) → left at ≡ l → left at ≡ true
    by_left at was true e = e
    by_left at was false e = absurd (false≢true (sym e
        ∙ sym (gives.1.kept at (λ same. false≢true (sym e ∙ ap left same ∙ gives.1.taken))) ∙ was))

-- one of the files that are listed
one_listed : (f : List (List ℕ) → NamedItem) (found : List (List ℕ) → Bool) (one : NamedItem) (paths : List (List (List ℕ))) →
    AllByRecursion (λ path. found path ≡ true) paths → IsAmong one (map f paths) →
    (path : List (List ℕ)) × (one ≡ f path) × (found path ≡ true)
one_listed f found one [] all is = absurd is
one_listed f found one (path ∷ paths) all (inl same) = (path, same, all.0)
one_listed f found one (path ∷ paths) all (inr is) = one_listed f found one paths all.1 is

-- one of the first, or of the rest
part : (one : NamedItem) (first rest : List NamedItem) → IsAmong one (first ++ rest) → IsAmong one first ⊎ IsAmong one rest
part one [] rest is = inr is
part one (item ∷ first) rest (inl same) = inl (inl same)
part one (item ∷ first) rest (inr is) = later (part one first rest is)
  where
    later : IsAmong one first ⊎ IsAmong one rest → IsAmong one (item ∷ first) ⊎ IsAmong one rest
    later (inl is) = inl (inr is)
    later (inr is) = inr is

module _ (items : TreeItems) (settings : Settings) (one : NamedItem) where
  first_below : (start word : List ℕ) (named : List NamedItem) → AreFirstBelow items settings start word named → IsAmong one named →
      IsFileBelow items settings start word one
  first_below start word named first is =
      some_left (λ path. file_below items settings start word (path_text path))
      (is_found (within_depth settings (length (names_along start))) items (names_along start)) one first.0 first.1
      (subst (IsAmong one) (first.2 ∙ map_map (file_below items settings start word) path_text first.0) is)

  all_below : (start word : List ℕ) (named : List NamedItem) → AreFilesBelow items settings start word named → IsAmong one named →
      IsFileBelow items settings start word one
  all_below start word named all is =
      one_listed (λ path. file_below items settings start word (path_text path))
      (is_found (within_depth settings (length (names_along start))) items (names_along start)) one (all.1).0 (all.1).3
      (subst (IsAmong one) (all.2 ∙ ap (map (file_below items settings start word)) (all.1).1
      ∙ map_map (file_below items settings start word) path_text (all.1).0) is)

  only : (item : NamedItem) (named : List NamedItem) → named ≡ item ∷ [] → IsAmong one named → one ≡ item
  only item named e is = by_is (subst (IsAmong one) e is)
    where
      by_is : IsAmong one (item ∷ []) → one ≡ item
      by_is (inl same) = same
      by_is (inr none) = absurd none

  first_at : (leads : Bool) (path word : List ℕ) (named : List NamedItem) → AreFirstAt items settings leads path word named →
      IsAmong one named → IsAt items settings leads path word one
  first_at true path word named first is = first_below path word named first is
  first_at false path word named first is = only (word, items path, true) named first is

  all_at : (leads : Bool) (path word : List ℕ) (named : List NamedItem) → AreAt items settings leads path word named →
      IsAmong one named → IsAt items settings leads path word one
  all_at true path word named all is = all_below path word named all is
  all_at false path word named all is = only (word, items path, true) named all is

  none_among : {P : Type 0} (named : List NamedItem) → named ≡ [] → IsAmong one named → P
  none_among named e is = absurd (subst (IsAmong one) e is)

  module _ (here : List ℕ) where
    first_named : (names : Bool) (input : Item) (word : List ℕ) (named : List NamedItem) →
        AreFirstIf items settings here names input word named → IsAmong one named → IsNamedIf items settings here names input word one
    first_named true input word named first is = only (word, input, true) named first is
    first_named false input word named (inl at) is =
        (at.0, at.1, first_at (leads_to_folder items (path_in items here word)) (path_in items here word) word named at.2 is)
    first_named false input word named (inr none) is = none_among named none is

    there_named : (names : Bool) (input : Item) (word : List ℕ) (named : List NamedItem) →
        AreThereIf items settings here names input word named → IsAmong one named → IsNamedIf items settings here names input word one
    there_named true input word named there is = only (word, input, true) named there is
    there_named false input word named (inl at) is =
        (at.0, at.1, all_at (leads_to_folder items (path_in items here word)) (path_in items here word) word named at.2 is)
    there_named false input word named (inr none) is = none_among named none.1 is

    first_of_all : (input : Item) (words : List (List ℕ)) (named : List NamedItem) → AreFirstOfAll items settings here input words named →
        IsAmong one named → IsAnyNamed items settings here input words one
    first_of_all input [] named none is = none_among named none is
    first_of_all input (word ∷ words) named (inl first) is =
        ([], word, words, refl, first_named (is_input word) input word named first is)
    first_of_all input (word ∷ words) named (inr more) is =
        by_part (first_of_all (left_if (is_input word) input) words more.1 more.4) (part one more.0 more.1 (subst (IsAmong one) more.2 is))
      where
        by_part : (IsAmong one more.1 → IsAnyNamed items settings here (left_if (is_input word) input) words one) →
            IsAmong one more.0 ⊎ IsAmong one more.1 → IsAnyNamed items settings here input (word ∷ words) one
        by_part later (inl is) = ([], word, words, refl, there_named (is_input word) input word more.0 more.3 is)
        by_part later (inr is) = let h = later is in (word ∷ h.0, h.1, h.2, ap (λ ws. word ∷ ws) h.3, h.4)

    first_meant : (input : Item) (words : List (List ℕ)) (named : List NamedItem) → AreFirstMeant items settings here input words named →
        IsAmong one named → IsMeant items settings here input words one
    first_meant input [] named first is = first_below here [] named first is
    first_meant input (word ∷ words) named first is = first_of_all input (word ∷ words) named first is

-- one of the first items of a scope is one of its items
pub item_of_first : (items : TreeItems) (input : Item) (scope : Scope) (named : List NamedItem) → AreFirstItemsOf items input scope named →
    (one : NamedItem) → IsAmong one named → IsItemOf items input scope one
item_of_first items input scope named first one is =
    first_meant items (chosen_in scope.choices.now) one scope.folder.now input (texts scope.words.now) named first is
