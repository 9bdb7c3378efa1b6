-- The merge of the index of a history with what a job found is the index of the history with the job.
use Rattle.std.proofs.Common.{◌≡◌, ℕ, Bool, true, false, not, cond, ◌||◌, eqb, List, ◌∷◌, refl, sym, ap, ◌∙◌, inl, inr, Option, Some, None, is_some}
use Rattle.cs_history.proofs.Common.{Paths, bytes_cmp, find, true≢false, cases_Bool, eqb-true, nat_list_cmp_total, list_any, eq_by_cmp, is_covered, least, alike, same_set, contains-union, least-union, least_is_unique, covered-union, covered-least, found_under, merge_files, merge_paths, get-merge_files, text_trigrams, limits, Files, Parts, files_in, Update, History, nothing, existing, ◌⊳◌, all_given_paths, paths_of, walked_paths, files_found, kept_at, names_found, files_of, or_parts}
use Rattle.std.specs.FinMap as map
use Rattle.cs_tree.specs.PathSet as set
use Rattle.std.specs.Option.{option_or}
use Rattle.cs_tree.proofs.CollectLemmas.{get-collected}
use Rattle.cs_tree.proofs.PathSetLemmas.{tied_same}
use Rattle.std.proofs.Math.Bool.{or-false}
use Rattle.std.proofs.lemmas.List.Folds.{list_any-append}

-- the empty set, and the first element of one
pub contains-empty : (q : List ℕ) → set.contains map.empty q ≡ false
contains-empty q = ap is_some (map.get-empty bytes_cmp q)

pub contains_first : (p : List ℕ) (ps : List (List ℕ)) → set.contains (set.from_list (p ∷ ps)) p ≡ true
contains_first p ps = ap is_some (map.get-from_entries nat_list_cmp_total (set.unit_entries (p ∷ ps)) p)
    ∙ ap (λ b. is_some (cond b (Some tt) (find bytes_cmp p (set.unit_entries ps)))) (tied_same p)

absent : (o : Option (List ℕ)) → is_some o ≡ false → o ≡ None
absent None h = refl
absent (Some x) h = absurd (true≢false h)

-- the files of a history have names that some job found
kept_found : (history : History) (name : List ℕ) → list_any (eq_by_cmp bytes_cmp name) (names_found history) ≡ false →
    kept_at history name ≡ None
kept_found nothing name h = refl
kept_found (existing bytes parts) name h = absent (map.get (files_in parts) name) (map.contains_key-keys (files_in parts) name ∙ h)
kept_found (update ⊳ before) name h =
    let here : Files = files_found update before in
    let split = sym (list_any-append (eq_by_cmp bytes_cmp name) (map.keys here) (names_found before)) ∙ h in
    elim (cases_Bool (is_covered (walked_paths update before) name)) [
      | inl under ↦ ap (λ b. cond b (map.get here name) (kept_at before name)) under
          ∙ absent (map.get here name) (map.contains_key-keys here name ∙ (or_parts _ _ split).0)
      | inr outside ↦ ap (λ b. cond b (map.get here name) (kept_at before name)) outside ∙ kept_found before name ((or_parts _ _ split).1)
    ]

pub get-kept : (history : History) (name : List ℕ) → map.get (files_of history) name ≡ kept_at history name
get-kept history name =
    get-collected (kept_at history) (names_found history) name
    ∙ elim (cases_Bool (list_any (eq_by_cmp bytes_cmp name) (names_found history))) [
      | inl there ↦ ap (λ b. cond b (kept_at history name) None) there
      | inr absent ↦ ap (λ b. cond b (kept_at history name) None) absent ∙ sym (kept_found history name absent)
    ]

-- the merge has at a name what the history has there
kept_merged : (history : History) (update : Update) (name : List ℕ) (b : Bool) →
    is_covered (walked_paths update history) name ≡ b → option_or (map.get (files_found update history) name)
    (cond (not b) (kept_at history name) None) ≡ cond b (map.get (files_found update history) name)
    (kept_at history name)
kept_merged history update name true h = or_none (map.get (files_found update history) name)
  where
    or_none : (o : Option (List ℕ)) → option_or o None ≡ o
    or_none None = refl
    or_none (Some x) = refl
kept_merged history update name false h =
    ap (λ o. option_or o (kept_at history name)) (found_under (text_trigrams limits) update.tree (walked_paths update history) name h)

pub merge_kept : (history : History) (update : Update) → merge_files (walked_paths update history) (files_of history)
    (files_found update history) ≡ files_of (update ⊳ history)
merge_kept history update =
    map.same_map nat_list_cmp_total alike _ _ (λ name.
    get-merge_files (walked_paths update history) (files_of history) (files_found update history) name
    ∙ ap (λ o. option_or (map.get (files_found update history) name)
    (cond (not (is_covered (walked_paths update history) name)) o None)) (get-kept history name)
    ∙ kept_merged history update name (is_covered (walked_paths update history) name) refl
    ∙ sym (get-kept (update ⊳ history) name))

-- before any job it is the existing index
pub kept_decoded : (bytes : List ℕ) (parts : Parts) → files_of (existing bytes parts) ≡ files_in parts
kept_decoded bytes parts = map.same_map nat_list_cmp_total alike _ _ (get-kept (existing bytes parts))

union_itself : (a b : Paths) → ((name : List ℕ) → is_covered a name ≡ is_covered b name) → is_covered (set.union a b) ≡ is_covered a
union_itself a b h = λ i name. (covered-union a b name ∙ ap (λ t. is_covered a name || t) (sym (h name)) ∙ twice (is_covered a name)) i
  where
    twice : (t : Bool) → (t || t) ≡ t
    twice true = refl
    twice false = refl

pub no_paths : (given : Paths) → map.len given ≡ 0 → (a : Paths) → set.union a given ≡ a
no_paths given none a =
    same_set _ _ (λ q.
    contains-union a given q
    ∙ ap (λ s. set.contains a q || set.contains s q) (map.empty_of_len given none)
    ∙ ap (λ t. set.contains a q || t) (contains-empty q)
    ∙ or-false (set.contains a q))

pub merge_paths_of : (history : History) (update : Update) →
    merge_paths (paths_of history) (walked_paths update history) ≡ paths_of (update ⊳ history)
merge_paths_of history update =
    elim (cases_Bool (eqb (map.len update.given) 0)) [
      | inl none ↦
          ap (λ b. merge_paths (paths_of history) (cond b (paths_of history) (least update.given))) none
          ∙ least_is_unique _ _ (λ name. ap (λ f. f name)
          (union_itself (paths_of history) (paths_of history) (λ n. refl)) ∙ covered-least (all_given_paths history)
          name)
          ∙ sym (ap least (no_paths update.given (eqb-true _ _ none) (all_given_paths history)))
      | inr some ↦
          ap (λ b. merge_paths (paths_of history) (cond b (paths_of history) (least update.given))) some
          ∙ least-union (all_given_paths history) update.given
    ]

-- ---- the first job of a history
union_none : (given : Paths) → set.union map.empty given ≡ given
union_none given =
    same_set _ _ (λ q.
    contains-union map.empty given q ∙ ap (λ t. t || set.contains given q) (contains-empty q))

kept_alone : (update : Update) (name : List ℕ) (b : Bool) → is_covered (walked_paths update nothing) name ≡ b →
    cond b (map.get (files_found update nothing) name) None ≡ map.get (files_found update nothing) name
kept_alone update name true h = refl
kept_alone update name false h = sym (found_under (text_trigrams limits) update.tree (walked_paths update nothing) name h)

pub kept_first : (update : Update) → files_of (update ⊳ nothing) ≡ files_found update nothing
kept_first update = map.same_map nat_list_cmp_total alike _ _ (λ name. get-kept (update ⊳ nothing) name
    ∙ kept_alone update name (is_covered (walked_paths update nothing) name) refl)

pub paths_first : (update : Update) → paths_of (update ⊳ nothing) ≡ walked_paths update nothing
paths_first update =
    elim (cases_Bool (eqb (map.len update.given) 0)) [
      | inl none ↦ ap least (no_paths update.given (eqb-true _ _ none) map.empty)
          ∙ ap (λ b. cond b (paths_of nothing) (least update.given)) (sym none)
      | inr some ↦ ap least (union_none update.given) ∙ ap (λ b. cond b (paths_of nothing) (least update.given)) (sym some)
    ]
