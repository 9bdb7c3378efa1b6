-- Indexes of disjoint trees: their merge has the files of both, and a search visits the names of both.
use Rattle.std.proofs.Common.{◌≡◌, ℕ, Bool, true, false, not, cond, ◌&&◌, ◌||◌, List, [], ◌∷◌, ◌++◌, map, filter, refl, sym, ap, subst, ◌∙◌, inl, inr, Option, Some, None, T, is_some}
use Rattle.cs_history.proofs.Common.{true≢false, cases_Bool, eq_by_cmp, is_eq, is_lt, nat_list_cmp_total, list_any, find, is_sorted, Paths, bytes_cmp, is_covered, alike, tied_is, find-append, same_set, items_in_order, has, Entry, Files, merge_files, merge_paths, DecodesAsContent, get-merge_files, decoded_names, AreShards, files_of_both, sorted_by_name, searched_names}
use Rattle.std.proofs.lemmas.List.Folds.{list_any-append}
use Rattle.std.specs.declared.cmp.Ordering.TheVariants.{Less, Equal}
use Rattle.std.specs.FinMap as map'
use Rattle.std.specs.FinMap.Entries.{below_all}
use Rattle.cs_tree.specs.PathSet as set
use Rattle.std.specs.Option.{option_or}
use Rattle.cs_trigram.specs.Query.{matches_set}
use Rattle.cs_trigram.specs.declared.queries.Query.{Query}
use Rattle.cs_history.specs.MatchingFiles.{names_matching}
use Rattle.std.proofs.Math.Bool.{or-false}
use Rattle.cs_tree.proofs.ReduceLemmas.{contains-from_list}

-- ---- the files of the merge

module _ (p : Paths) (f : Files) (q : Paths) (g : Files) (apart : AreShards p f q g) where
  not_both : (name : List ℕ) (b : Bool) → is_covered q name ≡ b → (t u : List ℕ) → map'.get f name ≡ Some t → map'.get g name ≡ Some u → ⊥
  not_both name b e t u here there = true≢false (sym (apart.other_under name u there) ∙ apart.outside name t here)

  at_name : (name : List ℕ) (x y : Option (List ℕ)) → map'.get f name ≡ x → map'.get g name ≡ y →
      option_or y (cond (not (is_covered q name)) x None) ≡ option_or x y
  at_name name None None e h = elim (not (is_covered q name)) as (λ b. cond {A = Option (List ℕ)} b None None ≡ None)
      [ true ↦ refl | false ↦ refl ]
  at_name name None (Some u) e h = refl
  at_name name (Some t) None e h = ap (λ b. cond (not b) (Some t) None) (apart.outside name t e)
  at_name name (Some t) (Some u) e h = absurd (not_both name (is_covered q name) refl t u e h)

  get-both : (name : List ℕ) → map'.get (files_of_both f g) name ≡ option_or (map'.get f name) (map'.get g name)
  get-both name =
      map'.get-from_entries nat_list_cmp_total _ name
      ∙ find-append name (map'.entries f) (map'.entries g)
      ∙ (λ i. option_or (sym (map'.get-entries f name) i) (sym (map'.get-entries g name) i))

  get-merge : (name : List ℕ) → map'.get (merge_files q f g) name ≡ option_or (map'.get f name) (map'.get g name)
  get-merge name = get-merge_files q f g name ∙ at_name name (map'.get f name) (map'.get g name) refl refl

  pub merged_files : merge_files q f g ≡ files_of_both f g
  merged_files = map'.same_map nat_list_cmp_total alike _ _ (λ name. get-merge name ∙ sym (get-both name))

  pub no_file_twice : (name : List ℕ) → map'.contains_key f name ≡ true → map'.contains_key g name ≡ false
  no_file_twice name here = by_get (map'.get f name) (map'.get g name) refl refl here
    where
      by_get : (x y : Option (List ℕ)) → map'.get f name ≡ x → map'.get g name ≡ y → is_some x ≡ true → is_some y ≡ false
      by_get x None e h is = refl
      by_get None (Some u) e h is = absurd (true≢false (sym is))
      by_get (Some t) (Some u) e h is = absurd (not_both name (is_covered q name) refl t u e h)

-- ---- the names of selected entries

less_not_tied : (q x : List ℕ) → T (is_lt (bytes_cmp q x)) → eq_by_cmp bytes_cmp q x ≡ false
less_not_tied q x h = elim (bytes_cmp q x) as (λ r. T (is_lt r) → is_eq r ≡ false)
    [ Less ↦ λ _. refl | Equal ↦ λ k. absurd k | _ ↦ λ k. absurd k ] h

and_T : (a b : Bool) → T (a && b) → T a × T b
and_T true b h = (tt, h)
and_T false b h = absurd h

T_and : (a b : Bool) → T a → T b → T (a && b)
T_and true b h k = k
T_and false b h k = absurd h

module _ (selects : Entry → Bool) where
  abbrev selected : List Entry → List (List ℕ)
  selected es = map (λ (e : Entry). e.0) (filter selects es)

  -- whether the file at a name is selected
  abbrev selects_at : List ℕ → Option (List ℕ) → Bool
  selects_at name None = false
  selects_at name (Some trigrams) = selects (name, trigrams)

  none_below : (x : List ℕ) (es : List Entry) → T (below_all bytes_cmp x es) → list_any (eq_by_cmp bytes_cmp x) (selected es) ≡ false
  none_below x [] h = refl
  none_below x (e ∷ es) h =
      let parts = and_T (is_lt (bytes_cmp x e.0)) (below_all bytes_cmp x es) h in
      elim (selects e) as (λ b. list_any (eq_by_cmp bytes_cmp x)
      (map (λ (e : Entry). e.0) (cond b (e ∷ filter selects es) (filter selects es))) ≡ false) [
        | true ↦ λ i. less_not_tied x e.0 parts.0 i || none_below x es parts.1 i
        | false ↦ none_below x es parts.1
      ]

  among_selected : (name : List ℕ) (es : List Entry) → T (is_sorted bytes_cmp es) → list_any (eq_by_cmp bytes_cmp name)
      (selected es) ≡ selects_at name (find bytes_cmp name es)
  among_selected name [] h = refl
  among_selected name (e ∷ es) h =
      let parts = and_T (below_all bytes_cmp e.0 es) (is_sorted bytes_cmp es) h in
      let later = among_selected name es parts.1 in
      elim (cases_Bool (eq_by_cmp bytes_cmp name e.0)) [
        | inl here ↦
            let is : name ≡ e.0 = tied_is name e.0 here in
            elim (selects e) as (λ b. selects e ≡ b → list_any (eq_by_cmp bytes_cmp name)
            (map (λ (e : Entry). e.0) (cond b (e ∷ filter selects es) (filter selects es))) ≡ selects (name, e.1)) [
              | true ↦ λ k. ap (λ t. t || list_any (eq_by_cmp bytes_cmp name) (selected es)) here ∙ sym k
                  ∙ ap (λ n. selects (n, e.1)) (sym is)
              | false ↦ λ k. subst (λ n. list_any (eq_by_cmp bytes_cmp n) (selected es) ≡ false) (sym is)
                  (none_below e.0 es parts.0) ∙ sym k ∙ ap (λ n. selects (n, e.1)) (sym is)
            ] refl
            ∙ sym (ap (λ t. selects_at name (cond t (Some e.1) (find bytes_cmp name es))) here)
        | inr outside ↦
            elim (selects e) as (λ b. list_any (eq_by_cmp bytes_cmp name)
            (map (λ (e : Entry). e.0) (cond b (e ∷ filter selects es) (filter selects es)))
            ≡ list_any (eq_by_cmp bytes_cmp name) (selected es)) [
              | true ↦ ap (λ t. t || list_any (eq_by_cmp bytes_cmp name) (selected es)) outside
              | false ↦ refl
            ]
            ∙ later
            ∙ sym (ap (λ t. selects_at name (cond t (Some e.1) (find bytes_cmp name es))) outside)
      ]

  below_selected : (x : List ℕ) (es : List Entry) → T (below_all bytes_cmp x es) →
      T (below_all bytes_cmp x (set.unit_entries (selected es)))
  below_selected x [] h = tt
  below_selected x (e ∷ es) h =
      let parts = and_T (is_lt (bytes_cmp x e.0)) (below_all bytes_cmp x es) h in
      elim (selects e) as (λ b. T (below_all bytes_cmp x
      (set.unit_entries (map (λ (e : Entry). e.0) (cond b (e ∷ filter selects es) (filter selects es)))))) [
        | true ↦ T_and (is_lt (bytes_cmp x e.0)) _ parts.0 (below_selected x es parts.1)
        | false ↦ below_selected x es parts.1
      ]

  sorted_selected : (es : List Entry) → T (is_sorted bytes_cmp es) → T (is_sorted bytes_cmp (set.unit_entries (selected es)))
  sorted_selected [] h = tt
  sorted_selected (e ∷ es) h =
      let parts = and_T (below_all bytes_cmp e.0 es) (is_sorted bytes_cmp es) h in
      elim (selects e) as (λ b. T (is_sorted bytes_cmp
      (set.unit_entries (map (λ (e : Entry). e.0) (cond b (e ∷ filter selects es) (filter selects es)))))) [
        | true ↦ T_and (below_all bytes_cmp e.0 (set.unit_entries (selected es))) _ (below_selected e.0 es parts.0)
            (sorted_selected es parts.1)
        | false ↦ sorted_selected es parts.1
      ]

  abbrev selected_in : Files → List (List ℕ)
  selected_in files = selected (map'.entries files)

  among_files : (name : List ℕ) (files : Files) → list_any (eq_by_cmp bytes_cmp name) (selected_in files)
      ≡ selects_at name (map'.get files name)
  among_files name files = among_selected name (map'.entries files) (map'.entries_sorted files)
      ∙ ap (selects_at name) (sym (map'.get-entries files name))

  module _ (p : Paths) (f : Files) (q : Paths) (g : Files) (apart : AreShards p f q g) where
    either : (name : List ℕ) (x y : Option (List ℕ)) → map'.get f name ≡ x → map'.get g name ≡ y →
        selects_at name (option_or x y) ≡ (selects_at name x || selects_at name y)
    either name None y e h = refl
    either name (Some t) None e h = sym (or-false (selects (name, t)))
    either name (Some t) (Some u) e h = absurd (not_both p f q g apart name (is_covered q name) refl t u e h)

    members : (name : List ℕ) → list_any (eq_by_cmp bytes_cmp name) (selected_in (merge_files q f g))
        ≡ list_any (eq_by_cmp bytes_cmp name) (selected_in f ++ selected_in g)
    members name =
        among_files name (merge_files q f g)
        ∙ ap (selects_at name) (get-merge p f q g apart name)
        ∙ either name (map'.get f name) (map'.get g name) refl refl
        ∙ sym (list_any-append (eq_by_cmp bytes_cmp name) (selected_in f) (selected_in g)
        ∙ (λ i. among_files name f i || among_files name g i))

    selected_merged : selected_in (merge_files q f g) ≡ sorted_by_name (selected_in f ++ selected_in g)
    selected_merged =
        sym (items_in_order (selected_in (merge_files q f g))
        (sorted_selected (map'.entries (merge_files q f g)) (map'.entries_sorted (merge_files q f g))))
        ∙ ap set.items (same_set (set.from_list (selected_in (merge_files q f g))) (set.from_list (selected_in f ++ selected_in g)) (λ name.
        contains-from_list (selected_in (merge_files q f g)) name ∙ members name
        ∙ sym (contains-from_list (selected_in f ++ selected_in g) name)))

-- ---- the names that a search visits

one_test : (h : Entry → Bool) (keeps : List ℕ → Bool) (es : List Entry) →
    filter keeps (map (λ (e : Entry). e.0) (filter h es))
    ≡ map (λ (e : Entry). e.0) (filter (λ (e : Entry). h e && keeps e.0) es)
one_test h keeps [] = refl
one_test h keeps (e ∷ es) =
    let kept : List (List ℕ) = filter keeps (map (λ (e : Entry). e.0) (filter h es)) in
    elim (h e) as (λ b. filter keeps (map (λ (e : Entry). e.0) (cond b (e ∷ filter h es) (filter h es)))
    ≡ map (λ (e : Entry). e.0) (cond (b && keeps e.0) (e ∷ filter (λ (e : Entry). h e && keeps e.0) es)
    (filter (λ (e : Entry). h e && keeps e.0) es))) [
      | true ↦
          elim (keeps e.0) as (λ k. cond k (e.0 ∷ kept) kept
          ≡ map (λ (e : Entry). e.0) (cond k (e ∷ filter (λ (e : Entry). h e && keeps e.0) es)
          (filter (λ (e : Entry). h e && keeps e.0) es))) [
            | true ↦ ap (λ ns. e.0 ∷ ns) (one_test h keeps es)
            | false ↦ one_test h keeps es
          ]
      | false ↦ one_test h keeps es
    ]

all_satisfy : (es : List Entry) → filter (λ (e : Entry). true) es ≡ es
all_satisfy [] = refl
all_satisfy (e ∷ es) = ap (λ rest. e ∷ rest) (all_satisfy es)

module _ (p : Paths) (f : Files) (q : Paths) (g : Files) (apart : AreShards p f q g) where
  pub searched_merged : (query : Query) (keeps : List ℕ → Bool) → searched_names query keeps (merge_files q f g)
      ≡ sorted_by_name (searched_names query keeps f ++ searched_names query keeps g)
  unfolding names_matching
  searched_merged query keeps =
      let h : Entry → Bool = λ (e : Entry). matches_set query (has e.1) in
      one_test h keeps (map'.entries (merge_files q f g))
      ∙ selected_merged (λ (e : Entry). h e && keeps e.0) p f q g apart
      ∙ (λ i. sorted_by_name (sym (one_test h keeps (map'.entries f)) i ++ sym (one_test h keeps (map'.entries g)) i))

  pub keys_merged : map'.keys (merge_files q f g) ≡ sorted_by_name (map'.keys f ++ map'.keys g)
  keys_merged =
      let names : List Entry → List (List ℕ) = map (λ (e : Entry). e.0) in
      ap names (sym (all_satisfy (map'.entries (merge_files q f g))))
      ∙ selected_merged (λ (e : Entry). true) p f q g apart
      ∙ (λ i. sorted_by_name (names (all_satisfy (map'.entries f) i) ++ names (all_satisfy (map'.entries g) i)))

  pub names_merged : (bytes : List ℕ) (decoded : DecodesAsContent bytes (merge_paths p q) (merge_files q f g)) →
      decoded.parts.names ≡ sorted_by_name (map'.keys f ++ map'.keys g)
  names_merged bytes decoded = sym (decoded_names bytes (merge_paths p q) (merge_files q f g) decoded) ∙ keys_merged
