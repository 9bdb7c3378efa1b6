-- Finite maps made from a function and a list of names.
use Rattle.std.proofs.Common.{◌≡◌, ℕ, true, false, cond, ◌||◌, List, [], ◌∷◌, refl, sym, ap, subst, ◌∙◌, inl, inr, Option, Some, None}
use Rattle.cs_tree.specs.NameOrder.{bytes_cmp}
use Rattle.std.proofs.lemmas.Bool.{cases_Bool}
use Rattle.std.specs.Cmp.Lexicographic.{nat_list_cmp_total}
use Rattle.std.specs.Prelude.{option_map, filter_map}
use Rattle.std.specs.List.{list_any}
use Rattle.std.specs.Ordering.{eq_by_cmp}
use Rattle.std.specs.FinMap as map'
use Rattle.std.specs.FinMap.{find, get, get-from_entries, from_entries}
use Rattle.cs_tree.proofs.PathSetLemmas.{tied_is, tied_same}

module _ {X : Type 0} where
  abbrev pub at_name : (List ℕ → Option X) → List ℕ → Option (List ℕ × X)
  at_name give name = option_map (λ (x : X). (name, x)) (give name)

  -- the value of such a map at a name
  pub find-collected : (give : List ℕ → Option X) (q : List ℕ) (names : List (List ℕ)) →
      find bytes_cmp q (filter_map (at_name give) names) ≡ cond (list_any (eq_by_cmp bytes_cmp q) names) (give q) None
  find-collected give q [] = refl
  find-collected give q (name ∷ names) =
      let rest = find-collected give q names in
      elim (cases_Bool (eq_by_cmp bytes_cmp q name)) [
        | inl here ↦
            let is : name ≡ q = sym (tied_is q name here) in
            subst (λ t. find bytes_cmp q (filter_map (at_name give) (name ∷ names))
            ≡ cond (t || list_any (eq_by_cmp bytes_cmp q) names) (give q) None) (sym here)
            (subst (λ n. find bytes_cmp q (filter_map (at_name give) (n ∷ names)) ≡ give q) (sym is)
            (elim (give q) as (λ o. give q ≡ o → find bytes_cmp q (filter_map (at_name give) (q ∷ names)) ≡ o) [
              | None ↦ λ none.
                  subst (λ o. find bytes_cmp q (Rattle.std.specs.List.cons_option (option_map (λ (x : X). (q, x)) o)
                  (filter_map (at_name give) names)) ≡ None) (sym none)
                  (rest ∙ elim (list_any (eq_by_cmp bytes_cmp q) names) as (λ b. cond b (give q) None ≡ None)
                  [ true ↦ none | false ↦ refl ])
              | Some x ↦ λ some.
                  subst (λ o. find bytes_cmp q (Rattle.std.specs.List.cons_option (option_map (λ (x : X). (q, x)) o)
                  (filter_map (at_name give) names)) ≡ Some x) (sym some)
                  (ap (λ b. cond b (Some x) (find bytes_cmp q (filter_map (at_name give) names))) (tied_same q))
            ] refl))
        | inr apart ↦
            subst (λ t. find bytes_cmp q (filter_map (at_name give) (name ∷ names))
            ≡ cond (t || list_any (eq_by_cmp bytes_cmp q) names) (give q) None) (sym apart)
            (elim (give name) as (λ o. find bytes_cmp q
            (Rattle.std.specs.List.cons_option (option_map (λ (x : X). (name, x)) o) (filter_map (at_name give) names))
            ≡ cond (list_any (eq_by_cmp bytes_cmp q) names) (give q) None) [
              | None ↦ rest
              | Some x ↦ ap (λ b. cond b (Some x) (find bytes_cmp q (filter_map (at_name give) names))) apart ∙ rest
            ])
      ]

  pub get-collected : (give : List ℕ → Option X) (names : List (List ℕ)) (q : List ℕ) →
      get (from_entries {R = bytes_cmp} (filter_map (at_name give) names)) q
      ≡ cond (list_any (eq_by_cmp bytes_cmp q) names) (give q) None
  get-collected give names q = get-from_entries nat_list_cmp_total _ q ∙ find-collected give q names
