-- Which paths cover a path: its ancestors, itself and the root. Binary search in an ascending list.
use Rattle.cs_tree.specs.Covering.{Covers, itself, below, root}
use Rattle.cs_tree.specs.PathSet.{Paths}
use Rattle.cs_tree.specs.NameOrder.{bytes_cmp}
use Rattle.cs_tree.specs.NamesAscending.{are_ascending}
use Rattle.std.proofs.Common.{◌≡◌, ℕ, ◌+◌, ◌<◌, Bool, true, false, not, ◌&&◌, ◌||◌, List, [], ◌∷◌, ◌++◌, length, map, get_or, refl, sym, ap, subst, ◌∙◌, inl, inr, arith, append_assoc, length-append}
use Rattle.std.specs.Prelude.{Result, Ok, Err, is_ok, bytes_eq}
use Rattle.std.specs.Path.{slash}
use Rattle.std.specs.List.{list_any}
use Rattle.std.specs.List.Sorted.{IsSorted, IsStrictlySortedBy, IsBinarySearchResult, IsSearchInRange}
use Rattle.std.specs.Ordering.{is_lt, is_eq, nat_cmp, ordering_reverse}
use Rattle.std.specs.Cmp.{both_ways as same_tests}
use Rattle.std.specs.Cmp.Lexicographic.{bytes_decides, slice_cmp, nat_list_cmp_total, texts_ties}
use Rattle.std.specs.declared.cmp.Ordering.TheVariants.{Less}
use Rattle.std.proofs.lemmas.Bool.{and_parts, and_from, or_cases, or_left, or_right, false_from_ne_true, not-true, not_from_false, both_ways, cases_lt}
use Rattle.std.proofs.lemmas.List.{length-map}
use Rattle.std.proofs.Math.ListN.{get_or-map}
use Rattle.std.proofs.lemmas.List.Folds.{list_any_none, list_any_at}
use Rattle.std.proofs.lemmas.List.Sorted.{searchable_from_sorted}
use Rattle.std.proofs.lemmas.Map.Keys.{Less-from_sorted}
use Rattle.cs_tree.specs.Cover.{begins, covers, is_alone, is_among, is_covered}
use Rattle.cs_tree.specs.Cover.{is_ancestor}
use Rattle.cs_tree.specs.PathSet as set
use Rattle.cs_tree.proofs.CoverLemmas.{begins_rest, begins_at, covers_says}
use Rattle.cs_tree.proofs.PathSetLemmas.{alike}
use Rattle.cs_tree.proofs.NameLemmas.{list_any-map}
use Rattle.cs_tree.proofs.ReduceLemmas.{any-from_list, strictly_from}

-- ---- the search

module _ {X : Type 0} (bytes : X → List ℕ) where
  -- neighbours in a list that ascends by bytes
  adjacent : (xs : List X) → IsStrictlySortedBy bytes_cmp (map bytes xs) → IsSorted (λ (x y : X). bytes_cmp (bytes x) (bytes y)) xs
  adjacent xs strict = λ k d low high.
      let less : bytes_cmp (get_or (map bytes xs) k (bytes d)) (get_or (map bytes xs) (k + 1) (bytes d)) ≡ Less =
      Less-from_sorted bytes_cmp (map bytes xs) k (k + 1) (bytes d) strict (omega arith)
      (omega (arith, high, length-map xs bytes)) in
      let rises : bytes_cmp (bytes (get_or xs k d)) (bytes (get_or xs (k + 1) d)) ≡ Less =
      sym (ap (λ x. bytes_cmp x (get_or (map bytes xs) (k + 1) (bytes d))) (get_or-map bytes xs k d)
      ∙ ap (bytes_cmp (bytes (get_or xs k d))) (get_or-map bytes xs (k + 1) d)) ∙ less in
      ap is_lt (nat_list_cmp_total.antisymm (bytes (get_or xs (k + 1) d)) (bytes (get_or xs k d)) ∙ ap ordering_reverse rises)

  pub listed : (xs : List X) (path : List ℕ) (r : Result ℕ ℕ) → are_ascending (map bytes xs) ≡ true →
      IsSearchInRange r (length xs) → IsBinarySearchResult (λ (x : X). slice_cmp nat_cmp (bytes x) path) xs r → is_ok r
      ≡ is_among (map bytes xs) path
  listed [] path (Ok i) up bound found = absurd (omega (arith, bound))
  listed (x ∷ xs) path (Ok i) up bound found =
      sym (list_any-map bytes (λ other. bytes_eq other path) (x ∷ xs)
      ∙ list_any_at (λ (y : X). bytes_eq (bytes y) path) (x ∷ xs) i x bound
      ((bytes_decides (bytes (get_or (x ∷ xs) i x)) path).1 (alike (bytes (get_or (x ∷ xs) i x)) path (found x))))
  listed xs path (Err i) up bound found =
      let parts = found (searchable_from_sorted nat_list_cmp_total bytes xs path (adjacent xs (strictly_from (map bytes xs) up))) in
      sym (list_any-map bytes (λ other. bytes_eq other path) xs
      ∙ list_any_none (λ (y : X). bytes_eq (bytes y) path) xs (λ k d within. elim (cases_lt k i) [
        | inl before ↦ texts_ties (bytes (get_or xs k d)) path ∙ ap is_eq (parts.0 k d (omega arith) before)
        | inr after ↦ texts_ties (bytes (get_or xs k d)) path ∙ ap is_eq (parts.1 k d after within)
      ]))

-- ---- ancestors

list_any_or : {X : Type 0} (f g : X → Bool) (xs : List X) → list_any (λ x. f x || g x) xs ≡ (list_any f xs || list_any g xs)
list_any_or f g [] = refl
list_any_or f g (x ∷ xs) = ap (λ b. (f x || g x) || b) (list_any_or f g xs) ∙ regroup (f x) (g x) (list_any f xs) (list_any g xs)
  where
    regroup : (a b c d : Bool) → ((a || b) || (c || d)) ≡ ((a || c) || (b || d))
    regroup true b c d = refl
    regroup false true true d = refl
    regroup false true false d = refl
    regroup false false c d = refl

list_any_and : {X : Type 0} (f : X → Bool) (given : Bool) (xs : List X) → list_any (λ x. f x && given) xs ≡ (given && list_any f xs)
list_any_and f true [] = refl
list_any_and f false [] = refl
list_any_and f given (x ∷ xs) = ap (λ b. (f x && given) || b) (list_any_and f given xs) ∙ regroup (f x) given (list_any f xs)
  where
    regroup : (a b c : Bool) → ((a && b) || (b && c)) ≡ (b && (a || c))
    regroup true true c = refl
    regroup true false c = refl
    regroup false true c = refl
    regroup false false c = refl

-- a path with an ancestor is the ancestor, a slash and more
below_parts : (path other : List ℕ) → is_ancestor other path ≡ true → (rest : List ℕ) × (path ≡ other ++ slash ∷ rest)
below_parts path other h =
    let found = begins_rest (other ++ slash ∷ []) path h in
    (found.0, found.1 ∙ append_assoc other (slash ∷ []) found.0)

below_from : (path other rest : List ℕ) → path ≡ other ++ slash ∷ rest → is_ancestor other path ≡ true
below_from path other rest e = subst (λ p. begins (other ++ slash ∷ []) p ≡ true) (append_assoc other (slash ∷ []) rest
    ∙ sym e) (begins_at (other ++ slash ∷ []) rest)

below_longer : (path other : List ℕ) → is_ancestor other path ≡ true → length other < length path
below_longer path other h =
    let found = below_parts path other h in
    let long : length path ≡ length (other ++ slash ∷ found.0) = ap length found.1 in
    omega (arith, long, length-append other (slash ∷ found.0))

-- ---- a path that another one covers

covers_apart_from : (path other : List ℕ) → (covers other path && not (bytes_eq other path))
    ≡ (is_ancestor other path || (bytes_eq other (slash ∷ [])
    && (begins (slash ∷ []) path && not (bytes_eq path (slash ∷ [])))))
covers_apart_from path other = same_tests _ _
    (λ h. let parts = and_parts (covers other path) (not (bytes_eq other path)) h in
    says (not-true _ parts.1) (covers_says other path parts.0))
    (λ h. elim (or_cases (is_ancestor other path) _ h) [
      | inl lower ↦ and_from (covers other path) _
          (or_right (bytes_eq other path) _ (or_left (is_ancestor other path) _ lower))
          (not_from_false _ (false_from_ne_true _ (λ is.
          let long = below_longer path other lower in let e : length other ≡ length path =
          ap length ((bytes_decides other path).0 is) in absurd (omega arith))))
      | inr top ↦
          let parts = and_parts (bytes_eq other (slash ∷ [])) _ top in
          let rest = and_parts (begins (slash ∷ []) path) (not (bytes_eq path (slash ∷ []))) parts.1 in
          and_from (covers other path) _ (or_right (bytes_eq other path) _
          (or_right (is_ancestor other path) _ (and_from (bytes_eq other (slash ∷ [])) _ parts.0 rest.0)))
          (not_from_false _ (false_from_ne_true _ (λ is.
          both_ways (bytes_eq path (slash ∷ [])) (not-true _ rest.1)
          ((bytes_decides path (slash ∷ [])).1 (sym ((bytes_decides other path).0 is)
          ∙ (bytes_decides other (slash ∷ [])).0 parts.0)))))
    ])
  where
    says : bytes_eq other path ≡ false → Covers other path →
        (is_ancestor other path || (bytes_eq other (slash ∷ [])
        && (begins (slash ∷ []) path && not (bytes_eq path (slash ∷ []))))) ≡ true
    says apart (itself e) = absurd (both_ways (bytes_eq other path) apart ((bytes_decides other path).1 e))
    says apart (below rest e) = or_left (is_ancestor other path) _ (below_from path other rest e)
    says apart (root rest e f) = or_right (is_ancestor other path) _
        (and_from (bytes_eq other (slash ∷ [])) _ ((bytes_decides other (slash ∷ [])).1 e)
        (and_from (begins (slash ∷ []) path) _ (subst (λ t. begins (slash ∷ []) t ≡ true) (sym f) refl)
        (not_from_false _ (false_from_ne_true _ (λ is. both_ways (bytes_eq other path) apart
        ((bytes_decides other path).1 (e ∙ sym ((bytes_decides path (slash ∷ [])).0 is))))))))

-- a path that covers another one is an ancestor, or the root
pub alone_is : (path : List ℕ) (paths : List (List ℕ)) → is_alone paths path
    ≡ not (list_any (λ above. is_ancestor above path) paths
    || ((begins (slash ∷ []) path && not (bytes_eq path (slash ∷ []))) && is_among paths (slash ∷ [])))
alone_is path paths = ap not
    ((λ i. list_any (λ other. covers_apart_from path other i) paths)
    ∙ list_any_or (λ above. is_ancestor above path)
    (λ other. bytes_eq other (slash ∷ []) && (begins (slash ∷ []) path && not (bytes_eq path (slash ∷ [])))) paths
    ∙ ap (λ b. list_any (λ above. is_ancestor above path) paths || b)
    (list_any_and (λ other. bytes_eq other (slash ∷ [])) (begins (slash ∷ []) path && not (bytes_eq path (slash ∷ [])))
    paths))

-- ---- a name that one of the paths covers

regroup : (a b c g x y z : Bool) → ((a || (b || (c && g))) || (x || (y || (g && z)))) ≡ ((a || x) || ((b || y) || (g && (c || z))))
regroup true b c g x y z = refl
regroup false true c g true y z = refl
regroup false true c g false y z = refl
regroup false false true true true y z = refl
regroup false false true true false true z = refl
regroup false false true true false false z = refl
regroup false false true false true y z = refl
regroup false false true false false true z = refl
regroup false false true false false false z = refl
regroup false false false g x y z = refl

-- a path that covers the name is the name, an ancestor, or the root
ancestors_cover : (name : List ℕ) (ps : List (List ℕ)) → list_any (λ path. covers path name) ps
    ≡ (is_among ps name || (list_any (λ above. is_ancestor above name) ps
    || (begins (slash ∷ []) name && is_among ps (slash ∷ []))))
ancestors_cover name [] = elim (begins (slash ∷ []) name) as (λ b. false ≡ (b && false)) [ true ↦ refl | false ↦ refl ]
ancestors_cover name (path ∷ ps) =
    ap (λ b. covers path name || b) (ancestors_cover name ps)
    ∙ regroup (bytes_eq path name) (is_ancestor path name) (bytes_eq path (slash ∷ [])) (begins (slash ∷ []) name)
    (is_among ps name) (list_any (λ above. is_ancestor above name) ps) (is_among ps (slash ∷ []))

-- a name is covered if it, an ancestor, or the root is in the list
pub covered_is : (name : List ℕ) (ps : List (List ℕ)) → is_covered (set.from_list ps) name
    ≡ (is_among ps name || (list_any (λ above. is_ancestor above name) ps
    || (begins (slash ∷ []) name && is_among ps (slash ∷ []))))
covered_is name ps = sym (any-from_list (λ path. covers path name) ps) ∙ ancestors_cover name ps
