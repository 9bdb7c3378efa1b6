-- The names of a folder of a tree in memory: one more name, and those that a path covers.
use Rattle.std.proofs.Common.{◌≡◌, ℕ, Bool, true, false, not, ◌&&◌, ◌||◌, List, [], ◌∷◌, ◌++◌, length, map, drop, get_or, refl, sym, ap, subst, ◌∙◌, eqb, cond, inl, inr, ◌⊎◌, arith, length-append}
use Rattle.cs_tree.specs.Covering.{Covers, itself, below, root}
use Rattle.cs_tree.specs.Folders.{stem_of, child, is_element, are_distinct, are_elements}
use Rattle.std.proofs.lemmas.Bool.{cases_Bool, true≢false, and_parts, and_from, or_parts, or_right, not-true}
use Rattle.std.proofs.lemmas.List.{map-append}
use Rattle.std.proofs.lemmas.List.Folds.{list_all-append, list_any-append}
use Rattle.std.specs.Prelude.{filter, bytes_eq}
use Rattle.std.specs.Path.{slash}
use Rattle.std.specs.Cmp.{both_ways as same_tests}
use Rattle.std.specs.Cmp.Lexicographic.{bytes_decides}
use Rattle.std.specs.List.{list_any, list_all}
use Rattle.cs_tree.specs.Cover.{begins, covers}
use Rattle.cs_tree.proofs.CoverLemmas.{covers_says, covers_from, covers_trans, begins_rest}
use Rattle.cs_tree.proofs.SplitLemmas.{NoSlash, stem-other}
use Rattle.cs_tree.proofs.NameLemmas.{list_any-map, name_parts, folder_covers_child}

-- ---- lists

module _ {X Y : Type 0} (view : X → Y) (test : Y → Bool) where
  pub map-filter : (xs : List X) → map view (filter (λ x. test (view x)) xs) ≡ filter test (map view xs)
  map-filter [] = refl
  map-filter (x ∷ xs) = elim (test (view x)) as
      (λ b. map view (cond b (x ∷ filter (λ y. test (view y)) xs) (filter (λ y. test (view y)) xs))
      ≡ cond b (view x ∷ filter test (map view xs)) (filter test (map view xs))) [
        | true ↦ ap (λ ys. view x ∷ ys) (map-filter xs)
        | false ↦ map-filter xs
      ]

module _ {X : Type 0} where
  -- two tests that agree on all items that satisfy a third one give the same filtered list
  pub same_filters : (p q r : X → Bool) → ((x : X) → r x ≡ true → p x ≡ q x) → (xs : List X) → list_all r xs ≡ true →
      filter p xs ≡ filter q xs
  same_filters p q r agree [] h = refl
  same_filters p q r agree (x ∷ xs) h =
      let parts = and_parts (r x) (list_all r xs) h in
      ap (λ b. cond b (x ∷ filter p xs) (filter p xs)) (agree x parts.0)
      ∙ ap (λ ys. cond (q x) (x ∷ ys) ys) (same_filters p q r agree xs parts.1)

  pub filter_none : (p : X → Bool) → ((x : X) → p x ≡ false) → (xs : List X) → filter p xs ≡ []
  filter_none p none [] = refl
  filter_none p none (x ∷ xs) = ap (λ b. cond b (x ∷ filter p xs) (filter p xs)) (none x) ∙ filter_none p none xs

  list_all-filter : (p r : X → Bool) (xs : List X) → list_all r xs ≡ true → list_all r (filter p xs) ≡ true
  list_all-filter p r [] h = refl
  list_all-filter p r (x ∷ xs) h =
      let parts = and_parts (r x) (list_all r xs) h in
      let rest = list_all-filter p r xs parts.1 in
      elim (p x) as (λ b. list_all r (cond b (x ∷ filter p xs) (filter p xs)) ≡ true)
      [ true ↦ and_from (r x) _ parts.0 rest | false ↦ rest ]

  list_any-filter : (p t : X → Bool) (xs : List X) → list_any t xs ≡ false → list_any t (filter p xs) ≡ false
  list_any-filter p t [] h = refl
  list_any-filter p t (x ∷ xs) h =
      let parts = or_parts (t x) (list_any t xs) h in
      let rest = list_any-filter p t xs parts.1 in
      elim (p x) as (λ b. list_any t (cond b (x ∷ filter p xs) (filter p xs)) ≡ false)
      [ true ↦ ap (λ b. b || list_any t (filter p xs)) parts.0 ∙ rest | false ↦ rest ]

-- ---- names in a folder

same-sym : (p q : List ℕ) → bytes_eq p q ≡ bytes_eq q p
same-sym p q = same_tests _ _ (λ h. (bytes_decides q p).1 (sym ((bytes_decides p q).0 h)))
    (λ h. (bytes_decides p q).1 (sym ((bytes_decides q p).0 h)))

distinct-push : (names : List (List ℕ)) (name : List ℕ) → are_distinct names ≡ true →
    list_any (λ listed. bytes_eq listed name) names ≡ false → are_distinct (names ++ name ∷ []) ≡ true
distinct-push [] name h new = refl
distinct-push (x ∷ names) name h new =
    let parts = and_parts (not (list_any (λ o. bytes_eq o x) names)) (are_distinct names) h in
    let apart = or_parts (bytes_eq x name) (list_any (λ listed. bytes_eq listed name) names) new in
    and_from _ _
    (ap not (list_any-append (λ o. bytes_eq o x) names (name ∷ []) ∙ ap (λ b. b || (bytes_eq name x || false))
    (not-true _ parts.0) ∙ ap (λ b. b || false) (same-sym name x ∙ apart.0)))
    (distinct-push names name parts.1 apart.1)

distinct-filter : (p : List ℕ → Bool) (names : List (List ℕ)) → are_distinct names ≡ true → are_distinct (filter p names) ≡ true
distinct-filter p [] h = refl
distinct-filter p (x ∷ names) h =
    let parts = and_parts (not (list_any (λ o. bytes_eq o x) names)) (are_distinct names) h in
    let rest = distinct-filter p names parts.1 in
    elim (p x) as (λ b. are_distinct (cond b (x ∷ filter p names) (filter p names)) ≡ true) [
      | true ↦ and_from _ _ (ap not (list_any-filter p (λ o. bytes_eq o x) names (not-true _ parts.0))) rest
      | false ↦ rest
    ]

pub are_elements-push : (names : List (List ℕ)) (name : List ℕ) → are_elements names ≡ true → is_element name ≡ true →
    list_any (λ listed. bytes_eq listed name) names ≡ false → are_elements (names ++ name ∷ []) ≡ true
are_elements-push names name h good new =
    let parts = and_parts (list_all is_element names) (are_distinct names) h in
    and_from _ _ (list_all-append is_element names (name ∷ []) ∙ ap (λ b. b && (is_element name && true)) parts.0
    ∙ ap (λ b. b && true) good) (distinct-push names name parts.1 new)

pub are_elements-filter : (p : List ℕ → Bool) (names : List (List ℕ)) → are_elements names ≡ true → are_elements (filter p names) ≡ true
are_elements-filter p names h =
    let parts = and_parts (list_all is_element names) (are_distinct names) h in
    and_from _ _ (list_all-filter p is_element names parts.0) (distinct-filter p names parts.1)

-- ---- the entries of a folder that a path covers

-- a slash after which the names differ
slash_split : (p q n rest : List ℕ) → NoSlash n → q ++ slash ∷ n ≡ p ++ slash ∷ rest → (p ≡ q) ⊎ ((r : List ℕ) × (q ≡ p ++ slash ∷ r))
slash_split [] [] n rest h e = inl refl
slash_split [] (b ∷ q) n rest h e = inr (q, ap (λ x. x ∷ q) (ap (λ xs. get_or xs 0 0) e))
slash_split (a ∷ p) [] n rest h e = absurd (slash_in p n rest h (ap (drop 1) e))
  where
    slash_in : (p n rest : List ℕ) → NoSlash n → n ≡ p ++ slash ∷ rest → ⊥
    slash_in p n rest h e = true≢false (sym (list_any-append (λ b. eqb b slash) p (slash ∷ rest)
        ∙ or_right (list_any (λ b. eqb b slash) p) true refl) ∙ ap (list_any (λ b. eqb b slash)) (sym e) ∙ h)
slash_split (a ∷ p) (b ∷ q) n rest h e =
    let heads : b ≡ a = ap (λ xs. get_or xs 0 0) e in
    elim (slash_split p q n rest h (ap (drop 1) e)) [
      | inl same_rest ↦ inl (ap (λ x. x ∷ p) (sym heads) ∙ ap (λ xs. b ∷ xs) same_rest)
      | inr found ↦ inr (found.0, ap (λ x. x ∷ q) heads ∙ ap (λ xs. a ∷ xs) found.1)
    ]

-- a path that covers the text before a slash of an entry's path covers the folder
stem_covered : (path folder : List ℕ) → (path ≡ stem_of folder) ⊎ ((r : List ℕ) × (stem_of folder ≡ path ++ slash ∷ r))
    → covers path folder ≡ true
stem_covered path folder h =
    elim (cases_Bool (bytes_eq folder (slash ∷ []))) [
      | inl is_root ↦ at_root ((bytes_decides folder (slash ∷ [])).0 is_root) h
      | inr other ↦ elsewhere (stem-other folder other) h
    ]
  where
    at_root : folder ≡ slash ∷ [] → (path ≡ stem_of folder) ⊎ ((r : List ℕ) × (stem_of folder ≡ path ++ slash ∷ r)) →
        covers path folder ≡ true
    at_root e (inl f) = subst (λ x. covers x folder ≡ true) (sym (f ∙ ap stem_of e)) (subst (λ x. covers [] x ≡ true) (sym e) refl)
    at_root e (inr found) = let l : length (stem_of (slash ∷ [])) ≡ length (path ++ slash ∷ found.0) =
        ap length (sym (ap stem_of e) ∙ found.1) in absurd (omega (arith, l, length-append path (slash ∷ found.0)))

    elsewhere : stem_of folder ≡ folder → (path ≡ stem_of folder) ⊎
        ((r : List ℕ) × (stem_of folder ≡ path ++ slash ∷ r)) → covers path folder ≡ true
    elsewhere e (inl f) = covers_from path folder (itself (f ∙ e))
    elsewhere e (inr found) = covers_from path folder (below found.0 (sym e ∙ found.1))

-- a path that does not cover a folder covers only itself of the folder's entries
pub covers_child : (path folder name : List ℕ) → begins (slash ∷ []) folder ≡ true → covers path folder ≡ false →
    is_element name ≡ true → covers path (child folder name) ≡ bytes_eq (child folder name) path
covers_child path folder name rooted apart good = same_tests _ _ (λ h. says (covers_says path (child folder name) h))
    (λ h. covers_from path (child folder name) (itself (sym ((bytes_decides (child folder name) path).0 h))))
  where
    says : Covers path (child folder name) → bytes_eq (child folder name) path ≡ true
    says (itself e) = (bytes_decides (child folder name) path).1 (sym e)
    says (below rest e) = absurd (true≢false
        (sym (stem_covered path folder (slash_split path (stem_of folder) name rest (name_parts name good) e)) ∙ apart))
    says (root rest e f) = let prefix = begins_rest (slash ∷ []) folder rooted in
        absurd (true≢false (sym (covers_from path folder (root prefix.0 e prefix.1)) ∙ apart))

-- the names of a folder that remain when a path is removed
pub names_beside : (path folder : List ℕ) (names : List (List ℕ)) → begins (slash ∷ []) folder ≡ true →
    covers path folder ≡ false → are_elements names ≡ true → filter (λ name. not (bytes_eq (child folder name) path))
    names ≡ filter (λ name. not (covers path (child folder name))) names
names_beside path folder names rooted apart good =
    sym (same_filters _ _ is_element (λ name h. ap not (covers_child path folder name rooted apart h)) names
    (and_parts (list_all is_element names) _ good).0)

pub names_below : (path folder : List ℕ) (names : List (List ℕ)) → covers path folder ≡ true →
    filter (λ name. not (covers path (child folder name))) names ≡ []
names_below path folder names h = filter_none _
    (λ name. ap not (covers_trans path folder (child folder name) h (folder_covers_child folder name))) names

-- ---- one more name

module _ {X : Type 0} (view : X → List ℕ) where
  pub pushed_names : (ok : Bool) (items later : List X) (x : X) (name : List ℕ) → later
      ≡ cond ok (items ++ x ∷ []) items → view x ≡ name → are_elements (map view items) ≡ true → is_element name
      ≡ true → list_any (λ y. bytes_eq (view y) name) items ≡ false → are_elements (map view later) ≡ true
  pushed_names true items later x name e is h good new =
      ap (λ ys. are_elements (map view ys)) e ∙ ap are_elements (map-append view items (x ∷ []) ∙ ap (λ n. map view items ++ n ∷ []) is)
      ∙ are_elements-push (map view items) name h good (list_any-map view (λ listed. bytes_eq listed name) items ∙ new)
  pushed_names false items later x name e is h good new = ap (λ ys. are_elements (map view ys)) e ∙ h

  pub added_names : (items later : List X) (x : X) (name : List ℕ) → later ≡ items ++ x ∷ [] → view x ≡ name →
      list_any (λ y. bytes_eq (view y) name) items ≡ false → map view later
      ≡ cond (list_any (λ listed. bytes_eq listed name) (map view items)) (map view items) (map view items ++ name ∷ [])
  added_names items later x name e is new =
      ap (map view) e ∙ map-append view items (x ∷ []) ∙ ap (λ n. map view items ++ n ∷ []) is
      ∙ ap (λ b. cond b (map view items) (map view items ++ name ∷ []))
      (sym (list_any-map view (λ listed. bytes_eq listed name) items ∙ new))
