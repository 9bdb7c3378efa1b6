-- The parent and the last element of a path, and the paths of a folder's entries.
use Rattle.std.specs.Prelude.{bytes_eq}
use Rattle.std.specs.Path.{slash}
use Rattle.cs_tree.specs.Folders.{stem_of, child, is_element, last_element}
use Rattle.std.proofs.Common.{◌≡◌, ◌≢◌, ℕ, ◌+◌, ◌-◌, Bool, true, false, not, ◌||◌, List, [], ◌∷◌, ◌++◌, length, take, drop, get_or, refl, sym, ap, subst, ◌∙◌, eqb, cond, Option, Some, None, Bor, inl, inr, arith, length-append}
use Rattle.std.proofs.lemmas.Bool.{false_from_ne_true, true≢false, and_parts, and_from, or_cases, or_parts, or_left, eqb-true}
use Rattle.std.proofs.lemmas.List.Folds.{list_all-append}
use Rattle.std.proofs.lemmas.Bool.Decides.{Decides-eqb}
use Rattle.std.proofs.lemmas.List.{append_cancel_left, take_at}
use Rattle.std.proofs.lemmas.Slice.Eq.{strip_prefix_is}
use Rattle.std.specs.Cmp.{both_ways as same_tests}
use Rattle.std.specs.Cmp.Lexicographic.{bytes_decides, pointwise}
use Rattle.std.specs.List.{list_any, list_all, before_last, suffix_len}
use Rattle.std.specs.Option.{MatchOption}
use Rattle.cs_tree.specs.Clean.{elements, has_nul}
use Rattle.cs_tree.specs.Proper.{is_proper, is_proper_path}
use Rattle.cs_fakes.specs.Changes.{parent_of}
use Rattle.cs_tree.proofs.SplitLemmas.{NoSlash, LastSlash, stem-other, elements-append, elements-one, from_end, last_element-last, proper_last}

-- ---- a path after a folder's stem

abbrev pub AfterStem : List ℕ → List ℕ → Option (Bor (List ℕ)) → Type 0
AfterStem path folder result = MatchOption result ((rest : List ℕ) → path ≢ stem_of folder ++ rest)
    (λ rest. path ≡ stem_of folder ++ rest.now)

after_bytes : (path folder : List ℕ) (cut : Option (Bor (List ℕ))) → bytes_eq folder (slash ∷ []) ≡ false →
    MatchOption cut (pointwise eqb (take (length folder) path) folder ≡ false)
    (λ rest. (pointwise eqb (take (length folder) path) folder ≡ true) × (rest.now ≡ drop (length folder) path) ×
    (length rest.now + length folder ≡ length path)) → AfterStem path folder cut
after_bytes path folder None other h = λ rest e. strip_prefix_is Decides-eqb path folder None h rest
    (e ∙ ap (λ stem. stem ++ rest) (stem-other folder other))
after_bytes path folder (Some rest) other h = strip_prefix_is Decides-eqb path folder (Some rest) h
    ∙ ap (λ stem. stem ++ rest.now) (sym (stem-other folder other))

pub after_other : (path folder : List ℕ) {q m : List ℕ} (cut : Option (Bor (List ℕ))) → q ≡ folder → m ≡ path →
    bytes_eq folder (slash ∷ []) ≡ false → MatchOption cut (pointwise eqb (take (length q) m) q ≡ false)
    (λ rest. (pointwise eqb (take (length q) m) q ≡ true) × (rest.now ≡ drop (length q) m) ×
    (length rest.now + length q ≡ length m)) → AfterStem path folder cut
after_other path folder {q} {m} cut e f other h =
    subst (λ p. AfterStem p folder cut) f (subst (λ q'. bytes_eq q' (slash ∷ []) ≡ false → AfterStem m q' cut) e
    (λ apart. after_bytes m q cut apart h) other)

-- ---- the entries of a folder

pub child_same : (path folder name last : List ℕ) → path ≡ stem_of folder ++ slash ∷ last → bytes_eq last name
    ≡ bytes_eq (child folder name) path
child_same path folder name last e = same_tests _ _
    (λ h. (bytes_decides (child folder name) path).1
    (ap (λ n. stem_of folder ++ slash ∷ n) (sym ((bytes_decides last name).0 h)) ∙ sym e))
    (λ h. (bytes_decides last name).1 (sym (ap (drop 1)
    (append_cancel_left (stem_of folder) (slash ∷ name) (slash ∷ last) ((bytes_decides (child folder name) path).0 h
    ∙ e)))))

pub child_apart : (path folder name last : List ℕ) (b : ℕ) → path ≡ stem_of folder ++ b ∷ last → b ≢ slash →
    bytes_eq (child folder name) path ≡ false
child_apart path folder name last b e apart = false_from_ne_true _ (λ h.
    apart (ap (λ xs. get_or xs 0 0) (sym (append_cancel_left (stem_of folder) (slash ∷ name) (b ∷ last)
    ((bytes_decides (child folder name) path).0 h ∙ e)))))

-- ---- the parent of a path

pub first_element_of-last : (path prefix name : List ℕ) → LastSlash path prefix name → before_last (λ b. eqb b slash) path ≡ prefix
first_element_of-last path prefix name h =
    ap (before_last (λ b. eqb b slash)) h.whole
    ∙ ap (λ n. take n (prefix ++ slash ∷ name)) (rest (from_end prefix name h.last) (length-append prefix (slash ∷ name)))
    ∙ take_at prefix (slash ∷ name) (length prefix) refl
  where
    rest : suffix_len (λ b. not (eqb b slash)) (prefix ++ slash ∷ name) ≡ length (prefix ++ slash ∷ name)
        - (length prefix + 1) → length (prefix ++ slash ∷ name) ≡ length prefix + length (slash ∷ name) →
        length (prefix ++ slash ∷ name) - suffix_len (λ b. not (eqb b slash)) (prefix ++ slash ∷ name) - 1
        ≡ length prefix
    rest far long = omega (arith, far, long)

pub parent_of-last : (path prefix name : List ℕ) → LastSlash path prefix name → parent_of path
    ≡ cond (bytes_eq prefix []) (slash ∷ []) prefix
parent_of-last path prefix name h = ap (λ f. cond (bytes_eq f []) (slash ∷ []) f) (first_element_of-last path prefix name h)

pub parent_root : (path prefix name : List ℕ) → LastSlash path prefix name → length prefix ≡ 0 → slash ∷ [] ≡ parent_of path
parent_root path [] name h e = sym (parent_of-last path [] name h)
parent_root path (b ∷ prefix) name h e = absurd (omega (arith, e))

pub parent_prefix : (path prefix name : List ℕ) → LastSlash path prefix name → length prefix ≢ 0 → prefix ≡ parent_of path
parent_prefix path [] name h e = absurd (e refl)
parent_prefix path (b ∷ prefix) name h e = sym (parent_of-last path (b ∷ prefix) name h)

-- ---- the last element of a proper path

-- a text that has a slash has a last one
pub some_slash : (text : List ℕ) → list_any (λ b. eqb b slash) text ≡ true → (prefix : List ℕ) × (name : List ℕ) ×
    LastSlash text prefix name
some_slash [] h = absurd (true≢false (sym h))
some_slash (b ∷ text) h = by_rest (list_any (λ x. eqb x slash) text) refl (λ more. some_slash text more) h
  where
    by_rest : (r : Bool) → list_any (λ x. eqb x slash) text ≡ r →
        (list_any (λ x. eqb x slash) text ≡ true → (prefix : List ℕ) × (name : List ℕ) × LastSlash text prefix name) →
        (eqb b slash || list_any (λ x. eqb x slash) text) ≡ true → (prefix : List ℕ) × (name : List ℕ) × LastSlash
        (b ∷ text) prefix name
    by_rest true e more h =
        let found = more e in
        (b ∷ found.0, found.1, record { whole = ap (λ t. b ∷ t) found.2.whole; last = found.2.last })
    by_rest false e more h = elim (or_cases (eqb b slash) (list_any (λ x. eqb x slash) text) h) [
      | inl here ↦ ([], text, record { whole = ap (λ x. x ∷ text) (eqb-true b slash here); last = e })
      | inr later ↦ absurd (true≢false (sym later ∙ e))
    ]

-- the last of some proper elements is proper
last_proper : (prefix name : List ℕ) → NoSlash name → list_all is_proper (elements (prefix ++ slash ∷ name)) ≡ true → is_proper name ≡ true
last_proper prefix name h all =
    let parts = and_parts (list_all is_proper (elements prefix)) (list_all is_proper (elements name))
    (sym (ap (list_all is_proper) (elements-append prefix name) ∙ list_all-append is_proper (elements prefix)
    (elements name)) ∙ all) in
    sym (proper_last name (elements-one name h)) ∙ parts.1

clean_last : (path prefix name : List ℕ) → LastSlash path prefix name → is_proper_path path ≡ true → is_proper name ≡ true
clean_last path [] name h clean =
    let parts = and_parts (eqb slash slash) (list_all is_proper (elements name)) (sym (ap is_proper_path h.whole) ∙ clean) in
    sym (proper_last name (elements-one name h.last)) ∙ parts.1
clean_last path (b ∷ prefix) name h clean =
    let parts = and_parts (eqb b slash) (list_all is_proper (elements (prefix ++ slash ∷ name)))
    (sym (ap is_proper_path h.whole) ∙ clean) in
    last_proper prefix name h.last parts.1

clean_slash : (path : List ℕ) → is_proper_path path ≡ true → list_any (λ b. eqb b slash) path ≡ true
clean_slash [] h = absurd (true≢false (sym h))
clean_slash (b ∷ rest) h = or_left (eqb b slash) _ (and_parts (eqb b slash) _ h).0

proper_some : (name : List ℕ) → is_proper name ≡ true → bytes_eq name [] ≡ false
proper_some [] h = absurd (true≢false (sym h))
proper_some (b ∷ name) h = refl

pub clean_name : (path : List ℕ) → is_proper_path path ≡ true → has_nul path ≡ false → is_element (last_element path) ≡ true
clean_name path clean plain =
    let found = some_slash path (clean_slash path clean) in
    let good = clean_last path found.0 found.1 found.2 clean in
    ap is_element (last_element-last path found.0 found.1 found.2)
    ∙ and_from _ _ (ap not (proper_some found.1 good))
    (and_from _ _ (ap not found.2.last) (ap not (no_nul found.0 found.1 (sym (ap has_nul found.2.whole) ∙ plain))))
  where
    no_nul : (prefix name : List ℕ) → has_nul (prefix ++ slash ∷ name) ≡ false → has_nul name ≡ false
    no_nul [] name h = h
    no_nul (b ∷ prefix) name h = no_nul prefix name (or_parts (eqb b 0) (has_nul (prefix ++ slash ∷ name)) h).1
