-- Paths that cleaning leaves unchanged.
use Rattle.std.proofs.Common.{◌≡◌, ◌≢◌, ℕ, ◌<◌, ◌≤◌, arith, Bool, true, false, not, cond, ◌||◌, List, [], ◌∷◌, ◌++◌, length, drop, eqb, Option, Some, None, refl, sym, ap, subst, ◌∙◌, ◌⊎◌, inl, inr, append_assoc, append-nil}
use Rattle.std.specs.Prelude.{codes, nat_lt, is_none, bytes_eq}
use Rattle.std.specs.Path.{slash}
use Rattle.std.specs.Cmp.{both_ways as same_tests}
use Rattle.std.specs.List.{list_all, list_any, AllByRecursion, onto_first, fold}
use Rattle.std.specs.Cmp.Lexicographic.{bytes_decides}
use Rattle.std.proofs.lemmas.Bool.{true≢false, and_parts, and_from, ne_eqb, eqb-false, or_cases, or_parts, or_from, or_left, or_right, cond_both, eqb-true, not-true, le-ltb, ltb-false}
use Rattle.std.proofs.lemmas.List.Folds.{list_all-append}
use Rattle.cs_tree.specs.Cover.{begins}
use Rattle.cs_tree.specs.Clean.{is_clean, elements, with_element, with_slashes, path_of, absolute, clean_path, has_nul, longest_path}
use Rattle.cs_tree.specs.Proper.{is_proper, is_proper_path}
use Rattle.cs_tree.specs.Cleaning.{clean_fault, is_normalized}
use Rattle.cs_tree.specs.declared.paths.PathFault.{PathFault}
use Rattle.cs_tree.specs.declared.paths.PathFault.TheVariants.{Empty, Nul, TooLong}
use Rattle.cs_tree.proofs.CleanLemmas.{path_absolute}
use Rattle.cs_tree.proofs.SplitLemmas.{NoSlash, elements-append, elements-one, elements-some, HasFirst, proper_last}

-- ---- cleaned paths are clean

-- an element that cleaning keeps
record IsElement (name : List ℕ) : Type 0 where
  proper : is_proper name ≡ true
  apart : NoSlash name

all_without : (above : List (List ℕ)) → AllByRecursion IsElement above → AllByRecursion IsElement (drop 1 above)
all_without [] all = tt
all_without (x ∷ above) all = all.1

all_stepped : (above : List (List ℕ)) (name : List ℕ) → AllByRecursion IsElement above → NoSlash name →
    AllByRecursion IsElement (with_element above name)
all_stepped above name all apart =
    cond_both (bytes_eq name [] || bytes_eq name (codes ".")) above
    (cond (bytes_eq name (codes "..")) (drop 1 above) (name ∷ above)) (AllByRecursion IsElement)
    (λ _. all)
    (λ plain. cond_both (bytes_eq name (codes "..")) (drop 1 above) (name ∷ above) (AllByRecursion IsElement)
    (λ _. all_without above all)
    (λ down. (
      record {
        proper = and_from (not (bytes_eq name [] || bytes_eq name (codes "."))) _ (ap not plain)
            (ap not down);
        apart = apart;
      },
      all,
    )))

all_steps : (above names : List (List ℕ)) → AllByRecursion IsElement above → AllByRecursion NoSlash names →
    AllByRecursion IsElement (fold with_element above names)
all_steps above [] all apart = all
all_steps above (name ∷ names) all apart = all_steps (with_element above name) names (all_stepped above name all apart.0) apart.1

elements_apart : (text : List ℕ) → AllByRecursion NoSlash (elements text)
elements_apart [] = (refl, tt)
elements_apart (b ∷ rest) =
    cond_both (eqb b slash) ([] ∷ elements rest) (onto_first b (elements rest)) (AllByRecursion NoSlash)
    (λ _. (refl, elements_apart rest)) (λ apart. onto apart (elements rest) (elements_apart rest))
  where
    onto : eqb b slash ≡ false → (pieces : List (List ℕ)) → AllByRecursion NoSlash pieces → AllByRecursion NoSlash (onto_first b pieces)
    onto apart [] all = (ap (λ t. t || false) apart, tt)
    onto apart (piece ∷ pieces) all = (ap (λ t. t || list_any (λ x. eqb x slash) piece) apart ∙ all.0, all.1)

clean_stem : (above : List (List ℕ)) (name : List ℕ) → AllByRecursion IsElement above → IsElement name →
    is_proper_path (with_slashes above ++ slash ∷ name) ≡ true
clean_stem [] name all good = proper_last name (elements-one name good.apart) ∙ good.proper
clean_stem (top ∷ above) name all good = on (with_slashes (top ∷ above)) (clean_stem above top all.1 all.0)
  where
    on : (prefix : List ℕ) → is_proper_path prefix ≡ true → is_proper_path (prefix ++ slash ∷ name) ≡ true
    on [] h = absurd (true≢false (sym h))
    on (b ∷ prefix) h =
        let parts = and_parts (eqb b slash) (list_all is_proper (elements prefix)) h in
        and_from (eqb b slash) _ parts.0
        (ap (list_all is_proper) (elements-append prefix name)
        ∙ list_all-append is_proper (elements prefix) (elements name)
        ∙ and_from (list_all is_proper (elements prefix)) _ parts.1 (proper_last name (elements-one name good.apart) ∙ good.proper))

clean_steps : (above : List (List ℕ)) → AllByRecursion IsElement above →
    (path_of above ≡ slash ∷ []) ⊎ (is_proper_path (path_of above) ≡ true)
clean_steps [] all = inl refl
clean_steps (name ∷ above) all = inr (clean_stem above name all.1 all.0)

pub cleaned_clean : (folder text : List ℕ) → (clean_path folder text ≡ slash ∷ []) ⊎ (is_proper_path (clean_path folder text) ≡ true)
cleaned_clean folder text = clean_steps (fold with_element [] (elements (absolute folder text)))
    (all_steps [] (elements (absolute folder text)) tt (elements_apart (absolute folder text)))

-- ---- clean paths are unchanged

-- a slash before each element
after_slashes : List (List ℕ) → List ℕ
after_slashes [] = []
after_slashes (name ∷ names) = slash ∷ name ++ after_slashes names

slashes-elements : (rest : List ℕ) → after_slashes (elements rest) ≡ slash ∷ rest
unfolding after_slashes
slashes-elements [] = refl
slashes-elements (b ∷ rest) = step (eqb b slash) refl (slashes-elements rest) (elements-some rest)
  where
    step : (t : Bool) → eqb b slash ≡ t → after_slashes (elements rest) ≡ slash ∷ rest → HasFirst (elements rest) →
        after_slashes (cond t ([] ∷ elements rest) (onto_first b (elements rest))) ≡ slash ∷ b ∷ rest
    step true here whole some = ap (λ tail. slash ∷ tail) whole ∙ ap (λ c. slash ∷ c ∷ rest) (sym (eqb-true b slash here))
    step false apart whole some =
        ap (λ pieces. after_slashes (onto_first b pieces)) some.is
        ∙ ap (λ tail. slash ∷ b ∷ tail) (sym (ap (λ pieces. drop 1 (after_slashes pieces)) some.is) ∙ ap (drop 1) whole)

proper_step : (above : List (List ℕ)) (name : List ℕ) → is_proper name ≡ true → with_element above name ≡ name ∷ above
proper_step above name proper =
    let parts = and_parts (not (bytes_eq name [] || bytes_eq name (codes "."))) (not (bytes_eq name (codes ".."))) proper in
    ap (λ t. cond t above (cond (bytes_eq name (codes "..")) (drop 1 above) (name ∷ above))) (not-true _ parts.0)
    ∙ ap (λ t. cond t (drop 1 above) (name ∷ above)) (not-true _ parts.1)

slashed-steps : (above names : List (List ℕ)) → list_all is_proper names ≡ true →
    with_slashes (fold with_element above names) ≡ with_slashes above ++ after_slashes names
unfolding after_slashes
slashed-steps above [] proper = sym (append-nil (with_slashes above))
slashed-steps above (name ∷ names) proper =
    let parts = and_parts (is_proper name) (list_all is_proper names) proper in
    ap (λ now. with_slashes (fold with_element now names)) (proper_step above name parts.0)
    ∙ slashed-steps (name ∷ above) names parts.1
    ∙ append_assoc (with_slashes above) (slash ∷ name) (after_slashes names)

filled_path : (above : List (List ℕ)) (rest : List ℕ) → with_slashes above ≡ slash ∷ rest → path_of above ≡ slash ∷ rest
filled_path [] rest e = cc
filled_path (name ∷ above) rest e = e

normalized_rest : (folder rest : List ℕ) → list_all is_proper (elements rest) ≡ true → clean_path folder (slash ∷ rest) ≡ slash ∷ rest
normalized_rest folder rest proper = filled_path (fold with_element [] (elements rest)) rest
    (slashed-steps [] (elements rest) proper ∙ slashes-elements rest)

pub normalized_clean : (folder path : List ℕ) → is_proper_path path ≡ true → clean_path folder path ≡ path
normalized_clean folder [] h = absurd (true≢false (sym h))
normalized_clean folder (b ∷ rest) h =
    let parts = and_parts (eqb b slash) (list_all is_proper (elements rest)) h in
    subst (λ c. clean_path folder (c ∷ rest) ≡ c ∷ rest) (sym (eqb-true b slash parts.0)) (normalized_rest folder rest parts.1)

pub normalized_either : (path : List ℕ) → (path ≡ slash ∷ []) ⊎ (is_proper_path path ≡ true) → (folder : List ℕ) →
    clean_path folder path ≡ path
normalized_either path (inl is) folder = subst (λ p. clean_path folder p ≡ p) (sym is) refl
normalized_either path (inr clean) folder = normalized_clean folder path clean

pub either_normalized : (path : List ℕ) → ((folder : List ℕ) → clean_path folder path ≡ path) →
    (path ≡ slash ∷ []) ⊎ (is_proper_path path ≡ true)
either_normalized path h = subst (λ p. (p ≡ slash ∷ []) ⊎ (is_proper_path p ≡ true)) (h []) (cleaned_clean [] path)

-- cleaning is idempotent
pub cleaned_is_normalized : (folder text other : List ℕ) → clean_path other (clean_path folder text) ≡ clean_path folder text
cleaned_is_normalized folder text other = normalized_either (clean_path folder text) (cleaned_clean folder text) other

-- ---- what cleaning accepts

starts_proper : (path : List ℕ) → is_proper_path path ≡ true → begins (slash ∷ []) path ≡ true
starts_proper [] h = absurd (true≢false (sym h))
starts_proper (b ∷ rest) h = subst (λ c. begins (slash ∷ []) (c ∷ rest) ≡ true)
    (sym (eqb-true b slash (and_parts (eqb b slash) (list_all is_proper (elements rest)) h).0)) refl

starts_either : (path : List ℕ) → (path ≡ slash ∷ []) ⊎ (is_proper_path path ≡ true) → begins (slash ∷ []) path ≡ true
starts_either path (inl is) = subst (λ p. begins (slash ∷ []) p ≡ true) (sym is) refl
starts_either path (inr clean) = starts_proper path clean

filled_begins : (path : List ℕ) → begins (slash ∷ []) path ≡ true → bytes_eq path [] ≡ false
filled_begins [] h = absurd (true≢false (sym h))
filled_begins (b ∷ rest) h = refl

abbrev fault_at : Bool → Bool → Bool → Option PathFault
fault_at empty nul long = cond empty (Some Empty) (cond nul (Some Nul) (cond long (Some TooLong) None))

no_fault : (empty nul long : Bool) → empty ≡ false → nul ≡ false → long ≡ false → fault_at empty nul long ≡ None
no_fault empty nul long e f g = ap (λ b. fault_at b nul long) e ∙ ap (λ b. fault_at false b long) f ∙ ap (λ b. fault_at false false b) g

pub no_fault_parts : (empty nul long : Bool) → fault_at empty nul long ≡ None → (nul ≡ false) × (long ≡ false)
no_fault_parts true nul long e = cc
no_fault_parts false true long e = cc
no_fault_parts false false true e = cc
no_fault_parts false false false e = (refl, refl)

none_is : (fault : Option PathFault) → is_none fault ≡ true → fault ≡ None
none_is None h = refl
none_is (Some fault) h = absurd (true≢false (sym h))

-- ---- the test

either_test : (path : List ℕ) → (bytes_eq path (slash ∷ []) || is_proper_path path) ≡ true →
    (path ≡ slash ∷ []) ⊎ (is_proper_path path ≡ true)
either_test path h = elim (or_cases (bytes_eq path (slash ∷ [])) (is_proper_path path) h)
    [ inl is ↦ inl ((bytes_decides path (slash ∷ [])).0 is) | inr proper ↦ inr proper ]

test_either : (path : List ℕ) → (path ≡ slash ∷ []) ⊎ (is_proper_path path ≡ true) →
    (bytes_eq path (slash ∷ []) || is_proper_path path) ≡ true
test_either path (inl is) = or_left (bytes_eq path (slash ∷ [])) _ ((bytes_decides path (slash ∷ [])).1 is)
test_either path (inr proper) = or_right (bytes_eq path (slash ∷ [])) _ proper

-- a path that cleaning leaves unchanged from the root is unchanged from any folder
pub clean_stays : (path : List ℕ) → is_clean path ≡ true → (folder : List ℕ) → clean_path folder path ≡ path
clean_stays path h folder =
    let stays : clean_path (slash ∷ []) path ≡ path = (bytes_decides (clean_path (slash ∷ []) path) path).0 h in
    ap (clean_path folder) (sym stays) ∙ cleaned_is_normalized (slash ∷ []) path folder ∙ stays

pub stays_clean : (path : List ℕ) → clean_path (slash ∷ []) path ≡ path → is_clean path ≡ true
stays_clean path stays = (bytes_decides (clean_path (slash ∷ []) path) path).1 stays

-- a path is clean exactly if it is the root or its elements are proper
pub clean_by_elements : (path : List ℕ) → (bytes_eq path (slash ∷ []) || is_proper_path path) ≡ is_clean path
clean_by_elements path = same_tests (bytes_eq path (slash ∷ []) || is_proper_path path) (is_clean path)
    (λ h. stays_clean path (normalized_either path (either_test path h) (slash ∷ [])))
    (λ h. test_either path (either_normalized path (clean_stays path h)))

-- a path other than the root is clean exactly if its elements are proper
pub clean_below : (path : List ℕ) → bytes_eq path (slash ∷ []) ≡ false → is_proper_path path ≡ is_clean path
clean_below path below = ap (λ b. b || is_proper_path path) (sym below) ∙ clean_by_elements path

pub clean_starts : (path : List ℕ) → is_clean path ≡ true → begins (slash ∷ []) path ≡ true
clean_starts path h = starts_either path (either_normalized path (clean_stays path h))

-- ---- normalized paths

pub normalized_from : (path : List ℕ) → ((folder : List ℕ) → clean_path folder path ≡ path) → has_nul path ≡ false →
    length path ≤ longest_path → is_normalized path ≡ true
normalized_from path unchanged plain short =
    let starts = starts_either path (either_normalized path unchanged) in
    let accepted = no_fault (bytes_eq path []) (has_nul (absolute (slash ∷ []) path))
    (nat_lt longest_path (length (clean_path (slash ∷ []) path))) (filled_begins path starts)
    (ap has_nul (path_absolute (slash ∷ []) path starts) ∙ plain)
    (ap (λ p. nat_lt longest_path (length p)) (unchanged (slash ∷ [])) ∙ le-ltb longest_path (length path) short) in
    and_from (is_none (clean_fault (slash ∷ []) path)) (is_clean path) (ap is_none accepted) (stays_clean path (unchanged (slash ∷ [])))

normalized_parts : (path : List ℕ) → is_normalized path ≡ true → (is_none (clean_fault (slash ∷ []) path) ≡ true) × (is_clean path ≡ true)
normalized_parts path h = and_parts (is_none (clean_fault (slash ∷ []) path)) (is_clean path) h

pub normalized_stays : (path : List ℕ) → is_normalized path ≡ true → (folder : List ℕ) → clean_path folder path ≡ path
normalized_stays path h = clean_stays path (normalized_parts path h).1

pub normalized_starts : (path : List ℕ) → is_normalized path ≡ true → begins (slash ∷ []) path ≡ true
normalized_starts path h = starts_either path (either_normalized path (normalized_stays path h))

pub normalized_filled : (path : List ℕ) → is_normalized path ≡ true → path ≢ []
normalized_filled path h e = true≢false (sym (normalized_starts path h) ∙ ap (begins (slash ∷ [])) e)

pub normalized_accepted : (path : List ℕ) → is_normalized path ≡ true → (folder : List ℕ) → clean_fault folder path ≡ None
normalized_accepted path h folder =
    let root = slash ∷ [] in
    let starts = normalized_starts path h in
    let now = ap has_nul (path_absolute folder path starts ∙ sym (path_absolute root path starts)) in
    let long = ap (λ p. nat_lt longest_path (length p)) (normalized_stays path h folder ∙ sym (normalized_stays path h root)) in
    ap (λ nul. fault_at (bytes_eq path []) nul (nat_lt longest_path (length (clean_path folder path)))) now
    ∙ ap (λ more. fault_at (bytes_eq path []) (has_nul (absolute root path)) more) long
    ∙ none_is (clean_fault root path) (normalized_parts path h).0

-- a normalized path has no NUL and is within the limit
normalized_whole : (path : List ℕ) → is_normalized path ≡ true → (has_nul path ≡ false) × (length path ≤ longest_path)
normalized_whole path h =
    let starts = normalized_starts path h in
    let parts = no_fault_parts (bytes_eq path []) (has_nul (absolute [] path))
    (nat_lt longest_path (length (clean_path [] path))) (normalized_accepted path h []) in (
      sym (ap has_nul (path_absolute [] path starts)) ∙ parts.0,
      ltb-false longest_path (length path)
          (sym (ap (λ p. nat_lt longest_path (length p)) (normalized_stays path h [])) ∙ parts.1),
    )

pub normalized_no_nul : (path : List ℕ) → is_normalized path ≡ true → has_nul path ≡ false
normalized_no_nul path h = (normalized_whole path h).0

pub normalized_short : (path : List ℕ) → is_normalized path ≡ true → length path ≤ longest_path
normalized_short path h = (normalized_whole path h).1

pub normalized_anywhere : (path : List ℕ) →
    ((folder : List ℕ) → (clean_fault folder path ≡ None) × (clean_path folder path ≡ path)) → is_normalized path ≡ true
normalized_anywhere path h = and_from (is_none (clean_fault (slash ∷ []) path)) (is_clean path)
    (ap is_none (h (slash ∷ [])).0) (stays_clean path (h (slash ∷ [])).1)

-- ---- texts without NUL

pub no_nul_bytes : (text : List ℕ) → has_nul text ≡ false → AllByRecursion (λ b. 0 < b) text
no_nul_bytes [] h = tt
no_nul_bytes (b ∷ text) h = let parts = or_parts (eqb b 0) (has_nul text) h in
    ((let apart = eqb-false b 0 parts.0 in omega (arith, apart)), no_nul_bytes text parts.1)

pub bytes_no_nul : (text : List ℕ) → AllByRecursion (λ b. 0 < b) text → has_nul text ≡ false
bytes_no_nul [] all = refl
bytes_no_nul (b ∷ text) all = or_from (eqb b 0) (has_nul text)
    (ne_eqb b 0 (λ e. let some = all.0 in omega (arith, some, e))) (bytes_no_nul text all.1)
