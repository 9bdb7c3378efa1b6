-- The paths of jobs and of walks.
use Rattle.std.proofs.Common.{◌≡◌, ◌≢◌, ℕ, ◌+◌, ◌<◌, ◌≤◌, Bool, true, false, cond, not, List, [], ◌∷◌, ◌++◌, length, map, take, get_or, refl, sym, ap, ◌∙◌, arith, Option, Some, None, ltb, eqb, inl, inr, is_some, string_bytes, String}
use Rattle.cs_cindex.proofs.Common.{Paths, true≢false, and_from, cases_Bool, not_from_false, ltb-false, ne_eqb, take_more, get_or-map, map-append, Global, AllByRecursion, list_all, position_or_len, least, clean_path, clean_fault, is_normalized, is_storable, are_reduced, are_paths, CindexFault, BadPath, Memory, first_bad, IsCleanFault, AreCleanFault, none-some}
use Rattle.std.proofs.lemmas.List.Sums.{position_or_len_is}
use Rattle.std.specs.FinMap as map'
use Rattle.cs_tree.specs.PathSet as set
use Rattle.cs_tree.proofs.NormalizedLemmas.{normalized_filled, normalized_no_nul, no_nul_bytes}
use Rattle.cs_tree.specs.declared.paths.PathFault.{PathFault}
use Rattle.cs_tree.proofs.LeastLemmas.{IsLeast, least_says}
use Rattle.cs_merge.proofs.ContentLemmas.{all_keys, each_of_map}
use Rattle.cs_merge.proofs.StorableLemmas.{all_above, reduced_from}
use Rattle.cs_tree.proofs.ReduceLemmas.{true_from_T}

-- ---- the first text that cannot be cleaned

abbrev is_bad : List ℕ → List ℕ → Bool
is_bad folder text = is_some (clean_fault folder text)

pub bad_at : (folder : List ℕ) (texts : List (List ℕ)) (i : ℕ) → i < length texts →
    ((k : ℕ) → k < i → is_bad folder (get_or texts k []) ≡ false) → is_bad folder (get_or texts i []) ≡ true →
    first_bad folder texts ≡ Some i
bad_at folder texts i within before here =
    let e : position_or_len (is_bad folder) texts ≡ i = position_or_len_is (is_bad folder) texts i []
    (omega (arith, within)) before (λ _. here) in
    grind (arith, e, within)

pub none_bad : (folder : List ℕ) (texts : List (List ℕ)) →
    ((k : ℕ) → k < length texts → is_bad folder (get_or texts k []) ≡ false) → first_bad folder texts ≡ None
none_bad folder texts all =
    let e : position_or_len (is_bad folder) texts ≡ length texts = position_or_len_is (is_bad folder) texts
    (length texts) [] (omega arith) all (λ h. absurd (omega (arith, h))) in
    grind (arith, e)

-- ---- reduced paths

pub all_satisfy : (test : List ℕ → Bool) (ps : List (List ℕ)) → AllByRecursion (λ p. test p ≡ true) ps → list_all test ps ≡ true
all_satisfy test [] all = refl
all_satisfy test (p ∷ ps) all = and_from (test p) (list_all test ps) all.0 (all_satisfy test ps all.1)

pub reduced_paths : (paths : Paths) → ((path : List ℕ) → set.contains paths path ≡ true → is_storable path ≡ true) →
    are_paths (set.items (least paths)) ≡ true
reduced_paths paths storable =
    and_from (list_all is_storable (set.items (least paths))) (are_reduced (set.items (least paths)))
    (all_satisfy is_storable (set.items (least paths)) (all_keys (λ path. is_storable path ≡ true) (map'.entries (least paths))
    (each_of_map (λ path (mark : Unit {0}). is_storable path ≡ true) (least paths)
    (λ path mark there. storable path (least_says paths path (ap is_some there)).member))))
    (reduced_from paths (map'.entries (least paths)) (true_from_T _ (map'.entries_sorted (least paths)))
    (each_of_map (λ (path : List ℕ) (mark : Unit {0}). IsLeast paths path) (least paths)
    (λ path mark there. least_says paths path (ap is_some there))))

-- ---- texts that can be cleaned

pub storable_text : (text : List ℕ) → text ≢ [] → AllByRecursion (λ b. 0 < b) text → is_storable text ≡ true
storable_text [] some all = absurd (some refl)
storable_text (b ∷ text) some all = and_from (not (eqb (length (b ∷ text)) 0)) _
    (not_from_false _ (ne_eqb (length (b ∷ text)) 0 (λ e. omega (arith, e)))) (all_above (b ∷ text) all)

is_no_fault : (fault : Option PathFault) → is_some fault ≡ false → fault ≡ None
is_no_fault None h = refl
is_no_fault (Some fault) h = absurd (true≢false h)

accepted_from : (folder text : List ℕ) → is_bad folder text ≡ false → clean_fault folder text ≡ None
accepted_from folder text h = is_no_fault (clean_fault folder text) h

-- the first text that cannot be cleaned, or none
none_upto : (folder : List ℕ) (texts : List (List ℕ)) → length texts ≤ position_or_len (is_bad folder) texts →
    AllByRecursion (λ text. clean_fault folder text ≡ None) texts
none_upto folder [] h = tt
none_upto folder (text ∷ texts) h =
    elim (cases_Bool (is_bad folder text)) [
      | inl bad ↦ (let e : position_or_len (is_bad folder) (text ∷ texts) ≡ 0 =
          ap (λ b. cond (not b) (1 + position_or_len (is_bad folder) texts) 0) bad in absurd (omega (arith, e, h)))
      | inr good ↦
          let e : position_or_len (is_bad folder) (text ∷ texts) ≡ 1 + position_or_len (is_bad folder) texts =
          ap (λ b. cond (not b) (1 + position_or_len (is_bad folder) texts) 0) good in
          (accepted_from folder text good, none_upto folder texts (omega (arith, e, h)))
    ]

pub all_accepted : (folder : List ℕ) (texts : List (List ℕ)) → first_bad folder texts ≡ None →
    AllByRecursion (λ text. clean_fault folder text ≡ None) texts
all_accepted folder texts h =
    elim (cases_Bool (ltb (position_or_len (is_bad folder) texts) (length texts))) [
      | inl within ↦ absurd (none-some (position_or_len (is_bad folder) texts)
          (sym (sym (ap (λ b. cond b (Some (position_or_len (is_bad folder) texts)) None) within) ∙ h)))
      | inr past ↦ none_upto folder texts (ltb-false _ _ past)
    ]

-- ---- normalized paths can be stored

pub normalized_storable : (path : List ℕ) → is_normalized path ≡ true → is_storable path ≡ true
normalized_storable path h = storable_text path (normalized_filled path h) (no_nul_bytes path (normalized_no_nul path h))

-- ---- errors of paths

pub filled_at : {A : Type 0} (xs : List A) (path_index : ℕ) → path_index < length xs → xs ≡ [] → ⊥
filled_at [] path_index within e = omega (arith, within)
filled_at (x ∷ xs) path_index within e = cc

pub refusal_at : (folder : List ℕ) (texts : List (List ℕ)) (path_index : ℕ) (fault : CindexFault) →
    path_index < length texts → ((k : ℕ) → k < path_index → is_some (clean_fault folder (get_or texts k [])) ≡ false) →
    IsCleanFault folder (get_or texts path_index []) path_index fault → AreCleanFault folder texts fault
refusal_at folder texts path_index (BadPath at) within before h = bad_at folder texts path_index within before h.1 ∙ ap Some (sym h.0)
refusal_at folder texts path_index Memory within before h = filled_at texts path_index within
refusal_at folder texts path_index _ within before h = h

-- one more path is cleaned
pub cleaned_more : (folder : List ℕ) (paths : List (String Global)) (i : ℕ) (d : String Global)
    (given now : List (List ℕ)) (one : List ℕ) → i < length paths → d ≡ get_or paths i d → given
    ≡ map (λ text. clean_path folder text) (map string_bytes (take i paths)) → one ≡ clean_path folder (string_bytes d)
    → now ≡ given ++ one ∷ [] → now ≡ map (λ text. clean_path folder text) (map string_bytes (take (i + 1) paths))
cleaned_more folder paths i d given now one within is so_far here e =
    let F : String Global → List ℕ = λ p. clean_path folder (string_bytes p) in
    e ∙ ap (λ t. given ++ t ∷ []) here ∙ ap (λ ts. ts ++ clean_path folder (string_bytes d) ∷ []) so_far
    ∙ sym (map-append (λ text. clean_path folder text) (map string_bytes (take i paths)) (string_bytes d ∷ []))
    ∙ ap (λ ts. map (λ text. clean_path folder text) ts) (sym (map-append string_bytes (take i paths) (d ∷ [])))
    ∙ ap (λ ps. map (λ text. clean_path folder text) (map string_bytes ps)) (ap (λ p. take i paths ++ p ∷ []) is
    ∙ sym (take_more paths i d within))

pub text_at : (paths : List (String Global)) (i : ℕ) (d : String Global) → i < length paths → d ≡ get_or paths i d →
    string_bytes d ≡ get_or (map string_bytes paths) i []
text_at paths i d within is = ap string_bytes is ∙ sym (get_or-map string_bytes paths i d [] within)
