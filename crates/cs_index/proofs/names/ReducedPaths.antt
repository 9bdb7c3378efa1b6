-- Ascending paths, none of which covers another.
use Rattle.std.specs.Prelude.{bytes_eq}
use Rattle.std.specs.Path.{slash}
use Rattle.std.proofs.Common.{◌≡◌, ℕ, ◌+◌, ◌-◌, ◌≤◌, true, false, not, ◌&&◌, ◌||◌, List, [], ◌∷◌, ◌++◌, length, map, drop, string_bytes, String, Global, length-drop, refl, sym, ap, ◌∙◌, arith}
use Rattle.std.proofs.Math.Bool.{and-false, and-true}
use Rattle.std.specs.List.{list_all, list_any, AllByRecursion}
use Rattle.std.specs.List.Sorted.{IsStrictlySortedBy}
use Rattle.std.specs.Ordering.{is_lt, ordering_reverse, ordering_then}
use Rattle.std.specs.Cmp.{both_ways as same_tests, nat_cmp_is}
use Rattle.std.specs.Cmp.Lexicographic.{bytes_decides, nat_list_cmp_total}
use Rattle.std.specs.declared.cmp.Ordering.TheVariants.{Less, Equal, Greater}
use Rattle.std.proofs.lemmas.Bool.{and_parts, and_from, or_parts, false_from_ne_true, not-true, not_from_false}
use Rattle.cs_tree.specs.NameOrder.{bytes_cmp}
use Rattle.cs_tree.specs.NamesAscending.{are_ascending}
use Rattle.cs_tree.specs.Cover.{covers, is_alone}
use Rattle.cs_tree.specs.Covering.{Covers, itself, below, root}
use Rattle.cs_tree.proofs.CoverLemmas.{covers_says}
use Rattle.cs_index.specs.Built.{are_reduced, is_before}
use Rattle.cs_tree.proofs.ReduceLemmas.{strictly_from}

-- ---- a path that covers another is not greater

not_below_itself : (p : List ℕ) → bytes_cmp p p ≡ Less → ⊥
not_below_itself p h = let turned : Less ≡ Greater = sym h ∙ nat_list_cmp_total.antisymm p p
    ∙ ap ordering_reverse h in cc

not_below_prefix : (q : List ℕ) (b : ℕ) (rest : List ℕ) → bytes_cmp (q ++ b ∷ rest) q ≡ Less → ⊥
not_below_prefix [] b rest h = cc
not_below_prefix (c ∷ q) b rest h = not_below_prefix q b rest
    (ap (λ o. ordering_then o (bytes_cmp (q ++ b ∷ rest) q)) (nat_cmp_is c c Equal refl) ∙ h)

not_above : (p q : List ℕ) → bytes_cmp p q ≡ Less → covers q p ≡ false
not_above p q h = false_from_ne_true (covers q p) (λ c. by (covers_says q p c))
  where
    by : Covers q p → ⊥
    by (itself e) = not_below_itself p (ap (bytes_cmp p) (sym e) ∙ h)
    by (below rest e) = not_below_prefix q slash rest (ap (λ r. bytes_cmp r q) (sym e) ∙ h)
    by (root rest e f) = root_case rest ((λ i. bytes_cmp (sym f i) (sym e i)) ∙ h)
      where
        root_case : (rest : List ℕ) → bytes_cmp (slash ∷ rest) (slash ∷ []) ≡ Less → ⊥
        root_case [] h = not_below_itself (slash ∷ []) h
        root_case (b ∷ rest) h = not_below_prefix (slash ∷ []) b rest h

apart : (p q : List ℕ) → bytes_cmp p q ≡ Less → bytes_eq p q ≡ false
apart p q h = false_from_ne_true (bytes_eq p q) (λ e. not_below_itself p (ap (bytes_cmp p) ((bytes_decides p q).0 e) ∙ h))

-- ---- ascending paths

pub tail_up : (p : List ℕ) (ps : List (List ℕ)) → are_ascending (p ∷ ps) ≡ true → are_ascending ps ≡ true
tail_up p [] up = refl
tail_up p (q ∷ ps) up = (and_parts (is_lt (bytes_cmp p q)) (are_ascending (q ∷ ps)) up).1

header_up : (p : List ℕ) (ps : List (List ℕ)) → are_ascending (p ∷ ps) ≡ true →
    AllByRecursion (λ q. bytes_cmp p q ≡ Less) ps
unfolding IsStrictlySortedBy
header_up p ps up = (strictly_from (p ∷ ps) up).0

pub reduced_up : (ps : List (List ℕ)) → are_reduced ps ≡ true → are_ascending ps ≡ true
reduced_up [] h = refl
reduced_up (p ∷ []) h = refl
reduced_up (p ∷ q ∷ ps) h =
    let parts = and_parts (list_all (is_before p) (q ∷ ps)) (are_reduced (q ∷ ps)) h in
    let first = and_parts (is_before p q) (list_all (is_before p) ps) parts.0 in
    let before = and_parts (is_lt (bytes_cmp p q)) (not (covers p q)) first.0 in
    and_from (is_lt (bytes_cmp p q)) (are_ascending (q ∷ ps)) before.0 (reduced_up (q ∷ ps) parts.1)

-- ---- paths that no other covers

-- the first path covers no greater one, and no greater one covers it
none_covers : (p : List ℕ) (ps : List (List ℕ)) → AllByRecursion (λ q. bytes_cmp p q ≡ Less) ps →
    is_alone ps p ≡ true
none_covers p [] all = refl
none_covers p (q ∷ ps) all =
    ap (λ b. not ((b && not (bytes_eq q p)) || list_any (λ other. covers other p && not (bytes_eq other p)) ps)) (not_above p q all.0)
    ∙ none_covers p ps all.1

not_itself : (p : List ℕ) → (covers p p && not (bytes_eq p p)) ≡ false
not_itself p = ap (λ b. covers p p && not b) ((bytes_decides p p).1 refl) ∙ and-false (covers p p)

alone_first : (p : List ℕ) (ps : List (List ℕ)) → AllByRecursion (λ q. bytes_cmp p q ≡ Less) ps →
    is_alone (p ∷ ps) p ≡ true
alone_first p ps all =
    ap (λ b. not (b || list_any (λ other. covers other p && not (bytes_eq other p)) ps)) (not_itself p) ∙ none_covers p ps all

-- a path that precedes another stays uncovered exactly if the other does not cover it
alone_more : (p : List ℕ) (all ps : List (List ℕ)) → list_all (is_before p) ps ≡ true →
    list_all (is_alone all) ps ≡ true → list_all (is_alone (p ∷ all)) ps ≡ true
alone_more p all [] h g = refl
alone_more p all (q ∷ ps) h g =
    let before = and_parts (is_before p q) (list_all (is_before p) ps) h in
    let alone = and_parts (is_alone all q) (list_all (is_alone all) ps) g in
    let apart : covers p q ≡ false = not-true (covers p q)
    (and_parts (is_lt (bytes_cmp p q)) (not (covers p q)) before.0).1 in
    and_from (is_alone (p ∷ all) q) (list_all (is_alone (p ∷ all)) ps)
    (ap (λ b. not ((b && not (bytes_eq p q)) || list_any (λ other. covers other q && not (bytes_eq other q)) all)) apart ∙ alone.0)
    (alone_more p all ps before.1 alone.1)

alone_fewer : (p : List ℕ) (all ps : List (List ℕ)) → AllByRecursion (λ q. bytes_cmp p q ≡ Less) ps →
    list_all (is_alone (p ∷ all)) ps ≡ true → (list_all (is_before p) ps ≡ true) × (list_all (is_alone all) ps ≡ true)
alone_fewer p all [] up h = (refl, refl)
alone_fewer p all (q ∷ ps) up h =
    let parts = and_parts (is_alone (p ∷ all) q) (list_all (is_alone (p ∷ all)) ps) h in
    let neither = or_parts (covers p q && not (bytes_eq p q)) (list_any (λ other. covers other q && not (bytes_eq other q)) all)
    (not-true _ parts.0) in
    let rest = alone_fewer p all ps up.1 parts.1 in
    let uncovered : covers p q ≡ false = sym (and-true (covers p q))
    ∙ ap (λ b. covers p q && not b) (sym (apart p q up.0)) ∙ neither.0 in (
      and_from (is_before p q) (list_all (is_before p) ps)
          (and_from (is_lt (bytes_cmp p q)) (not (covers p q)) (ap is_lt up.0) (not_from_false (covers p q) uncovered))
          rest.0,
      and_from (is_alone all q) (list_all (is_alone all) ps) (not_from_false _ neither.1)
          rest.1,
    )

reduced_alone : (ps : List (List ℕ)) → are_ascending ps ≡ true → are_reduced ps ≡ true →
    list_all (is_alone ps) ps ≡ true
reduced_alone [] up h = refl
reduced_alone (p ∷ ps) up h =
    let parts = and_parts (list_all (is_before p) ps) (are_reduced ps) h in
    and_from (is_alone (p ∷ ps) p) (list_all (is_alone (p ∷ ps)) ps) (alone_first p ps (header_up p ps up))
    (alone_more p ps ps parts.0 (reduced_alone ps (tail_up p ps up) parts.1))

alone_reduced : (ps : List (List ℕ)) → are_ascending ps ≡ true → list_all (is_alone ps) ps ≡ true →
    are_reduced ps ≡ true
alone_reduced [] up h = refl
alone_reduced (p ∷ ps) up h =
    let parts = and_parts (is_alone (p ∷ ps) p) (list_all (is_alone (p ∷ ps)) ps) h in
    let rest = alone_fewer p ps ps (header_up p ps up) parts.1 in
    and_from (list_all (is_before p) ps) (are_reduced ps) rest.0 (alone_reduced ps (tail_up p ps up) rest.1)

pub reduced_is : (ps : List (List ℕ)) → are_ascending ps ≡ true → list_all (is_alone ps) ps ≡ are_reduced ps
reduced_is ps up = same_tests _ _ (alone_reduced ps up) (reduced_alone ps up)

-- ---- the end of a loop

pub last_up : (ps : List (String Global)) (at : ℕ) → 1 ≤ at → length ps ≤ at →
    true ≡ are_ascending (map string_bytes (drop (at - 1) ps))
last_up ps at some past = by (drop (at - 1) ps) (one_left ps (at - 1) (omega (arith, some, past)))
  where
    one_left : (qs : List (String Global)) (k : ℕ) → length qs ≤ k + 1 → length (drop k qs) ≤ 1
    one_left qs k h = let left = length-drop k qs in omega (arith, h, left)

    by : (qs : List (String Global)) → length qs ≤ 1 → true ≡ are_ascending (map string_bytes qs)
    by [] h = refl
    by (q ∷ []) h = refl
    by (q ∷ r ∷ qs) h = absurd (omega (arith, h))
