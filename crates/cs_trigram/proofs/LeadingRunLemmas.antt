-- Runs with few exact strings, and leading runs.
use Rattle.std.proofs.Common.{◌≡◌, ℕ, ◌-◌, ◌<◌, ◌≤◌, ◌⊎◌, ◌&&◌, inl, inr, true, false, List, [], ◌∷◌, ◌++◌, take, drop, length, map, refl, sym, ◌∙◌, ap, subst, arith, append_assoc, length-append}
use Rattle.cs_syntax.specs.TreeList.{append}
use Rattle.std.proofs.Math.Bool.{and_assoc}
use Rattle.std.proofs.Math.Seq.{take-append_seam, drop-append_seam}
use Rattle.std.proofs.lemmas.Bool.{and_parts, and_from, both_ways}
use Rattle.std.proofs.lemmas.List.{append-nil, length-map}
use Rattle.cs_syntax.specs.Matching.{Tree, Trees, cat, alt, none, more}
use Rattle.cs_syntax.proofs.TreeListLemmas.{append_assoc_trees}
use Rattle.cs_tree.specs.Cover.{is_among}
use Rattle.cs_trigram.specs.MayMatch.{MayMatch, MayMatchSequence, MayMatchBranch}
use Rattle.cs_trigram.specs.ExactStrings.{is_finite, are_finite, HaveExactStrings, HaveFewExactStrings}
use Rattle.cs_trigram.specs.Analysis.{with_strings, concatenations, IsEnumeration, IsBlocked, IsLongestLeadingRun, EnumeratesTree, AreExactStrings}
use Rattle.cs_trigram.proofs.MayMatchLemmas.{sequence_of_both}
use Rattle.cs_trigram.proofs.MemberLemmas.{map_member, different_within, first_member, only_member}
use Rattle.cs_trigram.proofs.EnumerationLemmas.{enumeration_same, enumeration_strings, enumeration_of_concatenations}

pub finite_append : (a b : Trees) → are_finite (append a b) ≡ (are_finite a && are_finite b)
finite_append none b = refl
finite_append (more t a) b = ap (λ r. is_finite t && r) (finite_append a b) ∙ sym (and_assoc (is_finite t) (are_finite a) (are_finite b))

-- a concatenation of the strings of two runs, split
pub concatenates_split : (a b : Trees) (w : List ℕ) → MayMatchSequence true (append a b) w →
    (u v : List ℕ) × MayMatchSequence true a u × MayMatchSequence true b v × (w ≡ u ++ v)
concatenates_split none b w j = ([], w, refl, j, refl)
concatenates_split (more t a) b w j =
    let r = concatenates_split a b j.1 j.3 in
    (j.0 ++ r.0, r.1, (j.0, r.0, j.2, r.2, refl), r.3, j.4 ∙ ap (λ x. j.0 ++ x) r.4 ∙ sym (append_assoc j.0 r.0 r.1))

-- a run of one part
pub concatenates_one : (t : Tree) (w : List ℕ) → MayMatch true t w → MayMatchSequence true (more t none) w
concatenates_one t w s = (w, [], s, refl, sym (append-nil w))

pub exact_of_one : (t : Tree) (w : List ℕ) → MayMatchSequence true (more t none) w → MayMatch true t w
exact_of_one t w j =
    subst (MayMatch true t) (sym (j.4 ∙ ap (λ x. j.0 ++ x) j.3 ∙ append-nil j.0)) j.2

-- a run with at most n strings has only subruns with at most n strings
few_part : (n : ℕ) (run part : Trees) (whole cut : List ℕ → List ℕ) → ((u : List ℕ) → cut (whole u) ≡ u) →
    ((u : List ℕ) → MayMatchSequence true part u → MayMatchSequence true run (whole u)) →
    are_finite part ≡ true → (u : List ℕ) → MayMatchSequence true part u → HaveExactStrings n run → HaveExactStrings n part
few_part n run part whole cut back to finite u one few = (
  finite,
  (
    (u, one),
    (
      map cut few.1.1.0,
      rw (length-map few.1.1.0 cut) few.1.1.1,
      λ v j. subst (λ (x : List ℕ). is_among (map cut few.1.1.0) x ≡ true) (back v)
          (map_member cut (whole v) few.1.1.0 (few.1.1.2 (whole v) (to v j))),
    ),
  ),
)

pub strings_of_prefix : (n : ℕ) (a b : Trees) → HaveExactStrings n (append a b) → HaveExactStrings n a
strings_of_prefix n a b few =
    let parts = and_parts (are_finite a) (are_finite b) (sym (finite_append a b) ∙ few.0) in
    let first = concatenates_split a b few.1.0.0 few.1.0.1 in
    let v = first.1 in
    few_part n (append a b) a (λ u. u ++ v) (λ x. take (length x - length v) x)
    (λ u. let long : length (u ++ v) - length v ≡ length u = omega (arith, length-append u v) in
    ap (λ n. take n (u ++ v)) long ∙ take-append_seam u v)
    (λ u j. sequence_of_both true a b u v j first.3) parts.0 first.0 first.2 few

pub strings_of_suffix : (n : ℕ) (a b : Trees) → HaveExactStrings n (append a b) → HaveExactStrings n b
strings_of_suffix n a b few =
    let parts = and_parts (are_finite a) (are_finite b) (sym (finite_append a b) ∙ few.0) in
    let first = concatenates_split a b few.1.0.0 few.1.0.1 in
    let u = first.0 in
    few_part n (append a b) b (λ v. u ++ v) (drop (length u)) (drop-append_seam u)
    (λ v j. sequence_of_both true a b u v first.2 j) parts.1 first.1 first.3 few

pub few_prefix : (a b : Trees) → HaveFewExactStrings (append a b) → HaveFewExactStrings a
few_prefix = strings_of_prefix 20

pub few_suffix : (a b : Trees) → HaveFewExactStrings (append a b) → HaveFewExactStrings b
few_suffix = strings_of_suffix 20

-- at most n strings are at most m
pub strings_within : (n m : ℕ) (ts : Trees) → n ≤ m → HaveExactStrings n ts → HaveExactStrings m ts
strings_within n m ts le strings = (strings.0, (strings.1.0, (strings.1.1.0, omega (arith, le, strings.1.1.1), strings.1.1.2)))

-- two prefixes of one list: one of them is a prefix of the other
pub prefixes_compare : (a x b y : Trees) → append a x ≡ append b y →
    ((c : Trees) × (a ≡ append b c)) ⊎ ((t : Tree) × (c : Trees) × (b ≡ append a (more t c)) × (x ≡ append (more t c) y))
prefixes_compare none x none y e = inl (none, refl)
prefixes_compare none x (more t b) y e = inr (t, b, refl, e)
prefixes_compare (more t a) x none y e = inl (more t a, refl)
prefixes_compare (more t a) x (more u b) y e =
    let head : t ≡ u = (cc) in
    let tail : append a x ≡ append b y = (cc) in
    elim (prefixes_compare a x b y tail) [
      | inl l ↦ inl (l.0, ap (more t) l.1 ∙ ap (λ z. more z (append b l.0)) head)
      | inr r ↦ inr (r.0, r.1, ap (λ z. more z b) (sym head) ∙ ap (more t) r.2, r.3)
    ]

-- each string of the longest leading run begins with a string of each leading run that has few
pub run_begins : (ts : Trees) (ws : List (List ℕ)) → IsLongestLeadingRun ts ws → (w : List ℕ) → is_among ws w ≡ true →
    (run after : Trees) → ts ≡ append run after → HaveFewExactStrings run →
    (u rest : List ℕ) × MayMatchSequence true run u × (w ≡ u ++ rest)
run_begins ts ws f w m run after e few =
    let j = f.exact.are.1.right w m in
    elim (prefixes_compare f.run f.after run after (sym f.is ∙ e)) [
      | inl l ↦
          let s = concatenates_split run l.0 w (subst (λ (a : Trees). MayMatchSequence true a w) l.1 j) in
          (s.0, s.1, s.2, s.4)
      | inr r ↦ absurd (stopped f.run f.after run r.0 (append r.1 after) r.1 f.blocked r.3 r.2 few)
    ]
  where
    stopped : (a x b : Trees) (t : Tree) (rest c : Trees) → IsBlocked a x → x ≡ more t rest → b ≡ append a (more t c) →
        HaveFewExactStrings b → ⊥
    stopped a none b t rest c blocked e same few = (cc)
    stopped a (more t2 rest2) b t rest c blocked e same few =
        let tree : t2 ≡ t = (cc) in
        let long : HaveFewExactStrings (append (append a (more t none)) c) =
        subst HaveFewExactStrings (same ∙ sym (append_assoc_trees a (more t none) c)) few in
        blocked (subst (λ (z : Tree). HaveFewExactStrings (append a (more z none))) (sym tree) (few_prefix (append a (more t none)) c long))

-- an enumeration of more than twenty strings shows that the strings of a run are not few
pub not_few : (ws : List (List ℕ)) (ts : Trees) → IsEnumeration ws (MayMatchSequence true ts) → 20 < length ws →
    HaveFewExactStrings ts → ⊥
not_few ws ts s many few = let fits = different_within ws few.1.1.0 s.different (λ w m. few.1.1.2 w (s.right w m)) in
    omega (arith, fits, many, few.1.1.1)

-- one more tree before a run, after a run, and before an alternation
pub run_step : (t : Tree) (ts : Trees) (us vs : List (List ℕ)) → EnumeratesTree us t → EnumeratesTree vs (cat ts) →
    EnumeratesTree (with_strings [] (concatenations us vs)) (cat (more t ts))
run_step t ts us vs s r = (
  and_from (is_finite t) (are_finite ts) s.0 r.0,
  enumeration_of_concatenations us vs (MayMatch true t)
      (MayMatchSequence true ts) s.1 r.1,
)

pub run_append : (ts : Trees) (t : Tree) (us vs : List (List ℕ)) → EnumeratesTree us (cat ts) → EnumeratesTree vs t →
    EnumeratesTree (with_strings [] (concatenations us vs)) (cat (append ts (more t none)))
run_append ts t us vs s r = (
  finite_append ts (more t none) ∙ and_from (are_finite ts) (is_finite t && true) s.0 (and_from (is_finite t) true r.0 refl),
  enumeration_same _ _ _ (enumeration_of_concatenations us vs (MayMatchSequence true ts) (MayMatch true t) s.1 r.1)
      (λ w j. subst (MayMatchSequence true (append ts (more t none))) (sym j.4)
      (sequence_of_both true ts (more t none) j.0 j.1 j.2 (concatenates_one t j.1 j.3)))
      (λ w j. let p = concatenates_split ts (more t none) w j in (p.0, p.1, p.2, exact_of_one t p.1 p.3, p.4)),
)

pub alternation_step : (t : Tree) (ts : Trees) (us vs : List (List ℕ)) → EnumeratesTree us t →
    EnumeratesTree vs (alt ts) → EnumeratesTree (with_strings vs us) (alt (more t ts))
alternation_step t ts us vs s r =
    let all : IsEnumeration (with_strings vs us) (λ w. MayMatchBranch true ts w ⊎ (is_among us w ≡ true)) =
    enumeration_strings vs us (MayMatchBranch true ts) (λ w. MayMatchBranch true ts w ⊎ (is_among us w ≡ true)) r.1
    (λ v p. inl p) (λ v m. inr m) (λ v q. q) in (
      and_from (is_finite t) (are_finite ts) s.0 r.0,
      record {
        right = λ w m. elim (all.right w m) [ inl p ↦ inr p | inr n ↦ inl (s.1.right w n) ];
        different = all.different;
        whole = λ le w p.
            elim p [
              | inl a ↦
                  let fits = different_within us (with_strings vs us) s.1.different (λ v n. all.whole le v (inr n)) in
                  all.whole le w (inr (s.1.whole (omega arith) w a))
              | inr b ↦ all.whole le w (inl b)
            ];
      },
    )

-- the strings of a run of one part
pub run_strings : (ws : List (List ℕ)) (t : Tree) → AreExactStrings ws t → AreExactStrings ws (cat (more t none))
run_strings ws t s = record {
  are = (
    and_from (is_finite t) true s.are.0 refl,
    enumeration_same ws (MayMatch true t)
        (MayMatchSequence true (more t none)) s.are.1 (concatenates_one t) (exact_of_one t),
  );
  some = s.some;
  few = s.few;
}

pub not_few_appended : (ts : Trees) (t : Tree) → (HaveFewExactStrings (more t none) → ⊥) → HaveFewExactStrings (append ts (more t none)) → ⊥
not_few_appended ts t no_few few = no_few (few_suffix ts (more t none) few)

pub tree_not_finite : (t : Tree) → is_finite t ≡ false → HaveFewExactStrings (more t none) → ⊥
tree_not_finite t wild few = both_ways (is_finite t) wild (and_parts (is_finite t) true few.0).0

-- the empty string alone
pub only_empty_string : (t : Tree) → is_finite t ≡ true → ((w : List ℕ) → MayMatch true t w → w ≡ []) →
    MayMatch true t [] → EnumeratesTree ([] ∷ []) t
only_empty_string t f only has = (
  f,
  record {
    right = λ w m. subst (MayMatch true t) (sym (only_member w [] m)) has;
    different = refl;
    whole = λ le w h. first_member w [] [] (only w h);
  },
)

pub empty_run_strings : AreExactStrings ([] ∷ []) (cat none)
empty_run_strings = record { are = only_empty_string (cat none) refl (λ w e. e) refl; some = omega arith; few = omega arith }
