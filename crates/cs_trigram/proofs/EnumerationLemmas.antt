-- Enumerations: strings added one by one, and cross products.
use Rattle.std.proofs.Common.{◌≡◌, ℕ, zero, suc, ◌+◌, ◌<◌, ◌≤◌, ◌⊎◌, ◌&&◌, inl, inr, not, Bool, true, false, List, [], ◌∷◌, ◌++◌, length, map, get_or, refl, sym, ◌∙◌, ap, subst, arith, append_assoc, length-append}
use Rattle.std.specs.Prelude.{nat_le, if◌then◌else◌}
use Rattle.std.proofs.lemmas.Bool.{leb-true, le-leb, both_ways, cases_lt}
use Rattle.std.proofs.lemmas.List.{append-nil, append_cancel_left, append_cancel_right, length-map}
use Rattle.cs_tree.specs.Cover.{is_among}
use Rattle.cs_tree.specs.Folders.{are_distinct}
use Rattle.cs_trigram.specs.Analysis.{with_string, with_strings, concatenations, IsEnumeration}
use Rattle.cs_trigram.proofs.MemberLemmas.{different_push, member_append, member_left, member_right, member_map, map_member, different_within, different_map, no_member, first_member, later_member, member_cases, only_member, distinct_head, distinct_tail}

pub with_strings_append : (strings us vs : List (List ℕ)) → with_strings strings (us ++ vs) ≡ with_strings (with_strings strings us) vs
with_strings_append strings [] vs = refl
with_strings_append strings (u ∷ us) vs = with_strings_append (with_string strings u) us vs

-- nothing is added to more than twenty strings
pub with_strings_full : (strings vs : List (List ℕ)) → 20 < length strings → with_strings strings vs ≡ strings
with_strings_full strings [] lt = refl
with_strings_full strings (v ∷ vs) lt = ap (λ (ws : List (List ℕ)). with_strings ws vs) same ∙ with_strings_full strings vs lt
  where
    full : (room there : Bool) → nat_le (length strings) 20 ≡ room → (if room && not there then strings ++ v ∷ [] else strings) ≡ strings
    full true there e = let le = leb-true (length strings) 20 e in absurd (omega arith)
    full false there e = refl

    same : with_string strings v ≡ strings
    same = full (nat_le (length strings) 20) (is_among strings v) refl

-- distinct strings, at most twenty in all, are added one after another
pub with_strings_distinct : (us vs : List (List ℕ)) → length us + length vs ≤ 20 → are_distinct (us ++ vs) ≡ true →
    with_strings us vs ≡ us ++ vs
with_strings_distinct us [] le d = sym (append-nil us)
with_strings_distinct us (v ∷ vs) le d =
    ap (λ (ws : List (List ℕ)). with_strings ws vs) (added (nat_le (length us) 20) (is_among us v) refl refl)
    ∙ with_strings_distinct (us ++ v ∷ []) vs (omega (arith, le, length-append us (v ∷ [])))
    (ap are_distinct (append_assoc us (v ∷ []) vs) ∙ d)
    ∙ append_assoc us (v ∷ []) vs
  where
    new : (us : List (List ℕ)) → are_distinct (us ++ v ∷ vs) ≡ true → is_among us v ≡ true → ⊥
    new [] d m = no_member v m
    new (u ∷ us) d m =
        elim (member_cases v u us m) [
          | inl e ↦ distinct_head u (us ++ v ∷ vs) d (member_right u us (v ∷ vs) (first_member u v vs (sym e)))
          | inr n ↦ new us (distinct_tail u (us ++ v ∷ vs) d) n
        ]

    added : (room there : Bool) → nat_le (length us) 20 ≡ room → is_among us v ≡ there →
        (if room && not there then us ++ v ∷ [] else us) ≡ us ++ v ∷ []
    added true true r t = absurd (new us d t)
    added true false r t = refl
    added false there r t = absurd (both_ways (nat_le (length us) 20) r (le-leb (length us) 20 (omega (arith, le))))

-- a single prefix
pub single_prefix : (us vs : List (List ℕ)) (u : List ℕ) → length us ≡ 1 → u ≡ get_or us 0 u → are_distinct vs ≡ true → length vs ≤ 20 →
    map (λ v. u ++ v) vs ≡ with_strings [] (concatenations us vs)
single_prefix [] vs u e is d le = absurd (omega (arith, e))
single_prefix (x ∷ []) vs u e is d le =
    let all = map (λ v. x ++ v) vs in
    let distinct = different_map (λ v. x ++ v) (λ a b h. append_cancel_left x a b h) vs d in
    ap (λ w. map (λ v. w ++ v) vs) is
    ∙ sym (ap (with_strings []) (append-nil all)
    ∙ with_strings_distinct [] all (omega (arith, le, length-map vs (λ (v : List ℕ). x ++ v))) distinct)
single_prefix (x ∷ y ∷ us) vs u e is d le = absurd (omega (arith, e))

pub string_at : (strings : List (List ℕ)) (i : ℕ) (string : List ℕ) → i < length strings → string
    ≡ get_or strings i string → is_among strings string ≡ true
string_at [] i string lt is = absurd (omega arith)
string_at (x ∷ strings) zero string lt is = first_member string x strings is
string_at (x ∷ strings) (suc i) string lt is = later_member string x strings (string_at strings i string (omega arith) is)

pub enumeration_same : (ws : List (List ℕ)) (P R : List ℕ → Type 0) → IsEnumeration ws P → ((v : List ℕ) → P v → R v) →
    ((v : List ℕ) → R v → P v) → IsEnumeration ws R
enumeration_same ws P R s to from =
    record { right = λ v m. to v (s.right v m); different = s.different; whole = λ le v r. s.whole le v (from v r) }

module _ (ws : List (List ℕ)) (w : List ℕ) (P R : List ℕ → Type 0) (s : IsEnumeration ws P)
    (to : (v : List ℕ) → P v → R v) (new : R w) (from : (v : List ℕ) → R v → P v ⊎ (v ≡ w)) where
  more_by : (room there : Bool) → nat_le (length ws) 20 ≡ room → is_among ws w ≡ there →
      IsEnumeration (if room && not there then ws ++ w ∷ [] else ws) R
  more_by true false r t = record {
    right = λ v m. elim (member_append v ws (w ∷ []) m) [
      | inl a ↦ to v (s.right v a)
      | inr b ↦ subst R (sym (only_member v w b)) new
    ];
    different = different_push ws w s.different (λ m. both_ways (is_among ws w) t m);
    whole = λ le v h. elim (from v h) [
      | inl p ↦ member_left v ws (w ∷ []) (s.whole (leb-true (length ws) 20 r) v p)
      | inr e ↦ member_right v ws (w ∷ []) (first_member v w [] e)
    ];
  }
  more_by true true r t = record {
    right = λ v m. to v (s.right v m);
    different = s.different;
    whole = λ le v h. elim (from v h) [
      | inl p ↦ s.whole le v p
      | inr e ↦ subst (λ (x : List ℕ). is_among ws x ≡ true) (sym e) t
    ];
  }
  more_by false there r t = record {
    right = λ v m. to v (s.right v m);
    different = s.different;
    whole = λ le v h. absurd (both_ways (nat_le (length ws) 20) r (le-leb (length ws) 20 le));
  }

  -- one more string
  pub enumeration_more : IsEnumeration (with_string ws w) R
  enumeration_more = more_by (nat_le (length ws) 20) (is_among ws w) refl refl

-- more strings
pub enumeration_strings : (ws us : List (List ℕ)) (P R : List ℕ → Type 0) → IsEnumeration ws P →
    ((v : List ℕ) → P v → R v) → ((v : List ℕ) → is_among us v ≡ true → R v) →
    ((v : List ℕ) → R v → P v ⊎ (is_among us v ≡ true)) → IsEnumeration (with_strings ws us) R
enumeration_strings ws [] P R s to new from =
    enumeration_same ws P R s to (λ v r. elim (from v r) [ inl p ↦ p | inr n ↦ absurd (no_member v n) ])
enumeration_strings ws (u ∷ us) P R s to new from =
    let Q : List ℕ → Type 0 = λ v. P v ⊎ (v ≡ u) in
    let t : IsEnumeration (with_string ws u) Q = enumeration_more ws u P Q s (λ v p. inl p) (inr refl) (λ v q. q) in
    enumeration_strings (with_string ws u) us Q R t
    (λ v q. elim q [ inl p ↦ to v p | inr e ↦ new v (first_member v u us e) ])
    (λ v m. new v (later_member v u us m))
    (λ v r. elim (from v r) [ inl p ↦ inl (inl p) | inr m ↦ elim (member_cases v u us m) [ inl e ↦ inl (inr e) | inr n ↦ inr n ] ])

-- no strings
pub no_enumeration : IsEnumeration [] (λ w. ⊥)
no_enumeration = record { right = λ v m. no_member v m; different = refl; whole = λ le v p. absurd p }

pub enumeration_of : (us : List (List ℕ)) → IsEnumeration (with_strings [] us) (λ w. is_among us w ≡ true)
enumeration_of us = enumeration_strings [] us (λ w. ⊥) (λ w. is_among us w ≡ true) no_enumeration (λ v p. absurd p)
    (λ v m. m) (λ v m. inr m)

pub concatenation_parts : (w : List ℕ) (us vs : List (List ℕ)) → is_among (concatenations us vs) w ≡ true →
    (u v : List ℕ) × (is_among us u ≡ true) × (is_among vs v ≡ true) × (w ≡ u ++ v)
concatenation_parts w [] vs m = absurd (no_member w m)
concatenation_parts w (u ∷ us) vs m =
    elim (member_append w (map (λ v. u ++ v) vs) (concatenations us vs) m) [
      | inl a ↦ let r = member_map (λ v. u ++ v) w vs a in (u, r.0, first_member u u us refl, r.1, r.2)
      | inr b ↦ let r = concatenation_parts w us vs b in (r.0, r.1, later_member r.0 u us r.2, r.3, r.4)
    ]

pub concatenation_member : (u v : List ℕ) (us vs : List (List ℕ)) → is_among us u ≡ true → is_among vs v ≡ true →
    is_among (concatenations us vs) (u ++ v) ≡ true
concatenation_member u v [] vs m n = absurd (no_member u m)
concatenation_member u v (x ∷ us) vs m n =
    elim (member_cases u x us m) [
      | inl e ↦ member_left (u ++ v) (map (λ y. x ++ y) vs) (concatenations us vs)
          (subst (λ (y : List ℕ). is_among (map (λ z. x ++ z) vs) (y ++ v) ≡ true) (sym e)
          (map_member (λ z. x ++ z) v vs n))
      | inr k ↦ member_right (u ++ v) (map (λ y. x ++ y) vs) (concatenations us vs) (concatenation_member u v us vs k n)
    ]

pub some_member : (xs : List (List ℕ)) → 0 < length xs → (x : List ℕ) × (is_among xs x ≡ true)
some_member [] h = absurd (omega arith)
some_member (x ∷ xs) h = (x, first_member x x xs refl)

pub some_concatenation : (us vs : List (List ℕ)) → 0 < length us → 0 < length vs → 0 < length (with_strings [] (concatenations us vs))
some_concatenation us vs a b = by (with_strings [] (concatenations us vs)) (enumeration_of (concatenations us vs))
  where
    by : (ws : List (List ℕ)) → IsEnumeration ws (λ w. is_among (concatenations us vs) w ≡ true) → 0 < length ws
    by [] s =
        let u = some_member us a in
        let v = some_member vs b in
        absurd (no_member (u.0 ++ v.0) (s.whole (omega arith) (u.0 ++ v.0) (concatenation_member u.0 v.0 us vs u.1 v.1)))
    by (w ∷ ws) s = omega arith

module _ (us vs : List (List ℕ)) (P Q : List ℕ → Type 0) (s : IsEnumeration us P) (t : IsEnumeration vs Q) where
  abbrev pub Concatenated : List ℕ → Type 0
  Concatenated w = (u v : List ℕ) × P u × Q v × (w ≡ u ++ v)

  abbrev few_of : List (List ℕ)
  few_of = with_strings [] (concatenations us vs)

  -- the prefixes are as few as the concatenations if there is a suffix
  pub prefixes_few : (v : List ℕ) → is_among vs v ≡ true → length few_of ≤ 20 → length us ≤ 20
  prefixes_few v m le =
      let fits = different_within (map (λ u. u ++ v) us) few_of
      (different_map (λ u. u ++ v) (λ a b e. append_cancel_right a b v e) us s.different)
      (λ w n. let r = member_map (λ u. u ++ v) w us n in
      (enumeration_of (concatenations us vs)).whole le w
      (subst (λ (x : List ℕ). is_among (concatenations us vs) x ≡ true) (sym r.2)
      (concatenation_member r.0 v us vs r.1 m))) in
      omega (arith, fits, length-map us (λ (u : List ℕ). u ++ v))

  pub suffixes_few : (u : List ℕ) → is_among us u ≡ true → length few_of ≤ 20 → length vs ≤ 20
  suffixes_few u m le =
      let fits = different_within (map (λ v. u ++ v) vs) few_of
      (different_map (λ v. u ++ v) (λ a b e. append_cancel_left u a b e) vs t.different)
      (λ w n. let r = member_map (λ v. u ++ v) w vs n in
      (enumeration_of (concatenations us vs)).whole le w
      (subst (λ (x : List ℕ). is_among (concatenations us vs) x ≡ true) (sym r.2)
      (concatenation_member u r.0 us vs m r.1))) in
      omega (arith, fits, length-map vs (λ (v : List ℕ). u ++ v))

  -- if a string has the property, the other list is not empty, provided that it is complete
  prefixes_whole : (xs : List (List ℕ)) → vs ≡ xs → (v : List ℕ) → Q v → length few_of ≤ 20 → length us ≤ 20
  prefixes_whole [] e v q le =
      let short : length vs ≤ 20 = rw e (omega arith) in
      absurd (no_member v (subst (λ (ws : List (List ℕ)). is_among ws v ≡ true) e (t.whole short v q)))
  prefixes_whole (x ∷ xs) e v q le = prefixes_few x
      (subst (λ (ws : List (List ℕ)). is_among ws x ≡ true) (sym e) (first_member x x xs refl)) le

  pub enumeration_of_concatenations : IsEnumeration few_of Concatenated
  enumeration_of_concatenations =
      let all = enumeration_of (concatenations us vs) in
      record {
        right = λ w m. let r = concatenation_parts w us vs (all.right w m) in (r.0, r.1, s.right r.0 r.2, t.right r.1 r.3, r.4);
        different = all.different;
        whole = λ le w j.
            let prefix = s.whole (prefixes_whole vs refl j.1 j.3 le) j.0 j.2 in
            let suffix = t.whole (suffixes_few j.0 prefix le) j.1 j.3 in
            all.whole le w (subst (λ (x : List ℕ). is_among (concatenations us vs) x ≡ true) (sym j.4)
            (concatenation_member j.0 j.1 us vs prefix suffix));
      }

-- ---- the strings of the numbers that pass a test, one number after another

-- a string with a property, or that of a number from `start` on below `end`
abbrev pub IsOfNumber : (ℕ → Bool) → (ℕ → List ℕ) → ℕ → (List ℕ → Type 0) → ℕ → List ℕ → Type 0
IsOfNumber test string start P end w = P w ⊎ ((n : ℕ) × (start ≤ n) × (n < end) × (test n ≡ true) × (w ≡ string n))

pub enumeration_full : (ws : List (List ℕ)) (P R : List ℕ → Type 0) → 20 < length ws → IsEnumeration ws P →
    ((v : List ℕ) → P v → R v) → IsEnumeration ws R
enumeration_full ws P R many s to = record {
  right = λ v m. to v (s.right v m);
  different = s.different;
  whole =
      λ le v r. absurd (omega arith);
}

module _ (test : ℕ → Bool) (string : ℕ → List ℕ) (start : ℕ) (P : List ℕ → Type 0) where
  abbrev Below : ℕ → List ℕ → Type 0
  Below end = IsOfNumber test string start P end

  pub numbers_none : (ws : List (List ℕ)) → IsEnumeration ws P → IsEnumeration ws (Below start)
  numbers_none ws s = enumeration_same ws P (Below start) s (λ v p. inl p)
      (λ v q. elim q [ inl p ↦ p | inr k ↦ absurd (omega (arith, k.1, k.2)) ])

  pub numbers_next : (ws : List (List ℕ)) (n : ℕ) → start ≤ n → IsEnumeration ws (Below n) →
      IsEnumeration (if test n then with_string ws (string n) else ws) (Below (n + 1))
  numbers_next ws n from s = by (test n) refl
    where
      later : (v : List ℕ) → Below n v → Below (n + 1) v
      later v (inl p) = inl p
      later v (inr k) = inr (k.0, k.1, omega (arith, k.2), k.3, k.4)

      earlier : (v : List ℕ) → Below (n + 1) v → Below n v ⊎ ((test n ≡ true) × (v ≡ string n))
      earlier v (inl p) = inl (inl p)
      earlier v (inr k) = elim (cases_lt k.0 n) [
        | inl lt ↦ inl (inr (k.0, k.1, lt, k.3, k.4))
        | inr ge ↦ let same : k.0 ≡ n = omega (arith, k.2) in inr (subst (λ m. test m ≡ true) same k.3, k.4 ∙ ap string same)
      ]

      by : (b : Bool) → test n ≡ b → IsEnumeration (if b then with_string ws (string n) else ws) (Below (n + 1))
      by true e =
          enumeration_more ws (string n) (Below n) (Below (n + 1)) s later (inr (n, from, omega arith, e, refl))
          (λ v r. elim (earlier v r) [ inl p ↦ inl p | inr q ↦ inr q.1 ])
      by false e =
          enumeration_same ws (Below n) (Below (n + 1)) s later
          (λ v r. elim (earlier v r) [ inl p ↦ p | inr q ↦ absurd (both_ways (test n) e q.0) ])
