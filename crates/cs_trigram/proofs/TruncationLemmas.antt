-- Truncated end strings, sets of them, and cross products.
use Rattle.std.proofs.Common.{◌≡◌, ℕ, ◌+◌, ◌<◌, ◌≤◌, ◌⊎◌, ◌||◌, not, Bool, true, false, List, [], ◌∷◌, ◌++◌, take, drop, length, map, refl, sym, ◌∙◌, ap, subst, inl, inr, arith, drop_of_length-le, append_assoc, length-append}
use Rattle.std.specs.Prelude.{Contains, bytes_eq, nat_le, if◌then◌else◌}
use Rattle.std.specs.List.{list_any}
use Rattle.std.proofs.lemmas.Bool.{false≢true, and_parts, or_cases, leb-true}
use Rattle.std.proofs.lemmas.List.{append-nil, take-append-drop, length-map, length-take, map-id}
use Rattle.std.proofs.lemmas.List.Elements.{Contains-push_cases, Contains-append_left, Contains-append_right, Contains-append_cases}
use Rattle.std.proofs.lemmas.Slice.Eq.{bytes_eq-Decides}
use Rattle.cs_trigram.specs.EndStrings.{IsTruncation, whole_text, HasEndString, HasTruncation, HasSomeEndString, subsumes, with_end_string, with_end_strings, truncated, end_of_two, concatenated, AreCoarser, IsConcatenation, AreConcatenations, all_concatenated, end_product, all_truncated}
use Rattle.cs_trigram.specs.declared.end_strings.EndString.{EndString}

-- the end string of every text, and that of the empty text
abbrev pub any_end : EndString
any_end = record { string = []; whole = false }

abbrev pub empty_end : EndString
empty_end = whole_text []

-- ---- members

pub none_contained : {A : Type 0} (x : A) → Contains [] x → ⊥
none_contained x m = let lt : m.0 < 0 = m.1 in omega arith

pub only_contained : {A : Type 0} (e x : A) → Contains (e ∷ []) x → e ≡ x
only_contained e x m = elim (Contains-push_cases [] e x m) [ inl n ↦ absurd (none_contained x n) | inr same ↦ same ]

pub first_contained : {A : Type 0} (e : A) (xs : List A) → Contains (e ∷ xs) e
first_contained e xs = (0, omega arith, refl)

pub contained_cases : {A : Type 0} (e : A) (xs : List A) (x : A) → Contains (e ∷ xs) x → (e ≡ x) ⊎ Contains xs x
contained_cases e xs x m = elim (Contains-append_cases (e ∷ []) xs x m) [ inl a ↦ inl (only_contained e x a) | inr b ↦ inr b ]

module _ {A : Type 0} (f : A → EndString) where
  pub contained_map : (xs : List A) (x : A) → Contains xs x → Contains (map f xs) (f x)
  contained_map [] x m = absurd (none_contained x m)
  contained_map (y ∷ xs) x m =
      elim (contained_cases y xs x m) [
        | inl same ↦ subst (λ (z : A). Contains (f y ∷ map f xs) (f z)) same (first_contained (f y) (map f xs))
        | inr b ↦ Contains-append_right (f y ∷ []) (map f xs) (f x) (contained_map xs x b)
      ]

  pub contained_in_map : (xs : List A) (x : EndString) → Contains (map f xs) x → (y : A) × Contains xs y × (f y ≡ x)
  contained_in_map [] x m = absurd (none_contained x m)
  contained_in_map (y ∷ xs) x m =
      elim (contained_cases (f y) (map f xs) x m) [
        | inl same ↦ (y, first_contained y xs, same)
        | inr b ↦ let r = contained_in_map xs x b in (r.0, Contains-append_right (y ∷ []) xs r.0 r.1, r.2)
      ]

-- ---- truncations

pub truncation_same : (x : EndString) → IsTruncation x x
truncation_same x = ([], sym (append-nil x.string), λ whole. (refl, whole))

pub truncation_both : (x y z : EndString) → IsTruncation x y → IsTruncation y z → IsTruncation x z
truncation_both x y z a b = (
  a.0 ++ b.0,
  b.1 ∙ ap (λ (s : List ℕ). s ++ b.0) a.1 ∙ append_assoc x.string a.0 b.0,
  λ whole. let first = a.2 whole in let second = b.2 first.1 in (ap (λ (s : List ℕ). s ++ b.0) first.0 ∙ second.0, second.1),
)

pub truncated_is : (n : ℕ) (e : EndString) → IsTruncation (truncated n e) e
truncated_is n e = (
  drop n e.string,
  sym (take-append-drop n e.string),
  λ whole. let parts = and_parts e.whole (nat_le (length e.string) n) whole in
      (drop_of_length-le e.string {i = n} (leb-true (length e.string) n parts.1), parts.0),
)

subsumed_is : (x y : EndString) → subsumes x y ≡ true → IsTruncation x y
subsumed_is x y holds =
    let parts = and_parts (bytes_eq x.string y.string) (not x.whole || y.whole) holds in (
      [],
      sym ((bytes_eq-Decides x.string y.string).0 parts.0) ∙ sym (append-nil x.string),
      λ whole. (refl, implied x.whole y.whole parts.1 whole),
    )
  where
    implied : (a b : Bool) → (not a || b) ≡ true → a ≡ true → b ≡ true
    implied true b h e = h
    implied false b h e = (cc)

pub any_has : (text : List ℕ) → HasEndString any_end text
any_has text = (text, refl, λ odd. absurd (false≢true odd))

-- ---- coarser sets

pub coarser_same : (xs : List EndString) → AreCoarser xs xs
coarser_same xs = record { all = λ y m. (y, m, truncation_same y); each = λ x m. (x, m, truncation_same x) }

pub coarser_has : (a b : List EndString) → AreCoarser a b → (y : EndString) → HasTruncation b y → HasTruncation a y
coarser_has a b ab y h = let x = ab.all h.0 h.1 in (x.0, x.1, truncation_both x.0 h.0 y x.2 h.2)

pub coarser_both : (a b c : List EndString) → AreCoarser a b → AreCoarser b c → AreCoarser a c
coarser_both a b c ab bc = record {
  all = λ z m. coarser_has a b ab z (bc.all z m);
  each = λ x m. let y = ab.each x m in let z = bc.each y.0 y.1 in (z.0, z.1, truncation_both x y.0 z.0 y.2 z.2);
}

coarser_append : (a b zs : List EndString) → AreCoarser a b → AreCoarser (a ++ zs) (b ++ zs)
coarser_append a b zs ab = record {
  all = λ y m. elim (Contains-append_cases b zs y m) [
    | inl l ↦ let x = ab.all y l in (x.0, Contains-append_left a zs x.0 x.1, x.2)
    | inr r ↦ (y, Contains-append_right a zs y r, truncation_same y)
  ];
  each = λ x m. elim (Contains-append_cases a zs x m) [
    | inl l ↦ let y = ab.each x l in (y.0, Contains-append_left b zs y.0 y.1, y.2)
    | inr r ↦ (x, Contains-append_right b zs x r, truncation_same x)
  ];
}

coarser_map : {A : Type 0} (f g : A → EndString) → ((x : A) → IsTruncation (f x) (g x)) → (xs : List A) → AreCoarser (map f xs) (map g xs)
coarser_map f g is xs = record {
  all = λ y m. let r = contained_in_map g xs y m in (f r.0, contained_map f xs r.0 r.1, subst (IsTruncation (f r.0)) r.2 (is r.0));
  each = λ x m. let r = contained_in_map f xs x m in
      (g r.0, contained_map g xs r.0 r.1, subst (λ (z : EndString). IsTruncation z (g r.0)) r.2 (is r.0));
}

subsuming : (xs : List EndString) (e : EndString) → list_any (λ other. subsumes other e) xs ≡ true → HasTruncation xs e
subsuming [] e holds = absurd (false≢true holds)
subsuming (x ∷ xs) e holds =
    elim (or_cases (subsumes x e) (list_any (λ other. subsumes other e) xs) holds) [
      | inl a ↦ (x, first_contained x xs, subsumed_is x e a)
      | inr b ↦ let r = subsuming xs e b in (r.0, Contains-append_right (x ∷ []) xs r.0 r.1, r.2)
    ]

coarser_one : (xs : List EndString) (e : EndString) → AreCoarser (with_end_string xs e) (xs ++ e ∷ [])
coarser_one xs e = by (list_any (λ other. subsumes other e) xs) refl
  where
    by : (b : Bool) → list_any (λ other. subsumes other e) xs ≡ b → AreCoarser (if b then xs else xs ++ e ∷ []) (xs ++ e ∷ [])
    by true holds = record {
      all = λ y m. elim (Contains-push_cases xs e y m) [
        | inl a ↦ (y, a, truncation_same y)
        | inr same ↦ subst (HasTruncation xs) same (subsuming xs e holds)
      ];
      each = λ x m. (x, Contains-append_left xs (e ∷ []) x m, truncation_same x);
    }
    by false fails = coarser_same (xs ++ e ∷ [])

pub coarser_with : (xs ys : List EndString) → AreCoarser (with_end_strings xs ys) (xs ++ ys)
coarser_with xs [] = subst (AreCoarser xs) (sym (append-nil xs)) (coarser_same xs)
coarser_with xs (y ∷ ys) =
    let one = with_end_string xs y in
    coarser_both (with_end_strings one ys) (one ++ ys) (xs ++ y ∷ ys) (coarser_with one ys)
    (subst (AreCoarser (one ++ ys)) (append_assoc xs (y ∷ []) ys) (coarser_append one (xs ++ y ∷ []) ys (coarser_one xs y)))

pub coarser_with_map : {A : Type 0} (f g : A → EndString) → ((x : A) → IsTruncation (f x) (g x)) → (xs : List A) →
    AreCoarser (with_end_strings [] (map f xs)) (map g xs)
coarser_with_map f g is xs = coarser_both (with_end_strings [] (map f xs)) (map f xs) (map g xs)
    (coarser_with [] (map f xs)) (coarser_map f g is xs)

pub with_end_strings_append : (xs ys zs : List EndString) → with_end_strings xs (ys ++ zs) ≡ with_end_strings (with_end_strings xs ys) zs
with_end_strings_append xs [] zs = refl
with_end_strings_append xs (y ∷ ys) zs = with_end_strings_append (with_end_string xs y) ys zs

truncated_coarser : (n : ℕ) (xs : List EndString) → AreCoarser (all_truncated n xs) xs
truncated_coarser n xs = subst (AreCoarser _) (map-id xs) (coarser_with_map (truncated n) (λ e. e) (truncated_is n) xs)

pub coarser_as : (n : ℕ) (short xs : List EndString) → short ≡ all_truncated n xs → AreCoarser short xs
coarser_as n short xs is = subst (λ (es : List EndString). AreCoarser es xs) (sym is) (truncated_coarser n xs)

-- each of the end strings is one of those that are added one after another
contained_before : (xs ys : List EndString) (x : EndString) → Contains (with_end_strings xs ys) x → Contains xs x ⊎ Contains ys x
contained_before xs [] x m = inl m
contained_before xs (y ∷ ys) x m =
    elim (contained_before (with_end_string xs y) ys x m) [
      | inl a ↦ elim (by (list_any (λ other. subsumes other y) xs) a) [
        | inl before ↦ inl before
        | inr same ↦ inr (subst (Contains (y ∷ ys)) same (first_contained y ys))
      ]
      | inr b ↦ inr (Contains-append_right (y ∷ []) ys x b)
    ]
  where
    by : (b : Bool) → Contains (if b then xs else xs ++ y ∷ []) x → Contains xs x ⊎ (y ≡ x)
    by true a = inl a
    by false a = Contains-push_cases xs y x a

pub contained_added : (xs : List EndString) (x : EndString) → Contains (with_end_strings [] xs) x → Contains xs x
contained_added xs x m = elim (contained_before [] xs x m) [ inl a ↦ absurd (none_contained x a) | inr b ↦ b ]

-- a truncated end string is that of one of the end strings
pub truncated_from : (n : ℕ) (xs : List EndString) (x : EndString) → Contains (all_truncated n xs) x →
    (y : EndString) × Contains xs y × (x.string ≡ take n y.string)
truncated_from n xs x m =
    let y = contained_in_map (truncated n) xs x (contained_added (map (truncated n) xs) x m) in
    (y.0, y.1, ap (λ (z : EndString). z.string) (sym y.2))

added_at_most : (xs ys : List EndString) → length (with_end_strings xs ys) ≤ length xs + length ys
added_at_most xs [] = omega arith
added_at_most xs (y ∷ ys) =
    let one = by (list_any (λ other. subsumes other y) xs) in
    let more = added_at_most (with_end_string xs y) ys in
    omega (arith, one, more)
  where
    by : (b : Bool) → length (if b then xs else xs ++ y ∷ []) ≤ length xs + 1
    by true = omega arith
    by false = omega (arith, length-append xs (y ∷ []))

-- end strings that are added one after another are at most as many
pub not_more : (xs : List EndString) → length (with_end_strings [] xs) ≤ length xs
not_more xs = let le = added_at_most [] xs in omega (arith, le)

pub truncated_not_more : (n : ℕ) (xs : List EndString) → length (all_truncated n xs) ≤ length xs
truncated_not_more n xs = let le = not_more (map (truncated n) xs) in omega (arith, le, length-map xs (truncated n))

-- the end strings with more of them are not fewer
pub with_not_fewer : (xs ys : List EndString) → length xs ≤ length (with_end_strings xs ys)
with_not_fewer xs [] = omega arith
with_not_fewer xs (y ∷ ys) =
    let one = by (list_any (λ other. subsumes other y) xs) in
    let more = with_not_fewer (with_end_string xs y) ys in
    omega (arith, one, more)
  where
    by : (b : Bool) → length xs ≤ length (if b then xs else xs ++ y ∷ [])
    by true = omega arith
    by false = omega (arith, length-append xs (y ∷ []))

-- ---- concatenations

module _ (n : ℕ) (near : EndString) where
  -- a near end string that is not whole
  open_has : near.whole ≡ false → (u v : List ℕ) → HasEndString near u → HasEndString (truncated n near) (u ++ v)
  open_has loose u v a =
      truncation_both (truncated n near) near (whole_text (u ++ v)) (truncated_is n near)
      (a.0 ++ v, ap (λ (x : List ℕ). x ++ v) a.1 ∙ append_assoc near.string a.0 v, λ odd. absurd (false≢true (sym loose ∙ odd)))

  -- a whole one, and a far one
  two_has : near.whole ≡ true → (far : EndString) (u v : List ℕ) → HasEndString near u → HasEndString far v →
      HasEndString (end_of_two n near far) (u ++ v)
  two_has whole far u v a b =
      let both : EndString = record { string = near.string ++ far.string; whole = far.whole } in
      let same : u ≡ near.string = a.1 ∙ ap (λ (x : List ℕ). near.string ++ x) (a.2 whole).0 ∙ append-nil near.string in
      truncation_both (truncated n both) both (whole_text (u ++ v)) (truncated_is n both) (
        b.0,
        ap (λ (x : List ℕ). x ++ v) same ∙ ap (λ (x : List ℕ). near.string ++ x) b.1
            ∙ sym (append_assoc near.string far.string b.0),
        b.2,
      )

  concatenated_has : (fars : List EndString) (u v : List ℕ) → HasEndString near u → HasSomeEndString fars v →
      HasSomeEndString (concatenated n near fars) (u ++ v)
  concatenated_has fars u v a b = by near.whole refl
    where
      by : (w : Bool) → near.whole ≡ w → HasSomeEndString (if w then map (end_of_two n near) fars else truncated n near ∷ []) (u ++ v)
      by true is = (end_of_two n near b.0, contained_map (end_of_two n near) fars b.0 b.1, two_has is b.0 u v a b.2)
      by false is = (truncated n near, first_contained (truncated n near) [], open_has is u v a)

  concatenated_from : n ≤ 3 → (fars : List EndString) (x : EndString) → Contains (concatenated n near fars) x → IsConcatenation near fars x
  concatenated_from le fars x m = by near.whole refl m
    where
      by : (w : Bool) → near.whole ≡ w → Contains (if w then map (end_of_two n near) fars else truncated n near ∷ []) x
          → IsConcatenation near fars x
      by true is m =
          let y = contained_in_map (end_of_two n near) fars x m in
          subst (λ (z : EndString). IsConcatenation near fars z) y.2
          (inr (y.0, y.1, two_has is y.0, omega (arith, le, length-take n (near.string ++ y.0.string))))
      by false is m = subst (λ (z : EndString). IsConcatenation near fars z) (only_contained (truncated n near) x m) (inl (open_has is))

module _ (n : ℕ) (fars : List EndString) where
  all_has : (nears : List EndString) (near : EndString) (text : List ℕ) → Contains nears near →
      HasSomeEndString (concatenated n near fars) text → HasSomeEndString (all_concatenated n nears fars) text
  all_has [] near text m h = absurd (none_contained near m)
  all_has (e ∷ nears) near text m h =
      elim (contained_cases e nears near m) [
        | inl same ↦
            let first = subst (λ (z : EndString). HasSomeEndString (concatenated n z fars) text) (sym same) h in
            (first.0, Contains-append_left (concatenated n e fars) (all_concatenated n nears fars) first.0 first.1, first.2)
        | inr later ↦
            let r = all_has nears near text later h in
            (r.0, Contains-append_right (concatenated n e fars) (all_concatenated n nears fars) r.0 r.1, r.2)
      ]

  pub all_from : (nears : List EndString) (x : EndString) → Contains (all_concatenated n nears fars) x →
      (near : EndString) × Contains nears near × Contains (concatenated n near fars) x
  all_from [] x m = absurd (none_contained x m)
  all_from (near ∷ nears) x m =
      elim (Contains-append_cases (concatenated n near fars) (all_concatenated n nears fars) x m) [
        | inl a ↦ (near, first_contained near nears, a)
        | inr b ↦ let r = all_from nears x b in (r.0, Contains-append_right (near ∷ []) nears r.0 r.1, r.2)
      ]

  pub all_concatenations : n ≤ 3 → (nears : List EndString) →
      AreConcatenations nears fars (end_product n nears fars)
  all_concatenations le nears = record {
    all = λ u v a b.
        coarser_has _ (all_concatenated n nears fars) (coarser_with [] (all_concatenated n nears fars)) (whole_text (u ++ v))
        (all_has nears a.0 (u ++ v) a.1 (concatenated_has n a.0 fars u v a.2 b));
    each = λ x m.
        let y = (coarser_with [] (all_concatenated n nears fars)).each x m in
        let near = all_from nears y.0 y.1 in
        (near.0, near.1, shorter near.0 x y.0 y.2 (concatenated_from n near.0 le fars y.0 near.2));
  }
    where
      shorter : (near x y : EndString) → IsTruncation x y → IsConcatenation near fars y → IsConcatenation near fars x
      shorter near x y t (inl opens) = inl (λ u v a. truncation_both x y (whole_text (u ++ v)) t (opens u v a))
      shorter near x y t (inr two) =
          inr (
            two.0,
            two.1,
            (λ u v a b. truncation_both x y (whole_text (u ++ v)) t (two.2 u v a b)),
            omega (arith, two.3, ap length t.1, length-append x.string t.0),
          )

-- a near end string of a cross product
pub some_near : (n : ℕ) (nears fars : List EndString) → 0 < length (end_product n nears fars) → (near : EndString) × Contains nears near
some_near n [] fars lt = absurd (omega arith)
some_near n (near ∷ nears) fars lt = (near, first_contained near nears)

-- the end string of every text
pub any_concatenations : (nears fars : List EndString) (near : EndString) → Contains nears near →
    AreConcatenations nears fars (any_end ∷ [])
any_concatenations nears fars near there = record {
  all = λ u v a b. (any_end, first_contained any_end [], any_has (u ++ v));
  each = λ x m. (
    near,
    there,
    inl (λ u v a. subst (λ (y : EndString). HasEndString y (u ++ v))
        (only_contained any_end x m) (any_has (u ++ v))),
  );
}

-- equal lists
pub concatenations_via : (xs ys nears fars end_strings : List EndString) → xs ≡ nears → ys ≡ fars →
    AreConcatenations xs ys end_strings → AreConcatenations nears fars end_strings
concatenations_via xs ys nears fars end_strings a b c =
    subst (λ (zs : List EndString). AreConcatenations nears zs end_strings) b
    (subst (λ (zs : List EndString). AreConcatenations zs ys end_strings) a c)
