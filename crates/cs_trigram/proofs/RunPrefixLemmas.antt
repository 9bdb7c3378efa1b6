-- Each prefix of a sequence begins as an exact string of each leading run that has few strings: so the prefixes are
-- few, and are not truncated to fewer bytes.
use Rattle.std.proofs.Common.{◌≡◌, ℕ, ◌+◌, ◌-◌, ◌<◌, ◌≤◌, ◌||◌, inl, inr, not, Bool, true, false, List, [], ◌∷◌, ◌++◌, take, length, map, refl, sym, ◌∙◌, ap, subst, arith, drop_of_length-le, length-append}
use Rattle.std.specs.Prelude.{Contains, bytes_eq, nat_le, if◌then◌else◌}
use Rattle.std.specs.List.{list_any}
use Rattle.std.proofs.lemmas.Bool.{and_from, or_left, or_right, both_ways, cases_lt, leb-true, le-leb}
use Rattle.std.proofs.lemmas.List.{append-nil, length-map, map-append, take-append-drop, take-append-le, take-take}
use Rattle.std.proofs.Math.Seq.{take-append-add}
use Rattle.std.proofs.lemmas.List.Elements.{Contains-append_right}
use Rattle.std.proofs.lemmas.Slice.Eq.{bytes_eq-Decides}
use Rattle.cs_syntax.specs.TreeList.{append}
use Rattle.cs_syntax.specs.Matching.{Tree, Trees, none, more}
use Rattle.cs_tree.specs.Cover.{is_among}
use Rattle.cs_tree.specs.Folders.{are_distinct}
use Rattle.cs_trigram.specs.MayMatch.{MayMatch, MayMatchSequence}
use Rattle.cs_trigram.specs.ExactStrings.{HaveExactStrings, HaveLongStrings}
use Rattle.cs_trigram.specs.Analysis.{AreExactStrings}
use Rattle.cs_trigram.specs.EndStrings.{Direction, forward, read, subsumes, with_end_string, with_end_strings, truncated, end_of_two, concatenated, all_concatenated, end_product, whole_end}
use Rattle.cs_trigram.specs.SequenceQuery.{AreExactEnds, BeginsAs, BeginRuns}
use Rattle.cs_trigram.specs.declared.end_strings.EndString.{EndString}
use Rattle.cs_trigram.proofs.MemberLemmas.{no_member, member_cases, member_left, member_right, map_member, different_within, different_push}
use Rattle.cs_trigram.proofs.TruncationLemmas.{only_contained, first_contained, contained_in_map, contained_added, all_from}
use Rattle.cs_trigram.proofs.LeadingRunLemmas.{strings_of_prefix, strings_of_suffix, strings_within}
use Rattle.cs_trigram.proofs.EndStringOriginLemmas.{member_contained}

-- ---- end strings are few if their strings are: each string is that of a whole one or of another

-- an end string as a string: whether it is whole, and its bytes
abbrev flag : Bool → ℕ
flag true = 1
flag false = 0

abbrev encoded : EndString → List ℕ
encoded x = flag x.whole ∷ x.string

encoded_subsumes : (x y : EndString) → encoded x ≡ encoded y → subsumes x y ≡ true
encoded_subsumes x y same =
    let flags : flag x.whole ≡ flag y.whole = (cc) in
    let string : x.string ≡ y.string = (cc) in
    and_from (bytes_eq x.string y.string) (not x.whole || y.whole) ((bytes_eq-Decides x.string y.string).1 string) (implied x.whole y.whole flags)
  where
    implied : (a b : Bool) → flag a ≡ flag b → (not a || b) ≡ true
    implied true true e = refl
    implied true false e = absurd (omega (arith, e))
    implied false b e = refl

subsuming_member : (xs : List EndString) (e : EndString) → is_among (map encoded xs) (encoded e) ≡ true →
    list_any (λ other. subsumes other e) xs ≡ true
subsuming_member [] e m = absurd (no_member (encoded e) m)
subsuming_member (x ∷ xs) e m =
    elim (member_cases (encoded e) (encoded x) (map encoded xs) m) [
      | inl same ↦ or_left (subsumes x e) (list_any (λ other. subsumes other e) xs) (encoded_subsumes x e (sym same))
      | inr later ↦ or_right (subsumes x e) (list_any (λ other. subsumes other e) xs) (subsuming_member xs e later)
    ]

encoded_distinct : (xs ys : List EndString) → are_distinct (map encoded xs) ≡ true → are_distinct (map encoded (with_end_strings xs ys)) ≡ true
encoded_distinct xs [] d = d
encoded_distinct xs (y ∷ ys) d = encoded_distinct (with_end_string xs y) ys (by (list_any (λ other. subsumes other y) xs) refl)
  where
    by : (b : Bool) → list_any (λ other. subsumes other y) xs ≡ b → are_distinct (map encoded (if b then xs else xs ++ y ∷ [])) ≡ true
    by true there = d
    by false new =
        subst (λ (ws : List (List ℕ)). are_distinct ws ≡ true) (sym (map-append encoded xs (y ∷ [])))
        (different_push (map encoded xs) (encoded y) d
        (λ m. both_ways (list_any (λ other. subsumes other y) xs) new (subsuming_member xs y m)))

encoded_member : (xs : List EndString) (w : List ℕ) → is_among (map encoded xs) w ≡ true → (x : EndString) × Contains xs x × (w ≡ encoded x)
encoded_member [] w m = absurd (no_member w m)
encoded_member (x ∷ xs) w m =
    elim (member_cases w (encoded x) (map encoded xs) m) [
      | inl same ↦ (x, first_contained x xs, same)
      | inr later ↦ let r = encoded_member xs w later in (r.0, Contains-append_right (x ∷ []) xs r.0 r.1, r.2)
    ]

pub few_end_strings : (xs : List EndString) (texts : List (List ℕ)) → ((x : EndString) → Contains xs x → is_among texts x.string ≡ true) →
    length (with_end_strings [] xs) ≤ length texts + length texts
few_end_strings xs texts each =
    let first : ℕ → List ℕ → List ℕ = λ n w. n ∷ w in
    let all = map (first 1) texts ++ map (first 0) texts in
    let fits = different_within (map encoded (with_end_strings [] xs)) all (encoded_distinct [] xs refl)
    (λ w m.
    let x = encoded_member (with_end_strings [] xs) w m in
    subst (λ (v : List ℕ). is_among all v ≡ true) (sym x.2)
    (by x.0.whole x.0.string (each x.0 (contained_added xs x.0 x.1)))) in
    omega (
      arith,
      fits,
      length-map (with_end_strings [] xs) encoded,
      length-append (map (first 1) texts) (map (first 0) texts),
      length-map texts (first 1),
      length-map texts (first 0),
    )
  where
    by : (b : Bool) (string : List ℕ) → is_among texts string ≡ true →
        is_among (map (λ w. 1 ∷ w) texts ++ map (λ w. 0 ∷ w) texts) (flag b ∷ string) ≡ true
    by true string m = member_left (1 ∷ string) (map (λ w. 1 ∷ w) texts) (map (λ w. 0 ∷ w) texts) (map_member (λ w. 1 ∷ w) string texts m)
    by false string m = member_right (0 ∷ string) (map (λ w. 1 ∷ w) texts) (map (λ w. 0 ∷ w) texts) (map_member (λ w. 0 ∷ w) string texts m)

-- ---- the first bytes of a concatenation

take_whole : (n : ℕ) (s : List ℕ) → length s ≤ n → take n s ≡ s
take_whole n s le =
    sym (append-nil (take n s)) ∙ ap (λ (x : List ℕ). take n s ++ x) (sym (drop_of_length-le s {i = n} le)) ∙ take-append-drop n s

take_both : (n : ℕ) (s a b : List ℕ) → take (n - length s) a ≡ take (n - length s) b → take n (s ++ a) ≡ take n (s ++ b)
take_both n s a b same =
    elim (cases_lt (length s) n) [
      | inl lt ↦
          let sum : n ≡ length s + (n - length s) = omega arith in
          ap (λ k. take k (s ++ a)) sum ∙ take-append-add s a (n - length s) ∙ ap (λ (x : List ℕ). s ++ x) same
          ∙ sym (take-append-add s b (n - length s)) ∙ ap (λ k. take k (s ++ b)) (sym sum)
      | inr le ↦ take-append-le n s a le ∙ sym (take-append-le n s b le)
    ]

-- an end string of a cross product is cut to n bytes
concatenated_cut : (n : ℕ) (near : EndString) (fars : List EndString) (x : EndString) → Contains (concatenated n near fars) x →
    take n x.string ≡ x.string
concatenated_cut n near fars x m = by near.whole m
  where
    by : (b : Bool) → Contains (if b then map (end_of_two n near) fars else truncated n near ∷ []) x → take n x.string ≡ x.string
    by true m =
        let y = contained_in_map (end_of_two n near) fars x m in
        subst (λ (z : EndString). take n z.string ≡ z.string) y.2 (take-take n n (near.string ++ y.0.string) (omega arith))
    by false m = subst (λ (z : EndString). take n z.string ≡ z.string) (only_contained (truncated n near) x m)
        (take-take n n near.string (omega arith))

-- a string of a part, followed by an end string of a run
module _ (t : Tree) (run : Trees) (n : ℕ) (fars : List EndString) (small : n ≤ 2) (long : HaveLongStrings n (more t run))
    (some : (w : List ℕ) × MayMatchSequence true run w)
    (begin : (k : ℕ) → k ≤ n → HaveLongStrings k run → (y : EndString) → Contains fars y → BeginsAs k run y) where
  concatenation_begins : (m : ℕ) → n ≤ m → (s : List ℕ) → MayMatch true t s → (x : EndString) →
      Contains (concatenated m (whole_end s) fars) x → BeginsAs n (more t run) x
  concatenation_begins m le s is x c = by (nat_le (length s) 3) refl c
    where
      by : (b : Bool) → nat_le (length s) 3 ≡ b →
          Contains (if b then map (end_of_two m (whole_end s)) fars else truncated m (whole_end s) ∷ []) x → BeginsAs n (more t run) x
      by true fits c =
          let y = contained_in_map (end_of_two m (whole_end s)) fars x c in
          let k = n - length s in
          let far = begin k (omega arith) (λ v j. let l = long (s ++ v) (s, v, is, j, refl) in omega (arith, l, length-append s v)) y.0 y.1 in
          let near : take 3 s ≡ s = take_whole 3 s (leb-true (length s) 3 fits) in (
            s ++ far.0,
            (s, far.0, is, far.1, refl),
            ap (λ (z : EndString). take n z.string) (sym y.2)
                ∙ take-take n m (take 3 s ++ y.0.string) le
                ∙ ap (λ (z : List ℕ). take n (z ++ y.0.string)) near
                ∙ take_both n s y.0.string far.0 far.2,
          )
      by false cut c =
          let many : 3 < length s = elim (cases_lt 3 (length s)) [
            | inl lt ↦ lt
            | inr le3 ↦ absurd (both_ways (nat_le (length s) 3) cut (le-leb (length s) 3 le3))
          ] in (
            s ++ some.0,
            (s, some.0, is, some.1, refl),
            ap (λ (z : EndString). take n z.string) (sym (only_contained (truncated m (whole_end s)) x c))
                ∙ take-take n m (take 3 s) le ∙ take-take n 3 s (omega (arith, small))
                ∙ sym (take-append-le n s some.0 (omega (arith, small, many))),
          )

-- an empty run, whose string has no byte
begins_empty : (n : ℕ) (x : EndString) → HaveLongStrings n none → BeginsAs n none x
begins_empty n x long = let zero_bytes : 0 ≡ n = omega (arith, long [] refl) in subst (λ k. BeginsAs k none x) zero_bytes ([], refl, refl)

-- an end string of exact strings is that of one of them
pub end_of_exact : (direction : Direction) (texts : List (List ℕ)) (t : Tree) (ends : List EndString) → AreExactStrings texts t →
    ends ≡ with_end_strings [] (map (λ text. whole_end (read direction text)) texts) → (x : EndString) → Contains ends x →
    (s : List ℕ) × MayMatch true t s × (whole_end (read direction s) ≡ x)
end_of_exact direction texts t ends exact is x m =
    let f : List ℕ → EndString = λ text. whole_end (read direction text) in
    let s = contained_in_map f texts x (contained_added (map f texts) x (subst (λ (es : List EndString). Contains es x) is m)) in
    (s.0, exact.are.1.right s.0 (member_contained texts s.0 s.1), s.2)

-- ---- one more part at the start

module _ (nears fars : List EndString) (t : Tree) (ts : Trees) (exact : AreExactEnds forward nears t) (begin : BeginRuns fars ts) where
  module _ (run after : Trees) (n b : ℕ) (is : ts ≡ append run after) (small : n ≤ 2) (few : b ≤ 10)
      (strings : HaveExactStrings b (more t run)) (long : HaveLongStrings n (more t run)) where
    product_begins : (m : ℕ) → n ≤ m → (x : EndString) → Contains (all_concatenated m nears fars) x → BeginsAs n (more t run) x
    product_begins m le x there =
        let run_strings = strings_of_suffix b (more t none) run strings in
        let near = exact (strings_within b 20 (more t none) (omega (arith, few)) (strings_of_prefix b (more t none) run strings)) in
        let first = all_from m fars nears x there in
        let s = end_of_exact forward near.0 t nears near.1 near.2 first.0 first.1 in
        concatenation_begins t run n fars small long run_strings.1.0
        (λ k fewer each. begin run after k b is (omega (arith, fewer, small)) few run_strings each) m le s.0 s.1 x
        (subst (λ (z : EndString). Contains (concatenated m z fars) x) (sym s.2) first.2)

    -- the first n bytes of the strings of the run
    abbrev beginnings : List (List ℕ)
    beginnings = map (take n) strings.1.1.0

    product_among : (x : EndString) → Contains (all_concatenated n nears fars) x → is_among beginnings x.string ≡ true
    product_among x there =
        let w = product_begins n (omega arith) x there in
        let first = all_from n fars nears x there in
        subst (λ (z : List ℕ). is_among beginnings z ≡ true) (sym w.2 ∙ concatenated_cut n first.0 fars x first.2)
        (map_member (take n) w.0 strings.1.1.0 (strings.1.1.2 w.0 w.1))

    product_few : length (end_product n nears fars) ≤ 20
    product_few = omega (
      arith,
      few_end_strings (all_concatenated n nears fars) beginnings product_among,
      length-map strings.1.1.0 (take n),
      strings.1.1.1,
      few,
    )

  module _ (ends : List EndString)
      (cut : (n : ℕ) → 0 < n → n ≤ 3 → length (end_product n nears fars) ≤ 20 → (m : ℕ) × (n ≤ m) × (ends ≡ end_product m nears fars)) where
    run_begins_more : (run after : Trees) (n b : ℕ) → ts ≡ append run after → n ≤ 2 → b ≤ 10 → HaveExactStrings b (more t run) →
        HaveLongStrings n (more t run) → (x : EndString) → Contains ends x → BeginsAs n (more t run) x
    run_begins_more run after n b is small few strings long x there =
        elim (cases_lt 0 n) [
          | inl some ↦
              let product = cut n some (omega (arith, small)) (product_few run after n b is small few strings long) in
              product_begins run after n b is small few strings long product.0 product.1 x
              (contained_added (all_concatenated product.0 nears fars) x (subst (λ (es : List EndString). Contains es x) product.2 there))
          | inr no_byte ↦
              let zero_bytes : 0 ≡ n = omega (arith, no_byte) in
              subst (λ k. BeginsAs k (more t run) x) zero_bytes (strings.1.0.0, strings.1.0.1, refl)
        ]

    pub begins_more : BeginRuns ends (more t ts)
    begins_more none after n b is small few strings long x there = begins_empty n x long
    begins_more (more u run) after n b is small few strings long x there =
        let tree : t ≡ u = (cc) in
        let rest : ts ≡ append run after = (cc) in
        subst (λ (z : Tree). BeginsAs n (more z run) x) tree
        (run_begins_more run after n b rest small few (subst (λ (z : Tree). HaveExactStrings b (more z run)) (sym tree) strings)
        (subst (λ (z : Tree). HaveLongStrings n (more z run)) (sym tree) long) x there)

-- no parts
pub begins_none : (ends : List EndString) → BeginRuns ends none
begins_none ends none after n b is small few strings long x there = begins_empty n x long
begins_none ends (more u run) after n b is small few strings long x there = (cc)
