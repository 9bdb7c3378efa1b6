-- Each end string of a tree is one of a text that the tree may match.
use Rattle.std.proofs.Common.{false, ◌≡◌, ℕ, ◌+◌, ◌≤◌, ◌⊎◌, true, List, [], ◌∷◌, ◌++◌, length, map, reverse, refl, sym, ◌∙◌, ap, subst, inl, inr, arith, append_assoc, length-append}
use Rattle.std.specs.Prelude.{Contains, Option, None, slice_range, bytes_eq}
use Rattle.std.proofs.lemmas.Bool.{cases_lt}
use Rattle.std.proofs.lemmas.List.{append-nil, reverse-append, reverse-reverse, length-reverse}
use Rattle.std.proofs.lemmas.List.Elements.{Contains-append_cases, Contains-append_left, Contains-append_right}
use Rattle.std.proofs.lemmas.Map.Views.{Contains-from_any}
use Rattle.std.proofs.lemmas.Slice.Eq.{bytes_eq-Decides}
use Rattle.cs_tree.specs.Cover.{is_among}
use Rattle.cs_syntax.specs.Matching.{Tree, Trees, cat, alt, rep, none, more}
use Rattle.cs_trigram.specs.MayMatch.{IsRepeated, MayMatch, MayMatchSequence, MayMatchBranch}
use Rattle.cs_trigram.specs.Analysis.{AreExactStrings}
use Rattle.cs_trigram.specs.EndStrings.{Direction, forward, backward, read, IsTruncation, whole_text, whole_end, with_end_strings, HasEndString, HasSomeEndString, AreCoarser, IsConcatenation, AreConcatenations, IsEndStringOf, AreEndStrings, AreEndStringsOfSome}
use Rattle.cs_trigram.specs.declared.end_strings.EndString.{EndString}
use Rattle.cs_trigram.proofs.MemberLemmas.{first_member, later_member}
use Rattle.cs_trigram.proofs.EndStringLemmas.{rises, rises_all, end_strings_none, spans_forward, spans_backward, iteration_more, iterations_any}
use Rattle.cs_trigram.proofs.TruncationLemmas.{any_end, empty_end, any_has, none_contained, only_contained, first_contained, contained_cases, contained_map, contained_in_map, truncation_same, truncation_both, truncated_is, coarser_has, coarser_with_map}
use Rattle.cs_trigram.proofs.ExactStringLemmas.{match_is_exact}
use Rattle.cs_trigram.proofs.MayMatchLemmas.{exact_may_match, repeated_text, repeated_empty, repeated_both, some_empty, text_of, text_of_all, branches_have_members}

-- a text that is read twice
pub read_twice : (direction : Direction) (text : List ℕ) → read direction (read direction text) ≡ text
read_twice forward text = refl
read_twice backward text = reverse-reverse text

-- some text of a kind, as it is read
some_read : (direction : Direction) (P : List ℕ → Type 0) → (text : List ℕ) × P text → (text : List ℕ) × P (read direction text)
some_read direction P some = (read direction some.0, subst P (sym (read_twice direction some.0)) some.1)

-- ---- origins

pub origin_as : (P Q : List ℕ → Type 0) (x : EndString) → ((text : List ℕ) → P text → Q text) → IsEndStringOf P x → IsEndStringOf Q x
origin_as P Q x to o = (o.0, (o.1.0, to (o.0 ++ o.1.0) o.1.1, o.1.2), o.2)

origin_truncated : (P : List ℕ → Type 0) (x y : EndString) → IsTruncation x y → IsEndStringOf P y → IsEndStringOf P x
origin_truncated P x y t o = (o.0, o.1, truncation_both x y (whole_text o.0) t o.2)

-- an end string of a whole text
origin_whole : (P : List ℕ → Type 0) (x : EndString) (text : List ℕ) → P text → HasEndString x text → IsEndStringOf P x
origin_whole P x text p has = (text, ([], subst P (sym (append-nil text)) p, λ lt. refl), has)

-- two cuts of a text
two_cuts : (a b c d : List ℕ) → a ++ b ≡ c ++ d → length c ≤ length a → (e : List ℕ) × (a ≡ c ++ e) × (d ≡ e ++ b)
two_cuts a b [] d same le = (a, refl, sym same)
two_cuts [] b (y ∷ c) d same le = absurd (omega arith)
two_cuts (x ∷ a) b (y ∷ c) d same le =
    let first : x ≡ y = (cc) in
    let rest : a ++ b ≡ c ++ d = (cc) in
    let r = two_cuts a b c d rest (omega arith) in
    (r.0, ap (λ z. z ∷ a) first ∙ ap (λ (z : List ℕ). y ∷ z) r.1, r.2)

none_left : (a b : List ℕ) → a ++ b ≡ [] → a ≡ []
none_left [] b e = refl
none_left (x ∷ a) b e = (cc)

-- an end string of a concatenation is one of the near text, if this has three bytes
has_near : (x : EndString) (u v : List ℕ) → length x.string ≤ 3 → 3 ≤ length u → HasEndString x (u ++ v) → HasEndString x u
has_near x u v short long h =
    let r = two_cuts u v x.string h.0 h.1 (omega (arith, short, long)) in
    (r.0, r.1, λ whole. (none_left r.0 v (sym r.2 ∙ (h.2 whole).0), refl))

-- an end string of a near text of the first kind and a far text of the second
module _ (P Q R : List ℕ → Type 0) (both : (u v : List ℕ) → P u → Q v → R (u ++ v)) where
  origin_two : (near far x : EndString) → length x.string ≤ 3 →
      ((u v : List ℕ) → HasEndString near u → HasEndString far v → HasEndString x (u ++ v)) →
      IsEndStringOf P near → IsEndStringOf Q far → IsEndStringOf R x
  origin_two near far x small two a b =
      let u = a.0 in
      let v = b.0 in
      let whole = both (u ++ a.1.0) (v ++ b.1.0) a.1.1 b.1.1 in
      elim (cases_lt (length u) 3) [
        | inl short ↦
            let none : u ++ a.1.0 ≡ u = ap (λ (w : List ℕ). u ++ w) (a.1.2 short) ∙ append-nil u in
            let joined = subst R (ap (λ (w : List ℕ). w ++ (v ++ b.1.0)) none ∙ sym (append_assoc u v b.1.0)) whole in
            (u ++ v, (b.1.0, joined, λ lt. b.1.2 (omega (arith, lt, length-append u v))), two u v a.2 b.2)
        | inr long ↦ (
          u,
          (a.1.0 ++ (v ++ b.1.0), subst R (append_assoc u a.1.0 (v ++ b.1.0)) whole, λ lt. absurd (omega arith)),
          has_near x u v small long (two u v a.2 b.2),
        )
      ]

  origin_concatenation : (near : EndString) (fars : List EndString) (x : EndString) → IsConcatenation near fars x → IsEndStringOf P near →
      ((y : EndString) → Contains fars y → IsEndStringOf Q y) → (text : List ℕ) × Q text → IsEndStringOf R x
  origin_concatenation near fars x (inl opens) a b some =
      let rest = a.1.0 ++ some.0 in
      origin_whole R x (a.0 ++ rest) (subst R (append_assoc a.0 a.1.0 some.0) (both (a.0 ++ a.1.0) some.0 a.1.1 some.1))
      (opens a.0 rest a.2)
  origin_concatenation near fars x (inr two) a b some = origin_two near two.0 x two.3 two.2 a (b two.0 two.1)

-- ---- any text, no text and whole texts

pub any_end_strings : (direction : Direction) (end_strings : List EndString) (t : Tree) → end_strings ≡ any_end ∷ [] →
    AreEndStrings direction end_strings t
any_end_strings direction end_strings t is = subst (λ (es : List EndString). AreEndStrings direction es t) (sym is) (record {
  matching = λ s i j h. (any_end, first_contained any_end [], any_has (read direction (slice_range s i j)));
  each = λ h x m.
      let some = some_read direction (MayMatch false t) (text_of t h) in
      origin_whole (λ w. MayMatch false t (read direction w)) x some.0 some.1
      (subst (λ (y : EndString). HasEndString y some.0) (only_contained any_end x m) (any_has some.0));
})

empty_origin : (direction : Direction) (P : List ℕ → Type 0) (x : EndString) → P [] → empty_end ≡ x →
    IsEndStringOf (λ w. P (read direction w)) x
empty_origin forward P x p same = origin_whole P x [] p (subst (λ (y : EndString). HasEndString y []) same (truncation_same empty_end))
empty_origin backward P x p same = origin_whole (λ w. P (reverse w)) x [] p
    (subst (λ (y : EndString). HasEndString y []) same (truncation_same empty_end))

empty_has : (end_strings : List EndString) → end_strings ≡ empty_end ∷ [] → HasSomeEndString end_strings []
empty_has end_strings is = subst (λ (es : List EndString). HasSomeEndString es []) (sym is)
    (empty_end, first_contained empty_end [], truncation_same empty_end)

only_empty : (end_strings : List EndString) (x : EndString) → end_strings ≡ empty_end ∷ [] → Contains end_strings x → empty_end ≡ x
only_empty end_strings x is m = only_contained empty_end x (subst (λ (es : List EndString). Contains es x) is m)

pub empty_end_strings : (direction : Direction) (end_strings : List EndString) → end_strings ≡ empty_end ∷ [] →
    AreEndStrings direction end_strings (cat none)
empty_end_strings direction end_strings is = record {
  matching = λ s i j h. end_strings_none direction end_strings (empty_has end_strings is) s i j h;
  each = λ h x m. empty_origin direction (MayMatchSequence false none) x refl (only_empty end_strings x is m);
}

pub member_contained : (texts : List (List ℕ)) (text : List ℕ) → Contains texts text → is_among texts text ≡ true
member_contained [] text m = absurd (none_contained text m)
member_contained (w ∷ texts) text m =
    elim (contained_cases w texts text m) [
      | inl same ↦ first_member text w texts (sym same)
      | inr later ↦ later_member text w texts (member_contained texts text later)
    ]

-- the end strings of exact strings
pub end_strings_of_exact : (direction : Direction) (texts : List (List ℕ)) (end_strings : List EndString) (t : Tree) →
    AreExactStrings texts t → end_strings ≡ with_end_strings [] (map (λ w. whole_end (read direction w)) texts) →
    AreEndStrings direction end_strings t
end_strings_of_exact direction texts end_strings t exact is =
    let whole_read : List ℕ → EndString = λ w. whole_text (read direction w) in
    let coarser = subst (λ (es : List EndString). AreCoarser es (map whole_read texts)) (sym is)
    (coarser_with_map (λ w. whole_end (read direction w)) whole_read (λ w. truncated_is 3 (whole_read w)) texts) in
    record {
      matching = λ s i j h.
          let text = slice_range s i j in
          coarser.all (whole_read text) (contained_map whole_read texts text
          (Contains-from_any {eq = λ x y. bytes_eq y x} (λ x y same. sym ((bytes_eq-Decides y x).0 same)) text texts
          (exact.are.1.whole exact.few text (match_is_exact s t i j exact.are.0 h).1)));
      each = λ h x m.
          let y = coarser.each x m in
          let w = contained_in_map whole_read texts y.0 y.1 in
          origin_whole (λ v. MayMatch false t (read direction v)) x (read direction w.0)
          (subst (MayMatch false t) (sym (read_twice direction w.0))
          (exact_may_match t w.0 (exact.are.1.right w.0 (member_contained texts w.0 w.1))))
          (subst (IsTruncation x) (sym w.2) y.2);
    }

-- ---- sequences and alternations

module _ (nears fars end_strings : List EndString) (t : Tree) (ts : Trees) (c : AreConcatenations nears fars end_strings) where
  pub prefixes_before : AreEndStrings forward nears t → AreEndStrings forward fars (cat ts) →
      AreEndStrings forward end_strings (cat (more t ts))
  prefixes_before a b = record {
    matching = λ s i j h.
        spans_forward nears fars end_strings c.all s i h.0 j (rises s t i h.0 h.1) (rises_all s ts h.0 j h.2)
        (a.matching s i h.0 h.1) (b.matching s h.0 j h.2);
    each = λ h x m.
        let near = c.each x m in
        origin_concatenation (MayMatch false t) (MayMatchSequence false ts) (MayMatchSequence false (more t ts))
        (λ u v p q. (u, v, p, q, refl)) near.0 fars x near.2 (a.each h.0 near.0 near.1) (b.each h.1)
        (text_of_all ts h.1);
  }

  pub suffixes_before : AreEndStrings backward fars t → AreEndStrings backward nears (cat ts) →
      AreEndStrings backward end_strings (cat (more t ts))
  suffixes_before a b = record {
    matching = λ s i j h.
        spans_backward nears fars end_strings c.all s i h.0 j (rises s t i h.0 h.1) (rises_all s ts h.0 j h.2)
        (b.matching s h.0 j h.2) (a.matching s i h.0 h.1);
    each = λ h x m.
        let near = c.each x m in
        origin_concatenation (λ w. MayMatchSequence false ts (reverse w)) (λ w. MayMatch false t (reverse w))
        (λ w. MayMatchSequence false (more t ts) (reverse w))
        (λ u v p q. (reverse v, reverse u, q, p, reverse-append u v)) near.0 fars x near.2 (b.each h.1 near.0 near.1)
        (a.each h.0) (some_read backward (MayMatch false t) (text_of t h.0));
  }

-- a text has one of the end strings of two lists
union_has : (one other both : List EndString) → AreCoarser both (one ++ other) → (text : List ℕ) →
    HasSomeEndString one text ⊎ HasSomeEndString other text → HasSomeEndString both text
union_has one other both union text (inl a) = coarser_has both (one ++ other) union (whole_text text)
    (a.0, Contains-append_left one other a.0 a.1, a.2)
union_has one other both union text (inr b) = coarser_has both (one ++ other) union (whole_text text)
    (b.0, Contains-append_right one other b.0 b.1, b.2)

pub end_strings_of_branches : (direction : Direction) (others these both : List EndString) (t : Tree) (ts : Trees) →
    AreCoarser both (others ++ these) → AreEndStrings direction these t → AreEndStringsOfSome direction others ts →
    AreEndStringsOfSome direction both (more t ts)
end_strings_of_branches direction others these both t ts union a b = record {
  matching = λ s i j h.
      union_has others these both union (read direction (slice_range s i j))
      (elim h [ inl x ↦ inr (a.matching s i j x) | inr y ↦ inl (b.matching s i j y) ]);
  each = λ h x m.
      let y = union.each x m in
      let R : List ℕ → Type 0 = λ w. MayMatchBranch false (more t ts) (read direction w) in
      origin_truncated R x y.0 y.2
      (elim (Contains-append_cases others these y.0 y.1) [
        | inl o ↦ origin_as (λ w. MayMatchBranch false ts (read direction w)) R y.0 (λ w p. inr p) (b.each h.1 y.0 o)
        | inr s ↦ origin_as (λ w. MayMatch false t (read direction w)) R y.0 (λ w p. inl p) (a.each h.0 y.0 s)
      ]);
}

pub end_strings_of_alternation : (direction : Direction) (end_strings : List EndString) (ts : Trees) →
    AreEndStringsOfSome direction end_strings ts → AreEndStrings direction end_strings (alt ts)
end_strings_of_alternation direction end_strings ts a = record { matching = a.matching; each = λ h. a.each (branches_have_members ts h) }

-- ---- repeats

-- at least n iterations, as they are read
abbrev Repeats : Direction → (List ℕ → Type 0) → ℕ → List ℕ → Type 0
Repeats direction P n w = (k : ℕ) × (n ≤ k) × Unit {0} × IsRepeated P k (read direction w)

repeats_both : (direction : Direction) (P : List ℕ → Type 0) (m n k : ℕ) (u v : List ℕ) → k ≤ m + n →
    Repeats direction P m u → Repeats direction P n v → Repeats direction P k (u ++ v)
repeats_both forward P m n k u v le a b = (a.0 + b.0, omega (arith, a.1, b.1), tt, repeated_both P a.0 b.0 u v a.3 b.3)
repeats_both backward P m n k u v le a b = (
  b.0 + a.0,
  omega (arith, a.1, b.1),
  tt,
  subst (IsRepeated P (b.0 + a.0)) (sym (reverse-append u v))
      (repeated_both P b.0 a.0 (reverse v) (reverse u) b.3 a.3),
)

pub end_strings_of_iteration : (direction : Direction) (once fars end_strings : List EndString) (t : Tree) (n : ℕ) →
    AreConcatenations once fars end_strings → AreEndStrings direction once t →
    AreEndStrings direction fars (rep t n None) →
    AreEndStrings direction end_strings (rep t (n + 1) None)
end_strings_of_iteration direction once fars end_strings t n c a b = record {
  matching = iteration_more direction once fars end_strings t n c.all a.matching b.matching;
  each = λ h x m.
      let near = c.each x m in
      origin_concatenation (λ w. MayMatch false t (read direction w)) (Repeats direction (MayMatch false t) n)
      (Repeats direction (MayMatch false t) (n + 1)) (λ u v p q. repeats_both direction (MayMatch false t) 1 n (n + 1) u v (omega arith)
      (1, omega arith, tt, (read direction u, [], p, refl, sym (append-nil (read direction u)))) q)
      near.0 fars x near.2 (a.each h near.0 near.1) (b.each h)
      (some_read direction (MayMatch false (rep t n None)) (text_of (rep t n None) h));
}

-- any number of iterations: none, or at least one
pub end_strings_of_any_iterations : (direction : Direction) (some empty both : List EndString) (t : Tree) → empty ≡ empty_end ∷ [] →
    AreCoarser both (some ++ empty) → AreEndStrings direction some (rep t 1 None) → AreEndStrings direction both (rep t 0 None)
end_strings_of_any_iterations direction some empty both t is union a = record {
  matching =
      iterations_any direction some both t (union_has some empty both union [] (inr (empty_has empty is)))
      (λ text h. union_has some empty both union text (inl h)) a.matching;
  each = λ h x m.
      let y = union.each x m in
      origin_truncated (Repeats direction (MayMatch false t) 0) x y.0 y.2
      (elim (Contains-append_cases some empty y.0 y.1) [
        | inl o ↦ origin_as (Repeats direction (MayMatch false t) 1) (Repeats direction (MayMatch false t) 0) y.0
            (λ w p. (p.0, omega arith, tt, p.3)) (a.each h y.0 o)
        | inr e ↦ empty_origin direction (MayMatch false (rep t 0 None)) y.0 (0, omega arith, tt, refl) (only_empty empty y.0 is e)
      ]);
}

-- more iterations: far ones, or empty ones if the text has fewer bytes than iterations
origin_padded : (direction : Direction) (P : List ℕ → Type 0) (n least : ℕ) (x : EndString) (text : List ℕ) → P text → 3 ≤ n →
    IsEndStringOf (Repeats direction P n) x → IsEndStringOf (Repeats direction P least) x
origin_padded direction P n least x text p three o =
    let u = o.0 in
    let r = o.1.1 in
    elim (cases_lt (length u) 3) [
      | inl short ↦
          let same : u ++ o.1.0 ≡ u = ap (λ (w : List ℕ). u ++ w) (o.1.2 short) ∙ append-nil u in
          let is : IsRepeated P r.0 (read direction u) = subst (λ (w : List ℕ). IsRepeated P r.0 (read direction w)) same r.3 in
          let empty = some_empty P r.0 (read direction u) (omega (arith, short, three, r.1, length_read direction u)) is in
          origin_whole (Repeats direction P least) x u
          (least + r.0, omega arith, tt, repeated_both P least r.0 [] (read direction u) (repeated_empty P empty least) is)
          o.2
      | inr long ↦
          let pad = some_read direction (IsRepeated P least) (repeated_text P text p least) in
          let all = repeats_both direction P 0 least least (u ++ o.1.0) pad.0 (omega arith) (r.0, omega arith, tt, r.3)
          (least, omega arith, tt, pad.1) in
          (u, (o.1.0 ++ pad.0, subst (Repeats direction P least) (append_assoc u o.1.0 pad.0) all, λ lt. absurd (omega arith)), o.2)
    ]
  where
    length_read : (direction : Direction) (w : List ℕ) → length (read direction w) ≡ length w
    length_read forward w = refl
    length_read backward w = length-reverse w

-- at least `least` iterations, n of them unrolled: all, or at least three
pub end_strings_repeated : (direction : Direction) (end_strings : List EndString) (t : Tree) (n least : ℕ)
    (m : Option ℕ) → n ≤ least → (n ≡ least) ⊎ (3 ≤ n) → AreEndStrings direction end_strings (rep t n None) →
    AreEndStrings direction end_strings (rep t least m)
end_strings_repeated direction end_strings t n least m le enough a = record {
  matching = λ s i j h. a.matching s i j (h.0, omega (arith, h.1, le), tt, h.3);
  each = λ h x is.
      let o = a.each h x is in
      elim enough [
        | inl same ↦ subst (λ k. IsEndStringOf (Repeats direction (MayMatch false t) k) x) same o
        | inr three ↦ let some = text_of t h in origin_padded direction (MayMatch false t) n least x some.0 some.1 three o
      ];
}
