-- Trigrams across two adjacent texts.
use Rattle.std.proofs.Common.{◌≡◌, ℕ, ◌-◌, ◌*◌, ◌<◌, ◌≤◌, Bool, true, List, [], ◌∷◌, ◌++◌, length, map, reverse, take, refl, inl, inr, sym, ◌∙◌, ap, subst, arith, append_assoc}
use Rattle.std.proofs.lemmas.List.{reverse-append, reverse-reverse, take-take}
use Rattle.cs_syntax.specs.Matching.{Tree, Trees, cat, more, MatchesSequence}
use Rattle.cs_trigram.specs.Query.{matches_set, mentions, HasTrigrams}
use Rattle.cs_tree.specs.Cover.{is_among}
use Rattle.cs_trigram.specs.Analysis.{has_any}
use Rattle.cs_trigram.specs.SequenceQuery.{IsAcross, IsCrossQuery, HasPair, HasPairs, pairs}
use Rattle.std.specs.Prelude.{Contains, slice_range}
use Rattle.std.proofs.lemmas.List.Elements.{Contains-append_right}
use Rattle.cs_trigram.specs.EndStrings.{forward, backward, IsTruncation, whole_text, HasEndString, HasSomeEndString, AreCoarser, AreEndStrings, all_truncated}
use Rattle.cs_trigram.proofs.MayMatchLemmas.{OccursIn}
use Rattle.cs_trigram.specs.declared.end_strings.EndString.{EndString}
use Rattle.cs_trigram.specs.declared.queries.Query.{Query}
use Rattle.cs_trigram.proofs.MemberLemmas.{no_member, first_member, later_member, member_append, member_left, member_right, member_cases}
use Rattle.cs_trigram.proofs.MentionLemmas.{trigrams_within}
use Rattle.cs_trigram.proofs.SubstringTrigramLemmas.{has_part, has_prefix, has_suffix}
use Rattle.cs_trigram.proofs.ExactStringLemmas.{part_split}
use Rattle.cs_trigram.proofs.EndStringLemmas.{rises, rises_all}
use Rattle.cs_trigram.proofs.TruncationLemmas.{none_contained, first_contained, contained_cases, coarser_has, truncated_from}
use Rattle.cs_trigram.proofs.SequenceQueryLemmas.{any_run_found, found_any_run}
use Rattle.cs_trigram.proofs.CrossLemmas.{fewer_within}

-- a suffix followed by a prefix occurs in the concatenation
pub occurs_across : (suffix prefix : EndString) (string u v : List ℕ) → string ≡ reverse suffix.string
    ++ prefix.string → HasEndString suffix (reverse u) → HasEndString prefix v → OccursIn string (u ++ v)
occurs_across suffix prefix string u v is a b =
    let before = reverse a.0 in
    let last = reverse suffix.string in
    let first : u ≡ before ++ last = sym (reverse-reverse u) ∙ ap reverse a.1 ∙ reverse-append suffix.string a.0 in (
      before,
      b.0,
      ap (λ (x : List ℕ). x ++ v) first ∙ ap (λ (x : List ℕ). (before ++ last) ++ x) b.1 ∙ append_assoc before last (prefix.string ++ b.0)
          ∙ ap (λ (x : List ℕ). before ++ x) (sym (append_assoc last prefix.string b.0))
          ∙ ap (λ (x : List ℕ). before ++ (x ++ b.0)) (sym is),
    )

-- truncated suffixes and prefixes
pub coarser_query : (q : Query) (short_suffixes short_prefixes suffixes prefixes : List EndString) →
    AreCoarser short_suffixes suffixes → AreCoarser short_prefixes prefixes →
    IsCrossQuery q short_suffixes short_prefixes → IsCrossQuery q suffixes prefixes
coarser_query q short_suffixes short_prefixes suffixes prefixes last first is = record {
  required = λ set u v a b.
      is.required set u v (coarser_has short_suffixes suffixes last (whole_text (reverse u)) a)
      (coarser_has short_prefixes prefixes first (whole_text v) b);
  mentioned =
      trigrams_within (mentions q) (Unit {0}) (Unit {0}) (IsAcross short_suffixes short_prefixes)
      (IsAcross suffixes prefixes) is.mentioned (λ b. b)
      (λ b text across.
      let suffix = last.each across.0 across.2 in
      let prefix = first.each across.1 across.3 in
      let before = reverse suffix.0.string in (
        before ++ prefix.0.string,
        (suffix.0, prefix.0, suffix.1, prefix.1, refl),
        occurs_across across.0 across.1 text before prefix.0.string across.4
            (subst (HasEndString across.0) (sym (reverse-reverse suffix.0.string)) (as_text across.0 suffix.0 suffix.2))
            (as_text across.1 prefix.0 prefix.2),
      ));
}
  where
    as_text : (x y : EndString) → IsTruncation x y → HasEndString x y.string
    as_text x y t = (t.0, t.1, λ whole. ((t.2 whole).0, refl))

module _ (prefixes : List EndString) where
  -- each suffix followed by a prefix is a pair
  pair_member : (suffixes : List EndString) (suffix prefix : EndString) → Contains suffixes suffix →
      Contains prefixes prefix → is_among (pairs suffixes prefixes) (reverse suffix.string ++ prefix.string) ≡ true
  pair_member [] suffix prefix a b = absurd (none_contained suffix a)
  pair_member (e ∷ suffixes) suffix prefix a b =
      let w = reverse suffix.string ++ prefix.string in
      elim (contained_cases e suffixes suffix a) [
        | inl same ↦
            member_left w (map (λ (p : EndString). reverse e.string ++ p.string) prefixes) (pairs suffixes prefixes)
            (subst (λ (z : EndString). is_among (map (λ (p : EndString). reverse z.string ++ p.string) prefixes) w
            ≡ true) (sym same) (with_prefix suffix prefixes prefix b))
        | inr later ↦ member_right w (map (λ (p : EndString). reverse e.string ++ p.string) prefixes)
            (pairs suffixes prefixes) (pair_member suffixes suffix prefix later b)
      ]
    where
      with_prefix : (e : EndString) (ps : List EndString) (prefix : EndString) → Contains ps prefix →
          is_among (map (λ (p : EndString). reverse e.string ++ p.string) ps) (reverse e.string ++ prefix.string) ≡ true
      with_prefix e [] prefix m = absurd (none_contained prefix m)
      with_prefix e (p ∷ ps) prefix m =
          let f : EndString → List ℕ = λ p. reverse e.string ++ p.string in
          elim (contained_cases p ps prefix m) [
            | inl same ↦ first_member (f prefix) (f p) (map f ps) (ap f (sym same))
            | inr later ↦ later_member (f prefix) (f p) (map f ps) (with_prefix e ps prefix later)
          ]

module _ (set : ℕ → Bool) where
  occurrence : (string text : List ℕ) → OccursIn string text → HasTrigrams set text → HasTrigrams set string
  occurrence string text is_after has =
      has_prefix set string is_after.1 (has_suffix set is_after.0 (string ++ is_after.1) (subst (HasTrigrams set) is_after.2 has))

  -- the trigrams of a suffix followed by a prefix
  pub pair_found : (suffixes prefixes : List EndString) (u v : List ℕ) → HasSomeEndString suffixes (reverse u) →
      HasSomeEndString prefixes v → HasTrigrams set (u ++ v) → has_any set (pairs suffixes prefixes) ≡ true
  pair_found suffixes prefixes u v a b has =
      let string = reverse a.0.string ++ b.0.string in
      found_any_run set (pairs suffixes prefixes) string (pair_member prefixes suffixes a.0 b.0 a.1 b.1)
      (occurrence string (u ++ v) (occurs_across a.0 b.0 string u v refl a.2 b.2) has)

  -- a query for the trigrams across a part and the parts after it matches each line in which they match
  pub cross_query_matches : (q : Query) (suffixes prefixes : List EndString) (t : Tree) (ts : Trees) → IsCrossQuery q suffixes prefixes →
      AreEndStrings backward suffixes t → AreEndStrings forward prefixes (cat ts) →
      (s : List ℕ) (i j : ℕ) → MatchesSequence s (more t ts) i j → HasTrigrams set s → matches_set q set ≡ true
  cross_query_matches q suffixes prefixes t ts is a b s i j h has =
      is.required set (slice_range s i h.0) (slice_range s h.0 j) (a.matching s i h.0 h.1) (b.matching s h.0 j h.2)
      (subst (HasTrigrams set) (part_split s i h.0 j (rises s t i h.0 h.1) (rises_all s ts h.0 j h.2)) (has_part set (j - i) i s has))

-- each pair is a suffix followed by a prefix
pub pairs_across : (suffixes prefixes : List EndString) (w : List ℕ) → is_among (pairs suffixes prefixes) w ≡ true →
    IsAcross suffixes prefixes w
pairs_across [] prefixes w m = absurd (no_member w m)
pairs_across (suffix ∷ suffixes) prefixes w m =
    elim (member_append w (map (λ (prefix : EndString). reverse suffix.string ++ prefix.string) prefixes) (pairs suffixes prefixes) m) [
      | inl a ↦ let r = of_prefix prefixes a in (suffix, r.0, first_contained suffix suffixes, r.1, r.2)
      | inr b ↦ let r = pairs_across suffixes prefixes w b in (r.0, r.1, Contains-append_right (suffix ∷ []) suffixes r.0 r.2, r.3, r.4)
    ]
  where
    of_prefix : (ps : List EndString) → is_among
        (map (λ (prefix : EndString). reverse suffix.string ++ prefix.string) ps) w ≡ true →
        (prefix : EndString) × Contains ps prefix × (w ≡ reverse suffix.string ++ prefix.string)
    of_prefix [] m = absurd (no_member w m)
    of_prefix (p ∷ ps) m =
        elim (member_cases w (reverse suffix.string ++ p.string)
        (map (λ (prefix : EndString). reverse suffix.string ++ prefix.string) ps) m) [
          | inl same ↦ (p, first_contained p ps, same)
          | inr later ↦ let r = of_prefix ps later in (r.0, Contains-append_right (p ∷ []) ps r.0 r.1, r.2)
        ]

-- ---- the pairs that a query asks for

-- equal lists have as many pairs
pub as_many_pairs : (last first suffixes prefixes : List EndString) → last ≡ suffixes → first ≡ prefixes →
    length last * length first ≡ length suffixes * length prefixes
as_many_pairs last first suffixes prefixes a b = (λ i. length (a i) * length (b i))

-- each end string of a list begins one of another list, and has its first n bytes
abbrev AreCut : ℕ → List EndString → List EndString → Type 0
AreCut n short xs = (x : EndString) → Contains short x → (y : EndString) × Contains xs y × (x.string ≡ take n y.string)

cut_twice : (m n : ℕ) (shorter short xs : List EndString) → m ≤ n → AreCut m shorter short → AreCut n short xs → AreCut m shorter xs
cut_twice m n shorter short xs le a b x there =
    let y = a x there in
    let z = b y.0 y.1 in
    (z.0, z.1, y.2 ∙ ap (take m) z.2 ∙ take-take m n z.0.string le)

cut_as : (n : ℕ) (short xs : List EndString) → short ≡ all_truncated n xs → AreCut n short xs
cut_as n short xs is x there = truncated_from n xs x (subst (λ (es : List EndString). Contains es x) is there)

module _ (set : ℕ → Bool) (suffixes prefixes : List EndString) where
  -- a pair of cut end strings
  pair_of_cut : (m n : ℕ) (last first : List EndString) → AreCut m last suffixes → AreCut n first prefixes →
      has_any set (pairs last first) ≡ true → HasPair set m n suffixes prefixes
  pair_of_cut m n last first a b has =
      let w = any_run_found set (pairs last first) has in
      let across = pairs_across last first w.0 w.1 in
      let suffix = a across.0 across.2 in
      let prefix = b across.1 across.3 in (
        suffix.0,
        prefix.0,
        suffix.1,
        prefix.1,
        subst (HasTrigrams set) (across.4 ∙ ap (λ (x : List ℕ). reverse x ++ across.1.string) suffix.2
            ∙ ap (λ (x : List ℕ). reverse (take m suffix.0.string) ++ x) prefix.2) w.2,
      )

  fewer_of_pair : (m n : ℕ) → m ≤ 2 → n ≤ 2 → HasPair set 2 2 suffixes prefixes → HasPair set m n suffixes prefixes
  fewer_of_pair m n a b pair = (pair.0, pair.1, pair.2, pair.3, fewer_within set 2 2 m n pair.0.string pair.1.string a b pair.4)

  module _ (last first : List EndString) (is_last : last ≡ all_truncated 2 suffixes) (is_first : first ≡ all_truncated 2 prefixes) where
    as_many : length last * length first ≡ length (all_truncated 2 suffixes) * length (all_truncated 2 prefixes)
    as_many = as_many_pairs last first (all_truncated 2 suffixes) (all_truncated 2 prefixes) is_last is_first

    pub pairs_of_product : length last * length first ≤ 64 → has_any set (pairs last first) ≡ true → HasPairs set suffixes prefixes
    pairs_of_product few has =
        let pair = pair_of_cut 2 2 last first (cut_as 2 last suffixes is_last) (cut_as 2 first prefixes is_first) has in
        (λ le. pair, λ le. (fewer_of_pair 2 1 (omega arith) (omega arith) pair, fewer_of_pair 1 2 (omega arith) (omega arith) pair))

    pub pairs_of_split : 64 < length last * length first →
        (length last * length first ≤ 256 → (has_any set (pairs last (all_truncated 1 first)) ≡ true)
        × (has_any set (pairs (all_truncated 1 last) first) ≡ true)) → HasPairs set suffixes prefixes
    pairs_of_split many has = (
      λ le. absurd (omega (arith, le, many, as_many)),
      λ le.
          let both = has (omega (arith, le, as_many)) in
          let last_cut = cut_as 2 last suffixes is_last in
          let first_cut = cut_as 2 first prefixes is_first in (
            pair_of_cut 2 1 last (all_truncated 1 first) last_cut
                (cut_twice 1 2 (all_truncated 1 first) first prefixes (omega arith) (truncated_from 1 first) first_cut) both.0,
            pair_of_cut 1 2 (all_truncated 1 last) first
                (cut_twice 1 2 (all_truncated 1 last) last suffixes (omega arith) (truncated_from 1 last) last_cut) first_cut both.1,
          ),
    )
