-- Worked examples of where a tree matches, by computation. The same are rows of `grep -o` and `grep -ow` in tests/runs/spans.py.
use Rattle.std.proofs.Common.{◌≡◌, ◌≤◌, ℕ, zero, suc, List, true, false, [], ◌∷◌, inl, inr, refl, sym, subst, arith, codes, ◌∙◌}
use Rattle.std.specs.Prelude.{None, slice_index, replicate, ◌++◌}
use mathlib.Core.Bool.{xor}
use Rattle.std.proofs.lemmas.Bool.{cases_eq, false≢true}
use Rattle.cs_syntax.specs.Matching.{Tree, MatchesSpan, Chain, member, one_of, cat, alt, rep, none, more, word_edge, line_start, line_end, word_before, word_after, is_at_word_boundary}
use Rattle.cs_match.specs.Entered.{position_list}
use Rattle.cs_match.specs.OneWord.{is_one_word, OccursAt}
use Rattle.cs_match.specs.Passes.{ends_in}
use Rattle.cs_match.specs.Span.{IsWholeWord, IsFirstOf, IsFirstSpan, AreSpans}

-- of a match that need not be a whole word
any : {X : Type 0} → false ≡ true → X
any e = absurd (false≢true e)

-- `a|ab|aab` on `aab`, where `a` and `b` are the bytes 0 and 1: the longest branch
abbrev letter_a : Tree
letter_a = one_of (true ∷ [])

abbrev letter_b : Tree
letter_b = one_of (false ∷ true ∷ [])

abbrev branches : Tree
branches =
    alt
    (more letter_a
    (more (cat (more letter_a (more letter_b none))) (more (cat (more letter_a (more letter_a (more letter_b none)))) none)))

abbrev aab : List ℕ
aab = 0 ∷ 0 ∷ 1 ∷ []

longest_branch : IsFirstSpan branches aab 0 0 0 3
longest_branch = record {
  is = record {
    begins = omega arith;
    ends = omega arith;
    ordered = omega arith;
    within = omega arith;
    matches = inr (inr (inl (1, (omega arith, refl, refl), (2, (omega arith, refl, refl), (3, (omega arith, refl, refl), refl)))));
    word = any;
  };
  leftmost = λ i j m. m.begins;
  longest = λ j m. m.within;
}

-- a sequence of sets is one word, and branches and repeats are none
abbrev word_ab : Tree
word_ab = cat (more letter_a (more letter_b none))

sequence_is_one_word : (is_one_word word_ab ≡ true) × (is_one_word branches ≡ false) × (is_one_word (rep letter_a 0 None) ≡ false)
sequence_is_one_word = (refl, refl, refl)

-- `ab` occurs at offset 1 of `aab`, and not at 0
occurs_once : OccursAt aab (position_list word_ab) 1 × (OccursAt aab (position_list word_ab) 0 → ⊥)
occurs_once = ((omega arith, refl, (omega arith, refl, tt)), λ o. false≢true o.2.1)

-- `x*` on `axxb`, where `a`, `x` and `b` are the bytes 0, 1 and 2
abbrev letter_x : Tree
letter_x = one_of (false ∷ true ∷ [])

abbrev letters_x : Tree
letters_x = rep letter_x 0 None

abbrev axxb : List ℕ
axxb = 0 ∷ 1 ∷ 1 ∷ 2 ∷ []

-- the ends of the matches that begin at offset 1
ends_of_a_pass :
    (ends_in false axxb letters_x 1 2 0 ≡ false)
    × (ends_in false axxb letters_x 1 2 1 ≡ true)
    × (ends_in false axxb letters_x 1 2 2 ≡ true)
    × (ends_in false axxb letters_x 1 2 3 ≡ true)
    × (ends_in false axxb letters_x 1 2 4 ≡ false)
ends_of_a_pass = (refl, refl, refl, refl, refl)

before_a : (k j : ℕ) → Chain (MatchesSpan axxb letter_x) k 0 j → j ≤ 0
before_a zero j h = omega (arith, h)
before_a (suc k) j h = absurd (false≢true h.1.1)

before_b : (k i j : ℕ) → i ≤ 3 → Chain (MatchesSpan axxb letter_x) k i j → j ≤ 3
before_b zero i j low h = omega (arith, low, h)
before_b (suc k) i j low h =
    elim (cases_eq i 3) [
      | inl e ↦
          let P : ℕ → Type 0 = λ n. member (false ∷ true ∷ []) (slice_index axxb n) ≡ true in
          absurd (false≢true (subst P e h.1.1))
      | inr other ↦ before_b k h.0 j (omega (arith, low, other, h.1.2)) h.2
    ]

empty_match_before_a : IsFirstSpan letters_x axxb 0 0 0 0
empty_match_before_a = record {
  is = record { begins = omega arith; ends = omega arith; ordered = omega arith; within = omega arith; matches = (0, omega arith, tt, refl); word = any };
  leftmost = λ i j m. m.begins;
  longest = λ j m. before_a m.matches.0 j m.matches.3;
}

both_letters : IsFirstSpan letters_x axxb 0 1 1 3
both_letters = record {
  is = record {
    begins = omega arith;
    ends = omega arith;
    ordered = omega arith;
    within = omega arith;
    matches = (2, omega arith, tt, (2, (omega arith, refl, refl), (3, (omega arith, refl, refl), refl)));
    word = any;
  };
  leftmost = λ i j m. elim (cases_eq i 0) [
    | inl e ↦
        let P : ℕ → Type 0 = λ n. MatchesSpan axxb letters_x n j in
        let h : MatchesSpan axxb letters_x 0 j = subst P e m.matches in
        absurd (omega (arith, m.ends, before_a h.0 j h.3))
    | inr other ↦ omega (arith, other)
  ];
  longest = λ j m. before_b m.matches.0 1 j (omega arith) m.matches.3;
}

empty_match_after_b : IsFirstSpan letters_x axxb 3 4 4 4
empty_match_after_b = record {
  is = record { begins = omega arith; ends = omega arith; ordered = omega arith; within = omega arith; matches = (0, omega arith, tt, refl); word = any };
  leftmost = λ i j m. elim (cases_eq i 3) [
    | inl e ↦
        let P : ℕ → Type 0 = λ n. MatchesSpan axxb letters_x n j in
        let h : MatchesSpan axxb letters_x 3 j = subst P e m.matches in
        absurd (omega (arith, m.ends, before_b h.0 3 j (omega arith) h.3))
    | inr other ↦ omega (arith, m.begins, other)
  ];
  longest = λ j m. m.within;
}

-- none between `x` and `b`, where the last one ended
spans_of_a_star : AreSpans letters_x axxb ((0, 0) ∷ (1, 3) ∷ (4, 4) ∷ [])
spans_of_a_star = (empty_match_before_a, (both_letters, (empty_match_after_b, λ _ i j m. absurd (omega (arith, m.ends, m.within)))))

-- `^` and `$` on a line of two bytes: one empty match each
ends_of_anchors :
    (ends_in false (0 ∷ 1 ∷ []) line_start 0 3 0 ≡ true)
    × (ends_in false (0 ∷ 1 ∷ []) line_start 0 3 1 ≡ false)
    × (ends_in false (0 ∷ 1 ∷ []) line_end 0 3 1 ≡ false)
    × (ends_in false (0 ∷ 1 ∷ []) line_end 0 3 2 ≡ true)
ends_of_anchors = (refl, refl, refl, refl)

-- a set of one byte
abbrev byte : ℕ → Tree
byte b = one_of (replicate b false ++ true ∷ [])

-- `a` on `xa a`: the first one is no whole word
ends_of_a_word :
    (ends_in false (codes "xa a") (byte 97) 0 5 2 ≡ true)
    × (ends_in true (codes "xa a") (byte 97) 0 5 2 ≡ false)
    × (ends_in true (codes "xa a") (byte 97) 0 5 4 ≡ true)
unfolding word_before word_after is_at_word_boundary xor
ends_of_a_word = (refl, refl, refl)

-- a whole word need not begin and end at word boundaries: `-` and `\b-\b` on ` - ` and `a-a`
abbrev bounded : Tree
bounded = cat (more word_edge (more (byte 45) (more word_edge none)))

ends_of_a_sign :
    (ends_in true (codes " - ") (byte 45) 0 4 2 ≡ true)
    × (ends_in false (codes " - ") bounded 0 4 2 ≡ false)
    × (ends_in true (codes "a-a") (byte 45) 0 4 2 ≡ false)
    × (ends_in false (codes "a-a") bounded 0 4 2 ≡ true)
unfolding word_before word_after is_at_word_boundary xor
ends_of_a_sign = (refl, refl, refl, refl)

-- `a|a-b` on `a-bc`: the longest match is no whole word, so that a shorter one is the first that is
abbrev shorter : Tree
shorter = alt (more (byte 97) (more (cat (more (byte 97) (more (byte 45) (more (byte 98) none)))) none))

letter_at_3 : word_after (codes "a-bc") 3 ≡ true
unfolding word_after
letter_at_3 = refl

whole_a : IsWholeWord (codes "a-bc") 0 1
unfolding word_before word_after
whole_a = record { before = refl; after = refl }

shorter_word : IsFirstOf true shorter (codes "a-bc") 0 0 0 1
shorter_word = record {
  is = record {
    begins = omega arith;
    ends = omega arith;
    ordered = omega arith;
    within = omega arith;
    matches = inl (omega arith, refl, refl);
    word = λ _. whole_a;
  };
  leftmost = λ i j m. m.begins;
  longest = λ j m. elim m.matches [
    | inl one ↦ omega (arith, one.2)
    | inr rest ↦
        elim rest [
          | inl three ↦
              let at : j ≡ 3 = omega (arith, three.1.2, three.2.1.2, three.2.2.1.2, three.2.2.2) in
              let P : ℕ → Type 0 = λ n. word_after (codes "a-bc") n ≡ false in
              absurd (false≢true (sym (subst P at (m.word refl).after) ∙ letter_at_3))
          | inr over ↦ absurd over
        ]
  ];
}
