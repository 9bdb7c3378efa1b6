-- Trees that are one word.
use Rattle.std.proofs.Common.{◌≡◌, ℕ, suc, ◌+◌, ◌-◌, ◌<◌, ◌≤◌, inl, inr, Bool, true, List, [], ◌∷◌, ◌++◌, length, drop, max, sym, subst, arith}
use Rattle.std.specs.Prelude.{slice_index, slice_index_or}
use Rattle.std.proofs.Math.Nat.{max-le}
use Rattle.std.proofs.lemmas.Bool.{and_parts, cases_eq, false≢true}
use Rattle.std.proofs.lemmas.List.{drop_more}
use Rattle.cs_syntax.specs.Matching.{Tree, Trees, empty, one_of, one_char, cat, alt, rep, line_start, line_end, word_edge, not_word_edge, none, more, MatchesSpan, MatchesSequence}
use Rattle.cs_match.specs.declared.position.Position.{Position}
use Rattle.cs_match.specs.Glushkov.{position_count, position_count_of}
use Rattle.cs_match.specs.Entered.{position_list, position_list_of}
use Rattle.cs_match.specs.OneWord.{is_one_word, are_one_word, has_byte, OccursAt}
use Rattle.cs_match.specs.Span.{IsWholeWord, IsMatchOf, IsFirstOf, HasNoMatchOf}
use Rattle.cs_match.specs.SpanSearch.{BeginFrom}
use Rattle.cs_match.proofs.EnteredLemmas.{length-position_list}

module _ (s : List ℕ) where
  -- two words one after another
  occurs_parts : (ps qs : List Position) (i : ℕ) → OccursAt s (ps ++ qs) i → OccursAt s ps i × OccursAt s qs (i + length ps)
  occurs_parts [] qs i h =
      let same : i ≡ i + 0 = omega arith in
      (tt, subst (OccursAt s qs) same h)
  occurs_parts (p ∷ ps) qs i h =
      let rest = occurs_parts ps qs (suc i) h.2 in
      let same : suc i + length ps ≡ i + suc (length ps) = omega arith in
      ((h.0, h.1, rest.0), subst (OccursAt s qs) same rest.1)

  occurs_both : (ps qs : List Position) (i : ℕ) → OccursAt s ps i → OccursAt s qs (i + length ps) → OccursAt s (ps ++ qs) i
  occurs_both [] qs i h g =
      let same : i + 0 ≡ i = omega arith in
      subst (OccursAt s qs) same g
  occurs_both (p ∷ ps) qs i h g =
      let same : i + suc (length ps) ≡ suc i + length ps = omega arith in
      (h.0, h.1, occurs_both ps qs (suc i) h.2 (subst (OccursAt s qs) same g))

  -- the word from its set of this index on
  module _ (word : List Position) (offset index : ℕ) where
    abbrev pub OccursFrom : Type 0
    OccursFrom = OccursAt s (drop index word) (offset + index)

    abbrev Next : Position → Type 0
    Next p = (offset + index < length s) × (has_byte p (slice_index s (offset + index)) ≡ true) × OccursAt s (drop (index + 1) word) (offset + (index + 1))

    pub occurs_next : (p : Position) → index < length word → p ≡ slice_index_or word index p → OccursFrom → Next p
    occurs_next p h is o =
        let first = subst (λ ps. OccursAt s ps (offset + index)) (drop_more word index p h) o in
        let same : suc (offset + index) ≡ offset + (index + 1) = omega arith in
        let here = subst (λ q. has_byte q (slice_index s (offset + index)) ≡ true) (sym is) first.1 in
        (first.0, here, subst (OccursAt s (drop (index + 1) word)) same first.2)

    pub occurs_here : (p : Position) → index < length word → p ≡ slice_index_or word index p → Next p → OccursFrom
    occurs_here p h is n =
        let same : offset + (index + 1) ≡ suc (offset + index) = omega arith in
        let here = subst (λ q. has_byte q (slice_index s (offset + index)) ≡ true) is n.1 in
        subst (λ ps. OccursAt s ps (offset + index)) (sym (drop_more word index p h))
        (n.0, here, subst (OccursAt s (drop (index + 1) word)) same n.2)

  mutual
    span_occurs : (t : Tree) → is_one_word t ≡ true → (i j : ℕ) → MatchesSpan s t i j → OccursAt s (position_list t) i × (j ≡ i + position_count t)
    span_occurs empty e i j m = (tt, omega (arith, m))
    span_occurs (one_of set) e i j m = ((m.0, m.1, tt), omega (arith, m.2))
    span_occurs (cat ts) e i j m = spans_occur ts e i j m
    span_occurs (one_char ranges) e i j m = absurd (false≢true e)
    span_occurs (alt ts) e i j m = absurd (false≢true e)
    span_occurs (rep x n k) e i j m = absurd (false≢true e)
    span_occurs line_start e i j m = absurd (false≢true e)
    span_occurs line_end e i j m = absurd (false≢true e)
    span_occurs word_edge e i j m = absurd (false≢true e)
    span_occurs not_word_edge e i j m = absurd (false≢true e)

    spans_occur : (ts : Trees) → are_one_word ts ≡ true → (i j : ℕ) → MatchesSequence s ts i j →
        OccursAt s (position_list_of ts) i × (j ≡ i + position_count_of ts)
    spans_occur none e i j m = (tt, omega (arith, m))
    spans_occur (more t ts) e i j m =
        let both = and_parts (is_one_word t) (are_one_word ts) e in
        let first = span_occurs t both.0 i m.0 m.1 in
        let rest = spans_occur ts both.1 m.0 j m.2 in
        let at : m.0 ≡ i + length (position_list t) = omega (arith, first.1, length-position_list t) in (
          occurs_both (position_list t) (position_list_of ts) i first.0 (subst (OccursAt s (position_list_of ts)) at rest.0),
          omega (arith, first.1, rest.1),
        )

  mutual
    occurs_span : (t : Tree) → is_one_word t ≡ true → (i : ℕ) → OccursAt s (position_list t) i → MatchesSpan s t i (i + position_count t)
    occurs_span empty e i h = omega arith
    occurs_span (one_of set) e i h = (h.0, h.1, omega arith)
    occurs_span (cat ts) e i h = occur_spans ts e i h
    occurs_span (one_char ranges) e i h = absurd (false≢true e)
    occurs_span (alt ts) e i h = absurd (false≢true e)
    occurs_span (rep x n k) e i h = absurd (false≢true e)
    occurs_span line_start e i h = absurd (false≢true e)
    occurs_span line_end e i h = absurd (false≢true e)
    occurs_span word_edge e i h = absurd (false≢true e)
    occurs_span not_word_edge e i h = absurd (false≢true e)

    occur_spans : (ts : Trees) → are_one_word ts ≡ true → (i : ℕ) → OccursAt s (position_list_of ts) i → MatchesSequence s ts i (i + position_count_of ts)
    occur_spans none e i h = omega arith
    occur_spans (more t ts) e i h =
        let both = and_parts (is_one_word t) (are_one_word ts) e in
        let parts = occurs_parts (position_list t) (position_list_of ts) i h in
        let at : i + length (position_list t) ≡ i + position_count t = omega (arith, length-position_list t) in
        let rest = occur_spans ts both.1 (i + position_count t) (subst (OccursAt s (position_list_of ts)) at parts.1) in
        let end : (i + position_count t) + position_count_of ts ≡ i + (position_count t + position_count_of ts) = omega arith in
        (i + position_count t, occurs_span t both.0 i parts.0, subst (MatchesSequence s ts (i + position_count t)) end rest)

-- the matches of a tree that is one word
module _ (whole : Bool) (t : Tree) (s : List ℕ) (from least : ℕ) (one : is_one_word t ≡ true) where
  -- one begins at this offset
  abbrev pub Stands : ℕ → Type 0
  Stands start = OccursAt s (position_list t) start × (whole ≡ true → IsWholeWord s start (start + position_count t))

  stands_at : (start end : ℕ) → IsMatchOf whole t s from least start end → Stands start × (end ≡ start + position_count t)
  stands_at start end m =
      let o = span_occurs s t one start end m.matches in
      ((o.0, λ w. subst (IsWholeWord s start) o.1 (m.word w)), o.1)

  -- no match begins before the least offset at which one may
  pub may_begin_at : BeginFrom whole t s from least (max from (least - position_count t))
  may_begin_at start end m =
      let o = stands_at start end m in
      max-le m.begins (omega (arith, m.ends, o.1))

  pub next_begins : (start : ℕ) → (Stands start → ⊥) → BeginFrom whole t s from least start → BeginFrom whole t s from least (start + 1)
  next_begins start out given i end m =
      elim (cases_eq i start) [
        | inl e ↦ absurd (out (subst Stands e (stands_at i end m).0))
        | inr other ↦ omega (arith, given i end m, other)
      ]

  pub none_begins_after : (start : ℕ) → length s < start + position_count t → BeginFrom whole t s from least start → HasNoMatchOf whole t s from least
  none_begins_after start past given i end m = absurd (omega (arith, past, given i end m, (stands_at i end m).1, m.within))

  pub first_stands : (start : ℕ) → from ≤ start → least ≤ start + position_count t → start + position_count t ≤ length s → Stands start →
      BeginFrom whole t s from least start → IsFirstOf whole t s from least start (start + position_count t)
  first_stands start begins ends within stands given = record {
    is = record {
      begins = begins;
      ends = ends;
      ordered = omega arith;
      within = within;
      matches = occurs_span s t one start stands.0;
      word = stands.1;
    };
    leftmost = given;
    longest = λ j m. omega (arith, (stands_at start j m).1);
  }
