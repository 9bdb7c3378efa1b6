-- What is known of a line where a word occurs in it.
use Rattle.std.proofs.Common.{◌≡◌, ℕ, zero, suc, ◌+◌, ◌-◌, ◌<◌, ◌≤◌, inl, inr, Bool, true, false, List, [], length, get_or, refl, sym, ap, ◌∙◌, arith}
use Rattle.std.specs.Prelude.{not, vec_len}
use Rattle.std.proofs.lemmas.Bool.{cases_lt, cases_Bool, false≢true}
use Rattle.cs_syntax.specs.Matching.{Tree, one_of, line_start, line_end, word_edge, is_word, is_at_word_boundary, member, word_before, word_after, MatchesSpan, HasMatch}
use Rattle.cs_syntax.specs.Members.{IsOnly}
use Rattle.cs_prefilter.specs.declared.word.Word.{Word}
use Rattle.cs_prefilter.specs.WordAt.{IsLine, WordAt, with_newline}
use Rattle.cs_prefilter.specs.Sufficient.{MatchesPart, HasEdge}
use Rattle.cs_prefilter.proofs.EdgeLemmas.{one_more, byte_in, byte_end, before_is, none_before, after_is, none_after, edge_from}
use Rattle.cs_prefilter.proofs.SpanLemmas.{within}

-- the set at an index
abbrev set_at : Word → ℕ → List Bool
set_at word i = get_or word.sets.items i []

module _ (word : Word) (line : List ℕ) (at : ℕ) (is_line : IsLine line) (occurs : WordAt (with_newline line) at word) where
  byte_at : (i : ℕ) → i < vec_len word.sets → member (set_at word i) (get_or (with_newline line) (at + i) 0) ≡ true
  byte_at i low = occurs.each i [] (omega (arith, low))

  up_to_end : (i : ℕ) → i < vec_len word.sets → at + i ≤ length line
  up_to_end i low = omega (arith, occurs.within, one_more line)

  -- a set without the newline has a byte of the line
  in_line : (i : ℕ) → i < vec_len word.sets → member (set_at word i) 10 ≡ false → at + i < length line
  in_line i low none = elim (cases_lt (at + i) (length line)) [
    | inl fine ↦ fine
    | inr past ↦
        let here : at + i ≡ length line = omega (arith, past, up_to_end i low) in
        absurd (false≢true (sym none ∙ ap (member (set_at word i)) (sym (byte_end line (at + i) here)) ∙ byte_at i low))
  ]

  -- the newline is at the end of the line
  at_end : (i : ℕ) → i < vec_len word.sets → IsOnly (set_at word i) 10 → at + i ≡ length line
  at_end i low only = elim (cases_lt (at + i) (length line)) [
    | inl inside ↦ absurd ((is_line (at + i)).1 (sym (byte_in line (at + i) inside) ∙ only.1 _ (byte_at i low)))
    | inr past ↦ omega (arith, past, up_to_end i low)
  ]

  -- only the start of a line follows a newline
  at_start : 0 < vec_len word.sets → IsOnly word.before 10 → at ≡ 0
  at_start some only = elim (cases_lt 0 at) [
    | inl after ↦
        let inside : at - 1 < length line = omega (arith, up_to_end 0 some, after) in
        absurd ((is_line (at - 1)).1 (sym (byte_in line (at - 1) inside) ∙ only.1 _ (occurs.before after)))
    | inr here ↦ omega (arith, here)
  ]

  after_edge : (i : ℕ) (e : HasEdge word i) → word_after line (at + i) ≡ not e.is_end
  after_edge i e = elim (cases_lt (at + i) (length line)) [
    | inl inside ↦ after_is line (at + i) inside ∙ ap is_word (sym (byte_in line (at + i) inside)) ∙ e.after _ (byte_at i e.within)
    | inr past ↦
        let here : at + i ≡ length line = omega (arith, past, up_to_end i e.within) in
        let no_word : false ≡ is_word 10 = refl in
        none_after line (at + i) past ∙ no_word ∙ ap is_word (sym (byte_end line (at + i) here)) ∙ e.after _ (byte_at i e.within)
  ]

  before_edge : (i : ℕ) (e : HasEdge word i) → word_before line (at + i) ≡ e.is_end
  before_edge zero e = elim (cases_lt 0 at) [
    | inl after ↦
        let inside : at - 1 < length line = omega (arith, up_to_end 0 e.within, after) in
        let there : at + 0 - 1 ≡ at - 1 = omega arith in
        before_is line (at + 0) (omega (arith, after)) (up_to_end 0 e.within)
        ∙ ap (λ k. is_word (get_or line k 0)) there ∙ ap is_word (sym (byte_in line (at - 1) inside))
        ∙ e.before _ (occurs.before after)
    | inr here ↦ elim (cases_Bool e.is_end) [
      | inl is ↦ let no : ⊥ = omega (arith, e.inside is) in absurd no
      | inr start ↦ none_before line (at + 0) (omega (arith, here)) ∙ sym start
    ]
  ]
  before_edge (suc i) e =
      let inside : at + i < length line = omega (arith, up_to_end (suc i) e.within) in
      let there : at + suc i - 1 ≡ at + i = omega arith in
      before_is line (at + suc i) (omega arith) (up_to_end (suc i) e.within)
      ∙ ap (λ k. is_word (get_or line k 0)) there ∙ ap is_word (sym (byte_in line (at + i) inside))
      ∙ e.before _ (byte_at i (omega (arith, e.within)))

  at_edge : (i : ℕ) → HasEdge word i → is_at_word_boundary line (at + i) ≡ true
  at_edge i e = edge_from line (at + i) e.is_end (before_edge i e) (after_edge i e)

module _ (word : Word) (from : ℕ) where
  pub part_set : (set : List Bool) → from < vec_len word.sets → member (set_at word from) 10 ≡ false →
      ((b : ℕ) → member (set_at word from) b ≡ true → member set b ≡ true) →
      MatchesPart (λ line i j. MatchesSpan line (one_of set) i j) word from (from + 1)
  part_set set low none inside = record {
    low = omega arith;
    high = omega (arith, low);
    spans = λ line at is_line occurs.
        let here = in_line word line at is_line occurs from low none in (
          here,
          ap (member set) (sym (byte_in line (at + from) here)) ∙ inside _ (byte_at word line at is_line occurs from low),
          omega arith,
        );
  }

  pub part_end : from < vec_len word.sets → IsOnly (set_at word from) 10 →
      MatchesPart (λ line i j. MatchesSpan line line_end i j) word from from
  part_end low only = record {
    low = omega arith;
    high = omega (arith, low);
    spans = λ line at is_line occurs. let is = at_end word line at is_line occurs from low only in (is, is);
  }

  pub part_start : from ≡ 0 → 0 < vec_len word.sets → IsOnly word.before 10 →
      MatchesPart (λ line i j. MatchesSpan line line_start i j) word from from
  part_start first some only = record {
    low = omega arith;
    high = omega (arith, first, some);
    spans = λ line at is_line occurs.
        let is : at + from ≡ 0 = omega (arith, at_start word line at is_line occurs some only, first) in (is, is);
  }

  pub part_edge : HasEdge word from → MatchesPart (λ line i j. MatchesSpan line word_edge i j) word from from
  part_edge e = record {
    low = omega arith;
    high = omega (arith, e.within);
    spans = λ line at is_line occurs. (refl, at_edge word line at is_line occurs from e);
  }

-- the tree matches the word; a word without sets occurs at the start of a line too
pub matched : (tree : Tree) (word : Word) (to : ℕ) → MatchesPart (λ line i j. MatchesSpan line tree i j) word 0 to →
    (line : List ℕ) (at : ℕ) → IsLine line → WordAt (with_newline line) at word → HasMatch tree line
matched tree word to part line at is_line occurs = elim (cases_lt 0 (vec_len word.sets)) [
  | inl some ↦ there at (up_to_end word line at is_line occurs 0 some) occurs
  | inr none ↦ there 0 (omega arith) (record {
    before = λ after. let no : ⊥ = omega (arith, after) in absurd no;
    within = omega (arith, none);
    each = λ i d low. let no : ⊥ = omega (arith, low, none) in absurd no;
  })
]
  where
    there : (k : ℕ) → k + 0 ≤ length line → WordAt (with_newline line) k word → HasMatch tree line
    there k begin at_k =
        let span = part.spans line k is_line at_k in
        (k + 0, k + to, omega arith, within line tree (k + 0) (k + to) span begin, span)
