-- The edges of words in a line, and the bytes of a line with its newline.
use Rattle.std.proofs.Common.{◌≡◌, ℕ, ◌+◌, ◌-◌, ◌<◌, ◌≤◌, inl, inr, Bool, true, false, List, [], ◌∷◌, length, get_or, refl, sym, ap, subst, ◌∙◌, arith, length-append}
use Rattle.std.specs.Prelude.{not}
use mathlib.Core.Bool.{xor}
use Rattle.std.proofs.lemmas.Bool.{lt-ltb, le-ltb, le-leb, cases_lt, cases_eq, false≢true}
use Rattle.std.proofs.lemmas.List.{get_or_append_left, get_or_past}
use Rattle.std.proofs.Math.Seq.{get_or-append_seam}
use Rattle.cs_syntax.specs.Matching.{is_word, word_before, word_after, is_at_word_boundary}
use Rattle.cs_prefilter.specs.WordAt.{IsLine, with_newline}

module _ (line : List ℕ) where
  pub one_more : length (with_newline line) ≡ length line + 1
  one_more = length-append line (10 ∷ [])

  pub byte_in : (k : ℕ) → k < length line → get_or (with_newline line) k 0 ≡ get_or line k 0
  byte_in k low = get_or_append_left line (10 ∷ []) 0 k low

  pub byte_end : (k : ℕ) → k ≡ length line → get_or (with_newline line) k 0 ≡ 10
  byte_end k is = ap (λ n. get_or (with_newline line) n 0) is ∙ get_or-append_seam line 10 [] 0

  pub small_bytes : IsLine line → (i : ℕ) → get_or (with_newline line) i 0 < 256
  small_bytes is i = elim (cases_lt i (length line)) [
    | inl low ↦ subst (λ b. b < 256) (sym (byte_in i low)) (is i).0
    | inr past ↦ elim (cases_eq i (length line)) [
      | inl here ↦ subst (λ b. b < 256) (sym (byte_end i here)) (omega arith)
      | inr after ↦ subst (λ b. b < 256) (sym (get_or_past (with_newline line) i 0 (omega (arith, past, after, one_more)))) (omega arith)
    ]
  ]

xor_true : (x : Bool) → xor true x ≡ true → x ≡ false
unfolding xor
xor_true true e = absurd (false≢true e)
xor_true false e = refl

xor_right : (x : Bool) → xor x true ≡ true → x ≡ false
unfolding xor
xor_right true e = absurd (false≢true e)
xor_right false e = refl

module _ (s : List ℕ) (i : ℕ) where
  pub before_is : 0 < i → i ≤ length s → word_before s i ≡ is_word (get_or s (i - 1) 0)
  unfolding word_before
  before_is some le = rw (lt-ltb 0 i some, le-leb i (length s) le) refl

  pub none_before : i ≡ 0 → word_before s i ≡ false
  unfolding word_before
  none_before is = rw is refl

  pub after_is : i < length s → word_after s i ≡ is_word (get_or s i 0)
  unfolding word_after
  after_is lt = rw (lt-ltb i (length s) lt) refl

  pub none_after : length s ≤ i → word_after s i ≡ false
  unfolding word_after
  none_after le = rw (le-ltb i (length s) le) refl

  pub edge_from : (b : Bool) → word_before s i ≡ b → word_after s i ≡ not b → is_at_word_boundary s i ≡ true
  unfolding is_at_word_boundary xor
  edge_from true before after = rw (before, after) refl
  edge_from false before after = rw (before, after) refl

  -- a word ends at an edge behind a word byte
  pub other_after : is_at_word_boundary s i ≡ true → word_before s i ≡ true → word_after s i ≡ false
  unfolding is_at_word_boundary
  other_after edge before = xor_true (word_after s i) (ap (λ x. xor x (word_after s i)) (sym before) ∙ edge)

  -- a word begins at an edge before a word byte
  pub other_before : is_at_word_boundary s i ≡ true → word_after s i ≡ true → word_before s i ≡ false
  unfolding is_at_word_boundary
  other_before edge after = xor_right (word_before s i) (ap (xor (word_before s i)) (sym after) ∙ edge)
