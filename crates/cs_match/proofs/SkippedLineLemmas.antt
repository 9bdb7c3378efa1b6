-- Words that occur in no line of a text.
use Rattle.std.proofs.Common.{◌≡◌, ℕ, zero, suc, ◌+◌, ◌-◌, ◌<◌, ◌≤◌, inl, inr, Bool, true, false, cond, nat_eq, List, [], ◌∷◌, ◌++◌, length, take, drop, get_or, refl, sym, ap, subst, ◌∙◌, arith, length-append, length-take, append_assoc}
use Rattle.std.proofs.lemmas.Bool.{eqb-true, eq-eqb, cases_Bool, cases_lt, false≢true}
use Rattle.std.proofs.lemmas.List.{get_or_append_left, get_or-append-add, get_or-drop, get_or-take, get_or_past, length-take-le, take_more, take-append-drop}
use Rattle.std.proofs.lemmas.List.Elements.{All-nil, All-cons, All-tail}
use Rattle.cs_match.specs.Lines.{newline, terminated_lines, with_byte_in_line}
use Rattle.std.specs.Prelude.{All, Any}
use Rattle.cs_prefilter.specs.declared.word.Word.{Word}
use Rattle.cs_prefilter.specs.WordAt.{IsLine, WordAt, with_newline}
use Rattle.cs_syntax.specs.Matching.{Tree, HasMatch, member}
use Rattle.cs_match.specs.Deciding.{Decides}
use Rattle.cs_match.specs.Skipping.{AreWholeLines, NoneMatch}
use Rattle.cs_match.proofs.WholeLineLemmas.{whole_terminated}

-- an occurrence in a text is also one with more bytes after it, or behind a newline
pub record IsPlaced (Occurs : List ℕ → ℕ → Type 0) : Type 0 where
  pub inside : (text : List ℕ) (k : ℕ) → 0 < length text → Occurs text k → (j : ℕ) × (j < length text) × Occurs text j
  pub prefix : (line rest : List ℕ) (k : ℕ) → Occurs line k → Occurs (line ++ rest) k
  pub later : (before text : List ℕ) (k : ℕ) → Occurs text k → Occurs (before ++ newline ∷ text) (length before + suc k)

pub words_placed : (words : List Word) → IsPlaced (λ text k. Any (WordAt text k) words)
words_placed words = record {
  inside = λ text k some h. let w = word_inside text k h.1 some h.4 in (w.0, w.1, (h.0, h.1, h.2, h.3, w.2));
  prefix = λ line rest k h. (h.0, h.1, h.2, h.3, word_prefix line rest k h.1 h.4);
  later = λ before text k h. (h.0, h.1, h.2, h.3, word_later before text k h.1 h.4);
}
  where
    -- a word without sets occurs where the text begins
    word_inside : (text : List ℕ) (k : ℕ) (w : Word) → 0 < length text → WordAt text k w → (j : ℕ) × (j < length text) × WordAt text j w
    word_inside text k w some h = elim (cases_lt k (length text)) [
      | inl low ↦ (k, low, h)
      | inr past ↦
          let none : length w.sets.items ≡ 0 = omega (arith, past, h.within) in (
            0,
            some,
            record {
              before = λ after. let no : ⊥ = omega (arith, after) in absurd no;
              within = omega (arith, none);
              each = λ i d low. let no : ⊥ = omega (arith, low, none) in absurd no;
            },
          )
    ]

    word_prefix : (line rest : List ℕ) (k : ℕ) (w : Word) → WordAt line k w → WordAt (line ++ rest) k w
    word_prefix line rest k w h = elim (cases_lt (k - 1) (length line)) [
      | inl inside ↦ record {
        before = λ some. ap (member w.before) (get_or_append_left line rest 0 (k - 1) inside) ∙ h.before some;
        within = omega (arith, h.within, length-append line rest);
        each = each line rest k w h;
      }
      | inr past ↦ record {
        before = λ some. let no : ⊥ = omega (arith, some, past, h.within) in absurd no;
        within = omega (arith, h.within, length-append line rest);
        each = each line rest k w h;
      }
    ]
      where
        each : (line rest : List ℕ) (k : ℕ) (w : Word) → WordAt line k w → (i : ℕ) (d : List Bool) → i < length w.sets.items →
            member (get_or w.sets.items i d) (get_or (line ++ rest) (k + i) 0) ≡ true
        each line rest k w h i d low = ap (member (get_or w.sets.items i d))
            (get_or_append_left line rest 0 (k + i) (omega (arith, low, h.within))) ∙ h.each i d low

    word_later : (before text : List ℕ) (k : ℕ) (w : Word) → WordAt text k w → WordAt (before ++ newline ∷ text) (length before + suc k) w
    word_later before text k w h = record {
      before = λ some. byte_before k h.before;
      within = omega (arith, h.within, length-append before (newline ∷ text));
      each = λ i d low.
          let next : length before + suc k + i ≡ length before + suc (k + i) = omega arith in
          ap (λ j. member (get_or w.sets.items i d) (get_or (before ++ newline ∷ text) j 0)) next
          ∙ ap (member (get_or w.sets.items i d)) (get_or-append-add before (newline ∷ text) (suc (k + i)) 0) ∙ h.each i d low;
    }
      where
        byte_before : (n : ℕ) → (0 < n → member w.before (get_or text (n - 1) 0) ≡ true) →
            member w.before (get_or (before ++ newline ∷ text) (length before + suc n - 1) 0) ≡ true
        byte_before zero free =
            let last : length before + 1 - 1 ≡ length before + 0 = omega arith in
            ap (λ j. member w.before (get_or (before ++ newline ∷ text) j 0)) last
            ∙ ap (member w.before) (get_or-append-add before (newline ∷ text) 0 0) ∙ w.begins
        byte_before (suc n) free =
            let last : length before + suc (suc n) - 1 ≡ length before + suc n = omega arith in
            let back : suc n - 1 ≡ n = omega arith in
            ap (λ j. member w.before (get_or (before ++ newline ∷ text) j 0)) last
            ∙ ap (member w.before) (get_or-append-add before (newline ∷ text) (suc n) 0)
            ∙ ap (λ j. member w.before (get_or text j 0)) (sym back) ∙ free (omega arith)

-- the line follows a newline in the text
abbrev Follows : List ℕ → List ℕ → Type 0
Follows text line = (before after : List ℕ) × (text ≡ before ++ newline ∷ (line ++ newline ∷ after))

-- the text begins with the first line, and each other one follows a newline
abbrev Begins : List ℕ → List (List ℕ) → Type 0
Begins text [] = Unit {0}
Begins text (line ∷ lines) = (after : List ℕ) × (text ≡ line ++ newline ∷ after) × All (Follows text) lines

follows_more : (b : ℕ) (text : List ℕ) (lines : List (List ℕ)) → All (Follows text) lines → All (Follows (b ∷ text)) lines
follows_more b text lines h k d low =
    let f = h k d low in
    (b ∷ f.0, f.1, ap (λ (xs : List ℕ). b ∷ xs) f.2)

module _ (b : ℕ) (text : List ℕ) where
  follow_all : b ≡ newline → (lines : List (List ℕ)) → Begins text lines → All (Follows (b ∷ text)) lines
  follow_all is [] h = All-nil (Follows (b ∷ text))
  follow_all is (line ∷ lines) h = All-cons (Follows (b ∷ text)) line lines
      ([], h.0, ap (λ x. x ∷ text) is ∙ ap (λ (xs : List ℕ). newline ∷ xs) h.1) (follows_more b text lines h.2)

  begins_more : (t : Bool) → nat_eq b newline ≡ t → (lines : List (List ℕ)) → Begins text lines →
      Begins (b ∷ text) (cond t ([] ∷ lines) (with_byte_in_line b lines))
  begins_more true e lines h =
      let is = eqb-true b newline e in
      (text, ap (λ x. x ∷ text) is, follow_all is lines h)
  begins_more false e [] h = tt
  begins_more false e (line ∷ lines) h = (h.0, ap (λ (xs : List ℕ). b ∷ xs) h.1, follows_more b text lines h.2)

begins : (text : List ℕ) → Begins text (terminated_lines text)
unfolding terminated_lines
begins [] = tt
begins (b ∷ text) = begins_more b text (nat_eq b newline) refl (terminated_lines text) (begins text)

module _ (Occurs : List ℕ → ℕ → Type 0) (placed : IsPlaced Occurs) where
  abbrev Nowhere : List ℕ → Type 0
  Nowhere text = (k : ℕ) → k < length text → ¬ Occurs text k

  -- no occurrence in the line and its newline
  abbrev IsFree : List ℕ → Type 0
  IsFree line = ¬ ((at : ℕ) × Occurs (with_newline line) at)

  module _ (line after : List ℕ) where
    rest_is : with_newline line ++ after ≡ line ++ newline ∷ after
    rest_is = append_assoc line (newline ∷ []) after

    in_rest : (k : ℕ) → Occurs (with_newline line) k → Occurs (line ++ newline ∷ after) k
    in_rest k h = subst (λ (xs : List ℕ). Occurs xs k) rest_is (placed.prefix (with_newline line) after k h)

    long : length (line ++ newline ∷ after) ≡ length (with_newline line) + length after
    long = ap length (sym rest_is) ∙ length-append (with_newline line) after

    some : 0 < length (with_newline line)
    some = omega (arith, length-append line (newline ∷ []))

  first_without : (text line after : List ℕ) → text ≡ line ++ newline ∷ after → Nowhere text → IsFree line
  first_without text line after e none has =
      let w = placed.inside (with_newline line) has.0 (some line after) has.1 in
      none w.0 (omega (arith, w.1, ap length e, long line after))
      (subst (λ (xs : List ℕ). Occurs xs w.0) (sym e) (in_rest line after w.0 w.2))

  next_without : (text line : List ℕ) → Follows text line → Nowhere text → IsFree line
  next_without text line f none has =
      let w = placed.inside (with_newline line) has.0 (some line f.1) has.1 in
      let rest = line ++ newline ∷ f.1 in
      none (length f.0 + suc w.0) (omega (arith, w.1, ap length f.2, length-append f.0 (newline ∷ rest), long line f.1))
      (subst (λ (xs : List ℕ). Occurs xs (length f.0 + suc w.0)) (sym f.2) (placed.later f.0 rest w.0 (in_rest line f.1 w.0 w.2)))

  without_in : (text : List ℕ) (lines : List (List ℕ)) → Begins text lines → Nowhere text → All IsFree lines
  without_in text [] h none = All-nil IsFree
  without_in text (line ∷ lines) h none = All-cons IsFree line lines (first_without text line h.0 h.1 none)
      (λ k d low. next_without text (get_or lines k d) (h.2 k d low) none)

  -- if there is no occurrence in a text, there is none in its terminated lines
  pub without : (text : List ℕ) → Nowhere text → All IsFree (terminated_lines text)
  without text none = without_in text (terminated_lines text) (begins text) none

  -- the lines before the first occurrence
  pub without_before : (text : List ℕ) (at n : ℕ) → n ≤ at → at ≤ length text → ((k : ℕ) → k < at → ¬ Occurs text k) →
      All IsFree (terminated_lines (take n text))
  without_before text at n le within none =
      without (take n text) (λ k low h.
      let long = length-take-le n text (omega arith) in
      let whole : take n text ++ drop n text ≡ text = take-append-drop n text in
      none k (omega (arith, long)) (subst (λ (xs : List ℕ). Occurs xs k) whole (placed.prefix (take n text) (drop n text) k h)))

-- the lines of a text of bytes
abbrev pub AreBytes : List ℕ → Type 0
AreBytes text = (i : ℕ) → get_or text i 0 < 256

line_more : (b : ℕ) (line : List ℕ) → b < 256 → nat_eq b newline ≡ false → IsLine line → IsLine (b ∷ line)
line_more b line low other is zero = (low, λ e. false≢true (sym other ∙ eq-eqb b newline e))
line_more b line low other is (suc i) = is i

lines_more : (b : ℕ) (t : Bool) → b < 256 → nat_eq b newline ≡ t → (lines : List (List ℕ)) → All IsLine lines →
    All IsLine (cond t ([] ∷ lines) (with_byte_in_line b lines))
lines_more b true low e lines h = All-cons IsLine [] lines (λ i. (omega arith, λ is. absurd (omega (arith, is)))) h
lines_more b false low e [] h = h
lines_more b false low e (line ∷ lines) h = All-cons IsLine (b ∷ line) lines
    (line_more b line low e (h 0 [] (omega arith))) (All-tail IsLine line lines h)

pub are_lines : (text : List ℕ) → AreBytes text → All IsLine (terminated_lines text)
unfolding terminated_lines
are_lines [] bytes = All-nil IsLine
are_lines (b ∷ text) bytes = lines_more b (nat_eq b newline) (bytes 0) refl (terminated_lines text) (are_lines text (λ i. bytes (suc i)))

pub bytes_drop : (from : ℕ) (text : List ℕ) → AreBytes text → AreBytes (drop from text)
bytes_drop from text bytes i = subst (λ b. b < 256) (sym (get_or-drop from text i 0)) (bytes (from + i))

pub bytes_take : (n : ℕ) (text : List ℕ) → AreBytes text → AreBytes (take n text)
bytes_take n text bytes i = elim (cases_lt i (length (take n text))) [
  | inl low ↦ subst (λ b. b < 256) (sym (get_or-take n text i 0 (omega (arith, low, length-take n text)))) (bytes i)
  | inr past ↦ subst (λ b. b < 256) (sym (get_or_past (take n text) i 0 past)) (omega arith)
]

pub whole_to : (text : List ℕ) (at : ℕ) → at < length text → nat_eq (get_or text at 0) newline ≡ true → AreWholeLines (take (at + 1) text)
whole_to text at low is =
    let last : take (at + 1) text ≡ take at text ++ newline ∷ [] = take_more text at 0 low
    ∙ ap (λ b. take at text ++ b ∷ []) (eqb-true _ _ is) in
    subst AreWholeLines (sym last) (whole_terminated (take at text))

pub whole_none : AreWholeLines []
unfolding AreWholeLines
whole_none = tt

-- lines that lack what every matching line contains have no match
pub none_found : (tree : Tree) (Has : List ℕ → Type 0) (has_match : List ℕ → Bool) (lines : List (List ℕ)) →
    ((line : List ℕ) → IsLine line → HasMatch tree line → Has line) → Decides has_match tree → All IsLine lines →
    All (λ line. ¬ Has line) lines → NoneMatch has_match lines
none_found tree Has has_match lines required decides are lack k d low =
    let line = get_or lines k d in
    elim (cases_Bool (has_match line)) [
      | inl matched ↦ absurd (lack k d low (required line (are k d low) ((decides line).0 matched)))
      | inr miss ↦ miss
    ]
