-- Lists of the ends of lines with words: a part without a word, and a line with one.
use Rattle.std.proofs.Common.{◌≡◌, ℕ, zero, suc, ◌+◌, ◌-◌, ◌<◌, ◌≤◌, inl, inr, Bool, true, false, List, [], ◌∷◌, ◌++◌, length, take, drop, get_or, set, refl, sym, ap, subst, ◌∙◌, arith, append-nil, length-set}
use Rattle.std.specs.Prelude.{All, Any}
use Rattle.std.specs.List.{filter, range_with_len}
use Rattle.std.proofs.lemmas.Bool.{cases_lt, cond-true, cond-false, false_from_ne_true}
use Rattle.std.proofs.lemmas.List.{take_rest, take_more_set}
use Rattle.std.proofs.lemmas.List.Elements.{filter-append}
use Rattle.cs_prefilter.specs.declared.word.Word.{Word}
use Rattle.cs_prefilter.specs.WordAt.{WordAt, NoWordFrom}
use Rattle.cs_prefilter.specs.Listed.{newline, NoNewlineFrom, EndsLineWithWord, LineLacksWords, AreEndsTo}

-- consecutive numbers
range-append : (a m n : ℕ) → range_with_len a (m + n) ≡ range_with_len a m ++ range_with_len (a + m) n
range-append a zero n =
    let none : zero + n ≡ n = omega arith in
    let here : a ≡ a + zero = omega arith in
    ap (range_with_len a) none ∙ ap (λ b. range_with_len b n) here
range-append a (suc m) n =
    let more : suc m + n ≡ suc (m + n) = omega arith in
    let here : a + 1 + m ≡ a + suc m = omega arith in
    ap (range_with_len a) more
    ∙ ap (λ (xs : List ℕ). a ∷ xs) (range-append (a + 1) m n ∙ ap (λ b. range_with_len (a + 1) m ++ range_with_len b n) here)

module _ (p : ℕ → Bool) where
  filter-none : (a n : ℕ) → ((k : ℕ) → k < n → p (a + k) ≡ false) → filter p (range_with_len a n) ≡ []
  filter-none a zero none = refl
  filter-none a (suc n) none =
      let here : a ≡ a + 0 = omega arith in
      cond-false (p a) (a ∷ filter p (range_with_len (a + 1) n)) (filter p (range_with_len (a + 1) n)) (ap p here ∙ none 0 (omega arith))
      ∙ filter-none (a + 1) n (λ k low.
      let there : a + 1 + k ≡ a + suc k = omega arith in
      ap p there ∙ none (suc k) (omega (arith, low)))

  filter-more : (from offset to : ℕ) → offset ≤ to →
      filter p (range_with_len from to) ≡ filter p (range_with_len from offset) ++ filter p (range_with_len (from + offset) (to - offset))
  filter-more from offset to low =
      let size : to ≡ offset + (to - offset) = omega (arith, low) in
      ap (λ n. filter p (range_with_len from n)) size ∙ ap (filter p) (range-append from offset (to - offset))
      ∙ filter-append p (range_with_len from offset) (range_with_len (from + offset) (to - offset))

  filter-gap : (from offset to : ℕ) → offset ≤ to → ((k : ℕ) → offset ≤ k → k < to → p (from + k) ≡ false) →
      filter p (range_with_len from to) ≡ filter p (range_with_len from offset)
  filter-gap from offset to low none =
      filter-more from offset to low
      ∙ ap (λ (xs : List ℕ). filter p (range_with_len from offset) ++ xs) (filter-none (from + offset) (to - offset) (λ k below.
      let there : from + offset + k ≡ from + (offset + k) = omega arith in
      ap p there ∙ none (offset + k) (omega arith) (omega (arith, below, low))))
      ∙ append-nil _

  filter-one : (from end : ℕ) → p (from + end) ≡ true →
      filter p (range_with_len from (end + 1)) ≡ filter p (range_with_len from end) ++ (from + end) ∷ []
  filter-one from end is =
      let one : end + 1 - end ≡ 1 = omega arith in
      filter-more from end (end + 1) (omega arith)
      ∙ ap (λ n. filter p (range_with_len from end) ++ filter p (range_with_len (from + end) n)) one
      ∙ ap (λ (xs : List ℕ). filter p (range_with_len from end) ++ xs) (cond-true (p (from + end)) ((from + end) ∷ []) [] is)

module _ (words : List Word) (text : List ℕ) where
  -- no line with a word ends in a part in which no word begins
  no_end : (offset to end : ℕ) → offset ≤ end → end < to → LineLacksWords words text offset → NoWordFrom words text offset to →
      EndsLineWithWord words text end → ⊥
  no_end offset to end low high lacks none e =
      let clear : All (λ word. WordAt text e.at word → ⊥) words = elim (cases_lt e.at offset) [
        | inl before ↦ lacks e.at before (λ j after below. e.in_line j after (omega (arith, below, low)))
        | inr after ↦ none e.at after (omega (arith, e.low, high))
      ] in
      let a = e.occurs in
      clear a.0 a.1 a.2 (subst (WordAt text e.at) (sym a.3) a.4)

  pub listed-none : (from : ℕ) (ends : List ℕ) → AreEndsTo words text from 0 0 ends
  listed-none from ends = record {
    high = omega arith;
    room = omega arith;
    listed = λ is_end tells. refl;
    lacks = λ k below clear. absurd (omega (arith, below));
  }

  pub listed-gap : (from offset to count : ℕ) (ends : List ℕ) → AreEndsTo words text from offset count ends → offset ≤ to → to ≤ length text →
      NoWordFrom words text offset to → AreEndsTo words text from to count ends
  listed-gap from offset to count ends old low high none = record {
    high = high;
    room = old.room;
    listed = λ is_end tells. old.listed is_end tells ∙ sym (filter-gap is_end from offset to low
        (λ k after below. false_from_ne_true (is_end (from + k))
        (λ is. no_end offset to k after below old.lacks none ((tells k).0 is))));
    lacks = λ k below clear. elim (cases_lt k offset) [
      | inl before ↦ old.lacks k before (λ j after under. clear j after (omega (arith, under, low)))
      | inr after ↦ none k after below
    ];
  }

  pub listed-line : (from at end count : ℕ) (ends : List ℕ) → AreEndsTo words text from at count ends → Any (WordAt text at) words →
      at ≤ end → end < length text → NoNewlineFrom text at end → get_or text end 0 ≡ newline → count < length ends →
      AreEndsTo words text from (end + 1) (count + 1) (set ends count (from + end))
  listed-line from at end count ends old occurs low high none here room = record {
    high = omega (arith, high);
    room = omega (arith, room, length-set ends count (from + end));
    listed = λ is_end tells.
        let in_line : filter is_end (range_with_len from end) ≡ filter is_end (range_with_len from at) =
        filter-gap is_end from at end low (λ k after below. false_from_ne_true (is_end (from + k))
        (λ is. none k after below ((tells k).0 is).here)) in
        let is : is_end (from + end) ≡ true = (tells end).1 (record { here = here; at = at; low = low; in_line = none; occurs = occurs }) in
        take_more_set ends count (from + end) room
        ∙ ap (λ (xs : List ℕ). xs ++ (from + end) ∷ []) (old.listed is_end tells ∙ sym in_line)
        ∙ sym (filter-one is_end from end is);
    lacks = λ k below clear. absurd (clear end (omega (arith, below)) (omega arith) here);
  }

  -- the same where the offset, the number and the list have other names
  pub listed-as : (from a b m n : ℕ) (ends others : List ℕ) → b ≡ a → n ≡ m → others ≡ ends → AreEndsTo words text from a m ends →
      AreEndsTo words text from b n others
  listed-as from a b m n ends others p q r h =
      subst (λ k. AreEndsTo words text from k n others) (sym p)
      (subst (λ k. AreEndsTo words text from a k others) (sym q) (subst (AreEndsTo words text from a m) (sym r) h))

-- the same of the rest of a text
pub listed-rest : (words : List Word) (text : List ℕ) (from offset count : ℕ) (ends : List ℕ) →
    AreEndsTo words (take (length text - from) (drop from text)) from offset count ends →
    AreEndsTo words (drop from text) from (from + offset - from) count ends
listed-rest words text from offset count ends h =
    let back : offset ≡ from + offset - from = omega arith in
    subst (λ k. AreEndsTo words (drop from text) from k count ends) back
    (subst (λ (rest : List ℕ). AreEndsTo words rest from offset count ends) (take_rest text from) h)
