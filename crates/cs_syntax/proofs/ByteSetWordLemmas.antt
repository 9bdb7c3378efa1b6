-- Sets of bytes as bitmaps of four words.
use Rattle.std.proofs.Common.{◌≤◌, ◌≡◌, ℕ, zero, suc, ◌+◌, ◌*◌, ◌/◌, ◌%◌, ◌^◌, ◌<◌, Bool, true, false, eqb, cond, List, [], ◌∷◌, length, get_or, set, take, drop, refl, sym, ◌∙◌, ap, subst, inl, inr, arith, ext_get_or, length-set, lit<, eq-eqb, w64, drop_of_length-le}
use Rattle.std.specs.Prelude.{All, bit_or, count_ones}
use Rattle.std.specs.Int.{bit_at, trailing_zeros}
use Rattle.std.specs.Simd.Lanes.{mask_l}
use Rattle.std.proofs.lemmas.List.{get_or-take, get_or-drop, length-take-le, length-drop, map-id, drop-drop}
use Rattle.std.proofs.lemmas.List.FromFn.{length-map-range_with_len, get_or-map-range_with_len}
use Rattle.std.proofs.lemmas.List.Elements.{All-get_or, All-set, All-replicate}
use Rattle.std.proofs.lemmas.List.Sums.{sum_by-take-drop}
use Rattle.std.proofs.lemmas.Bool.{cases_eq, cases_lt}
use Rattle.std.proofs.lemmas.Nat.{or_lt}
use Rattle.std.proofs.lemmas.Nat.Bits.{bit_at-lt, bit_at-trailing_zeros, same_from_bits_below}
use Rattle.std.proofs.Math.Nat.{mod-lt}
use Rattle.std.proofs.lemmas.Simd.{mask_l-lt, bit_mask_l, ones-mask_l}
use Rattle.cs_syntax.specs.Matching.{member}
use Rattle.cs_syntax.specs.Members.{count}
use Rattle.cs_syntax.specs.ByteSet.{set_of}
use Rattle.cs_syntax.specs.Bits.{has_bit}
use Rattle.cs_syntax.specs.SetWords.{TestsAs, set_of_bits, word_of, set_words}
use Rattle.cs_syntax.proofs.BitLemmas.{IsWithBit, with_one_more, has_bit-zeros, has_bit-set_same, has_bit-set_other}
use Rattle.cs_syntax.proofs.ByteSetLemmas.{length-set_of, set_of_at, set_of-agree}

pub length-set_of_bits : (words : List ℕ) → length (set_of_bits words) ≡ 256
unfolding set_of_bits
length-set_of_bits words = length-set_of (has_bit words)

pub set_of_bits_at : (words : List ℕ) (b : ℕ) → b < 256 → member (set_of_bits words) b ≡ has_bit words b
unfolding set_of_bits
set_of_bits_at words b h = set_of_at (has_bit words) b h

-- ---- the bitmap of a set

bit_from_test : (bit : ℕ) → bit < 2 → cond (eqb bit 1) 1 0 ≡ bit
bit_from_test zero h = refl
bit_from_test (suc zero) h = refl
bit_from_test (suc (suc n)) h = absurd (omega arith)

module _ (set : List Bool) (long : length set ≡ 256) (k : ℕ) (h : k < 4) where
  length-part : length (take 64 (drop (k * 64) set)) ≡ 64
  length-part = length-take-le 64 (drop (k * 64) set) (omega (arith, length-drop (k * 64) set, long, h))

  word_of-lt : word_of set k < 2 ^ 64
  word_of-lt = subst (λ (n : ℕ). word_of set k < 2 ^ n) length-part (mask_l-lt (take 64 (drop (k * 64) set)))

  bit_at-word_of : (i : ℕ) → i < 64 → bit_at (word_of set k) i ≡ cond (member set (k * 64 + i)) 1 0
  bit_at-word_of i low =
      bit_mask_l (take 64 (drop (k * 64) set)) i
      ∙ ap (λ (x : Bool). cond x 1 0) (get_or-take 64 (drop (k * 64) set) i false low ∙ get_or-drop (k * 64) set i false)

  ones-word_of : count_ones (word_of set k) ≡ count (take 64 (drop (k * 64) set))
  ones-word_of =
      ap (λ (xs : List Bool). count_ones (mask_l xs)) (sym (map-id (take 64 (drop (k * 64) set))))
      ∙ ones-mask_l (λ b. b) (take 64 (drop (k * 64) set))

get_or-set_words : (set : List Bool) (k : ℕ) → k < 4 → get_or (set_words set) k 0 ≡ word_of set k
unfolding set_words
get_or-set_words set k h = get_or-map-range_with_len (word_of set) 0 4 k k 0 h (omega arith)

length-set_words : (set : List Bool) → length (set_words set) ≡ 4
unfolding set_words
length-set_words set = length-map-range_with_len (word_of set) 0 4

word_of-set_of_bits : (words : List ℕ) → length words ≡ 4 → All (λ w. w < 2 ^ 64) words → (k : ℕ) → k < 4 →
    word_of (set_of_bits words) k ≡ get_or words k 0
word_of-set_of_bits words four fit k h =
    same_from_bits_below 64 _ _ (word_of-lt (set_of_bits words) (length-set_of_bits words) k h)
    (All-get_or (λ (w : ℕ). w < 2 ^ 64) words k 0 (omega (arith, h, four)) fit) (λ i low.
    let row : (k * 64 + i) / 64 ≡ k = omega arith in
    let rest : (k * 64 + i) % 64 ≡ i = omega arith in
    bit_at-word_of (set_of_bits words) (length-set_of_bits words) k h i low
    ∙ ap (λ (x : Bool). cond x 1 0) (set_of_bits_at words (k * 64 + i) (omega arith))
    ∙ bit_from_test _ (bit_at-lt (get_or words ((k * 64 + i) / 64) 0) ((k * 64 + i) % 64))
    ∙ ap (λ (n : ℕ). bit_at (get_or words n 0) ((k * 64 + i) % 64)) row
    ∙ ap (λ (n : ℕ). bit_at (get_or words k 0) n) rest)

-- the bitmap of the set of a bitmap is that bitmap
pub set_words-set_of_bits : (words : List ℕ) → length words ≡ 4 → All (λ w. w < 2 ^ 64) words → set_words (set_of_bits words) ≡ words
set_words-set_of_bits words four fit = ext_get_or 0 _ _ (length-set_words (set_of_bits words) ∙ sym four) (λ k h.
    let low : k < 4 = omega (arith, h, length-set_words (set_of_bits words)) in
    get_or-set_words (set_of_bits words) k low ∙ word_of-set_of_bits words four fit k low)

counts_from : (set : List Bool) (n : ℕ) → count (take 64 (drop n set)) + count (drop (n + 64) set) ≡ count (drop n set)
counts_from set n =
    ap (λ (xs : List Bool). count (take 64 (drop n set)) + count xs) (sym (drop-drop 64 n set))
    ∙ sum_by-take-drop (λ (x : Bool). cond x 1 0) (drop n set) 64

none_left : (set : List Bool) → length set ≡ 256 → count (drop 256 set) ≡ 0
none_left set long = ap count (drop_of_length-le set {i = 256} (omega (arith, long)))

-- ---- properties of a bitmap

module _ (words : List ℕ) (own : set_words (set_of_bits words) ≡ words) where
  own_word : (k : ℕ) → k < 4 → word_of (set_of_bits words) k ≡ get_or words k 0
  own_word k h = sym (get_or-set_words (set_of_bits words) k h) ∙ ap (λ (ws : List ℕ). get_or ws k 0) own

  pub word-lt : (k : ℕ) → k < 4 → get_or words k 0 < 2 ^ 64
  word-lt k h = subst (λ (w : ℕ). w < 2 ^ 64) (own_word k h) (word_of-lt (set_of_bits words) (length-set_of_bits words) k h)

  ones_at : (k : ℕ) → k < 4 → count_ones (get_or words k 0) ≡ count (take 64 (drop (k * 64) (set_of_bits words)))
  ones_at k h = ap count_ones (sym (own_word k h)) ∙ ones-word_of (set_of_bits words) (length-set_of_bits words) k h

  -- the population count of all words
  pub ones_count : count_ones (get_or words 0 0) + count_ones (get_or words 1 0) + count_ones (get_or words 2 0)
      + count_ones (get_or words 3 0) ≡ count (set_of_bits words)
  ones_count = omega (
    arith,
    ones_at 0 (omega arith),
    ones_at 1 (omega arith),
    ones_at 2 (omega arith),
    ones_at 3 (omega arith),
    counts_from (set_of_bits words) 0,
    counts_from (set_of_bits words) 64,
    counts_from (set_of_bits words) 128,
    counts_from (set_of_bits words) 192,
    none_left (set_of_bits words)
        (length-set_of_bits words),
  )

  -- the lowest bit of a word is a member
  pub lowest_member : (k : ℕ) → k < 4 → (get_or words k 0 ≡ 0 → ⊥) →
      member (set_of_bits words) (64 * k + trailing_zeros w64 (get_or words k 0)) ≡ true
  lowest_member k h some =
      let word = get_or words k 0 in
      let index = trailing_zeros w64 word in
      let lowest = bit_at-trailing_zeros w64 word (omega (arith, some)) (word-lt k h) in
      let row : (64 * k + index) / 64 ≡ k = omega (arith, lowest.0) in
      let rest : (64 * k + index) % 64 ≡ index = omega (arith, lowest.0) in
      set_of_bits_at words (64 * k + index) (omega (arith, lowest.0))
      ∙ ap (λ (n : ℕ). eqb (bit_at (get_or words n 0) ((64 * k + index) % 64)) 1) row
      ∙ ap (λ (n : ℕ). eqb (bit_at word n) 1) rest
      ∙ eq-eqb _ 1 lowest.1

-- ---- a bitmap that is filled bit by bit

-- the bits before b are the answers of the test, and the other bits are clear
pub record HaveAnswers (answers : ℕ → Bool → Type 0) (b : ℕ) (words : List ℕ) : Type 0 where
  pub four : length words ≡ 4
  pub fit : All (λ w. w < 2 ^ 64) words
  pub done : (k : ℕ) → k < b → answers k (has_bit words k)
  pub waiting : (k : ℕ) → b ≤ k → has_bit words k ≡ false

module _ (answers : ℕ → Bool → Type 0) where
  pub answers_begin : HaveAnswers answers 0 (0 ∷ 0 ∷ 0 ∷ 0 ∷ [])
  answers_begin = record {
    four = refl;
    fit = All-replicate (λ (w : ℕ). w < 2 ^ 64) 4 0 (lit< tt);
    done = λ k low. absurd (omega arith);
    waiting = λ k _. has_bit-zeros 4 k;
  }

  pub answered_no : (b : ℕ) (words : List ℕ) → HaveAnswers answers b words → answers b false → HaveAnswers answers (b + 1) words
  answered_no b words have holds = record {
    four = have.four;
    fit = have.fit;
    done = λ k low. elim (cases_lt k b) [
      | inl before ↦ have.done k before
      | inr past ↦
          let e : b ≡ k = omega arith in
          subst (λ (x : Bool). answers k x) (sym (have.waiting k past)) (subst (λ (n : ℕ). answers n false) e holds)
    ];
    waiting = λ k past. have.waiting k (omega arith);
  }

  pub answered_yes : (b : ℕ) (words : List ℕ) → b < 256 → HaveAnswers answers b words → answers b true
      → HaveAnswers answers (b + 1) (set words (b / 64) (bit_or (get_or words (b / 64) 0) (1 * 2 ^ (b % 64) % 2 ^ 64)))
  answered_yes b words low have holds =
      let word = get_or words (b / 64) 0 in
      let new = bit_or word (1 * 2 ^ (b % 64) % 2 ^ 64) in
      let within : b / 64 < length words = omega (arith, have.four) in
      let bit : IsWithBit word new (b % 64) true = with_one_more word (b % 64) (omega arith) in
      let fits : new < 2 ^ 64 = or_lt 64 word (1 * 2 ^ (b % 64) % 2 ^ 64)
      (All-get_or (λ (w : ℕ). w < 2 ^ 64) words (b / 64) 0 within have.fit) (mod-lt (1 * 2 ^ (b % 64)) (lit< tt)) in
      record {
        four = length-set words (b / 64) new ∙ have.four;
        fit = All-set (λ (w : ℕ). w < 2 ^ 64) words (b / 64) new fits have.fit;
        done = λ k before. elim (cases_eq k b) [
          | inl same ↦
              subst (λ (n : ℕ). answers n (has_bit (set words (b / 64) new) n)) (sym same)
              (subst (λ (x : Bool). answers b x) (sym (has_bit-set_same words b new true bit within)) holds)
          | inr other ↦
              subst (λ (x : Bool). answers k x) (sym (has_bit-set_other words b new true bit within k other)) (have.done k (omega arith))
        ];
        waiting = λ k past. has_bit-set_other words b new true bit within k (λ same. omega arith) ∙ have.waiting k (omega arith);
      }

  pub answered_all : (b : ℕ) (words : List ℕ) (f : ℕ → Bool) → 256 ≤ b → HaveAnswers answers b words →
      TestsAs answers f → set_of_bits words ≡ set_of f
  unfolding set_of_bits
  answered_all b words f all have agree = set_of-agree (has_bit words) f
      (λ k low. agree k (has_bit words k) low (have.done k (omega arith)))
