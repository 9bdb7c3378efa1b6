-- Spans of a line that a tree matches.
use Rattle.std.proofs.Common.{◌≡◌, ℕ, zero, suc, ◌+◌, ◌/◌, ◌%◌, ◌<◌, ◌≤◌, inl, inr, Bool, true, ◌||◌, List, [], ◌∷◌, length, get_or, refl, sym, ap, ◌∙◌, subst, arith}
use Rattle.std.specs.Prelude.{Option, Result, Ok, Err, OnOk, nat_le}
use Rattle.std.proofs.lemmas.Bool.{cases_lt, le-leb, and_left, false≢true}
use Rattle.std.proofs.Math.Bool.{or-true}
use Rattle.cs_syntax.specs.Characters.{OccursBetween, has_char, is_scalar}
use Rattle.cs_syntax.specs.Ranges.{is_in_ranges}
use Rattle.cs_syntax.proofs.CharSetLemmas.{scalar_cases}
use Rattle.std.specs.Char.{encode_utf8}
use Rattle.cs_syntax.specs.Matching.{Tree, Trees, empty, one_of, one_char, cat, alt, rep, line_start, line_end, word_edge, not_word_edge, none, more, member, Chain, MatchesSpan, MatchesSequence, MatchesBranch}
use Rattle.cs_syntax.proofs.EncodingLemmas.{occurs_within, occurs_split, occurs_byte, encoding, one_byte, two_bytes, three_bytes, four_bytes}

-- a span that begins within the line ends within it
module _ (s : List ℕ) where
  chain_within : (R : ℕ → ℕ → Type 0) → ((i j : ℕ) → R i j → i ≤ length s → j ≤ length s) → (k i j : ℕ) →
      Chain R k i j → i ≤ length s → j ≤ length s
  chain_within R each zero i j h le = omega (arith, h)
  chain_within R each (suc k) i j h le = chain_within R each k h.0 j h.2 (each i h.0 h.1 le)

  mutual
    pub within : (t : Tree) (i j : ℕ) → MatchesSpan s t i j → i ≤ length s → j ≤ length s
    within empty i j h le = omega (arith, h)
    within (one_of set) i j h le = omega (arith, h.0, h.2)
    within (one_char runs) i j h le = occurs_within s (encode_utf8 h.0) i j h.2 le
    within (cat ts) i j h le = within_all ts i j h le
    within (alt ts) i j h le = within_some ts i j h le
    within (rep x n m) i j h le = chain_within (MatchesSpan s x) (within x) h.0 i j h.3 le
    within line_start i j h le = omega (arith, h.1)
    within line_end i j h le = omega (arith, h.1)
    within word_edge i j h le = omega (arith, h.0)
    within not_word_edge i j h le = omega (arith, h.0)

    within_all : (ts : Trees) (i j : ℕ) → MatchesSequence s ts i j → i ≤ length s → j ≤ length s
    within_all none i j h le = omega (arith, h)
    within_all (more t ts) i j h le = within_all ts h.0 j h.2 (within t i h.0 h.1 le)

    within_some : (ts : Trees) (i j : ℕ) → MatchesBranch s ts i j → i ≤ length s → j ≤ length s
    within_some none i j h le = absurd h
    within_some (more t ts) i j h le = elim h [ inl a ↦ within t i j a le | inr b ↦ within_some ts i j b le ]

  chain_last : (x : Tree) (k i j : ℕ) → Chain (MatchesSpan s x) (suc k) i j → i ≤ length s → (l : ℕ) × (l ≤ length s) × MatchesSpan s x l j
  chain_last x zero i j h le = (i, le, subst (MatchesSpan s x i) h.2 h.1)
  chain_last x (suc k) i j h le = chain_last x k h.0 j h.2 (within x i h.0 h.1 le)

  -- the last of some iterations begins within the line
  pub last_round : (x : Tree) (n : ℕ) (m : Option ℕ) (i j : ℕ) → 0 < n → MatchesSpan s (rep x n m) i j → i ≤ length s →
      (l : ℕ) × (l ≤ length s) × MatchesSpan s x l j
  last_round x n m i j some (zero, le, most, chain) here = absurd (omega arith)
  last_round x n m i j some (suc k, le, most, chain) here = chain_last x k i j chain here

  pub first_round : (x : Tree) (n : ℕ) (m : Option ℕ) (i j : ℕ) → 0 < n → MatchesSpan s (rep x n m) i j → (l : ℕ) × MatchesSpan s x i l
  first_round x n m i j some (zero, le, most, chain) = absurd (omega arith)
  first_round x n m i j some (suc k, le, most, chain) = (chain.0, chain.1)

-- the ends of a character: its first byte, and where its last byte is
abbrev pub CharEnds : List Bool → List ℕ → ℕ → ℕ → Type 0
CharEnds ends s i j = MatchesSpan s (one_of ends) i (suc i) × ((l : ℕ) × (l ≤ length s) × MatchesSpan s (one_of ends) l j)

-- the bits of the first byte of an encoding
abbrev top : ℕ → ℕ → ℕ
top zero n = n
top (suc k) n = top k (n / 64)

module _ (s : List ℕ) (lead : ℕ) where
  first_byte : (k n i j : ℕ) → OccursBetween s (encoding lead k n) i j → (i < length s) × (get_or s i 0 ≡ lead + top k n)
  first_byte zero n i j h = let o = occurs_byte s (lead + n) i j h in (o.0, o.1)
  first_byte (suc k) n i j h =
      let split = occurs_split s (encoding lead k (n / 64)) ((128 + n % 64) ∷ []) i j h in
      first_byte k (n / 64) i split.0 split.1

  last_byte : (k n i j : ℕ) → OccursBetween s (encoding lead (suc k) n) i j →
      (l : ℕ) × (l < length s) × (get_or s l 0 ≡ 128 + n % 64) × (j ≡ suc l)
  last_byte k n i j h =
      let split = occurs_split s (encoding lead k (n / 64)) ((128 + n % 64) ∷ []) i j h in
      let o = occurs_byte s (128 + n % 64) split.0 j split.2 in
      (split.0, o.0, o.1, o.2)

scalar_bound : (c : ℕ) (ranges : List (ℕ × ℕ)) → has_char ranges c ≡ true → c ≤ 1114111
scalar_bound c ranges has = elim (scalar_cases c) [
  | inl is ↦ elim is.1 [ inl low ↦ omega (arith, low) | inr high ↦ high.1 ]
  | inr other ↦ absurd (false≢true (sym (and_left (is_scalar c) (is_in_ranges ranges c) other.0) ∙ has))
]

module _ (s : List ℕ) (ranges : List (ℕ × ℕ)) (ends : List Bool)
    (is : (b : ℕ) → b < 256 → member ends b ≡ (nat_le 128 b || has_char ranges b)) where
  high : (i b : ℕ) → get_or s i 0 ≡ b → 128 ≤ b → b < 256 → member ends (get_or s i 0) ≡ true
  high i b at le lt = ap (member ends) at ∙ is b lt ∙ ap (λ x. x || has_char ranges b) (le-leb 128 b le)

  ends_from : (lead k n i j : ℕ) → 128 ≤ lead → lead + top (suc k) n < 256 → OccursBetween s (encoding lead (suc k) n) i j →
      CharEnds ends s i j
  ends_from lead k n i j low fits h =
      let first = first_byte s lead (suc k) n i j h in
      let last = last_byte s lead k n i j h in (
        (first.0, high i (lead + top (suc k) n) first.1 (omega (arith, low)) fits, refl),
        (last.0, omega (arith, last.1), (last.1, high last.0 (128 + n % 64) last.2 (omega arith) (omega arith), last.3)),
      )

  pub char_ends : (i j : ℕ) → MatchesSpan s (one_char ranges) i j → CharEnds ends s i j
  char_ends i j (c, has, h) =
      elim (cases_lt c 128) [
        | inl one ↦
            let o = occurs_byte s c i j (subst (λ text. OccursBetween s text i j) (one_byte c one) h) in
            let in_ends : member ends (get_or s i 0) ≡ true =
            ap (member ends) o.1 ∙ is c (omega (arith, one)) ∙ ap (λ x. nat_le 128 c || x) has ∙ or-true (nat_le 128 c) in
            ((o.0, in_ends, refl), (i, omega (arith, o.0), (o.0, in_ends, o.2)))
        | inr more_bytes ↦ elim (cases_lt c 2048) [
          | inl two ↦ ends_from 192 0 c i j (omega arith) (omega (arith, two))
              (subst (λ text. OccursBetween s text i j) (two_bytes c more_bytes (omega (arith, two))) h)
          | inr above ↦ elim (cases_lt c 65536) [
            | inl three ↦ ends_from 224 1 c i j (omega arith) (omega (arith, three))
                (subst (λ text. OccursBetween s text i j) (three_bytes c above (omega (arith, three))) h)
            | inr four ↦ ends_from 240 2 c i j (omega arith) (omega (arith, scalar_bound c ranges has))
                (subst (λ text. OccursBetween s text i j) (four_bytes c four) h)
          ]
        ]
      ]

pub on_ok_both : {T E A B C : Type 0} (r : Result T E) → (A → B → C) → OnOk r A → OnOk r B → OnOk r C
on_ok_both (Ok x) f a b = f a b
on_ok_both (Err e) f a b = tt

pub both_ok : {T E : Type 0} (A B : Type 0) (r : Result T E) → OnOk r A → OnOk r B → OnOk r (A × B)
both_ok A B (Ok x) a b = (a, b)
both_ok A B (Err e) a b = tt
