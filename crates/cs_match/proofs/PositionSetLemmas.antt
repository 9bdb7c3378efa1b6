-- Position sets as bits of words.
use Rattle.std.proofs.Common.{◌≡◌, ℕ, ◌+◌, ◌/◌, ◌%◌, ◌^◌, ◌<◌, Bool, false, List, ◌∷◌, ◌++◌, length, replicate, get_or, set, take, drop, sym, ◌∙◌, ap, inl, inr, arith, ext_get_or, length-set, get_or-set_same, get_or-set_other, lit<, add-one}
use Rattle.std.proofs.lemmas.List.{length-replicate, get_or-replicate, set_split}
use Rattle.std.proofs.lemmas.List.FromFn.{length-map-range_with_len, get_or-map-range_with_len}
use Rattle.std.proofs.lemmas.List.Elements.{All-replicate, All-set}
use Rattle.std.proofs.lemmas.Bool.{cases_eq}
use Rattle.cs_syntax.specs.Bits.{has_bit}
use Rattle.cs_syntax.proofs.BitLemmas.{IsWithBit, has_bit-zeros, has_bit-set_same, has_bit-set_other}
use Rattle.cs_match.specs.PositionSet.{positions_of, IsPositionSet}

pub length-positions_of : (words : List ℕ) (count : ℕ) → length (positions_of words count) ≡ count
unfolding positions_of
length-positions_of words count = length-map-range_with_len (has_bit words) 0 count

pub get_or-positions_of : (words : List ℕ) (count at : ℕ) → at < count → get_or (positions_of words count) at false ≡ has_bit words at
unfolding positions_of
get_or-positions_of words count at h = get_or-map-range_with_len (has_bit words) 0 count at at false h (omega arith)

-- words of zeros are the empty set
pub positions_of-zeros : (n count : ℕ) → positions_of (replicate n 0) count ≡ replicate count false
positions_of-zeros n count = ext_get_or false _ _ (length-positions_of (replicate n 0) count ∙ sym (length-replicate count false)) (λ at h.
    let within : at < count = omega (arith, h, length-positions_of (replicate n 0) count) in
    get_or-positions_of (replicate n 0) count at within ∙ has_bit-zeros n at ∙ sym (get_or-replicate count at false false within))

pub IsPositionSet-zeros : (n count : ℕ) → n ≡ (count + 63) / 64 → IsPositionSet (replicate n 0) count
IsPositionSet-zeros n count e = record {
  enough = length-replicate n 0 ∙ e;
  fit = All-replicate (λ word. word < 2 ^ 64) n 0 (lit< tt);
  no_other = λ at _. has_bit-zeros n at;
}

-- a position below the count, and its word
pub position_within : (words : List ℕ) (count at : ℕ) (positions : List Bool) → positions_of words count
    ≡ positions → at < length positions → at < count
position_within words count at positions e h = omega (arith, h, length-positions_of words count, ap length e)

pub word_within : (words : List ℕ) (count at : ℕ) → IsPositionSet words count → at < count → at / 64 < length words
word_within words count at positions h = omega (arith, positions.enough)

module _ (words : List ℕ) (at new : ℕ) (on : Bool) (bit : IsWithBit (get_or words (at / 64) 0) new (at % 64) on)
    (within : at / 64 < length words) where
  -- the set after one bit is set or cleared
  pub positions_of-set : (count : ℕ) → at < count → positions_of (set words (at / 64) new) count
      ≡ take at (positions_of words count) ++ on ∷ drop (at + 1) (positions_of words count)
  positions_of-set count h = ext_get_or false _ _ size each ∙ set_split (positions_of words count) at on low
      ∙ ap (λ i. take at (positions_of words count) ++ on ∷ drop i (positions_of words count)) (sym (add-one at))
    where
      low : at < length (positions_of words count)
      low = omega (arith, length-positions_of words count)

      size : length (positions_of (set words (at / 64) new) count) ≡ length (set (positions_of words count) at on)
      size = length-positions_of _ count ∙ sym (length-positions_of words count) ∙ sym (length-set (positions_of words count) at on)

      each : (k : ℕ) → k < length (positions_of (set words (at / 64) new) count) →
          get_or (positions_of (set words (at / 64) new) count) k false ≡ get_or (set (positions_of words count) at on) k
          false
      each k inside =
          let k-in : k < count = omega (arith, inside, length-positions_of (set words (at / 64) new) count) in
          get_or-positions_of _ count k k-in ∙ (elim (cases_eq k at) [
            | inl same ↦
                ap (has_bit (set words (at / 64) new)) same ∙ has_bit-set_same words at new on bit within
                ∙ sym (ap (λ i. get_or (set (positions_of words count) at on) i false) same
                ∙ get_or-set_same (positions_of words count) at on false low)
            | inr other ↦
                has_bit-set_other words at new on bit within k other ∙ sym (get_or-positions_of words count k k-in)
                ∙ sym (get_or-set_other (positions_of words count) at k on false other)
          ])

  pub IsPositionSet-set : (count : ℕ) → at < count → new < 2 ^ 64 → IsPositionSet words count →
      IsPositionSet (set words (at / 64) new) count
  IsPositionSet-set count h fits positions = record {
    enough = length-set words (at / 64) new ∙ positions.enough;
    fit = All-set (λ word. word < 2 ^ 64) words (at / 64) new fits positions.fit;
    no_other = λ k past. has_bit-set_other words at new on bit within k (λ same. omega arith) ∙ positions.no_other k past;
  }

-- equal sets have the same number of positions
pub same_count : (a b : List ℕ) (m n : ℕ) (xs ys : List Bool) → positions_of a m ≡ xs → positions_of b n ≡ ys →
    length xs ≡ length ys → m ≡ n
same_count a b m n xs ys of-a of-b same =
    sym (length-positions_of a m) ∙ ap length of-a ∙ same ∙ sym (ap length of-b) ∙ length-positions_of b n

-- equal sets have the same number of words
pub same_length : (a b : List ℕ) (m n : ℕ) (xs ys : List Bool) → IsPositionSet a m → IsPositionSet b n →
    positions_of a m ≡ xs → positions_of b n ≡ ys → length xs ≡ length ys → length a ≡ length b
same_length a b m n xs ys are-a are-b of-a of-b same = omega (arith, same_count a b m n xs ys of-a of-b same, are-a.enough, are-b.enough)
