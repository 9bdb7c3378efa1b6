-- Sums of pieces.
use Rattle.std.proofs.Common.{◌≡◌, ◌≤◌, ◌<◌, ℕ, zero, suc, ◌+◌, ◌-◌, ◌*◌, ◌/◌, ◌%◌, List, [], ◌∷◌, ◌++◌, append_assoc, length, take, drop, map, fold, min, bytes_eq, Bool, eqb, not, true, false, refl, sym, ap, ◌∙◌, arith}
use Rattle.std.specs.Int.{div_ceil, from_le_bytes, w64}
use Rattle.std.specs.Prelude.{OnOk, Result, Ok, Err}
use Rattle.std.specs.Simd.{first_chunks}
use Rattle.std.proofs.lemmas.Bool.{false≢true}
use Rattle.std.proofs.lemmas.List.{drop-append-le, drop-drop, drop_at, length-append, length-drop, map_push, take-append-le, take_all}
use Rattle.std.proofs.lemmas.List.Sums.{fold_push}
use Rattle.std.proofs.lemmas.Slice.Eq.{bytes_eq-Decides}
use Rattle.cs_tree.specs.Store.{part_of}
use Rattle.cs_state.specs.Sums.{IsTested, hash_of, piece_count, piece_len, piece_of, sum_at, sum_of, sums_of, sums_within, with_word}
use Rattle.cs_state.specs.declared.state_key.StateKey.{StateKey}
use Rattle.cs_state.specs.declared.state_key.StateSeal.{StateSeal}
use Rattle.cs_state.proofs.StoreLemmas.{part_within_first}

pub some_items : (n : ℕ) → eqb n 0 ≡ false → 0 < n
some_items zero h = absurd (false≢true (sym h))
some_items (suc n) h = omega arith

pub not_false : (b : Bool) → not b ≡ false → b ≡ true
not_false true h = refl
not_false false h = sym h

-- one chunk more
chunks_more : (n k : ℕ) (xs : List ℕ) → first_chunks n (suc k) xs ≡ first_chunks n k xs ++ take n (drop (k * n) xs) ∷ []
chunks_more n zero xs = let none : 0 ≡ 0 * n = omega arith in ap (λ m. take n (drop m xs) ∷ []) none
chunks_more n (suc k) xs =
    let at : n + k * n ≡ suc k * n = omega arith in
    ap (λ (l : List (List ℕ)). take n xs ∷ l) (chunks_more n k (drop n xs))
    ∙ ap (λ (l : List ℕ). take n xs ∷ (first_chunks n k (drop n xs) ++ take n l ∷ [])) (drop-drop (k * n) n xs ∙ ap (λ m. drop m xs) at)

module _ (key : StateKey) (piece : List ℕ) where
  abbrev whole : ℕ
  whole = length piece / 8

  abbrev hashed : ℕ
  hashed = fold (with_word key) key.first (map (from_le_bytes w64) (first_chunks 8 whole piece))

  pub all_hashed : (words : List (List ℕ)) (n hash : ℕ) → length words ≤ n → words ≡ first_chunks 8 whole piece →
      hash ≡ fold (with_word key) key.first (map (from_le_bytes w64) (take n words)) → hash ≡ hashed
  all_hashed words n hash all is so_far =
      so_far ∙ ap (λ (l : List (List ℕ)). fold (with_word key) key.first (map (from_le_bytes w64) l)) (take_all n words all ∙ is)

  -- a piece of whole words
  pub hash_whole : length piece % 8 ≡ 0 → hashed ≡ hash_of key piece
  unfolding hash_of
  hash_whole none =
      let count : whole ≡ div_ceil (length piece) 8 = omega (arith, none) in
      ap (λ n. fold (with_word key) key.first (map (from_le_bytes w64) (first_chunks 8 n piece))) count

  -- one with a rest
  pub hash_rest : (rest : List ℕ) → rest ≡ drop (whole * 8) piece → 0 < length rest →
      with_word key hashed (from_le_bytes w64 rest) ≡ hash_of key piece
  unfolding hash_of
  hash_rest rest is some =
      let size = ap length is ∙ length-drop (whole * 8) piece in
      let count : suc whole ≡ div_ceil (length piece) 8 = omega (arith, size, some) in
      let last : take 8 (drop (whole * 8) piece) ≡ rest = ap (take 8) (sym is) ∙ take_all 8 rest (omega (arith, size)) in
      let words = chunks_more 8 whole piece ∙ ap (λ (l : List ℕ). first_chunks 8 whole piece ++ l ∷ []) last in
      sym (fold_push (with_word key) key.first (map (from_le_bytes w64) (first_chunks 8 whole piece)) (from_le_bytes w64 rest))
      ∙ ap (fold (with_word key) key.first) (sym (map_push (from_le_bytes w64) (first_chunks 8 whole piece) rest)
      ∙ ap (map (from_le_bytes w64)) (sym words ∙ ap (λ n. first_chunks 8 n piece) count))

-- ---- the sums of a state

sum_len : (seal : StateSeal) (number : ℕ) (is_last : Bool) (piece : List ℕ) → length (sum_of seal number is_last piece) ≡ 8
unfolding sum_of
sum_len seal number is_last piece = refl

pub sums_len : (seal : StateSeal) (bytes : List ℕ) (count : ℕ) → length (sums_within seal bytes count) ≡ 8 * count
sums_len seal bytes zero = refl
sums_len seal bytes (suc count) =
    let a = length-append (sums_within seal bytes count) (sum_of seal count false (piece_of bytes count)) in
    let s = sum_len seal count false (piece_of bytes count) in
    let less = sums_len seal bytes count in
    omega (arith, a, s, less)

-- a whole piece does not depend on what follows
piece_within : (bytes more : List ℕ) (number : ℕ) → piece_len * suc number ≤ length bytes → piece_of (bytes ++ more) number ≡ piece_of bytes number
unfolding piece_of
piece_within bytes more number within =
    let at = piece_len * number in
    let d = length-drop at bytes in
    ap (take piece_len) (drop-append-le at bytes more (omega (arith, within)))
    ∙ take-append-le piece_len (drop at bytes) more (omega (arith, d, within))

pub sums_more : (seal : StateSeal) (bytes more : List ℕ) (count : ℕ) → piece_len * count ≤ length bytes →
    sums_within seal (bytes ++ more) count ≡ sums_within seal bytes count
sums_more seal bytes more zero within = refl
sums_more seal bytes more (suc count) within = λ i.
    sums_more seal bytes more count (omega (arith, within)) i ++ sum_of seal count false (piece_within bytes more count within i)

-- the piece after whole ones
piece_after : (sent piece : List ℕ) (count : ℕ) → length sent ≡ piece_len * count → length piece ≤ piece_len → piece_of (sent ++ piece) count ≡ piece
unfolding piece_of
piece_after sent piece count size short = ap (take piece_len) (drop_at sent piece (piece_len * count) size) ∙ take_all piece_len piece short

module _ (seal : StateSeal) (sent : List ℕ) (count : ℕ) (size : length sent ≡ piece_len * count) where
  pub sums_whole : sums_of seal sent ≡ sums_within seal sent count
  unfolding sums_of
  sums_whole =
      let n : piece_count (length sent) ≡ count = omega (arith, size) in
      ap (sums_within seal sent) n

  sums_push : (piece : List ℕ) → 0 < length piece → length piece ≤ piece_len →
      sums_of seal (sent ++ piece) ≡ sums_within seal sent count ++ sum_of seal count false piece
  unfolding sums_of
  sums_push piece some short =
      let e = length-append sent piece in
      let n : piece_count (length (sent ++ piece)) ≡ suc count = omega (arith, e, size, some, short) in
      ap (sums_within seal (sent ++ piece)) n
      ∙ (λ i. sums_more seal sent piece count (omega (arith, size)) i ++ sum_of seal count false (piece_after sent piece count size short i))

  pub sums_sent : (piece sums new sum : List ℕ) (number : ℕ) → 0 < length piece → length piece ≤ piece_len → sums ≡ sums_within seal sent count →
      new ≡ sums ++ sum → sum ≡ sum_of seal number false piece → number ≡ count → new ≡ sums_of seal (sent ++ piece)
  sums_sent piece sums new sum number some short before grown is at =
      grown ∙ (λ i. before i ++ (is ∙ ap (λ n. sum_of seal n false piece) at) i) ∙ sym (sums_push piece some short)

pub all_sums_len : (seal : StateSeal) (bytes : List ℕ) → length (sums_of seal bytes) ≡ 8 * piece_count (length bytes)
unfolding sums_of
all_sums_len seal bytes = sums_len seal bytes (piece_count (length bytes))

pub regrouped : (before a b c d : List ℕ) → (((before ++ a) ++ b) ++ c) ++ d ≡ before ++ (((a ++ b) ++ c) ++ d)
regrouped before a b c d = simp append_assoc

-- ---- the sums that are read

-- a piece whose sum was compared
pub is_tested : (seal : StateSeal) (bytes piece sum : List ℕ) (len number : ℕ) →
    piece ≡ part_of bytes (number * piece_len) (min piece_len (len - number * piece_len)) → sum ≡ part_of bytes (len + 8 * number) 8 →
    bytes_eq sum (sum_of seal number false piece) ≡ true → IsTested seal bytes len number piece
unfolding sum_at piece_of
is_tested seal bytes piece sum len number is there same =
    let e : number * piece_len ≡ piece_len * number = omega arith in
    let at = is ∙ part_within_first len (number * piece_len) piece_len bytes ∙ ap (λ n. part_of (take len bytes) n piece_len) e in (
      at,
      sym there ∙ (bytes_eq-Decides sum (sum_of seal number false piece)).0 same ∙ ap (sum_of seal number false) at,
    )

-- ---- sealing

pub on_ok : {T E A B : Type 0} (result : Result T E) → (A → B) → OnOk result A → OnOk result B
on_ok (Ok x) so a = so a
on_ok (Err e) so a = tt
