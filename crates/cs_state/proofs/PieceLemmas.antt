-- Reads of a piece in memory.
use Rattle.std.proofs.Common.{◌≡◌, ◌∙◌, ◌≤◌, ◌<◌, ℕ, zero, suc, ◌+◌, ◌-◌, ◌*◌, ◌/◌, ◌%◌, min, List, [], ◌∷◌, ◌++◌, length, take, drop, refl, sym, ap, arith, Option, Some, None, option_map, Ok, length-append, length-drop, length-take}
use Rattle.std.proofs.lemmas.List.{drop-drop, take_at}
use Rattle.cs_tree.specs.Store.{GivesAt, ReadShows, part_of}
use Rattle.cs_state.specs.Sums.{piece_len, piece_of}
use Rattle.cs_state.proofs.StoreLemmas.{part_of_first}

cut : (xs : List ℕ) (k : ℕ) → take k xs ≡ take (length (take k xs)) xs
cut xs zero = refl
cut [] (suc k) = refl
cut (x ∷ xs) (suc k) = ap (λ (ys : List ℕ). x ∷ ys) (cut xs k)

-- a part of what was read at an offset, whether or not the bytes end first
part_in : (bytes piece : List ℕ) (start most at len : ℕ) → piece ≡ part_of bytes start most → start ≤ at → at - start + len ≤ length piece →
    part_of piece (at - start) len ≡ part_of bytes at len
part_in bytes piece start most at len is from within =
    let whole : start + (at - start) ≡ at = omega (arith, from) in
    let all : piece ≡ take (length piece) (drop start bytes) = is ∙ cut (drop start bytes) most ∙ ap (λ p. part_of bytes start (length p)) (sym is) in
    ap (λ p. part_of p (at - start) len) all ∙ part_of_first (length piece) (at - start) len (drop start bytes) (omega (arith, within))
    ∙ ap (take len) (drop-drop (at - start) start bytes) ∙ ap (λ n. part_of bytes n len) whole

module _ (bytes piece buf : List ℕ) (at from n : ℕ) (is : piece ≡ piece_of bytes (at / piece_len)) (begin : from ≡ min (length piece) (at % piece_len))
    (many : n ≡ min (length piece - from) (length buf)) where
  -- the bytes of the piece are those at the offset
  part_there : (k : ℕ) → n ≡ k → part_of piece from k ≡ part_of bytes at k
  unfolding piece_of
  part_there zero e = refl
  part_there (suc k) e =
      let start = piece_len * (at / piece_len) in
      let same : from ≡ at - start = omega (arith, begin, many, e) in
      ap (λ m. part_of piece m (suc k)) same
      ∙ part_in bytes piece start piece_len at (suc k) is (omega arith) (omega (arith, begin, many, e))

  size : length (part_of piece from n) ≡ n
  size =
      let t = length-take n (drop from piece) in
      let d = length-drop from piece in
      omega (arith, t, d, many)

  -- there is none only at the end
  at_end : n ≡ 0 → 0 < length (part_of piece from n ++ drop n buf) → length bytes ≤ at
  unfolding piece_of
  at_end none left =
      let a = length-append (part_of piece from n) (drop n buf) in
      let b = length-drop n buf in
      let p = ap length is ∙ length-take piece_len (drop (piece_len * (at / piece_len)) bytes) in
      let d = length-drop (piece_len * (at / piece_len)) bytes in
      omega (arith, a, b, p, d, size, none, left, many, begin)

  gives_piece : GivesAt bytes at (part_of piece from n ++ drop n buf) n
  gives_piece = (take_at (part_of piece from n) (drop n buf) n size ∙ part_there n refl, at_end)

pub shows_piece : (len at from n : ℕ) (model : Option (List ℕ)) (piece buf : List ℕ) →
    ((all : List ℕ) → model ≡ Some all → piece ≡ piece_of (take len all) (at / piece_len)) → from ≡ min (length piece) (at % piece_len) →
    n ≡ min (length piece - from) (length buf) → ReadShows (option_map (take len) model) at (Ok n) (part_of piece from n ++ drop n buf)
shows_piece len at from n None piece buf is begin many = tt
shows_piece len at from n (Some all) piece buf is begin many = gives_piece (take len all) piece buf at from n (is all refl) begin many
