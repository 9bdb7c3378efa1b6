-- Decoding inverts the encoding of varints and of posting lists.
use Rattle.std.proofs.Common.{◌≡◌, Bool, eqb, ℕ, zero, suc, ◌+◌, ◌-◌, ◌*◌, ◌/◌, ◌%◌, ◌^◌, ◌<◌, true, false, cond, ltb, ◌&&◌, List, [], ◌∷◌, ◌++◌, length, ap, subst, ◌∙◌, inl, inr, Some, None, arith, append_assoc}
use Rattle.std.proofs.lemmas.List.{append-nil}
use Rattle.cs_index.specs.AscendingIds.{AscendWithin, next_after}
use Rattle.cs_index.specs.PostingLists.{varint_at, read_varint, Ids, damage, onto, read_ids}
use Rattle.cs_index.specs.StoredLists.{before}
use Rattle.std.proofs.lemmas.Bool.{lt-ltb, le-ltb, cases_lt, and_from}
use Rattle.std.proofs.Math.Nat.{pow-succ'}
use Rattle.std.specs.Prelude.{Option, option_map, option_and_then, flat_map}
use Rattle.cs_index.specs.Encoding.{varint, varint_within, deltas_from}

-- ---- the steps of reading a number and an id

abbrev pub below_limit : ℕ × List ℕ → Option (ℕ × List ℕ)
below_limit found = cond (ltb found.0 (2 ^ 32)) (Some found) None

abbrev pub is_zero : Option (ℕ × List ℕ) → Bool
is_zero None = false
is_zero (Some found) = eqb found.0 0

abbrev pub after_delta : ℕ → ℕ → (ℕ → List ℕ → Ids) → Option (ℕ × List ℕ) → Ids
after_delta name_count next more None = damage
after_delta name_count next more (Some found) =
    cond (ltb 0 found.0 && ltb (next + found.0) (name_count + 1)) (onto (next + found.0 - 1) (more (next + found.0) found.1)) damage

-- ---- numbers

quotient_below : (n p : ℕ) → n < 128 * p → n / 128 < p
quotient_below n p h = omega (arith, h)

pub varint_back : (room n : ℕ) (rest : List ℕ) → n < 128 ^ suc room →
    varint_at (suc room) (varint_within (suc room) n ++ rest) ≡ Some (n, rest)
varint_back zero n rest h =
    let small : ltb n 128 ≡ true = lt-ltb n 128 h in
    ap (λ b. varint_at 1 (cond b (n ∷ []) ((n % 128 + 128) ∷ varint_within 0 (n / 128)) ++ rest)) small
    ∙ ap (λ b. cond b (Some (n, rest)) (option_map (λ (high : ℕ × List ℕ). (n - 128 + 128 * high.0, high.1)) (varint_at 0 rest))) small
varint_back (suc room) n rest h =
    elim (cases_lt n 128) [
      | inl less ↦
          let small : ltb n 128 ≡ true = lt-ltb n 128 less in
          ap (λ b. varint_at (suc (suc room)) (cond b (n ∷ []) ((n % 128 + 128) ∷ varint_within (suc room) (n / 128)) ++ rest)) small
          ∙ ap (λ b. cond b (Some (n, rest)) (option_map (λ (high : ℕ × List ℕ). (n - 128 + 128 * high.0, high.1))
          (varint_at (suc room) rest))) small
      | inr more ↦
          let large : ltb n 128 ≡ false = le-ltb n 128 more in
          let top : ltb (n % 128 + 128) 128 ≡ false = le-ltb (n % 128 + 128) 128 (omega arith) in
          let less : n / 128 < 128 ^ suc room = quotient_below n (128 ^ suc room) (subst (λ m. n < m) (pow-succ' 128 (suc room)) h) in
          ap (λ b. varint_at (suc (suc room)) (cond b (n ∷ []) ((n % 128 + 128) ∷ varint_within (suc room) (n / 128)) ++ rest)) large
          ∙ ap (λ b. cond b (Some (n % 128 + 128, varint_within (suc room) (n / 128) ++ rest))
          (option_map (λ (high : ℕ × List ℕ). (n % 128 + 128 - 128 + 128 * high.0, high.1))
          (varint_at (suc room) (varint_within (suc room) (n / 128) ++ rest)))) top
          ∙ ap (option_map (λ (high : ℕ × List ℕ). (n % 128 + 128 - 128 + 128 * high.0, high.1))) (varint_back room (n / 128) rest less)
          ∙ ap (λ m. Some (m, rest)) (let whole : n % 128 + 128 - 128 + 128 * (n / 128) ≡ n = omega arith in whole)
    ]

pub varint_read : (n : ℕ) (rest : List ℕ) → n < 2 ^ 32 → read_varint (varint n ++ rest) ≡ Some (n, rest)
unfolding varint
varint_read n rest h =
    ap (option_and_then below_limit) (varint_back 4 n rest (let far : n < 34359738368 = omega (arith, h) in far))
    ∙ ap (λ b. cond b (Some (n, rest)) None) (lt-ltb n 4294967296 h)

-- encoded ids are read back
pub read_prefix : (name_count next more : ℕ) (ids rest : List ℕ) → name_count < 2 ^ 32 → AscendWithin name_count next ids →
    read_ids name_count (length ids + more) next (flat_map varint (deltas_from next ids) ++ rest)
    ≡ before ids (read_ids name_count more (next_after next ids) rest)
read_prefix name_count next more [] rest bound up =
    let none : 0 + more ≡ more = omega arith in ap (λ n. read_ids name_count n next rest) none
read_prefix name_count next more (id ∷ ids) rest bound up =
    let delta : ℕ = id + 1 - next in
    let fits : delta < 2 ^ 32 = omega (arith, bound, up.1) in
    let at : next + delta ≡ id + 1 = omega (arith, up.0) in
    let one : suc (length ids) + more ≡ suc (length ids + more) = omega arith in
    ap (λ n. read_ids name_count n next (flat_map varint (deltas_from next (id ∷ ids)) ++ rest)) one
    ∙ ap (after_delta name_count next (read_ids name_count (length ids + more)))
    (ap read_varint (append_assoc (varint delta) (flat_map varint (deltas_from (id + 1) ids)) rest) ∙ varint_read delta _ fits)
    ∙ ap (λ b. cond b (onto (next + delta - 1)
    (read_ids name_count (length ids + more) (next + delta) (flat_map varint (deltas_from (id + 1) ids) ++ rest)))
    damage)
    (and_from (ltb 0 delta) (ltb (next + delta) (name_count + 1)) (lt-ltb 0 delta (omega (arith, up.0)))
    (lt-ltb (next + delta) (name_count + 1) (omega (arith, at, up.1))))
    ∙ ap (λ m. onto (m - 1) (read_ids name_count (length ids + more) m (flat_map varint (deltas_from (id + 1) ids) ++ rest))) at
    ∙ ap (onto (id + 1 - 1)) (read_prefix name_count (id + 1) more ids rest bound up.2)
    ∙ ap (λ m. onto m (before ids (read_ids name_count more (next_after (id + 1) ids) rest)))
    (let back : id + 1 - 1 ≡ id = omega arith in back)

-- an encoded list is read back whole
pub ids_read : (name_count next : ℕ) (ids rest : List ℕ) → name_count < 2 ^ 32 → AscendWithin name_count next ids →
    read_ids name_count (length ids) next (flat_map varint (deltas_from next ids) ++ 0 ∷ rest)
    ≡ record { ids = ids; whole = true }
ids_read name_count next ids rest bound up =
    ap (λ n. read_ids name_count n next (flat_map varint (deltas_from next ids) ++ 0 ∷ rest))
    (let all : length ids ≡ length ids + 0 = omega arith in all)
    ∙ read_prefix name_count next 0 ids (0 ∷ rest) bound up
    ∙ ap (λ (is : List ℕ). let r : Ids = record { ids = is; whole = true } in r) (append-nil ids)
