-- Appending an id to a stream.
use Rattle.std.proofs.Common.{◌≡◌, ℕ, suc, ◌+◌, ◌-◌, ◌*◌, ◌/◌, ◌%◌, ◌^◌, ◌<◌, ◌≤◌, cond, List, [], ◌∷◌, ◌++◌, length, refl, sym, ap, subst, ◌∙◌, arith, append_assoc, length-append, take, set}
use Rattle.cs_index.specs.AscendingIds.{max_ids, next_after, AscendWithin}
use Rattle.cs_index.specs.PostingLists.{Ids}
use Rattle.std.proofs.lemmas.Bool.{lt-ltb, le-ltb}
use Rattle.std.proofs.lemmas.List.{take_more_set}
use Rattle.std.proofs.Math.Nat.{mul-le-mul_right}
use Rattle.std.specs.Prelude.{flat_map}
use Rattle.cs_index.specs.Encoding.{varint, varint_within, deltas_from, stream_of}
use Rattle.cs_index.specs.IdStream.{ids_in, IsStream}
use Rattle.cs_index.proofs.encoding.VarintRoundtrip.{ids_read}

pub decoded-stream_of : (ids : List ℕ) → AscendWithin max_ids 0 ids → ids_in (stream_of ids) (length ids) ≡ ids
unfolding ids_in
decoded-stream_of ids up = ap (λ (r : Ids). r.ids) (ids_read max_ids 0 ids [] (omega arith) up)

-- the stream that encodes ids
pub stream_from : (ids : List ℕ) → AscendWithin max_ids 0 ids → IsStream (stream_of ids) (length ids) (next_after 0 ids)
stream_from ids up =
    let is : ids_in (stream_of ids) (length ids) ≡ ids = decoded-stream_of ids up in
    record {
      written = ap stream_of (sym is);
      counted = ap length (sym is);
      rise = subst (AscendWithin max_ids 0) (sym is) up;
      follows = ap (next_after 0) (sym is);
    }

-- ---- several ids appended to a stream

written_append : (next : ℕ) (xs ys : List ℕ) → flat_map varint (deltas_from next (xs ++ ys))
    ≡ flat_map varint (deltas_from next xs) ++ flat_map varint (deltas_from (next_after next xs) ys)
written_append next [] ys = refl
written_append next (x ∷ xs) ys = ap (λ rest. varint (x + 1 - next) ++ rest) (written_append (x + 1) xs ys)
    ∙ sym (append_assoc (varint (x + 1 - next)) _ _)

pub rise_append : (name_count next : ℕ) (xs ys : List ℕ) → AscendWithin name_count next xs →
    AscendWithin name_count (next_after next xs) ys → AscendWithin name_count next (xs ++ ys)
rise_append name_count next [] ys up more = more
rise_append name_count next (x ∷ xs) ys up more = (up.0, up.1, rise_append name_count (x + 1) xs ys up.2 more)

pub next_append : (next : ℕ) (xs ys : List ℕ) → next_after next (xs ++ ys) ≡ next_after (next_after next xs) ys
next_append next [] ys = refl
next_append next (x ∷ xs) ys = next_append (x + 1) xs ys

-- the number of ids is at most one more than the last id
pub rise_length : (name_count next : ℕ) (ids : List ℕ) → AscendWithin name_count next ids → next + length ids ≤ next_after next ids
rise_length name_count next [] up = omega arith
rise_length name_count next (id ∷ ids) up = let rest = rise_length name_count (id + 1) ids up.2 in omega (arith, rest, up.0)

next_within : (next : ℕ) (ids : List ℕ) → AscendWithin max_ids next ids → next ≤ max_ids → next_after next ids ≤ max_ids
next_within next [] up h = h
next_within next (id ∷ ids) up h = next_within (id + 1) ids up.2 (omega (arith, up.1))

pub record Extended (stream : List ℕ) (count next : ℕ) (more bytes : List ℕ) : Type 0 where
  pub is : IsStream (stream ++ bytes) (count + length more) (next_after next more)
  pub ids : ids_in (stream ++ bytes) (count + length more) ≡ ids_in stream count ++ more
  pub bound : count + length more ≤ max_ids

pub stream_more : (stream : List ℕ) (count next : ℕ) (more : List ℕ) → IsStream stream count next →
    AscendWithin max_ids next more → Extended stream count next more (flat_map varint (deltas_from next more))
stream_more stream count next more h rise =
    let ids : List ℕ = ids_in stream count in
    let all : List ℕ = ids ++ more in
    let up : AscendWithin max_ids 0 all = rise_append max_ids 0 ids more h.rise (subst (λ n. AscendWithin max_ids n more) h.follows rise) in
    let bytes : stream ++ flat_map varint (deltas_from next more) ≡ stream_of all =
    ap (λ n. stream ++ flat_map varint (deltas_from n more)) h.follows
    ∙ ap (λ s. s ++ flat_map varint (deltas_from (next_after 0 ids) more)) h.written
    ∙ sym (written_append 0 ids more) in
    let many : count + length more ≡ length all = ap (λ n. n + length more) h.counted ∙ sym (length-append ids more) in
    let at : next_after 0 all ≡ next_after next more = next_append 0 ids more ∙ ap (λ n. next_after n more) (sym h.follows) in
    record {
      is = subst (λ s. IsStream s (count + length more) (next_after next more)) (sym bytes)
          (subst (λ n. IsStream (stream_of all) n (next_after next more)) (sym many)
          (subst (IsStream (stream_of all) (length all)) at (stream_from all up)));
      ids = ap (λ s. ids_in s (count + length more)) bytes ∙ ap (ids_in (stream_of all)) many ∙ decoded-stream_of all up;
      bound = omega (arith, many, rise_length max_ids 0 all up, next_within 0 all up (omega arith));
    }

-- ---- the bytes of a varint
more_groups : (room n : ℕ) → 128 ≤ n → varint_within (suc room) n ≡ (n % 128 + 128) ∷ varint_within room (n / 128)
more_groups room n h = ap (λ b. cond b (n ∷ []) ((n % 128 + 128) ∷ varint_within room (n / 128))) (le-ltb n 128 h)

last_group : (room n : ℕ) → n < 128 → varint_within (suc room) n ≡ n ∷ []
last_group room n h = ap (λ b. cond b (n ∷ []) ((n % 128 + 128) ∷ varint_within room (n / 128))) (lt-ltb n 128 h)

pub short_varint : (n : ℕ) → n < 128 → varint n ≡ n ∷ []
unfolding varint
short_varint n h = last_group 4 n h

pub group_first : (n : ℕ) (bytes : List ℕ) → varint n ≡ take 0 bytes ++ varint_within (5 - 0) n
unfolding varint
group_first n bytes = refl

pub group_more : (n at rest : ℕ) (bytes : List ℕ) → at < 4 → at < length bytes → 128 ≤ rest → varint n ≡ take at bytes
    ++ varint_within (5 - at) rest → varint n ≡ take (at + 1) (set bytes at (rest % 128 + 128))
    ++ varint_within (5 - (at + 1)) (rest / 128)
group_more n at rest bytes bound within large so_far =
    let room : 5 - at ≡ suc (5 - (at + 1)) = omega (arith, bound) in
    so_far
    ∙ ap (λ k. take at bytes ++ varint_within k rest) room
    ∙ ap (λ groups. take at bytes ++ groups) (more_groups (5 - (at + 1)) rest large)
    ∙ sym (append_assoc (take at bytes) ((rest % 128 + 128) ∷ []) (varint_within (5 - (at + 1)) (rest / 128)))
    ∙ ap (λ prefix. prefix ++ varint_within (5 - (at + 1)) (rest / 128)) (sym (take_more_set bytes at (rest % 128 + 128) within))

pub group_end : (n at rest : ℕ) (bytes : List ℕ) → at ≤ 4 → at < length bytes → rest < 128 → varint n ≡ take at bytes
    ++ varint_within (5 - at) rest → varint n ≡ take (at + 1) (set bytes at rest)
group_end n at rest bytes bound within small so_far =
    let room : 5 - at ≡ suc (5 - (at + 1)) = omega (arith, bound) in
    so_far
    ∙ ap (λ k. take at bytes ++ varint_within k rest) room
    ∙ ap (λ groups. take at bytes ++ groups) (last_group (5 - (at + 1)) rest small)
    ∙ sym (take_more_set bytes at rest within)

pub small_more : (n rest p : ℕ) → rest * p ≤ n → rest / 128 * (p * 128) ≤ n
small_more n rest p h =
    let part : rest / 128 * 128 ≤ rest = omega arith in
    let less : rest / 128 * 128 * p ≤ rest * p = mul-le-mul_right p part in
    let turn : rest / 128 * (p * 128) ≡ rest / 128 * 128 * p = omega arith in
    omega (arith, less, turn, h)

pub four_groups : (n len rest : ℕ) → n < 2 ^ 32 → len ≤ 4 → 4 ≤ len → rest * 128 ^ len ≤ n → rest < 128
four_groups n len rest bound at_limit at_least h =
    let at : len ≡ 4 = omega (arith, at_limit, at_least) in
    let h' : rest * 268435456 ≤ n = subst (λ l. rest * 128 ^ l ≤ n) at h in
    omega (arith, h', bound)
