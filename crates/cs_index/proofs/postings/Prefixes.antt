-- Prefixes of varint deltas, and the deltas of sixteen bytes.
use Rattle.std.proofs.Common.{◌≡◌, ℕ, suc, ◌+◌, ◌-◌, ◌*◌, ◌/◌, ◌^◌, ◌<◌, ◌≤◌, Bool, true, false, not, cond, ◌&&◌, List, [], ◌∷◌, ◌++◌, length, length-append, length-take, take, drop, get_or, refl, sym, ap, subst, ◌∙◌, arith, append_assoc, w8, Fits}
use Rattle.std.specs.Prelude.{flat_map}
use Rattle.std.specs.List.{AllByRecursion}
use Rattle.std.specs.Simd.Lanes.{Each1, sum_l}
use Rattle.std.proofs.lemmas.Bool.{leb-true, leb-false, true≢false}
use Rattle.std.proofs.lemmas.List.{length-drop, take_rest, take_all, take-append-le, take-take, get_or-take, append-nil}
use Rattle.std.proofs.lemmas.Simd.{below_from_Fits}
use Rattle.std.specs.Int.RustNames.{count_ones}
use Rattle.cs_index.specs.Encoding.{varint, deltas_from}
use Rattle.cs_index.specs.AscendingIds.{max_ids, next_after, AscendWithin}
use Rattle.cs_index.specs.IdStream.{ids_by_deltas, IsStream}
use Rattle.cs_index.specs.Prefixes.{IsPrefix}
use Rattle.cs_index.specs.ShortDeltas.{are_short, is_first, second_bytes, short_deltas}
use Rattle.cs_index.specs.declared.encoded_run.Prefix.{Prefix}
use Rattle.cs_index.proofs.postings.StreamPush.{short_varint, stream_from}
use Rattle.cs_index.proofs.postings.EncodedRuns.{joined, two_bytes}
use Rattle.cs_index.proofs.postings.ShortBytes.{bit, deltas_count, deltas_some, deltas_sum, firsts, last_at, last_bit, last_of, parts, second_sum, sum_bounded}

-- ---- prefixes that grow

pub no_prefix : (bytes : List ℕ) (limit room : ℕ) → IsPrefix bytes limit room (record { len = 0; count = 0; next = 0 })
no_prefix bytes limit room = record { stream = stream_from [] tt; within = omega arith; bound = omega arith; below = omega arith }

-- a prefix of the bytes after a prefix
pub longer : (bytes : List ℕ) (limit room len count next : ℕ) (more : Prefix) → room ≤ max_ids →
    IsPrefix bytes limit room (record { len = len; count = count; next = next }) →
    IsPrefix (take (length bytes - len) (drop len bytes)) (limit - count) (room - next) more →
    IsPrefix bytes limit room (record { len = len + more.len; count = count + more.count; next = next + more.next })
longer bytes limit room len count next more fits is on =
    let rest : take (length bytes - len) (drop len bytes) ≡ drop len bytes = take_rest bytes len in
    let here = length-drop len bytes in
    let long = ap length rest in
    record {
      stream = joined bytes len count next more.len more.count more.next is.stream
          (subst (λ bs. IsStream (take more.len bs) more.count more.next) rest on.stream)
          (omega (arith, is.below, on.below, fits));
      within = omega (arith, on.within, long, here, is.within);
      bound = omega (arith, on.bound, is.bound);
      below = omega (arith, on.below, is.below);
    }

pub within_bounds : (bytes : List ℕ) (limit room limit' room' : ℕ) (p : Prefix) → IsPrefix bytes limit room p →
    p.count ≤ limit' → p.next ≤ room' → IsPrefix bytes limit' room' p
within_bounds bytes limit room limit' room' p is bound below =
    record { stream = is.stream; within = is.within; bound = bound; below = below }

-- ---- the stream of positive deltas

abbrev AllSome : List ℕ → Type 0
AllSome deltas = AllByRecursion (λ d. 0 < d) deltas

ids_written : (next : ℕ) (deltas : List ℕ) → AllSome deltas → flat_map varint (deltas_from next (ids_by_deltas next deltas)) ≡ flat_map varint deltas
ids_written next [] some = refl
ids_written next (delta ∷ deltas) some =
    let here : next + delta - 1 + 1 - next ≡ delta = omega (arith, some.0) in
    let on : next + delta - 1 + 1 ≡ next + delta = omega (arith, some.0) in
    (λ i. varint (here i) ++ flat_map varint (deltas_from (on i) (ids_by_deltas (next + delta) deltas)))
    ∙ ap (λ rest. varint delta ++ rest) (ids_written (next + delta) deltas some.1)

ids_last : (next : ℕ) (deltas : List ℕ) → AllSome deltas → next_after next (ids_by_deltas next deltas) ≡ next + sum_l deltas
ids_last next [] some = (let z : next ≡ next + 0 = omega arith in z)
ids_last next (delta ∷ deltas) some =
    let on : next + delta - 1 + 1 ≡ next + delta = omega (arith, some.0) in
    ap (λ n. next_after n (ids_by_deltas (next + delta) deltas)) on ∙ ids_last (next + delta) deltas some.1
    ∙ (let z : next + delta + sum_l deltas ≡ next + (delta + sum_l deltas) = omega arith in z)

ids_counted : (next : ℕ) (deltas : List ℕ) → length (ids_by_deltas next deltas) ≡ length deltas
ids_counted next [] = refl
ids_counted next (delta ∷ deltas) = ap suc (ids_counted (next + delta) deltas)

ids_rising : (next : ℕ) (deltas : List ℕ) → AllSome deltas → next + sum_l deltas ≤ max_ids → AscendWithin max_ids next (ids_by_deltas next deltas)
ids_rising next [] some fits = tt
ids_rising next (delta ∷ deltas) some fits =
    let on : next + delta - 1 + 1 ≡ next + delta = omega (arith, some.0) in (
      omega (arith, some.0),
      omega (arith, some.0, fits),
      subst (λ n. AscendWithin max_ids n (ids_by_deltas (next + delta) deltas)) (sym on)
          (ids_rising (next + delta) deltas some.1 (omega (arith, fits))),
    )

pub stream_from_deltas : (deltas : List ℕ) → AllSome deltas → sum_l deltas ≤ max_ids →
    IsStream (flat_map varint deltas) (length deltas) (sum_l deltas)
stream_from_deltas deltas some fits =
    let is = stream_from (ids_by_deltas 0 deltas) (ids_rising 0 deltas some (omega (arith, fits))) in
    let end : next_after 0 (ids_by_deltas 0 deltas) ≡ sum_l deltas = ids_last 0 deltas some
    ∙ (let z : 0 + sum_l deltas ≡ sum_l deltas = omega arith in z) in
    subst (IsStream (flat_map varint deltas) (length deltas)) end
    (subst (λ n. IsStream (flat_map varint deltas) n (next_after 0 (ids_by_deltas 0 deltas))) (ids_counted 0 deltas)
    (subst (λ s. IsStream s (length (ids_by_deltas 0 deltas)) (next_after 0 (ids_by_deltas 0 deltas))) (ids_written 0 deltas some) is))

-- ---- the bytes of short deltas

-- the byte if it is the first of a delta
abbrev begun : ℕ → List ℕ
begun b = cond (is_first b) (b ∷ []) []

written_step : (before b : ℕ) (p q : Bool) (ds bs last : List ℕ) → is_first before ≡ p → is_first b ≡ q → not (p && q) ≡ true →
    0 < b → before < 256 → flat_map varint ds ++ last ≡ cond q (b ∷ []) [] ++ bs →
    flat_map varint (cond q ds ((before - 128 + cond p (128 * b) b) ∷ ds)) ++ last ≡ cond p (before ∷ []) [] ++ b ∷ bs
written_step before b true true ds bs last f g apart some small rest = absurd (true≢false (sym apart))
written_step before b true false ds bs last f g apart some small rest =
    append_assoc (varint (before - 128 + 128 * b)) (flat_map varint ds) last
    ∙ ap (λ more. varint (before - 128 + 128 * b) ++ more) rest
    ∙ ap (λ two. two ++ bs) (sym (two_bytes before b (leb-true 128 before f) small some (leb-false 128 b g)))
written_step before b false true ds bs last f g apart some small rest = rest
written_step before b false false ds bs last f g apart some small rest =
    let less = leb-false 128 before f in
    let delta : before - 128 + b ≡ b = omega (arith, less) in
    append_assoc (varint (before - 128 + b)) (flat_map varint ds) last
    ∙ ap (λ more. varint (before - 128 + b) ++ more) rest
    ∙ ap (λ d. varint d ++ bs) delta
    ∙ ap (λ one. one ++ bs) (short_varint b (leb-false 128 b g))

written : (before : ℕ) (bs : List ℕ) → are_short before bs ≡ true → before < 256 → Each1 (λ b. b < 256) bs →
    flat_map varint (short_deltas before bs) ++ begun (last_of before bs) ≡ begun before ++ bs
written before [] short small bytes = sym (append-nil (begun before))
written before (b ∷ bs) short small bytes =
    let p = parts before b bs short in
    written_step before b (is_first before) (is_first b) (short_deltas b bs) bs (begun (last_of b bs)) refl refl p.apart p.some small
    (written b bs p.rest bytes.0 bytes.1)

-- the whole deltas of short bytes are a prefix of them
pub short_written : (bs : List ℕ) (len : ℕ) → are_short 0 bs ≡ true → Each1 (λ b. b < 256) bs →
    len + cond (is_first (last_of 0 bs)) 1 0 ≡ length bs → flat_map varint (short_deltas 0 bs) ≡ take len bs
short_written bs len short bytes long =
    let all : List ℕ = flat_map varint (short_deltas 0 bs) in
    let is : all ++ begun (last_of 0 bs) ≡ bs = written 0 bs short (omega arith) bytes in
    let left : length (begun (last_of 0 bs)) ≡ cond (is_first (last_of 0 bs)) 1 0 = begun_length (is_first (last_of 0 bs)) (last_of 0 bs) in
    let size : length all ≡ len = omega (arith, length-append all (begun (last_of 0 bs)), ap length is, left, long) in
    sym (take_all len all (omega (arith, size)))
    ∙ sym (take-append-le len all (begun (last_of 0 bs)) (omega (arith, size)))
    ∙ ap (take len) is
  where
    begun_length : (q : Bool) (b : ℕ) → length (cond q (b ∷ []) []) ≡ cond q 1 0
    begun_length true b = refl
    begun_length false b = refl

-- ---- sixteen bytes

-- a bit for each of them
pub sixteen_bits : (bytes : List ℕ) (f : ℕ) → 16 ≤ length bytes → f ≡ firsts (take 16 bytes) → (f / 2 ^ 15 ≤ 1) × (count_ones f ≤ 16)
sixteen_bits bytes f room is =
    let v : List ℕ = take 16 bytes in
    let long : length v ≡ 16 = (let l = length-take 16 bytes in omega (arith, l, room)) in
    let one : f / 2 ^ 15 ≡ bit (is_first (last_of 0 v)) = ap (λ n. n / 2 ^ 15) is ∙ last_bit v long in
    let counted : length (short_deltas 0 v) + count_ones f ≡ 16 =
    ap (λ n. length (short_deltas 0 v) + count_ones n) is ∙ deltas_count 0 v ∙ long in
    (subst (λ n. n ≤ 1) (sym one) (bit_small (is_first (last_of 0 v))), omega (arith, counted))
  where
    bit_small : (b : Bool) → bit b ≤ 1
    bit_small true = omega arith
    bit_small false = omega arith

-- What sixteen bytes encode, by their lanes.
pub record Lanes (bytes : List ℕ) (f total high begun : ℕ) : Type 0 where
  pub total_small : total ≤ 4080
  pub high_small : high ≤ 4080
  pub covers : 128 * count_ones f + begun ≤ total + 127 * high
  pub prefix : IsPrefix bytes 16 max_ids (record {
    len = 16 - f / 2 ^ 15;
    count = 16 - count_ones f;
    next = total + 127 * high - 128 * count_ones f - begun;
  })

pub lanes : (bytes : List ℕ) (f total high begun : ℕ) → 16 ≤ length bytes → Each1 (Fits w8) (take 16 bytes) →
    are_short 0 (take 16 bytes) ≡ true → f ≡ firsts (take 16 bytes) → total ≡ sum_l (take 16 bytes) →
    high ≡ sum_l (second_bytes 0 (take 16 bytes)) → begun ≡ get_or bytes 15 0 - 128 → Lanes bytes f total high begun
lanes bytes f total high begun room fits short f-is total-is high-is begun-is =
    let v : List ℕ = take 16 bytes in
    let long : length v ≡ 16 = (let l = length-take 16 bytes in omega (arith, l, room)) in
    let deltas : List ℕ = short_deltas 0 v in
    let last : last_of 0 v ≡ get_or bytes 15 0 = last_at 0 v 15 long ∙ get_or-take 16 bytes 15 0 (omega arith) in
    let one : f / 2 ^ 15 ≡ bit (is_first (last_of 0 v)) = ap (λ n. n / 2 ^ 15) f-is ∙ last_bit v long in
    let begins : f / 2 ^ 15 ≤ 1 = (sixteen_bits bytes f room f-is).0 in
    let counted : length deltas + count_ones f ≡ 16 = ap (λ n. length deltas + count_ones n) f-is ∙ deltas_count 0 v ∙ long in
    let left : last_of 0 v - 128 ≡ begun = ap (λ n. n - 128) last ∙ sym begun-is in
    let summed : sum_l deltas + 128 * count_ones f + begun ≡ 0 - 128 + total + 127 * high =
    (λ i. sum_l deltas + 128 * count_ones (f-is i) + sym left i) ∙ deltas_sum 0 v short
    ∙ (λ i. 0 - 128 + sym total-is i + 127 * sym high-is i) in
    let most = sum_bounded v long fits in
    let seconds = second_sum 0 v in
    let small : total ≤ 4080 = omega (arith, most, total-is) in
    let high_small : high ≤ 4080 = omega (arith, most, seconds, high-is) in
    let count : length deltas ≡ 16 - count_ones f = omega (arith, counted) in
    let next : sum_l deltas ≡ total + 127 * high - 128 * count_ones f - begun = omega (arith, summed) in
    let size : 16 - f / 2 ^ 15 + bit (is_first (last_of 0 v)) ≡ length v = omega (arith, one, begins, long) in
    let written : flat_map varint deltas ≡ take (16 - f / 2 ^ 15) v =
    short_written v (16 - f / 2 ^ 15) short (below_from_Fits w8 v fits) size in
    let taken : take (16 - f / 2 ^ 15) v ≡ take (16 - f / 2 ^ 15) bytes = take-take (16 - f / 2 ^ 15) 16 bytes (omega arith) in
    record {
      total_small = small;
      high_small = high_small;
      covers = omega (arith, summed);
      prefix = record {
        stream = subst (IsStream (take (16 - f / 2 ^ 15) bytes) (16 - count_ones f)) next
            (subst (λ n. IsStream (take (16 - f / 2 ^ 15) bytes) n (sum_l deltas)) count
            (subst (λ s. IsStream s (length deltas) (sum_l deltas)) (written ∙ taken)
            (stream_from_deltas deltas (deltas_some 0 v short) (omega (arith, summed, small, high_small)))));
        within = omega (arith, room);
        bound = omega arith;
        below = omega (arith, small, high_small);
      };
    }
