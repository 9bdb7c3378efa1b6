-- Encoded runs: ids that are copied as varint deltas.
use Rattle.std.proofs.Common.{◌≡◌, ℕ, suc, ◌+◌, ◌-◌, ◌*◌, ◌/◌, ◌%◌, ◌^◌, ◌<◌, ◌≤◌, Bool, true, false, cond, ◌||◌, eqb, List, [], ◌∷◌, ◌++◌, length, length-set, get_or, set, take, drop, refl, sym, ap, subst, ◌∙◌, arith}
use Rattle.std.proofs.lemmas.Bool.{lt-ltb, le-ltb}
use Rattle.std.proofs.lemmas.List.{append-nil, length-map}
use Rattle.std.proofs.Math.Bool.{or-false, or_assoc}
use Rattle.std.proofs.Math.Seq.{take-add}
use Rattle.std.specs.List.{AllByRecursion}
use Rattle.std.specs.Prelude.{flat_map, fold, sum}
use Rattle.cs_index.specs.Encoding.{varint, varint_within, deltas_from, stream_of}
use Rattle.cs_trigram.specs.Trigram.{has}
use Rattle.cs_index.specs.IdStream.{ids_by_deltas, ids_in, IsMarked, IsStream}
use Rattle.cs_index.specs.AscendingIds.{ids_onward, max_ids, next_after, AscendWithin}
use Rattle.cs_index.specs.PostingLists.{Ids, read_ids}
use Rattle.cs_index.specs.StoredLists.{before}
use Rattle.cs_index.specs.PostingsInvariant.{remaining_ids}
use Rattle.cs_index.specs.declared.reading.postings.ListDecoder.{ListDecoder}
use Rattle.cs_index.proofs.postings.StreamPush.{decoded-stream_of, rise_length, short_varint, stream_from, stream_more}
use Rattle.cs_index.proofs.encoding.VarintRoundtrip.{read_prefix}
use Rattle.cs_index.proofs.postings.IteratorSteps.{mark_step}

-- ---- relative ids

pub onward_next : (from next : ℕ) (ids : List ℕ) → next_after (from + next) (ids_onward from ids) ≡ from + next_after next ids
onward_next from next [] = refl
onward_next from next (id ∷ ids) =
    let at : from + id + 1 ≡ from + (id + 1) = omega arith in
    ap (λ n. next_after n (ids_onward from ids)) at ∙ onward_next from (id + 1) ids

pub onward_rise : (limit name_count from next : ℕ) (ids : List ℕ) → AscendWithin limit next ids →
    from + next_after next ids ≤ name_count → AscendWithin name_count (from + next) (ids_onward from ids)
onward_rise limit name_count from next [] up h = tt
onward_rise limit name_count from next (id ∷ ids) up h =
    let long = rise_length limit (id + 1) ids up.2 in
    let at : from + (id + 1) ≡ from + id + 1 = omega arith in (
      omega (arith, up.0),
      omega (arith, long, h),
      subst (λ n. AscendWithin name_count n (ids_onward from ids)) at (onward_rise limit name_count from (id + 1) ids up.2 h),
    )

pub onward_deltas : (from next : ℕ) (ids : List ℕ) → deltas_from (from + next) (ids_onward from ids) ≡ deltas_from next ids
onward_deltas from next [] = refl
onward_deltas from next (id ∷ ids) =
    let first : from + id + 1 - (from + next) ≡ id + 1 - next = omega arith in
    let at : from + id + 1 ≡ from + (id + 1) = omega arith in
    let rest : deltas_from (from + id + 1) (ids_onward from ids) ≡ deltas_from (id + 1) ids =
    ap (λ n. deltas_from n (ids_onward from ids)) at ∙ onward_deltas from (id + 1) ids in
    λ i. first i ∷ rest i

-- relative ids have the same deltas as the ids themselves
pub onward_stream : (from : ℕ) (ids : List ℕ) → flat_map varint (deltas_from from (ids_onward from ids)) ≡ stream_of ids
onward_stream from ids =
    let at : from ≡ from + 0 = omega arith in
    ap (λ n. flat_map varint (deltas_from n (ids_onward from ids))) at ∙ ap (flat_map varint) (onward_deltas from 0 ids)

pub onward_last : (from : ℕ) (ids : List ℕ) → next_after from (ids_onward from ids) ≡ from + next_after 0 ids
onward_last from ids =
    let at : from ≡ from + 0 = omega arith in
    ap (λ n. next_after n (ids_onward from ids)) at ∙ onward_next from 0 ids

pub onward_from : (limit name_count from : ℕ) (ids : List ℕ) → AscendWithin limit 0 ids → from + next_after 0 ids ≤ name_count →
    AscendWithin name_count from (ids_onward from ids)
onward_from limit name_count from ids up h =
    let at : from + 0 ≡ from = omega arith in
    subst (λ n. AscendWithin name_count n (ids_onward from ids)) at (onward_rise limit name_count from 0 ids up h)

-- ---- the first ids of a list that is read

pub left_prefix : (name_count next left : ℕ) (bytes rest ids : List ℕ) → name_count < 2 ^ 31 → AscendWithin max_ids 0 ids →
    next + next_after 0 ids ≤ name_count → length ids ≤ left → bytes ≡ stream_of ids ++ rest →
    read_ids name_count left next bytes
    ≡ before (ids_onward next ids) (read_ids name_count (left - length ids) (next + next_after 0 ids) rest)
left_prefix name_count next left bytes rest ids bound up within count is =
    let long = length-map ids (λ id. next + id) in
    let all : left ≡ length (ids_onward next ids) + (left - length ids) = omega (arith, long, count) in
    let written : bytes ≡ flat_map varint (deltas_from next (ids_onward next ids)) ++ rest = is
    ∙ ap (λ s. s ++ rest) (sym (onward_stream next ids)) in
    (λ i. read_ids name_count (all i) next (written i))
    ∙ read_prefix name_count next (left - length ids) (ids_onward next ids) rest (omega (arith, bound))
    (onward_from max_ids name_count next ids up within)
    ∙ ap (λ n. before (ids_onward next ids) (read_ids name_count (left - length ids) n rest)) (onward_last next ids)

-- relative ids are less than their bound
pub all_below : (limit from end next : ℕ) (ids : List ℕ) → AscendWithin limit next ids → next_after next ids ≤ end - from →
    AllByRecursion (λ id. from + id < end) ids
all_below limit from end next [] up h = tt
all_below limit from end next (id ∷ ids) up h =
    let long = rise_length limit (id + 1) ids up.2 in
    (omega (arith, long, h), all_below limit from end (id + 1) ids up.2 h)

pub onward_below : (from end : ℕ) (ids : List ℕ) → AllByRecursion (λ id. from + id < end) ids →
    AllByRecursion (λ id. id < end) (ids_onward from ids)
onward_below from end [] h = tt
onward_below from end (id ∷ ids) h = (h.0, onward_below from end ids h.1)

-- ---- one more step of a run

-- a stream appended to another
pub joined : (bytes : List ℕ) (len count next size ids end : ℕ) → IsStream (take len bytes) count next →
    IsStream (take size (drop len bytes)) ids end → next + end ≤ max_ids →
    IsStream (take (len + size) bytes) (count + ids) (next + end)
joined bytes len count next size ids end is more fits =
    let some : List ℕ = ids_in (take size (drop len bytes)) ids in
    let rise : AscendWithin max_ids next (ids_onward next some) =
    onward_from max_ids max_ids next some more.rise (omega (arith, fits, more.follows)) in
    let push = stream_more (take len bytes) count next (ids_onward next some) is rise in
    let all : take len bytes ++ flat_map varint (deltas_from next (ids_onward next some)) ≡ take (len + size) bytes =
    ap (λ s. take len bytes ++ s) (onward_stream next some ∙ sym more.written) ∙ sym (take-add len size bytes) in
    let many : count + length (ids_onward next some) ≡ count + ids =
    ap (λ n. count + n) (length-map some (λ id. next + id) ∙ sym more.counted) in
    let at : next_after next (ids_onward next some) ≡ next + end = onward_last next some ∙ ap (λ n. next + n) (sym more.follows) in
    subst (IsStream (take (len + size) bytes) (count + ids)) at
    (subst (λ n. IsStream (take (len + size) bytes) n (next_after next (ids_onward next some))) many
    (subst (λ s. IsStream s (count + length (ids_onward next some)) (next_after next (ids_onward next some))) all push.is))

-- and its ids
pub joined_ids : (bytes : List ℕ) (len count next size ids end : ℕ) → IsStream (take len bytes) count next →
    IsStream (take size (drop len bytes)) ids end → next + end ≤ max_ids →
    ids_in (take (len + size) bytes) (count + ids) ≡ ids_in (take len bytes) count ++ ids_onward next
    (ids_in (take size (drop len bytes)) ids)
joined_ids bytes len count next size ids end is more fits =
    let some : List ℕ = ids_in (take size (drop len bytes)) ids in
    let rise : AscendWithin max_ids next (ids_onward next some) =
    onward_from max_ids max_ids next some more.rise (omega (arith, fits, more.follows)) in
    let all : take len bytes ++ flat_map varint (deltas_from next (ids_onward next some)) ≡ take (len + size) bytes =
    ap (λ s. take len bytes ++ s) (onward_stream next some ∙ sym more.written) ∙ sym (take-add len size bytes) in
    let many : count + length (ids_onward next some) ≡ count + ids =
    ap (λ n. count + n) (length-map some (λ id. next + id) ∙ sym more.counted) in
    (λ i. ids_in (sym all i) (sym many i)) ∙ (stream_more (take len bytes) count next (ids_onward next some) is rise).ids

-- the stream of one id
pub one_stream : (bytes : List ℕ) (size delta : ℕ) → 0 < delta → delta ≤ max_ids → take size bytes ≡ varint delta →
    IsStream (take size bytes) 1 delta
one_stream bytes size delta some bound written =
    let back : delta - 1 + 1 ≡ delta = omega (arith, some) in
    let is = stream_from ((delta - 1) ∷ []) (omega arith, omega (arith, some, bound), tt) in
    let same : delta - 1 + 1 - 0 ≡ delta = omega (arith, some) in
    let bytes_are : stream_of ((delta - 1) ∷ []) ≡ take size bytes = append-nil (varint (delta - 1 + 1 - 0))
    ∙ ap varint same ∙ sym written in
    subst (IsStream (take size bytes) 1) back (subst (λ s. IsStream s 1 (delta - 1 + 1)) bytes_are is)

pub one_id : (bytes : List ℕ) (size delta : ℕ) → 0 < delta → delta ≤ max_ids → take size bytes ≡ varint delta →
    ids_in (take size bytes) 1 ≡ (delta - 1) ∷ []
one_id bytes size delta some bound written =
    let same : delta - 1 + 1 - 0 ≡ delta = omega (arith, some) in
    let bytes_are : stream_of ((delta - 1) ∷ []) ≡ take size bytes = append-nil (varint (delta - 1 + 1 - 0))
    ∙ ap varint same ∙ sym written in
    ap (λ s. ids_in s 1) (sym bytes_are) ∙ decoded-stream_of ((delta - 1) ∷ []) (omega arith, omega (arith, some, bound), tt)

-- ---- deltas of one byte each

fold_more : (n : ℕ) (ns : List ℕ) → fold (λ a b. a + b) n ns ≡ n + sum ns
fold_more n [] = (let z : n ≡ n + 0 = omega arith in z)
fold_more n (m ∷ ns) = fold_more (n + m) ns ∙ (let z : n + m + sum ns ≡ n + (m + sum ns) = omega arith in z)
    ∙ ap (λ s. n + s) (sym (fold_more (0 + m) ns ∙ (let z : 0 + m + sum ns ≡ m + sum ns = omega arith in z)))

pub sum_more : (m : ℕ) (ns : List ℕ) → sum (m ∷ ns) ≡ m + sum ns
sum_more m ns = fold_more (0 + m) ns ∙ (let z : 0 + m + sum ns ≡ m + sum ns = omega arith in z)

ids_written : (next : ℕ) (deltas : List ℕ) → AllByRecursion (λ delta. (0 < delta) × (delta < 128)) deltas →
    flat_map varint (deltas_from next (ids_by_deltas next deltas)) ≡ deltas
ids_written next [] short = refl
ids_written next (delta ∷ deltas) short =
    let here : next + delta - 1 + 1 - next ≡ delta = omega (arith, short.0.0) in
    let on : next + delta - 1 + 1 ≡ next + delta = omega (arith, short.0.0) in
    (λ i. varint (here i) ++ flat_map varint (deltas_from (on i) (ids_by_deltas (next + delta) deltas)))
    ∙ (λ i. short_varint delta short.0.1 i ++ ids_written (next + delta) deltas short.1 i)

ids_last : (next : ℕ) (deltas : List ℕ) → AllByRecursion (λ delta. (0 < delta) × (delta < 128)) deltas →
    next_after next (ids_by_deltas next deltas) ≡ next + sum deltas
ids_last next [] short = (let z : next ≡ next + 0 = omega arith in z)
ids_last next (delta ∷ deltas) short =
    let on : next + delta - 1 + 1 ≡ next + delta = omega (arith, short.0.0) in
    ap (λ n. next_after n (ids_by_deltas (next + delta) deltas)) on
    ∙ ids_last (next + delta) deltas short.1
    ∙ (let z : next + delta + sum deltas ≡ next + sum (delta ∷ deltas) = omega (arith, sum_more delta deltas) in z)

ids_counted : (next : ℕ) (deltas : List ℕ) → length (ids_by_deltas next deltas) ≡ length deltas
ids_counted next [] = refl
ids_counted next (delta ∷ deltas) = ap suc (ids_counted (next + delta) deltas)

ids_rising : (next : ℕ) (deltas : List ℕ) → AllByRecursion (λ delta. (0 < delta) × (delta < 128)) deltas →
    next + sum deltas ≤ max_ids → AscendWithin max_ids next (ids_by_deltas next deltas)
ids_rising next [] short fits = tt
ids_rising next (delta ∷ deltas) short fits =
    let on : next + delta - 1 + 1 ≡ next + delta = omega (arith, short.0.0) in (
      omega (arith, short.0.0),
      omega (arith, short.0.0, fits, sum_more delta deltas),
      subst (λ n. AscendWithin max_ids n (ids_by_deltas (next + delta) deltas)) (sym on)
          (ids_rising (next + delta) deltas short.1 (omega (arith, fits, sum_more delta deltas))),
    )

pub deltas_stream : (deltas : List ℕ) → AllByRecursion (λ delta. (0 < delta) × (delta < 128)) deltas →
    sum deltas ≤ max_ids → IsStream deltas (length deltas) (sum deltas)
deltas_stream deltas short fits =
    let is = stream_from (ids_by_deltas 0 deltas) (ids_rising 0 deltas short (omega (arith, fits))) in
    let end : next_after 0 (ids_by_deltas 0 deltas) ≡ sum deltas = ids_last 0 deltas short
    ∙ (let z : 0 + sum deltas ≡ sum deltas = omega arith in z) in
    subst (IsStream deltas (length deltas)) end
    (subst (λ n. IsStream deltas n (next_after 0 (ids_by_deltas 0 deltas))) (ids_counted 0 deltas)
    (subst (λ s. IsStream s (length (ids_by_deltas 0 deltas)) (next_after 0 (ids_by_deltas 0 deltas))) (ids_written 0 deltas short) is))

-- the ids of such a stream
pub deltas_ids : (deltas : List ℕ) → AllByRecursion (λ delta. (0 < delta) × (delta < 128)) deltas →
    sum deltas ≤ max_ids → ids_in deltas (length deltas) ≡ ids_by_deltas 0 deltas
deltas_ids deltas short fits =
    (λ i. ids_in (sym (ids_written 0 deltas short) i) (sym (ids_counted 0 deltas) i))
    ∙ decoded-stream_of (ids_by_deltas 0 deltas) (ids_rising 0 deltas short (omega (arith, fits)))

pub two_bytes : (first second : ℕ) → 128 ≤ first → first < 256 → 0 < second → second < 128 →
    first ∷ second ∷ [] ≡ varint (first - 128 + 128 * second)
unfolding varint
two_bytes first second large byte some small =
    let n : ℕ = first - 128 + 128 * second in
    let low : first ≡ n % 128 + 128 = omega (arith, large, byte) in
    let high : second ≡ n / 128 = omega (arith, large, byte) in
    let more : 128 ≤ n = omega (arith, some) in
    (λ i. low i ∷ high i ∷ [])
    ∙ ap (λ rest. (n % 128 + 128) ∷ rest) (sym
    (ap (λ b. cond b (n / 128 ∷ []) ((n / 128 % 128 + 128) ∷ varint_within 3 (n / 128 / 128)))
    (lt-ltb (n / 128) 128 (omega (arith, high, small)))))
    ∙ sym (ap (λ b. cond b (n ∷ []) ((n % 128 + 128) ∷ varint_within 4 (n / 128))) (le-ltb n 128 more))

pub one_at : (bytes : List ℕ) → 1 ≤ length bytes → get_or bytes 0 0 < 128 → take 1 bytes ≡ varint (get_or bytes 0 0)
one_at [] some small = absurd (omega (arith, some))
one_at (first ∷ rest) some small = sym (short_varint first small)

pub two_at : (bytes : List ℕ) → 2 ≤ length bytes → ((i : ℕ) → get_or bytes i 0 < 256) → 128 ≤ get_or bytes 0 0 →
    0 < get_or bytes 1 0 → get_or bytes 1 0 < 128 →
    take 2 bytes ≡ varint (get_or bytes 0 0 - 128 + 128 * get_or bytes 1 0)
two_at [] two are large some small = absurd (omega (arith, two))
two_at (first ∷ []) two are large some small = absurd (omega (arith, two))
two_at (first ∷ second ∷ rest) two are large some small = two_bytes first second large (are 0) some small

-- ---- ids that are skipped

pub run_skipped : (ended : Bool) (d : ListDecoder) (last len on : ℕ) (bytes rest ids : List ℕ) (now : Ids) →
    remaining_ids ended d bytes ≡ now → ended ≡ false → d.next ≡ last + 1 → d.name_count < 2 ^ 31 →
    AscendWithin max_ids 0 ids → d.next + on ≤ d.name_count → len ≡ length ids → len ≤ d.left → on ≡ next_after 0 ids →
    bytes ≡ stream_of ids ++ rest → now ≡ before (ids_onward (last + 1) ids)
    (remaining_ids ended (record d { left = d.left - len; next = d.next + on }) rest)
run_skipped ended d last len on bytes rest ids now view off at bound up within count fits go is =
    sym view
    ∙ ap (λ b. remaining_ids b d bytes) off
    ∙ left_prefix d.name_count d.next d.left bytes rest ids bound up (omega (arith, within, go)) (omega (arith, fits, count)) is
    ∙ (λ i. before (ids_onward (at i) ids)
    (remaining_ids (sym off i) (record d { left = d.left - sym count i; next = d.next + sym go i }) rest))

-- ---- flags of ids

-- ids that are counted from another one
pub from_onward : (at next : ℕ) (deltas : List ℕ) → AllByRecursion (λ delta. (0 < delta) × (delta < 128)) deltas →
    ids_by_deltas (at + next) deltas ≡ ids_onward at (ids_by_deltas next deltas)
from_onward at next [] short = refl
from_onward at next (delta ∷ deltas) short =
    let first : at + next + delta - 1 ≡ at + (next + delta - 1) = omega (arith, short.0.0) in
    let on : at + next + delta ≡ at + (next + delta) = omega arith in
    λ i. first i ∷ (ap (λ n. ids_by_deltas n deltas) on ∙ from_onward at (next + delta) deltas short.1) i

pub marked_none : (at : ℕ) (row : List Bool) → IsMarked at [] row row
marked_none at row = record { width = refl; flags = λ k. sym (or-false (get_or row k false)) }

-- the empty stream has no ids
pub none_in : ids_in [] 0 ≡ []
unfolding ids_in
none_in = refl

pub marked_one : (at delta : ℕ) (row : List Bool) → 0 < delta → at + delta ≤ length row →
    IsMarked at ((delta - 1) ∷ []) row (set row (at + delta - 1) true)
marked_one at delta row some within = record {
  width = length-set row (at + delta - 1) true;
  flags = λ k.
      sym (or-false (get_or (set row (at + delta - 1) true) k false))
      ∙ mark_step row (at + delta - 1) k false (omega (arith, some, within))
      ∙ ap (λ n. get_or row k false || (eqb n k || false)) (let same : at + delta - 1 ≡ at + (delta - 1) = omega (arith, some) in same);
}

pub marked_more : (at next : ℕ) (xs ys all : List ℕ) (row one two : List Bool) → all ≡ xs ++ ids_onward next ys →
    IsMarked at xs row one → IsMarked (at + next) ys one two → IsMarked at all row two
marked_more at next xs ys all row one two is m n = record {
  width = n.width ∙ m.width;
  flags = λ k.
      n.flags k ∙ ap (λ b. b || has (ids_onward (at + next) ys) k) (m.flags k)
      ∙ or_assoc (get_or row k false) (has (ids_onward at xs) k) (has (ids_onward (at + next) ys) k)
      ∙ ap (λ b. get_or row k false || b) (sym (both k xs) ∙ ap (λ (ids : List ℕ). has (ids_onward at ids) k) (sym is));
}
  where
    twice : (k : ℕ) (zs : List ℕ) → has (ids_onward at (ids_onward next zs)) k ≡ has (ids_onward (at + next) zs) k
    twice k [] = refl
    twice k (z ∷ zs) = let same : at + (next + z) ≡ at + next + z = omega arith in λ i. eqb (same i) k || twice k zs i

    both : (k : ℕ) (zs : List ℕ) → has (ids_onward at (zs ++ ids_onward next ys)) k
        ≡ (has (ids_onward at zs) k || has (ids_onward (at + next) ys) k)
    both k [] = twice k ys
    both k (z ∷ zs) = ap (λ b. eqb (at + z) k || b) (both k zs)
        ∙ sym (or_assoc (eqb (at + z) k) (has (ids_onward at zs) k) (has (ids_onward (at + next) ys) k))
