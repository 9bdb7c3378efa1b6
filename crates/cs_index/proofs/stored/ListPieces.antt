-- Posting lists that are read in pieces.
use Rattle.std.proofs.Common.{◌≡◌, ℕ, zero, suc, ◌+◌, ◌-◌, ◌*◌, ◌<◌, ◌≤◌, ◌^◌, Bool, true, false, cond, ◌&&◌, eqb, ltb, List, [], ◌∷◌, ◌++◌, length, take, drop, Option, Some, None, refl, sym, ap, subst, ◌∙◌, ◌⊎◌, inl, inr, arith, append_assoc, length-drop, length-take, length-append}
use Rattle.std.proofs.Math.Seq.{drop-append_seam, take-nil}
use Rattle.std.proofs.lemmas.Bool.{and_from, cases_lt, le-ltb, lt-ltb}
use Rattle.std.proofs.lemmas.List.{append-nil, drop-append-le, drop-drop, drop-take, take-append-drop, take-take, take_rest, nil_from_length}
use Rattle.std.proofs.Math.Bool.{and-false}
use Rattle.std.specs.Prelude.{option_map, option_and_then, IfSome, bytes_eq}
use Rattle.cs_tree.specs.Store.{part_of}
use Rattle.std.specs.List.{AllByRecursion}
use Rattle.cs_index.specs.AscendingIds.{AscendWithin, BeginsFrom, ids_onward, max_ids, next_after}
use Rattle.cs_index.specs.Encoding.{ListEntry, stream_of, three_bytes}
use Rattle.cs_index.specs.PostingLists.{Ids, damage, onto, read_ids, read_list, read_varint, varint_at}
use Rattle.cs_index.specs.ListDecoding.{HaveVarint, IsNextId, IsStep, after_id, ids_ahead}
use Rattle.cs_index.specs.StoredLists.{ListState, before, bytes_left, ids_left, state_of, with_piece, GivesBelow, Holds, IsReady, IsStoredList, SkipsBelow}
use Rattle.cs_index.specs.declared.reading.postings.ListDecoder.{ListDecoder}
use Rattle.cs_index.specs.declared.reading.postings.Step.{Step}
use Rattle.cs_index.specs.declared.reading.postings.Step.TheVariants.{End}
use Rattle.cs_index.specs.declared.reading.stored_list.StoredList.TheInside.{Inside}
use Rattle.cs_index.proofs.postings.ListAtEntry.{list_short}
use Rattle.cs_index.proofs.postings.EncodedRuns.{all_below, left_prefix, onward_below}
use Rattle.cs_index.proofs.encoding.VarintRoundtrip.{after_delta, below_limit}

-- ---- a varint of a piece is that of the section

abbrev pub grow : List ℕ → Option (ℕ × List ℕ) → Option (ℕ × List ℕ)
grow more found = option_map (λ (n : ℕ × List ℕ). (n.0, n.1 ++ more)) found

varint_grows : (room : ℕ) (bytes more : List ℕ) → room ≤ length bytes → varint_at room (bytes ++ more) ≡ grow more (varint_at room bytes)
varint_grows zero bytes more h = refl
varint_grows (suc room) [] more h = absurd (omega (arith, h))
varint_grows (suc room) (b ∷ bytes) more h =
    elim (ltb b 128) as (λ t. cond t (Some (b, bytes ++ more))
    (option_map (λ (high : ℕ × List ℕ). (b - 128 + 128 * high.0, high.1)) (varint_at room (bytes ++ more)))
    ≡ grow more (cond t (Some (b, bytes)) (option_map (λ (high : ℕ × List ℕ). (b - 128 + 128 * high.0, high.1))
    (varint_at room bytes)))) [
      | true ↦ refl
      | false ↦ ap (option_map (λ (high : ℕ × List ℕ). (b - 128 + 128 * high.0, high.1)))
          (varint_grows room bytes more (omega (arith, h))) ∙ swap (varint_at room bytes)
    ]
  where
    swap : (o : Option (ℕ × List ℕ)) → option_map (λ (high : ℕ × List ℕ). (b - 128 + 128 * high.0, high.1))
        (grow more o) ≡ grow more (option_map (λ (high : ℕ × List ℕ). (b - 128 + 128 * high.0, high.1)) o)
    swap None = refl
    swap (Some found) = refl

pub read_ready : (bytes more : List ℕ) → (5 ≤ length bytes) ⊎ (more ≡ []) → read_varint (bytes ++ more) ≡ grow more (read_varint bytes)
read_ready bytes more (inl long) = ap (option_and_then below_limit) (varint_grows 5 bytes more long) ∙ limited (varint_at 5 bytes)
  where
    limited : (o : Option (ℕ × List ℕ)) → option_and_then below_limit (grow more o) ≡ grow more (option_and_then below_limit o)
    limited None = refl
    limited (Some found) = elim (ltb found.0 (2 ^ 32)) as (λ t. cond t (Some (found.0, found.1 ++ more)) None
        ≡ grow more (cond t (Some found) None)) [ true ↦ refl | false ↦ refl ]
read_ready bytes more (inr none) = subst (λ m. read_varint (bytes ++ m) ≡ grow m (read_varint bytes)) (sym none)
    (ap read_varint (append-nil bytes) ∙ same (read_varint bytes))
  where
    same : (o : Option (ℕ × List ℕ)) → o ≡ grow [] o
    same None = refl
    same (Some found) = λ i. Some (found.0, sym (append-nil found.1) i)

-- ---- one step of reading ids

abbrev is_end : Option (ℕ × List ℕ) → Bool
is_end None = false
is_end (Some n) = eqb n.0 0

pub unread : (name_count left next : ℕ) (bytes : List ℕ) → read_varint bytes ≡ None → read_ids name_count left next bytes
    ≡ record { ids = []; whole = false }
unread name_count zero next bytes none = ap (λ o. let r : Ids = record { ids = []; whole = is_end o } in r) none
unread name_count (suc left) next bytes none = ap (after_delta name_count next (read_ids name_count left)) none

pub closed : (name_count left next delta : ℕ) (bytes rest : List ℕ) → left ≡ 0 → read_varint bytes ≡ Some (delta, rest)
    → read_ids name_count left next bytes ≡ record { ids = []; whole = eqb delta 0 }
closed name_count left next delta bytes rest none read =
    ap (λ n. read_ids name_count n next bytes) none
    ∙ ap (λ o. let r : Ids = record { ids = []; whole = is_end o } in r) read

pub refused : (name_count left next delta : ℕ) (bytes rest : List ℕ) → (left ≡ 0 → ⊥) → next ≤ name_count →
    read_varint bytes ≡ Some (delta, rest) → (delta ≡ 0) ⊎ (name_count - next < delta) →
    read_ids name_count left next bytes ≡ record { ids = []; whole = false }
refused name_count zero next delta bytes rest some order read bad = absurd (some refl)
refused name_count (suc left) next delta bytes rest some order read bad =
    ap (after_delta name_count next (read_ids name_count left)) read
    ∙ ap (λ b. cond b (onto (next + delta - 1) (read_ids name_count left (next + delta) rest)) damage) (outside bad)
  where
    outside : (delta ≡ 0) ⊎ (name_count - next < delta) → (ltb 0 delta && ltb (next + delta) (name_count + 1)) ≡ false
    outside (inl none) = ap (λ b. b && ltb (next + delta) (name_count + 1)) (le-ltb 0 delta (omega (arith, none)))
    outside (inr past) = ap (λ b. ltb 0 delta && b)
        (le-ltb (next + delta) (name_count + 1) (omega (arith, past, order))) ∙ and-false (ltb 0 delta)

pub taken : (name_count left next delta : ℕ) (bytes rest : List ℕ) → (left ≡ 0 → ⊥) → next ≤ name_count → read_varint bytes
    ≡ Some (delta, rest) → (delta ≡ 0 → ⊥) → delta ≤ name_count - next → read_ids name_count left next bytes
    ≡ onto (next + delta - 1) (read_ids name_count (left - 1) (next + delta) rest)
taken name_count zero next delta bytes rest some order read above within = absurd (some refl)
taken name_count (suc left) next delta bytes rest some order read above within =
    let down : left ≡ suc left - 1 = omega arith in
    ap (after_delta name_count next (read_ids name_count left)) read
    ∙ ap (λ b. cond b (onto (next + delta - 1) (read_ids name_count left (next + delta) rest)) damage)
    (and_from (ltb 0 delta) (ltb (next + delta) (name_count + 1)) (lt-ltb 0 delta (omega (arith, above)))
    (lt-ltb (next + delta) (name_count + 1) (omega (arith, within, order))))
    ∙ ap (λ n. onto (next + delta - 1) (read_ids name_count n (next + delta) rest)) down

-- the varint of bytes that go on
pub read_more : (bytes more : List ℕ) (found : Option (ℕ × List ℕ)) → HaveVarint bytes more → read_varint bytes ≡ found →
    read_varint (bytes ++ more) ≡ grow more found
read_more bytes more found ahead read = read_ready bytes more ahead ∙ ap (grow more) read

pub next_id : (d : ListDecoder) (delta len : ℕ) (bytes : List ℕ) → (d.left ≡ 0 → ⊥) → d.next ≤ d.name_count →
    read_varint bytes ≡ Some (delta, drop len bytes) → len ≤ length bytes → (delta ≡ 0 → ⊥) → delta ≤ d.name_count - d.next
    → IsNextId d bytes (d.next + delta - 1) len
next_id d delta len bytes some order read inside above small = record {
  some = omega (arith, some);
  from = omega (arith, above);
  below = omega (arith, above, small, order);
  within = inside;
  ids = λ more ahead.
      let up : d.next + delta ≡ d.next + delta - 1 + 1 = omega (arith, above) in
      taken d.name_count d.left d.next delta (bytes ++ more) (drop len bytes ++ more) some order
      (read_more bytes more (Some (delta, drop len bytes)) ahead read) above small
      ∙ ap (λ n. onto (d.next + delta - 1) (read_ids d.name_count (d.left - 1) n (drop len bytes ++ more))) up;
}

-- ---- the same step of a stored list

-- the list without `len` bytes of its piece
abbrev pub moved : Inside → ℕ → ℕ → ℕ → Inside
moved s len left next = record s { used = s.used + len; decoder = record s.decoder { left = left; next = next } }

-- the ids of a list that goes on, by its bytes
going_on : (bytes : List ℕ) (s : Inside) (rest : List ℕ) → s.has_ended ≡ false → bytes_left bytes (state_of s) ≡ rest →
    ids_left bytes (state_of s) ≡ ids_ahead s.decoder rest
going_on bytes s rest going is =
    ap (λ e. cond e (let r : Ids = record { ids = []; whole = s.is_whole } in r)
    (ids_ahead s.decoder (bytes_left bytes (state_of s)))) going
    ∙ ap (ids_ahead s.decoder) is

module _ (bytes : List ℕ) (s : Inside) (going : s.has_ended ≡ false) (ready : IsReady bytes (state_of s)) where
  ended_left : (whole : Bool) → IsStep s.decoder (drop s.used s.window.piece.items) (End whole) → ids_left bytes (state_of s)
      ≡ record { ids = []; whole = whole }
  ended_left whole step = going_on bytes s (drop s.used s.window.piece.items ++ ready.0) going ready.1 ∙ step ready.0 ready.2

  next_left : (id len : ℕ) → IsNextId s.decoder (drop s.used s.window.piece.items) id len → ids_left bytes (state_of s)
      ≡ onto id (ids_ahead (after_id s.decoder id) (drop len (drop s.used s.window.piece.items) ++ ready.0))
  next_left id len step = going_on bytes s (drop s.used s.window.piece.items ++ ready.0) going ready.1 ∙ step.ids ready.0 ready.2

-- ---- the bytes that are decoded

pub piece_is : (items now : List ℕ) (used : ℕ) → now ≡ items → take (length now - used) (drop used now) ≡ drop used items
piece_is items now used is = take_rest now used ∙ ap (drop used) is

pub step_there : (d : ListDecoder) (used : ℕ) (items now : List ℕ) (step : Step) → now ≡ items →
    IsStep d (take (length now - used) (drop used now)) step → IsStep d (drop used items) step
step_there d used items now step is found = subst (λ (p : List ℕ). IsStep d p step) (piece_is items now used is) found

-- ---- what a list gives

-- the list as it is inside, which ends without an id
pub ends : (bytes : List ℕ) (end : ℕ) (whole : Bool) (s : Inside) (now : ListState) → state_of s ≡ now →
    s.has_ended ≡ false → IsStep s.decoder (drop s.used s.window.piece.items) (End whole) → IsReady bytes now
    → GivesBelow bytes end now (state_of (record s { has_ended = true; is_whole = whole })) None
ends bytes end whole s now is going step ready =
    subst (λ (n : ListState). IsReady bytes n →
    GivesBelow bytes end n (state_of (record s { has_ended = true; is_whole = whole })) None) is
    (λ r.
    let none = ended_left bytes s going r whole step in
    ((r.0, r.1), sym none, subst (λ (ids : Ids). BeginsFrom end ids.ids) (sym none) tt)) ready

-- the next id is not below the end
pub stays : (bytes : List ℕ) (end id len : ℕ) (s : Inside) (now : ListState) → state_of s ≡ now → s.has_ended ≡ false →
    IsNextId s.decoder (drop s.used s.window.piece.items) id len → end ≤ id → IsReady bytes now → GivesBelow bytes end now now None
stays bytes end id len s now is going step past ready =
    subst (λ (n : ListState). IsReady bytes n → GivesBelow bytes end n n None) is
    (λ r. (
      (r.0, r.1),
      refl,
      subst (λ (ids : Ids). BeginsFrom end ids.ids) (sym (next_left bytes s going r id len step)) past,
    )) ready

-- the bytes after a varint
pub left_after : (bytes : List ℕ) (at stop len : ℕ) → at + len ≤ stop → take (stop - (at + len)) (drop (at + len) bytes)
    ≡ drop len (take (stop - at) (drop at bytes))
left_after bytes at stop len within =
    let whole : len + (stop - (at + len)) ≡ stop - at = omega (arith, within) in
    sym (ap (λ n. drop len (take n (drop at bytes))) (sym whole) ∙ drop-take len (stop - (at + len)) (drop at bytes)
    ∙ ap (take (stop - (at + len))) (drop-drop len at bytes))

-- the same in the section
bytes_after : (bytes more : List ℕ) (s : Inside) (len : ℕ) → IsStoredList s → len ≤ length (drop s.used s.window.piece.items) →
    bytes_left bytes (state_of s) ≡ drop s.used s.window.piece.items ++ more →
    part_of bytes (s.window.start + (s.used + len)) (s.stop - (s.window.start + (s.used + len))) ≡ drop (s.used + len) s.window.piece.items ++ more
bytes_after bytes more s len inv inside is =
    let l = length-drop s.used s.window.piece.items in
    ap (λ at. take (s.stop - at) (drop at bytes)) (let z : s.window.start + (s.used + len) ≡ s.window.start + s.used + len = omega arith in z)
    ∙ left_after bytes (s.window.start + s.used) s.stop len (omega (arith, l, inside, inv.used_within, inv.within))
    ∙ ap (drop len) is ∙ drop-append-le len (drop s.used s.window.piece.items) more inside
    ∙ ap (λ p. p ++ more) (drop-drop len s.used s.window.piece.items)

-- the next id is taken
pub takes : (bytes : List ℕ) (end id len : ℕ) (s : Inside) (now : ListState) → state_of s ≡ now → s.has_ended ≡ false →
    IsStoredList s → IsNextId s.decoder (drop s.used s.window.piece.items) id len → id < end → IsReady bytes now
    → GivesBelow bytes end now (state_of (moved s len (s.decoder.left - 1) (id + 1))) (Some id)
takes bytes end id len s now is going inv step less ready =
    let rest : Inside = moved s len (s.decoder.left - 1) (id + 1) in
    subst (λ (n : ListState). IsReady bytes n → GivesBelow bytes end n (state_of rest) (Some id)) is
    (λ r.
    let after = bytes_after bytes r.0 s len inv step.within r.1 in (
      (r.0, after),
      next_left bytes s going r id len step
          ∙ ap (λ p. onto id (ids_ahead (after_id s.decoder id) (p ++ r.0))) (drop-drop len s.used s.window.piece.items)
          ∙ ap (onto id) (sym (going_on bytes rest (drop (s.used + len) s.window.piece.items ++ r.0) going after)),
      less,
    )) ready

-- ---- ids that are skipped

-- The list without its first ids, each less than `end`.
pub record TakesIds (bytes : List ℕ) (end : ℕ) (ids : List ℕ) (list rest : ListState) : Type 0 where
  pub holds : Holds bytes rest
  pub left : ids_left bytes list ≡ before ids (ids_left bytes rest)
  pub below : AllByRecursion (λ id. id < end) ids

-- these ids are skipped
pub ids_skipped : (bytes : List ℕ) (end : ℕ) (ids : List ℕ) (list rest : ListState) → TakesIds bytes end ids list rest →
    SkipsBelow bytes end list rest
ids_skipped bytes end ids list rest t = (t.holds, ids, t.left, t.below)

-- ids of the piece are taken
pub run_taken : (bytes : List ℕ) (end len : ℕ) (ids more : List ℕ) (s : Inside) (now : ListState) → state_of s ≡ now →
    s.has_ended ≡ false → IsStoredList s → drop s.used s.window.piece.items ≡ stream_of ids ++ more → len ≡ length (stream_of ids)
    → AscendWithin max_ids 0 ids → length ids ≤ s.decoder.left → s.decoder.next + next_after 0 ids ≤ s.decoder.name_count →
    next_after 0 ids ≤ end - s.decoder.next → Holds bytes now → TakesIds bytes end (ids_onward s.decoder.next ids) now
    (state_of (moved s len (s.decoder.left - length ids) (s.decoder.next + next_after 0 ids)))
run_taken bytes end len ids more s now is going inv split size up count fits below holds =
    let d = s.decoder in
    let rest : Inside = moved s len (d.left - length ids) (d.next + next_after 0 ids) in
    subst (λ (n : ListState). Holds bytes n → TakesIds bytes end (ids_onward d.next ids) n (state_of rest)) is
    (λ h.
    let a = length-append (stream_of ids) more in
    let parts = ap length split in
    let after = bytes_after bytes h.0 s len inv (omega (arith, a, parts, size)) h.1 in
    let piece : drop (s.used + len) s.window.piece.items ≡ more = sym (drop-drop len s.used s.window.piece.items) ∙ ap (drop len) split
    ∙ ap (λ n. drop n (stream_of ids ++ more)) size ∙ drop-append_seam (stream_of ids) more in
    let left_bytes : bytes_left bytes (state_of s) ≡ stream_of ids ++ (more ++ h.0) = h.1 ∙ ap (λ p. p ++ h.0) split
    ∙ append_assoc (stream_of ids) more h.0 in
    record {
      holds = (h.0, after);
      left = going_on bytes s (bytes_left bytes (state_of s)) going refl
          ∙ left_prefix d.name_count d.next d.left (bytes_left bytes (state_of s)) (more ++ h.0) ids inv.bound up fits count left_bytes
          ∙ ap (before (ids_onward d.next ids)) (sym (going_on bytes rest (more ++ h.0) going (after ∙ ap (λ p. p ++ h.0) piece)));
      below = onward_below d.next end ids (all_below max_ids d.next end 0 ids up below);
    }) holds

-- an id, and then others
pub skips_on : (bytes : List ℕ) (end id : ℕ) (list one two rest : ListState) → SkipsBelow bytes end list one →
    GivesBelow bytes end one two (Some id) → SkipsBelow bytes end two rest → SkipsBelow bytes end list rest
skips_on bytes end id list one two rest before_it gives after =
    let first = before_it.1 in
    let last = after.1 in (
      after.0,
      first ++ id ∷ last,
      before_it.2 ∙ ap (before first) (gives.1 ∙ ap (onto id) after.2)
          ∙ ap (λ (ids : List ℕ). let r : Ids = record { ids = ids; whole = (ids_left bytes rest).whole } in r)
          (sym (append_assoc first (id ∷ last) (ids_left bytes rest).ids)),
      all_joined first (id ∷ last) before_it.3 (gives.2, after.3),
    )
  where
    all_joined : (xs ys : List ℕ) → AllByRecursion (λ k. k < end) xs → AllByRecursion (λ k. k < end) ys →
        AllByRecursion (λ k. k < end) (xs ++ ys)
    all_joined [] ys h k = k
    all_joined (x ∷ xs) ys h k = (h.0, all_joined xs ys h.1 k)

pub skips_filled : (bytes : List ℕ) (start : ℕ) (list one later : ListState) (piece : List ℕ) → later
    ≡ with_piece one piece → IsReady bytes later → SkipsBelow bytes start list one → SkipsBelow bytes start list later
skips_filled bytes start list one later piece is ready skips =
    ((ready.0, ready.1), skips.1, skips.2 ∙ ap (before skips.1) (sym (ap (ids_left bytes) is)), skips.3)

-- ---- the first id that is left

module _ (bytes : List ℕ) (s : Inside) (now : ListState) (is : state_of s ≡ now) (from : ℕ) where
  -- a list without ids begins from any number
  begins_none : (IsReady bytes (state_of s) → (ids_left bytes (state_of s)).ids ≡ []) → IsReady bytes now →
      BeginsFrom from (ids_left bytes now).ids
  begins_none none ready =
      subst (λ (l : ListState). IsReady bytes l → BeginsFrom from (ids_left bytes l).ids) is
      (λ r. subst (BeginsFrom from) (sym (none r)) tt) ready

  -- a list that has ended
  pub begins_ended : s.has_ended ≡ true → IsReady bytes now → BeginsFrom from (ids_left bytes now).ids
  begins_ended ended = begins_none (λ r. ap (λ e. (cond e (let r : Ids = record { ids = []; whole = s.is_whole } in r)
      (ids_ahead s.decoder (bytes_left bytes (state_of s)))).ids) ended)

  pub begins_end : (whole : Bool) → s.has_ended ≡ false → IsStep s.decoder (drop s.used s.window.piece.items) (End whole) →
      IsReady bytes now → BeginsFrom from (ids_left bytes now).ids
  begins_end whole going step = begins_none (λ r. ap (λ (ids : Ids). ids.ids) (ended_left bytes s going r whole step))

  pub begins_next : (len : ℕ) → s.has_ended ≡ false → IsNextId s.decoder (drop s.used s.window.piece.items) from len →
      IsReady bytes now → BeginsFrom from (ids_left bytes now).ids
  begins_next len going step ready =
      subst (λ (l : ListState). IsReady bytes l → BeginsFrom from (ids_left bytes l).ids) is
      (λ r. subst (λ (ids : Ids). BeginsFrom from ids.ids) (sym (next_left bytes s going r from len step))
      (let same : from ≤ from = omega arith in same)) ready

-- ---- pieces that are read

-- a part of a store's bytes begins with a shorter one
pub part_split : (bytes : List ℕ) (at len m : ℕ) → len ≤ m → part_of bytes at m ≡ part_of bytes at len ++ part_of bytes (at + len) (m - len)
part_split bytes at len m h =
    let whole : len + (m - len) ≡ m = omega (arith, h) in
    sym (take-append-drop len (take m (drop at bytes)))
    ∙ (λ i. take-take len m (drop at bytes) h i ++ drop len (take (sym whole i) (drop at bytes)))
    ∙ ap (λ t. part_of bytes at len ++ t) (drop-take len (m - len) (drop at bytes) ∙ ap (take (m - len)) (drop-drop len at bytes))

-- a piece that is read anew: it has a whole varint, or all that is left
pub new_piece : (bytes piece : List ℕ) (at m len : ℕ) → len ≤ m → (len ≡ m) ⊎ (5 ≤ len) → piece ≡ part_of bytes at len
    → (more : List ℕ) × (part_of bytes at m ≡ piece ++ more) × ((5 ≤ length piece) ⊎ (more ≡ []))
new_piece bytes piece at m len h enough is = (
  part_of bytes (at + len) (m - len),
  part_split bytes at len m h ∙ ap (λ p. p ++ part_of bytes (at + len) (m - len))
      (sym is),
  last enough,
)
  where
    none : (k : ℕ) (xs : List ℕ) → length xs ≡ 0 → take k xs ≡ []
    none k xs e = ap (take k) (nil_from_length xs e) ∙ take-nil k

    short : length piece < 5 → 5 ≤ len → part_of bytes (at + len) (m - len) ≡ []
    short less long =
        let l = ap length is in
        let t = length-take len (drop at bytes) in
        let d = length-drop at bytes in
        let e = length-drop (at + len) bytes in
        none (m - len) (drop (at + len) bytes) (omega (arith, less, long, l, t, d, e))

    last : (len ≡ m) ⊎ (5 ≤ len) → (5 ≤ length piece) ⊎ (part_of bytes (at + len) (m - len) ≡ [])
    last (inl same) = inr (ap (λ n. take n (drop (at + len) bytes)) (let z : m - len ≡ 0 = omega (arith, same) in z))
    last (inr long) = elim (cases_lt (length piece) 5) [
      | inl less ↦ inr (short less long)
      | inr more ↦ inl more
    ]

-- the piece has a whole varint, or ends with the section
pub still_ready : (bytes : List ℕ) (s : Inside) (now : ListState) → state_of s ≡ now → s.used ≤ length s.window.piece.items →
    (5 ≤ length s.window.piece.items - s.used) ⊎ (s.window.start + length s.window.piece.items ≡ s.stop) → Holds bytes now → IsReady bytes now
still_ready bytes s now is inside enough holds =
    subst (λ (n : ListState). Holds bytes n → IsReady bytes n) is
    (λ h.
    let piece : List ℕ = drop s.used s.window.piece.items in
    let l = length-drop s.used s.window.piece.items in
    let parts = ap length h.1 in
    let t = length-take (s.stop - (s.window.start + s.used)) (drop (s.window.start + s.used) bytes) in
    let a = length-append piece h.0 in (
      h.0,
      h.1,
      elim enough [
        | inl long ↦ inl (omega (arith, l, long))
        | inr ends ↦ inr (nil_from_length h.0 (omega (arith, l, parts, t, a, ends, inside)))
      ],
    )) holds

-- what a modelled store shows
pub shown : (P : List ℕ → Type 0) (model : Option (List ℕ)) (bytes : List ℕ) → model ≡ Some bytes → IfSome model P → P bytes
shown P model bytes is so = subst (λ m. IfSome m P) is so

-- ---- the list of an entry

-- the bytes after the first ones of a piece
pub holds_after : (bytes piece : List ℕ) (start stop len used : ℕ) → piece ≡ part_of bytes start len →
    start + len ≤ stop → used ≤ length piece → part_of bytes (start + used) (stop - (start + used)) ≡ drop used piece
    ++ part_of bytes (start + len) (stop - start - len)
holds_after bytes piece start stop len used is within inside =
    let l = ap length is in
    let t = length-take len (drop start bytes) in
    left_after bytes start stop used (omega (arith, l, t, within, inside))
    ∙ ap (drop used) (part_split bytes start len (stop - start) (omega (arith, within))
    ∙ ap (λ p. p ++ part_of bytes (start + len) (stop - start - len)) (sym is))
    ∙ drop-append-le used piece (part_of bytes (start + len) (stop - start - len)) inside

module _ (bytes piece : List ℕ) (start room offset len : ℕ) (is : piece ≡ part_of bytes (start + offset) len)
    (within : len ≤ room - offset) (long : 4 ≤ len) (fits : offset + 4 ≤ room) where
  section_after : (used : ℕ) → offset + used ≤ room → drop (offset + used) (part_of bytes start room)
      ≡ part_of bytes (start + offset + used) (start + room - (start + offset + used))
  section_after used inside =
      ap (λ n. drop (offset + used) (take n (drop start bytes))) (let z : room ≡ start + room - start = omega arith in z)
      ∙ sym (left_after bytes start (start + room) (offset + used) (omega (arith, inside)))
      ∙ ap (λ n. take (start + room - n) (drop n bytes)) (let z : start + (offset + used) ≡ start + offset + used = omega arith in z)

  first_three : take 3 (drop offset (part_of bytes start room)) ≡ take 3 piece
  first_three =
      let n : offset ≡ offset + 0 = omega arith in
      let at : start + offset + 0 ≡ start + offset = omega arith in
      ap (λ k. take 3 (drop k (part_of bytes start room))) n ∙ ap (take 3) (section_after 0 (omega (arith, fits)))
      ∙ ap (λ k. take 3 (take (start + room - k) (drop k bytes))) at
      ∙ take-take 3 (start + room - (start + offset)) (drop (start + offset) bytes) (omega (arith, fits))
      ∙ sym (take-take 3 len (drop (start + offset) bytes) (omega (arith, long))) ∙ ap (take 3) (sym is)

  module _ (name_count : ℕ) (e : ListEntry) (at : e.offset ≡ offset) where
    read_named : read_list (part_of bytes start room) name_count e
        ≡ cond (bytes_eq (take 3 piece) (three_bytes e.trigram))
        (read_ids name_count e.count 0 (part_of bytes (start + offset + 3) (start + room - (start + offset + 3))))
        damage
    read_named =
        ap (λ o. cond (bytes_eq (take 3 (drop o (part_of bytes start room))) (three_bytes e.trigram))
        (read_ids name_count e.count 0 (drop (o + 3) (part_of bytes start room))) damage) at
        ∙ (λ i. cond (bytes_eq (first_three i) (three_bytes e.trigram))
        (read_ids name_count e.count 0 (section_after 3 (let z : offset + 3 ≤ room = omega (arith, fits) in z) i))
        damage)

    pub open_damaged : bytes_eq (take 3 piece) (three_bytes e.trigram) ≡ false → record { ids = []; whole = false }
        ≡ read_list (part_of bytes start room) name_count e
    open_damaged other = sym (read_named ∙ ap
        (λ b. cond b (read_ids name_count e.count 0
        (part_of bytes (start + offset + 3) (start + room - (start + offset + 3)))) damage) other)

    pub open_read : bytes_eq (take 3 piece) (three_bytes e.trigram) ≡ true →
        read_ids name_count e.count 0 (part_of bytes (start + offset + 3) (start + room - (start + offset + 3)))
        ≡ read_list (part_of bytes start room) name_count e
    open_read same = sym (read_named ∙ ap (λ b. cond b
        (read_ids name_count e.count 0 (part_of bytes (start + offset + 3) (start + room - (start + offset + 3))))
        damage) same)

-- the section ends before the list
pub open_short : (bytes : List ℕ) (start room name_count : ℕ) (e : ListEntry) → room < e.offset + 4 → damage
    ≡ read_list (part_of bytes start room) name_count e
open_short bytes start room name_count e h =
    let postings : List ℕ = part_of bytes start room in
    let l = length-take room (drop start bytes) in
    elim (cases_lt (length postings) (e.offset + 3)) [
      | inl less ↦ list_short postings name_count e less
      | inr more ↦
          let d = length-drop (e.offset + 3) postings in
          let none : drop (e.offset + 3) postings ≡ [] = nil_from_length (drop (e.offset + 3) postings) (omega (arith, h, l, d)) in
          sym (ap (λ ids. cond (named postings) ids damage) (ap (read_ids name_count e.count 0) none
          ∙ unread name_count e.count 0 [] refl) ∙ both (named postings))
    ]
  where
    named : List ℕ → Bool
    named postings = bytes_eq (take 3 (drop e.offset postings)) (three_bytes e.trigram)

    both : (b : Bool) → cond b damage damage ≡ damage
    both true = refl
    both false = refl

-- ---- lists with other pieces

pub given_on : (bytes : List ℕ) (end : ℕ) (list later rest : ListState) (piece : List ℕ) (found : Option ℕ) → later
    ≡ with_piece list piece → GivesBelow bytes end later rest found → GivesBelow bytes end list rest found
given_on bytes end list later rest piece None is gives = subst (λ (l : ListState). GivesBelow bytes end l rest None) is gives
given_on bytes end list later rest piece (Some id) is gives = subst (λ (l : ListState). GivesBelow bytes end l rest (Some id)) is gives
