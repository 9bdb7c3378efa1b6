-- The rows of a window of ids.
use Rattle.std.proofs.Common.{◌≡◌, ℕ, zero, suc, ◌+◌, ◌-◌, ◌<◌, ◌≤◌, Bool, true, false, cond, ◌&&◌, ◌||◌, eqb, List, [], ◌∷◌, ◌++◌, length, take, drop, get_or, set, Vec, Global, Option, Some, None, refl, sym, ap, subst, ◌∙◌, ◌⊎◌, inl, inr, arith, length-set, replicate}
use Rattle.cs_index.proofs.encoding.EncodingDecodes.{rise_sooner}
use Rattle.cs_index.proofs.writer.ListsBelow.{list_each}
use Rattle.cs_trigram.proofs.SetLemmas.{has-append}
use Rattle.std.proofs.lemmas.List.Elements.{filter-append}
use Rattle.std.proofs.Math.Seq.{take-nil}
use Rattle.std.proofs.lemmas.Bool.{true≢false, cases_Bool, eqb-true, eq-eqb, ne_eqb}
use Rattle.std.proofs.Math.Bool.{or-false, or_assoc, and_assoc, and-true}
use Rattle.std.proofs.lemmas.List.{append-nil, get_or-drop, nil_from_length, length-replicate, take_at}
use Rattle.std.specs.Prelude.{filter, IfSome}
use Rattle.std.specs.List.{AllByRecursion, AllZip, list_any, range_with_len}
use Rattle.cs_trigram.specs.Trigram.{has}
use Rattle.cs_index.specs.AscendingIds.{AscendWithin, BeginsFrom, ids_onward, max_ids}
use Rattle.cs_index.specs.PostingLists.{Ids}
use Rattle.cs_index.specs.IdStream.{IsMarked}
use Rattle.cs_index.specs.Form.{IsRequired, number_matches}
use Rattle.cs_index.specs.declared.reading.form.FormNode.{FormNode}
use Rattle.cs_index.specs.Rows.{lists_are_whole, column, have_id, HaveWidth, IsLeft, IsReadOn, IsReadTo, LacksId, RowSoFar}
use Rattle.cs_index.specs.StoredLists.{ListState, Holds, before, ids_left}
use Rattle.cs_index.proofs.postings.IteratorSteps.{mark_step}

-- ---- ids that ascend

ascend_from : (m a end : ℕ) (ids : List ℕ) → AscendWithin m a ids → BeginsFrom end ids → AscendWithin m end ids
ascend_from m a end [] up h = tt
ascend_from m a end (id ∷ ids) up h = (h, up.1, up.2)

none_below : (m end : ℕ) (ids : List ℕ) (id : ℕ) → AscendWithin m end ids → id < end → has ids id ≡ false
none_below m end [] id up h = refl
none_below m end (i ∷ ids) id up h = λ j. ne_eqb i id (λ e. absurd (omega (arith, e, h, up.0))) j
    || none_below m (i + 1) ids id up.2 (omega (arith, h, up.0)) j

shifted : (start id k : ℕ) → start ≤ id → eqb (id - start) k ≡ eqb id (start + k)
shifted start id k h = elim (cases_Bool (eqb (id - start) k)) [
  | inl here ↦ let e = eqb-true (id - start) k here in here ∙ sym (eq-eqb id (start + k) (omega (arith, e, h)))
  | inr apart ↦ elim (cases_Bool (eqb id (start + k))) [
    | inl there ↦ let e = eqb-true id (start + k) there in absurd (true≢false (sym (eq-eqb (id - start) k (omega (arith, e, h))) ∙ apart))
    | inr gone ↦ apart ∙ sym gone
  ]
]

-- ids that are skipped
skipped_same : (start id : ℕ) (xs ys : List ℕ) → AllByRecursion (λ k. k < start) xs → start ≤ id → has (xs ++ ys) id ≡ has ys id
skipped_same start id [] ys h from = refl
skipped_same start id (x ∷ xs) ys h from = λ j. ne_eqb x id (λ e. absurd (omega (arith, e, h.0, from))) j
    || skipped_same start id xs ys h.1 from j

skipped_ascend : (m a : ℕ) (xs ys : List ℕ) → AscendWithin m a (xs ++ ys) → AscendWithin m 0 ys
skipped_ascend m a [] ys up = rise_sooner m 0 a ys (omega arith) up
skipped_ascend m a (x ∷ xs) ys up = skipped_ascend m (x + 1) xs ys up.2

pub skipped_to : (start : ℕ) (list rest : Ids) (skipped : List ℕ) → list ≡ before skipped rest →
    AllByRecursion (λ k. k < start) skipped → AscendWithin max_ids 0 list.ids → IsReadTo start list rest
skipped_to start list rest skipped is below up = record {
  same = λ id from. sym (ap (λ (r : Ids). has r.ids id) is ∙ skipped_same start id skipped rest.ids below from);
  ascend = skipped_ascend max_ids 0 skipped rest.ids (subst (λ (r : Ids). AscendWithin max_ids 0 r.ids) is up);
  whole = sym (ap (λ (r : Ids). r.whole) is);
}

pub row_begins : (start end : ℕ) (list rest : Ids) (row : List Bool) → start < end → row ≡ [] →
    IsReadTo start list rest → BeginsFrom start rest.ids → RowSoFar start end list row rest
row_begins start end list rest row order none r begins = record {
  width = inl (ap length none);
  flags = λ k h. ap (λ (r : List Bool). get_or r k false || has rest.ids (start + k)) none ∙ r.same (start + k) (omega arith);
  same = λ id h. r.same id (omega (arith, h, order));
  from = ascend_from max_ids 0 start rest.ids r.ascend begins;
  whole = r.whole;
}

-- one id more; the row may have got its flags just now
pub row_more : (start end : ℕ) (list : Ids) (row wide : List Bool) (rest rest' : Ids) (id : ℕ) →
    RowSoFar start end list row rest → rest.ids ≡ id ∷ rest'.ids → rest'.whole ≡ rest.whole → id < end → length wide
    ≡ end - start → ((k : ℕ) → get_or wide k false ≡ get_or row k false) →
    RowSoFar start end list (set wide (id - start) true) rest'
row_more start end list row wide rest rest' id r first whole below long alike =
    let up : AscendWithin max_ids start (id ∷ rest'.ids) = subst (AscendWithin max_ids start) first r.from in
    record {
      width = inr (length-set wide (id - start) true ∙ long);
      flags = λ k h.
          mark_step wide (id - start) k (has rest'.ids (start + k)) (omega (arith, long, below, up.0))
          ∙ (λ i. alike k i || (shifted start id k up.0 i || has rest'.ids (start + k)))
          ∙ ap (λ (ids : List ℕ). get_or row k false || has ids (start + k)) (sym first) ∙ r.flags k h;
      same = λ k h.
          sym (ap (λ b. b || has rest'.ids k) (ne_eqb id k (λ e. absurd (omega (arith, e, h, below)))))
          ∙ ap (λ (ids : List ℕ). has ids k) (sym first) ∙ r.same k h;
      from = rise_sooner max_ids start (id + 1) rest'.ids (omega (arith, up.0)) up.2;
      whole = whole ∙ r.whole;
    }

-- ---- ids that are taken at once

-- one of the ids has this flag of a window
onward_shifted : (start next k : ℕ) (ids : List ℕ) → start ≤ next → has (ids_onward (next - start) ids) k
    ≡ has (ids_onward next ids) (start + k)
onward_shifted start next k [] h = refl
onward_shifted start next k (id ∷ ids) h =
    let at : next - start + id ≡ next + id - start = omega (arith, h) in
    let first : eqb (next - start + id) k ≡ eqb (next + id) (start + k) = ap (λ n. eqb n k) at
    ∙ shifted start (next + id) k (omega (arith, h)) in
    λ i. first i || onward_shifted start next k ids h i

taken_ascend : (m a : ℕ) (xs ys : List ℕ) → AscendWithin m a (xs ++ ys) → AscendWithin m a ys
taken_ascend m a [] ys up = up
taken_ascend m a (x ∷ xs) ys up = rise_sooner m a (x + 1) ys (omega (arith, up.0)) (taken_ascend m (x + 1) xs ys up.2)

-- several ids more, whose flags are set
pub row_taken : (start end next : ℕ) (list rest rest' : Ids) (row marked : List Bool) (ids : List ℕ) → start ≤ next →
    RowSoFar start end list row rest → rest ≡ before (ids_onward next ids) rest' →
    AllByRecursion (λ id. id < end) (ids_onward next ids) → IsMarked (next - start) ids row marked →
    RowSoFar start end list marked rest'
row_taken start end next list rest rest' row marked ids order r is below m =
    let taken : List ℕ = ids_onward next ids in
    let all : rest.ids ≡ taken ++ rest'.ids = ap (λ (t : Ids). t.ids) is in
    record {
      width = subst (λ n. (n ≡ 0) ⊎ (n ≡ end - start)) (sym m.width) r.width;
      flags = λ k h.
          ap (λ b. b || has rest'.ids (start + k)) (m.flags k ∙ ap (λ b. get_or row k false || b) (onward_shifted start next k ids order))
          ∙ or_assoc (get_or row k false) (has taken (start + k)) (has rest'.ids (start + k))
          ∙ ap (λ b. get_or row k false || b) (sym (has-append (start + k) taken rest'.ids)
          ∙ ap (λ (t : List ℕ). has t (start + k)) (sym all))
          ∙ r.flags k h;
      same = λ id h. sym (skipped_same end id taken rest'.ids below h) ∙ ap (λ (t : List ℕ). has t id) (sym all) ∙ r.same id h;
      from = taken_ascend max_ids start taken rest'.ids (subst (AscendWithin max_ids start) all r.from);
      whole = sym (ap (λ (t : Ids). t.whole) is) ∙ r.whole;
    }

pub row_ends : (start end : ℕ) (list : Ids) (row : List Bool) (rest : Ids) → RowSoFar start end list row rest →
    BeginsFrom end rest.ids → (k : ℕ) → start + k < end → get_or row k false ≡ has list.ids (start + k)
row_ends start end list row rest r h k below =
    sym (or-false (get_or row k false))
    ∙ ap (λ b. get_or row k false || b) (sym
    (none_below max_ids end rest.ids (start + k) (ascend_from max_ids start end rest.ids r.from h) below))
    ∙ r.flags k below

pub read_weaker : (a b : ℕ) (list rest : Ids) → a ≤ b → IsReadTo a list rest → IsReadTo b list rest
read_weaker a b list rest h r = record { same = λ id above. r.same id (omega (arith, h, above)); ascend = r.ascend; whole = r.whole }

-- no id is between those that were skipped and the next one
pub none_between : (start next id : ℕ) (list rest : Ids) → IsReadTo start list rest → BeginsFrom next rest.ids →
    start ≤ id → id < next → has list.ids id ≡ false
none_between start next id list rest r begins from below = sym (r.same id from)
    ∙ none_below max_ids next rest.ids id (ascend_from max_ids 0 next rest.ids r.ascend begins) below

-- ---- lists that are read on

pub read_on : (a b : ℕ) (list rest after : Ids) → a ≤ b → IsReadTo a list rest → IsReadTo b rest after → IsReadTo b list after
read_on a b list rest after h r s = record {
  same = λ id above. s.same id above ∙ r.same id (omega (arith, h, above));
  ascend = s.ascend;
  whole = s.whole ∙ r.whole;
}

module _ (bytes : List ℕ) where
  pub read_all_on : (a b : ℕ) (lists rests afters : List ListState) → a ≤ b → AllZip (IsReadOn bytes a) lists rests →
      AllZip (IsReadOn bytes b) rests afters → AllZip (IsReadOn bytes b) lists afters
  read_all_on a b [] [] [] h r s = tt
  read_all_on a b (l ∷ ls) (m ∷ ms) (n ∷ ns) h r s = (
    (s.0.0, read_on a b (ids_left bytes l) (ids_left bytes m) (ids_left bytes n) h r.0.1 s.0.1),
    read_all_on a b ls ms ns h r.1 s.1,
  )
  read_all_on a b [] [] (n ∷ ns) h r s = absurd s
  read_all_on a b [] (m ∷ ms) ns h r s = absurd r
  read_all_on a b (l ∷ ls) [] ns h r s = absurd r
  read_all_on a b (l ∷ ls) (m ∷ ms) [] h r s = absurd s

  pub not_read : (end : ℕ) (lists : List ListState) → AllByRecursion (IsLeft bytes) lists → AllZip (IsReadOn bytes end) lists lists
  not_read end [] up = tt
  not_read end (l ∷ ls) up = ((up.0.0, record { same = λ id h. refl; ascend = up.0.1; whole = refl }), not_read end ls up.1)

  pub have_length : (id : ℕ) (lists : List ListState) → length (have_id bytes lists id) ≡ length lists
  have_length id [] = refl
  have_length id (l ∷ ls) = ap suc (have_length id ls)

  -- one list is read on
  pub one_read : (end : ℕ) (lists : List ListState) (at : ℕ) (d list : ListState) → AllByRecursion (IsLeft bytes) lists
      → at < length lists → IsReadOn bytes end (get_or lists at d) list →
      AllZip (IsReadOn bytes end) lists (set lists at list)
  one_read end [] at d list up below read = absurd (omega (arith, below))
  one_read end (l ∷ ls) zero d list up below read = (read, not_read end ls up.1)
  one_read end (l ∷ ls) (suc at) d list up below read = (
    (up.0.0, record { same = λ id h. refl; ascend = up.0.1; whole = refl }),
    one_read end ls at d list up.1
        (omega (arith, below)) read,
  )

  -- the flag of a list
  pub have_at : (id : ℕ) (lists : List ListState) (at : ℕ) (d : ListState) → at < length lists →
      get_or (have_id bytes lists id) at false ≡ has (ids_left bytes (get_or lists at d)).ids id
  have_at id [] at d below = absurd (omega (arith, below))
  have_at id (l ∷ ls) zero d below = refl
  have_at id (l ∷ ls) (suc at) d below = have_at id ls at d (omega (arith, below))

  pub all_from : (end : ℕ) (lists rests : List ListState) → AllZip (IsReadOn bytes end) lists rests → AllByRecursion (IsLeft bytes) rests
  all_from end [] [] r = tt
  all_from end (l ∷ ls) (m ∷ ms) r = ((r.0.0, r.0.1.ascend), all_from end ls ms r.1)
  all_from end [] (m ∷ ms) r = absurd r
  all_from end (l ∷ ls) [] r = absurd r

  pub all_held : (end : ℕ) (lists rests : List ListState) → AllZip (IsReadOn bytes end) lists rests → AllByRecursion (Holds bytes) rests
  all_held end [] [] r = tt
  all_held end (l ∷ ls) (m ∷ ms) r = (r.0.0, all_held end ls ms r.1)
  all_held end [] (m ∷ ms) r = absurd r
  all_held end (l ∷ ls) [] r = absurd r

  pub have_alike : (end id : ℕ) (lists rests : List ListState) → end ≤ id → AllZip (IsReadOn bytes end) lists rests →
      have_id bytes rests id ≡ have_id bytes lists id
  have_alike end id [] [] h r = refl
  have_alike end id (l ∷ ls) (m ∷ ms) h r = λ i. r.0.1.same id h i ∷ have_alike end id ls ms h r.1 i
  have_alike end id [] (m ∷ ms) h r = absurd r
  have_alike end id (l ∷ ls) [] h r = absurd r

  pub whole_alike : (end : ℕ) (lists rests : List ListState) → AllZip (IsReadOn bytes end) lists rests →
      lists_are_whole bytes rests ≡ lists_are_whole bytes lists
  whole_alike end [] [] r = refl
  whole_alike end (l ∷ ls) (m ∷ ms) r = λ i. r.0.1.whole i && whole_alike end ls ms r.1 i
  whole_alike end [] (m ∷ ms) r = absurd r
  whole_alike end (l ∷ ls) [] r = absurd r

  -- all lists are whole if each of them is
  pub whole-append : (lists : List ListState) (list : ListState) → lists_are_whole bytes (lists ++ list ∷ [])
      ≡ (lists_are_whole bytes lists && (ids_left bytes list).whole)
  whole-append [] list = and-true (ids_left bytes list).whole
  whole-append (l ∷ ls) list = ap (λ b. (ids_left bytes l).whole && b) (whole-append ls list)
      ∙ sym (and_assoc (ids_left bytes l).whole (lists_are_whole bytes ls) (ids_left bytes list).whole)

  -- one list more
  pub have-push : (lists : List ListState) (list : ListState) (id : ℕ) → have_id bytes (lists ++ list ∷ []) id
      ≡ have_id bytes lists id ++ has (ids_left bytes list).ids id ∷ []
  have-push [] list id = refl
  have-push (l ∷ ls) list id = ap (λ t. has (ids_left bytes l).ids id ∷ t) (have-push ls list id)

  pub held_at : (lists : List ListState) (k : ℕ) (d : ListState) → k < length lists →
      AllByRecursion (IsLeft bytes) lists → IsLeft bytes (get_or lists k d)
  held_at = list_each (IsLeft bytes)

  pub held_parts : (lists : List ListState) (list : ListState) → AllByRecursion (Holds bytes) (lists ++ list ∷ []) →
      AllByRecursion (Holds bytes) lists × Holds bytes list
  held_parts [] list h = (tt, h.0)
  held_parts (l ∷ ls) list h = let more = held_parts ls list h.1 in ((h.0, more.0), more.1)

-- ---- ids of a window

pub range_split : (a n m : ℕ) → range_with_len a (n + m) ≡ range_with_len a n ++ range_with_len (a + n) m
range_split a zero m = (λ i. range_with_len (let z : a ≡ a + 0 = omega arith in z i) (let z : 0 + m ≡ m = omega arith in z i))
range_split a (suc n) m = ap (range_with_len a) (let z : suc n + m ≡ suc (n + m) = omega arith in z)
    ∙ ap (λ (t : List ℕ). a ∷ t) (range_split (a + 1) n m ∙ ap (λ k. range_with_len (a + 1) n ++ range_with_len k m)
    (let z : a + 1 + n ≡ a + suc n = omega arith in z))

pub filter_alike : (p q : ℕ → Bool) (a n : ℕ) → ((k : ℕ) → k < n → p (a + k) ≡ q (a + k)) → filter p (range_with_len a n)
    ≡ filter q (range_with_len a n)
filter_alike p q a zero f = refl
filter_alike p q a (suc n) f =
    let here : p a ≡ q a = let e : a ≡ a + 0 = omega arith in ap p e ∙ f 0 (omega arith) ∙ ap q (sym e) in
    let later = filter_alike p q (a + 1) n (λ k h. let e : a + 1 + k ≡ a + suc k = omega arith in ap p e
    ∙ f (suc k) (omega (arith, h)) ∙ ap q (sym e)) in
    λ i. cond (here i) (a ∷ later i) (later i)

-- the ids that pass a test, in two ranges
pub filter_split : (test : ℕ → Bool) (from middle to : ℕ) → from ≤ middle → middle ≤ to →
    filter test (range_with_len from (to - from))
    ≡ filter test (range_with_len from (middle - from)) ++ filter test (range_with_len middle (to - middle))
filter_split test from middle to low high =
    ap (λ n. filter test (range_with_len from n)) (let z : to - from ≡ middle - from + (to - middle) = omega (arith, low, high) in z)
    ∙ ap (filter test) (range_split from (middle - from) (to - middle)
    ∙ ap (λ k. range_with_len from (middle - from) ++ range_with_len k (to - middle))
    (let z : from + (middle - from) ≡ middle = omega (arith, low) in z))
    ∙ filter-append test (range_with_len from (middle - from)) (range_with_len middle (to - middle))

-- the ids so far, and those of the window
pub window_more : (test flag : ℕ → Bool) (from start end : ℕ) (ids new : List ℕ) → from ≤ start → start ≤ end →
    ids ≡ filter test (range_with_len from (start - from)) → new ≡ ids ++ filter flag (range_with_len start (end - start)) →
    ((k : ℕ) → start + k < end → flag (start + k) ≡ test (start + k)) → new ≡ filter test (range_with_len from (end - from))
window_more test flag from start end ids new low h so_far is alike =
    is ∙ (λ i. so_far i ++ filter_alike flag test start (end - start) (λ k below. alike k (omega (arith, below, h))) i)
    ∙ sym (filter_split test from start end low h)

pub filter_false : (p : ℕ → Bool) (a n : ℕ) → ((k : ℕ) → a ≤ k → k < a + n → p k ≡ false) → filter p (range_with_len a n) ≡ []
filter_false p a zero f = refl
filter_false p a (suc n) f =
    ap (λ b. cond b (a ∷ filter p (range_with_len (a + 1) n)) (filter p (range_with_len (a + 1) n))) (f a (omega arith) (omega arith))
    ∙ filter_false p (a + 1) n (λ k from below. f k (omega (arith, from)) (omega (arith, below)))

-- ids for which the test fails
pub window_none : (test : ℕ → Bool) (from start end : ℕ) (ids : List ℕ) → from ≤ start → start ≤ end →
    ids ≡ filter test (range_with_len from (start - from)) → ((id : ℕ) → start ≤ id → id < end → test id ≡ false) →
    ids ≡ filter test (range_with_len from (end - from))
window_none test from start end ids low h so_far none =
    so_far ∙ sym (append-nil (filter test (range_with_len from (start - from))))
    ∙ ap (λ t. filter test (range_with_len from (start - from)) ++ t)
    (sym (filter_false test start (end - start) (λ k after below. none k after (omega (arith, below, h)))))
    ∙ sym (filter_split test from start end low h)

-- a required list lacks the id
pub lacks_required : (nodes : List FormNode) (root : ℕ) (bits : List Bool) (rarest : Option ℕ) →
    IfSome rarest (IsRequired (length bits) nodes root) → LacksId bits rarest → number_matches bits nodes root ≡ false
lacks_required nodes root bits None required lacks = absurd lacks
lacks_required nodes root bits (Some at) required lacks = elim (cases_Bool (number_matches bits nodes root)) [
  | inl matches ↦ absurd (true≢false (sym (required.1 bits refl matches) ∙ lacks))
  | inr none ↦ none
]

no_flags : (start a n : ℕ) → filter (λ id. get_or [] (id - start) false) (range_with_len a n) ≡ []
no_flags start a zero = refl
no_flags start a (suc n) = no_flags start (a + 1) n

-- all flags of a row were looked at; a row without flags has no id
pub all_pushed : (row : List Bool) (start end id : ℕ) (old new : List ℕ) → (length row ≡ 0) ⊎ (length row ≡ end - start)
    → id ≡ start + length row → old ++ filter (λ k. get_or row (k - start) false) (range_with_len start (length row))
    ≡ new ++ filter (λ k. get_or row (k - start) false) (range_with_len id (start + length row - id)) →
    new ≡ old ++ filter (λ k. get_or row (k - start) false) (range_with_len start (end - start))
all_pushed row start end id old new (inr long) at is =
    let none : start + length row - id ≡ 0 = omega (arith, at) in
    sym (append-nil new) ∙ sym (is ∙ ap (λ n. new ++ filter (λ k. get_or row (k - start) false) (range_with_len id n)) none)
    ∙ ap (λ n. old ++ filter (λ k. get_or row (k - start) false) (range_with_len start n)) long
all_pushed [] start end id old new (inl none) at is =
    let zero' : start + 0 - id ≡ 0 = omega (arith, at) in
    sym (append-nil new) ∙ sym (is ∙ ap (λ n. new ++ filter (λ k. get_or [] (k - start) false) (range_with_len id n)) zero')
    ∙ ap (λ t. old ++ t) (sym (no_flags start start (end - start)))
all_pushed (b ∷ row) start end id old new (inl none) at is = absurd (omega (arith, none))

-- ---- rows of nodes

pub no_flag : (row : List Bool) → length row ≡ 0 → (k : ℕ) → get_or row k false ≡ false
no_flag row h k = ap (λ (r : List Bool). get_or r k false) (nil_from_length row h)

-- a row that gets its flags
pub widened : (n m : ℕ) (row wide : List Bool) → length row ≡ 0 → wide ≡ take n row ++ replicate m false → m ≡ n →
    (length wide ≡ n) × ((k : ℕ) → get_or wide k false ≡ get_or row k false)
widened n m row wide none is same =
    let empty : row ≡ [] = nil_from_length row none in
    let w : wide ≡ replicate m false = is ∙ (λ i. take n (empty i) ++ replicate m false)
    ∙ ap (λ (r : List Bool). r ++ replicate m false) (take-nil n) in (
      ap length w ∙ length-replicate m false ∙ same,
      λ k. ap (λ (r : List Bool). get_or r k false) w ∙ falses m k
          ∙ ap (λ (r : List Bool). get_or r k false) (sym empty),
    )
  where
    falses : (j k : ℕ) → get_or (replicate j false) k false ≡ false
    falses zero k = refl
    falses (suc j) zero = refl
    falses (suc j) (suc k) = falses j k

pub column-push : (k : ℕ) (rows : List (Vec Bool Global)) (row : Vec Bool Global) → column k (rows ++ row ∷ [])
    ≡ column k rows ++ get_or row.items k false ∷ []
column-push k [] row = refl
column-push k (r ∷ rows) row = ap (λ t. get_or r.items k false ∷ t) (column-push k rows row)

pub width-push : (width : ℕ) (rows : List (Vec Bool Global)) (row : Vec Bool Global) → HaveWidth width rows →
    (length row.items ≡ 0) ⊎ (length row.items ≡ width) → HaveWidth width (rows ++ row ∷ [])
width-push width [] row h w = (w, tt)
width-push width (r ∷ rows) row h w = (h.0, width-push width rows row h.1 w)

-- ---- one member more

module _ (known : List Bool) where
  abbrev flag : ℕ → Bool
  flag m = get_or known m false

  pub or_step : (f f' all : Bool) (left rest : List ℕ) (m : ℕ) → left ≡ m ∷ rest → f' ≡ (f || flag m) →
      (f || list_any flag left) ≡ all → (f' || list_any flag rest) ≡ all
  or_step f f' all left rest m first is so_far = ap (λ b. b || list_any flag rest) is
      ∙ or_assoc f (flag m) (list_any flag rest) ∙ ap (λ (ms : List ℕ). f || list_any flag ms) (sym first) ∙ so_far

-- ---- lists in a vector

pub left_at : (xs ys : List ListState) (k : ℕ) (d : ListState) → drop k xs ≡ drop k ys → get_or xs k d ≡ get_or ys k d
left_at xs ys k d same =
    let at : k + 0 ≡ k = omega arith in
    sym (get_or-drop k xs 0 d ∙ ap (λ n. get_or xs n d) at) ∙ ap (λ (zs : List ListState). get_or zs 0 d) same
    ∙ get_or-drop k ys 0 d ∙ ap (λ n. get_or ys n d) at

-- what is written back to a Vec
pub taken_back : {X : Type 0} (n : ℕ) (xs ys : List X) → n ≡ length xs → take n (xs ++ ys) ≡ xs
taken_back n xs ys is = take_at xs ys n (sym is)
