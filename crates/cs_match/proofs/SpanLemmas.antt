-- Spans of a line.
use Rattle.std.proofs.Common.{◌≡◌, ℕ, zero, suc, ◌+◌, ◌-◌, ◌<◌, ◌≤◌, inl, inr, Option, Some, None, Bool, true, false, not, ◌&&◌, List, length, refl, sym, ◌∙◌, ap, subst, add-one, arith}
use Rattle.std.specs.Prelude.{◌↔◌, slice_index, nat_le, nat_lt, MatchOption, IfSome}
use Rattle.std.proofs.Math.Dec.{leb, ltb}
use Rattle.std.proofs.lemmas.Bool.{and_parts, and_from, ltb-true, lt-ltb, leb-true, le-leb, lt-leb, le-ltb, cases_lt, cases_eq, false≢true}
use Rattle.cs_syntax.specs.Matching.{Tree, MatchesSpan, word_before, word_after}
use Rattle.cs_match.specs.Glushkov.{look_around, input_at, position_count, step, char_step_of, unfinished_before, accepts_at, IsExpanded}
use Rattle.cs_syntax.specs.CharSteps.{finished, unfinished_after}
use Rattle.cs_syntax.specs.declared.char_step.CharStep.{CharStep}
use Rattle.cs_syntax.specs.declared.char_step.Unfinished.{Unfinished}
use Rattle.cs_match.specs.declared.state.LookAround.{LookAround}
use Rattle.cs_match.specs.Span.{IsWholeWord, IsMatchOf, FirstSpansAreUnique}
use Rattle.cs_match.specs.SpanSearch.{BeginFrom, EndFrom, EndsAt, IsLastEnd}
use Rattle.cs_match.specs.Passes.{between, may_begin, may_end, positions_in, ends_in, PassesFindEnds, IsPassAt, IsPassOf}
use Rattle.cs_match.specs.declared.spans.pass.Pass.{Pass}
use Rattle.cs_match.proofs.GlushkovLemmas.{length-positions, reads, sound, complete, accepts_at_sound}
use Rattle.cs_match.proofs.DeadLemmas.{no_positions, not_final, stays_out}

pub unique : FirstSpansAreUnique
unique whole t s from least i j k l f g =
    let same : i ≡ k = omega (arith, f.leftmost k l g.is, g.leftmost i j f.is) in
    let P : ℕ → Type 0 = λ x. IsMatchOf whole t s from least x l in
    let Q : ℕ → Type 0 = λ x. IsMatchOf whole t s from least x j in
    (same, omega (arith, f.longest l (subst P (sym same) g.is), g.longest j (subst Q same f.is)))

and-false : (b : Bool) → b && false ≡ false
and-false true = refl
and-false false = refl

is_between : (from until i : ℕ) → from ≤ i → i < until → between from until i ≡ true
is_between from until i low high = and_from (leb from i) (ltb i until) (le-leb from i low) (lt-ltb i until high)

between_is : (from until i : ℕ) → between from until i ≡ true → (from ≤ i) × (i < until)
between_is from until i h =
    let p = and_parts (leb from i) (ltb i until) h in
    (leb-true from i p.0, ltb-true i until p.1)

-- no word byte stands beside an offset, if only whole words are wanted
free : (whole word : Bool) → not (whole && word) ≡ true → whole ≡ true → word ≡ false
free true false h e = refl
free true true h e = absurd (false≢true h)
free false word h e = absurd (false≢true e)

is_free : (whole word : Bool) → (whole ≡ true → word ≡ false) → not (whole && word) ≡ true
is_free true word h = rw (h refl) refl
is_free false word h = refl

module _ (whole : Bool) (s : List ℕ) (from until i : ℕ) where
  begins_here : from ≤ i → i < until → (whole ≡ true → word_before s i ≡ false) → may_begin whole s from until i ≡ true
  begins_here low high word =
      and_from (between from until i) (not (whole && word_before s i)) (is_between from until i low high)
      (is_free whole (word_before s i) word)

  begins_is : may_begin whole s from until i ≡ true → (from ≤ i) × (i < until) × (whole ≡ true → word_before s i ≡ false)
  begins_is h =
      let p = and_parts (between from until i) (not (whole && word_before s i)) h in
      let q = between_is from until i p.0 in
      (q.0, q.1, free whole (word_before s i) p.1)

  not_before : i < from → may_begin whole s from until i ≡ false
  not_before h = rw (lt-leb from i h) refl

  not_after : until ≤ i → may_begin whole s from until i ≡ false
  not_after h = rw (le-ltb i until h, and-false (leb from i)) refl

module _ (whole : Bool) (s : List ℕ) (t : Tree) (from until : ℕ) where
  module _ (expanded : IsExpanded t) where
    found : (i : ℕ) → i ≤ length s →
        ends_in whole s t from until i ≡ true
        ↔ ((start : ℕ) × (from ≤ start) × (start < until) × (start ≤ i) × MatchesSpan s t start i × (whole ≡ true → IsWholeWord s start i))
    found i within =
        let a = look_around t s in
        let b = input_at t s in
        let st = reads t s t expanded (λ e. e, λ e. e, λ e. e) (λ k h. h) in (
          λ e.
              let p = and_parts (accepts_at a b t (may_begin whole s from until) i) (may_end whole s i) e in
              let c = accepts_at_sound s a b t st (sound s a b t st) (may_begin whole s from until) i within p.0 in
              let d = begins_is whole s from until c.0 c.2 in
              (c.0, d.0, d.1, c.1, c.3, λ w. record { before = d.2 w; after = free whole (word_after s i) p.1 w }),
          λ m. and_from (accepts_at a b t (may_begin whole s from until) i) (may_end whole s i)
              (complete s a b t st (may_begin whole s from until) m.0 i
              (begins_here whole s from until m.0 m.1 m.2 (λ w. (m.5 w).before)) m.4)
              (is_free whole (word_after s i) (λ w. (m.5 w).after)),
        )

  moved : (i : ℕ) → may_begin whole s from until i ≡ false → positions_in whole s t from until i ≡ no_positions (position_count t) →
      positions_in whole s t from until (suc i) ≡ no_positions (position_count t)
  moved i out blank = rw (out, blank) (stays_out (look_around t s i) (input_at t s i) t)

  blank : (i : ℕ) → i ≤ from → positions_in whole s t from until i ≡ no_positions (position_count t)
  blank zero h = refl
  blank (suc i) h = moved i (not_before whole s from until i (omega (arith, h))) (blank i (omega (arith, h)))

  stays : (i more : ℕ) → until ≤ i → positions_in whole s t from until i ≡ no_positions (position_count t) →
      positions_in whole s t from until (more + i) ≡ no_positions (position_count t)
  stays i zero after h =
      let P : ℕ → Type 0 = λ k. positions_in whole s t from until k ≡ no_positions (position_count t) in
      let same : i ≡ 0 + i = omega arith in
      subst P same h
  stays i (suc more) after h =
      let P : ℕ → Type 0 = λ k. positions_in whole s t from until k ≡ no_positions (position_count t) in
      let next : suc (more + i) ≡ suc more + i = omega arith in
      subst P next (moved (more + i) (not_after whole s from until (more + i) (omega (arith, after))) (stays i more after h))

  over : (i more : ℕ) → until ≤ i → positions_in whole s t from until i ≡ no_positions (position_count t) →
      ends_in whole s t from until (more + i) ≡ false
  over i more after h =
      let out = not_after whole s from until (more + i) (omega (arith, after)) in
      rw (out, stays i more after h, not_final (look_around t s (more + i)) t) refl

  pub passes : IsExpanded t → PassesFindEnds whole s t from until
  passes expanded = record { found = found expanded; blank = blank; over = over }

-- the same match, searched for from another offset
pub match_from : (whole : Bool) (t : Tree) (s : List ℕ) (from least other i j : ℕ) → other ≤ i → IsMatchOf whole t s from least i j →
    IsMatchOf whole t s other least i j
match_from whole t s from least other i j h m =
    record { begins = h; ends = m.ends; ordered = m.ordered; within = m.within; matches = m.matches; word = m.word }

-- the sets of a pass up to an offset do not depend on where matches may begin after it
module _ (whole : Bool) (s : List ℕ) (t : Tree) (from until most : ℕ) (high : most ≤ until) where
  same_begin : (i : ℕ) → i < most → may_begin whole s from until i ≡ may_begin whole s from most i
  same_begin i h = rw (lt-ltb i until (omega (arith, h, high)), lt-ltb i most h) refl

  pub same_set : (i : ℕ) → i ≤ most → positions_in whole s t from until i ≡ positions_in whole s t from most i
  same_set zero h = refl
  same_set (suc i) h = rw (same_begin i (omega (arith, h)), same_set i (omega (arith, h))) refl

module _ (whole : Bool) (t : Tree) (s : List ℕ) (expanded : IsExpanded t) (from least : ℕ) where
  -- a match ends where the pass accepts
  pub ends_at : (until i : ℕ) → i ≤ length s → least ≤ i → ends_in whole s t from until i ≡ true → EndsAt whole t s from least until i
  ends_at until i within late e =
      let f = (found whole s t from until expanded i within).0 e in
      (f.0, f.2, record { begins = f.1; ends = late; ordered = f.3; within = within; matches = f.4; word = f.5 })

  -- and the pass accepts where a match ends
  accepts_match : (until i j : ℕ) → i < until → IsMatchOf whole t s from least i j → ends_in whole s t from until j ≡ true
  accepts_match until i j h m = (found whole s t from until expanded j m.within).1 (i, m.begins, h, m.ordered, m.matches, m.word)

  -- over one offset more
  pub passed : (until i : ℕ) → (ends_in whole s t from until i ≡ true → i < least) → EndFrom whole t s from least until i → EndFrom whole t s from least until (i + 1)
  passed until i none given start end m h =
      let low = given start end m h in
      elim (cases_eq end i) [
        | inl e ↦
            let P : ℕ → Type 0 = λ k. ends_in whole s t from until k ≡ true in
            let lt = none (subst P e (accepts_match until start end h m)) in
            absurd (omega (arith, lt, m.ends, e))
        | inr other ↦ omega (arith, low, other)
      ]

  -- with an empty set no match that has begun ends later
  ended : (until i : ℕ) → until ≤ i → positions_in whole s t from until i ≡ no_positions (position_count t) → (start end : ℕ) →
      IsMatchOf whole t s from least start end → start < until → end < i
  ended until i after none start end m h =
      elim (cases_lt end i) [
        | inl lt ↦ lt
        | inr le ↦
            let same : end ≡ (end - i) + i = omega (arith, le) in
            let P : ℕ → Type 0 = λ k. ends_in whole s t from until k ≡ true in
            let on = subst P same (accepts_match until start end h m) in
            absurd (false≢true (sym (over whole s t from until i (end - i) after none) ∙ on))
      ]

  -- no match that has begun before an empty set ends after it
  pub none_begins : (until i most : ℕ) → most ≤ until → most ≤ i → EndFrom whole t s from least until i →
      positions_in whole s t from until i ≡ no_positions (position_count t) → BeginFrom whole t s from least most
  none_begins until i most low high given none start end m =
      elim (cases_lt start most) [
        | inr le ↦ le
        | inl lt ↦
            let late = given start end m (omega (arith, lt, low)) in
            let end_before : end < i = elim (cases_lt i until) [
              | inl in_part ↦
                  ended i i (omega arith) (sym (same_set whole s t from until i (omega (arith, in_part)) i (omega arith)) ∙ none)
                  start end m (omega (arith, lt, high))
              | inr past ↦ ended until i past none start end m (omega (arith, lt, low))
            ] in
            absurd (omega (arith, late, end_before))
      ]

  -- at the end of the line
  pub none_left : (until : ℕ) → ends_in whole s t from until (length s) ≡ false → EndFrom whole t s from least until (length s) → BeginFrom whole t s from least until
  none_left until none given start end m =
      elim (cases_lt start until) [
        | inr le ↦ le
        | inl lt ↦
            let never : ends_in whole s t from until (length s) ≡ true → length s < least = λ on. absurd (false≢true (sym none ∙ on)) in
            let late = passed until (length s) never given start end m lt in
            absurd (omega (arith, late, m.within))
      ]

-- the ends of the matches that begin at one offset
module _ (whole : Bool) (t : Tree) (s : List ℕ) (expanded : IsExpanded t) (from least : ℕ) where
  -- a match ends here
  pub match_here : (i : ℕ) → i ≤ length s → least ≤ i → ends_in whole s t from (from + 1) i ≡ true → IsMatchOf whole t s from least from i
  match_here i within late e =
      let f = ends_at whole t s expanded from least (from + 1) i within late e in
      let same : f.0 ≡ from = omega (arith, f.1, f.2.begins) in
      let P : ℕ → Type 0 = λ k. IsMatchOf whole t s from least k i in
      subst P same f.2

  pub last_here : (i : ℕ) → i ≤ length s → least ≤ i → ends_in whole s t from (from + 1) i ≡ true → IsLastEnd whole t s from least (i + 1) (Some i)
  last_here i within late e = (match_here i within late e, λ end m h. omega (arith, h))

  -- none does
  pub last_kept : (i : ℕ) (last : Option ℕ) → (ends_in whole s t from (from + 1) i ≡ true → i < least) → IsLastEnd whole t s from least i last → IsLastEnd whole t s from least (i + 1) last
  last_kept i None none given = passed whole t s expanded from least (from + 1) i none given
  last_kept i (Some last) none given = (
    given.0,
    λ end m h. elim (cases_eq end i) [
      | inl e ↦
          let P : ℕ → Type 0 = λ k. ends_in whole s t from (from + 1) k ≡ true in
          let lt = none (subst P e (accepts_match whole t s expanded from least (from + 1) from end (omega arith) m)) in
          absurd (omega (arith, lt, m.ends, e))
      | inr other ↦ given.1 end m (omega (arith, h, other))
    ],
  )

  -- no match that begins here ends later
  abbrev pub EndBefore : ℕ → Type 0
  EndBefore i = (end : ℕ) → IsMatchOf whole t s from least from end → end < i

  pub end_before : (i : ℕ) → from < i → positions_in whole s t from (from + 1) i ≡ no_positions (position_count t) → EndBefore i
  end_before i after none end m = ended whole t s expanded from least (from + 1) i (omega (arith, after)) none from end m (omega arith)

  -- so the last end is the last of all
  pub last_ends : (i : ℕ) (last : Option ℕ) → EndBefore i → IsLastEnd whole t s from least i last →
      MatchOption last (BeginFrom whole t s from least (from + 1)) (IsMatchOf whole t s from least from)
  last_ends i None before given = λ start end m.
      elim (cases_lt from start) [
        | inl lt ↦ omega (arith, lt)
        | inr le ↦
            let same : start ≡ from = omega (arith, le, m.begins) in
            let P : ℕ → Type 0 = λ k. IsMatchOf whole t s from least k end in
            absurd (omega (arith, given start end m (omega (arith, le)), before end (subst P same m)))
      ]
  last_ends i (Some last) before given = given.0

  pub is_last : (i : ℕ) (last : Option ℕ) → EndBefore i → IsLastEnd whole t s from least i last →
      IfSome last (λ last. (end : ℕ) → IsMatchOf whole t s from least from end → end ≤ last)
  is_last i None before given = tt
  is_last i (Some last) before given = λ end m. given.1 end m (before end m)

  -- at the end of the line
  pub line_end : EndBefore (length s + 1)
  line_end end m = omega (arith, m.within)

-- the unfinished character does not depend on the bytes before one that is no continuation byte
pub starts_anew : (t : Tree) (at : Unfinished) (b : ℕ) → (nat_le 0x80 b && nat_lt b 0xc0) ≡ false → char_step_of t at b ≡ char_step_of t finished b
starts_anew t at b h = elim (cases_lt b 0x80) [
  | inl single ↦ rw (lt-ltb b 0x80 single) refl
  | inr high ↦
      let lead : nat_lt b 0xc0 ≡ false = rw (le-leb 0x80 b high) at h in
      rw lead refl
]

pub anew : (t : Tree) (s : List ℕ) (i : ℕ) → (nat_le 0x80 (slice_index s i) && nat_lt (slice_index s i) 0xc0) ≡ false →
    unfinished_after (char_step_of t finished (slice_index s i)) ≡ unfinished_before t s (i + 1)
anew t s i h = ap unfinished_after (sym (starts_anew t (unfinished_before t s i) (slice_index s i) h)) ∙ ap (unfinished_before t s) (sym (add-one i))

-- a pass that is somewhere is ready for another one
pub ready_length : (whole : Bool) (t : Tree) (s : List ℕ) (from until i : ℕ) (pass : Pass) → IsPassAt whole t s from until i pass → length pass.positions ≡ position_count t
ready_length whole t s from until i pass at = ap length at.positions ∙ length-positions (look_around t s) (input_at t s) t (may_begin whole s from until) i

pub is_ready : (whole : Bool) (t : Tree) (s : List ℕ) (from until i : ℕ) (pass : Pass) → IsExpanded t → IsPassAt whole t s from until i pass → IsPassOf t pass
is_ready whole t s from until i pass expanded at = (ready_length whole t s from until i pass at, at.scratch, expanded)

-- a pass moves to the next offset
module _ (whole : Bool) (t : Tree) (s : List ℕ) (from until i : ℕ) (ms new : List Bool) (here : LookAround) (at : Unfinished) (char : CharStep) (begin : Bool) where
  pub next_set : ms ≡ positions_in whole s t from until i → at ≡ unfinished_before t s i → here ≡ look_around t s i → char ≡ char_step_of t at (slice_index s i) →
      begin ≡ may_begin whole s from until i → new ≡ step t begin ms here (record { byte = slice_index s i; char = char }) → new ≡ positions_in whole s t from until (i + 1)
  next_set set_is at_is here_is char_is begin_is new_is = rw (add-one i, new_is, begin_is, char_is, here_is, at_is, set_is) refl

pub next_unfinished : (t : Tree) (s : List ℕ) (i : ℕ) (at : Unfinished) (char : CharStep) → at ≡ unfinished_before t s i →
    char ≡ char_step_of t at (slice_index s i) → unfinished_after char ≡ unfinished_before t s (i + 1)
next_unfinished t s i at char at_is char_is = rw (add-one i, char_is, at_is) refl

pub begins_blank : (whole : Bool) (t : Tree) (s : List ℕ) (from until : ℕ) (ms : List Bool) → length ms ≡ position_count t → no_positions (length ms) ≡ positions_in whole s t from until from
begins_blank whole t s from until ms size = ap no_positions size ∙ sym (blank whole s t from until from (omega arith))

-- the set of a pass is empty
pub set_is_empty : (whole : Bool) (t : Tree) (s : List ℕ) (from until i : ℕ) (pass : Pass) → IsPassAt whole t s from until i pass → pass.positions ≡ no_positions (length pass.positions) →
    positions_in whole s t from until i ≡ no_positions (position_count t)
set_is_empty whole t s from until i pass at h = sym at.positions ∙ h ∙ ap no_positions (ready_length whole t s from until i pass at)

pub unfinished_more : (t : Tree) (s : List ℕ) (i : ℕ) → unfinished_after (char_step_of t (unfinished_before t s i) (slice_index s i)) ≡ unfinished_before t s (i + 1)
unfinished_more t s i = rw (add-one i) refl
