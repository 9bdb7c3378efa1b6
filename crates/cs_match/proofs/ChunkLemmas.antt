-- Chunks, and the lists of the lanes made one.
use Rattle.std.proofs.Common.{◌≡◌, ◌≢◌, inl, inr, ℕ, zero, suc, ◌+◌, ◌-◌, ◌*◌, ◌/◌, ◌<◌, ◌≤◌, Bool, true, false, cond, nat_eq, List, [], ◌∷◌, ◌++◌, length, take, drop, get_or, refl, sym, ap, ap₂, subst, ◌∙◌, arith, length-take, length-drop, length-append, drop-drop, take-take}
use Rattle.std.proofs.Math.Seq.{paste, take-append_seam, drop-append_seam, take-append-add, drop-append-add}
use Rattle.std.proofs.lemmas.List.Edits.{take-paste, drop-paste}
use Rattle.std.proofs.lemmas.Bool.{cases_eq, cases_lt}
use Rattle.std.proofs.lemmas.List.{take-append-le, drop-take}
use Rattle.std.specs.List.{count_by}
use Rattle.std.proofs.lemmas.List.Sums.{count_by-le-length, sum_by-append}
use Rattle.cs_match.specs.Lines.{newline}
use Rattle.cs_match.specs.NoNewline.{HasNoNewline}
use Rattle.cs_match.specs.Skipped.{AreLinesBetween}
use Rattle.cs_match.specs.Skipping.{AreWholeLines}
use Rattle.cs_match.specs.declared.lanes.Table.{Table}
use Rattle.cs_match.specs.declared.lanes.Lane.{Lane}
use Rattle.cs_match.specs.Table.{unknown, TellsLines}
use Rattle.cs_match.specs.MatchingEnds.{matching_ends, newlines_between}
use Rattle.cs_match.specs.Lanes.{IsLane, IsChunk, AreListed, quarter}
use Rattle.cs_match.proofs.PositionCountLemmas.{mul_both}
use Rattle.cs_match.proofs.MatchingEndLemmas.{newlines-append, newlines-more, ends-none, ends-append}
use Rattle.cs_match.proofs.WholeLineLemmas.{whole_between, whole_line, whole_drop, whole_has_newline}

-- each of four
pub four : (P : ℕ → Type 0) → P 0 → P 1 → P 2 → P 3 → (k : ℕ) → k < 4 → P k
four P a b c d zero low = a
four P a b c d (suc zero) low = b
four P a b c d (suc (suc zero)) low = c
four P a b c d (suc (suc (suc zero))) low = d
four P a b c d (suc (suc (suc (suc k)))) low = let no : ⊥ = omega (arith, low) in absurd no

-- at most as many newlines as bytes
pub newlines_within : (block : List ℕ) (from to : ℕ) → newlines_between block from to ≤ to - from
newlines_within block from to = omega (
  arith,
  count_by-le-length (λ b. nat_eq b newline) (take (to - from) (drop from block)),
  length-take (to - from) (drop from block),
)

-- so many ends, which begin at `from`, are moved behind the first `count`
module _ (old new : List ℕ) (count from more : ℕ) (order : count ≤ from) (within : from + more ≤ length old)
    (is : new ≡ paste old count (drop from old) (from + more - from)) where
  pasted : new ≡ paste old count (drop from old) more
  pasted = is ∙ ap (paste old count (drop from old)) (omega arith)

  enough : more ≤ length (drop from old)
  enough = omega (arith, length-drop from old, within)

  pub moved_ends : take (count + more) new ≡ take count old ++ take more (drop from old)
  moved_ends = ap (take (count + more)) pasted ∙ take-paste old count (drop from old) more (omega (arith, order, within)) enough

  pub moved_rest : drop (from + more) new ≡ drop (from + more) old
  moved_rest =
      let past : count + more + (from - count) ≡ from + more = omega (arith, order) in
      ap (λ n. drop n new) (sym past) ∙ sym (drop-drop (from - count) (count + more) new)
      ∙ ap (drop (from - count)) (ap (drop (count + more)) pasted
      ∙ drop-paste old count (drop from old) more (omega (arith, order, within)) enough)
      ∙ drop-drop (from - count) (count + more) old ∙ ap (λ n. drop n old) past

-- no newline
newlines_part : (part : List ℕ) → HasNoNewline part → count_by (λ b. nat_eq b newline) part ≡ 0
newlines_part [] p = refl
newlines_part (b ∷ part) p = rw p.0 (newlines_part part p.1)

-- a shorter part
no_newline_take : (n m : ℕ) (text : List ℕ) → n ≤ m → HasNoNewline (take m text) → HasNoNewline (take n text)
no_newline_take zero m text low part = tt
no_newline_take (suc n) m [] low part = tt
no_newline_take (suc n) zero (b ∷ text) low part = let no : ⊥ = omega (arith, low) in absurd no
no_newline_take (suc n) (suc m) (b ∷ text) low part = (part.0, no_newline_take n m text (omega (arith, low)) part.1)

-- a chunk is whole lines, and has at most one line more than `size`
module _ (block : List ℕ) (size from : ℕ) (within : from ≤ length block) (whole : AreWholeLines (drop from block)) where
  pub line_chunk : (end : ℕ) → from + size ≤ end → end < length block → HasNoNewline (take (end - (from + size)) (drop (from + size) block)) →
      drop end block ≡ newline ∷ drop (end + 1) block → IsChunk block (size + 1) from (end + 1)
  line_chunk end low high part here =
      let one : cond (nat_eq (get_or block end 0) newline) 1 0 ≤ 1 = at_most (nat_eq (get_or block end 0) newline) in
      record {
        lines = record { low = omega arith; high = omega arith; whole = whole_line block from end (omega arith) here };
        few = omega (
          arith,
          newlines-more block from end (omega arith) high,
          one,
          newlines-append block from (from + size) end (omega arith) low,
          newlines_within block from (from + size),
          newlines_part (take (end - (from + size)) (drop (from + size) block)) part,
        );
      }
    where
      at_most : (f : Bool) → cond f 1 0 ≤ 1
      at_most true = omega arith
      at_most false = omega arith

  -- no shorter lines have more than `size` bytes
  pub fewest_lines : (end : ℕ) → from + size ≤ end → HasNoNewline (take (end - (from + size)) (drop (from + size) block)) →
      (other : ℕ) → AreLinesBetween block from other → from + size < other → end + 1 ≤ other
  fewest_lines end low part other lines long = elim (cases_lt end other) [
    | inl past ↦ omega (arith, past)
    | inr before ↦
        let own = take (other - (from + size)) (drop (from + size) block) in
        let bytes : other - from ≡ size + (other - (from + size)) = omega (arith, long) in
        let is : drop size (take (other - from) (drop from block)) ≡ own =
        ap (λ n. drop size (take n (drop from block))) bytes ∙ drop-take size (other - (from + size)) (drop from block)
        ∙ ap (λ xs. take (other - (from + size)) xs) (drop-drop size from block) in
        absurd (whole_has_newline own 0
        (omega (arith, long, before, lines.high, length-take (other - (from + size)) (drop (from + size) block), length-drop (from + size) block))
        (subst AreWholeLines is (whole_drop size (take (other - from) (drop from block)) lines.whole))
        (no_newline_take (other - (from + size)) (end - (from + size)) (drop (from + size) block) (omega (arith, before)) part))
  ]

-- a chunk with more room
pub chunk_within : (block : List ℕ) (n most from to : ℕ) → n ≤ most → IsChunk block n from to → IsChunk block most from to
chunk_within block n most from to low p = record { lines = p.lines; few = omega (arith, p.few) }

-- the list of a lane that has met no unknown transition
pub AreListed-lane : (t : Table) (block : List ℕ) (from to most : ℕ) (lane : Lane) (ends : List ℕ) → IsLane t block to lane ends →
    lane.from ≡ from → IsChunk block most from to → most ≤ length ends → lane.number ≢ unknown t →
    AreListed (λ has_match. TellsLines has_match t) block from to lane.count ends
AreListed-lane t block from to most lane ends is at-from chunk room known =
    let few : lane.count ≤ newlines_between block from to = omega (arith, is.few, ap (λ f. newlines_between block f to) at-from) in
    record {
      lines = chunk.lines;
      few = few;
      room = omega (arith, few, chunk.few, room);
      listed = λ has_match tells. is.listed has_match tells known ∙ ap (λ f. matching_ends has_match block f to) at-from;
    }

module _ (IsKind : (List ℕ → Bool) → Type 0) (block : List ℕ) where
  -- nothing is listed yet
  pub AreListed-none : (from : ℕ) (ends : List ℕ) → from ≤ length block → AreListed IsKind block from from 0 ends
  unfolding AreWholeLines
  AreListed-none from ends within =
      let none : 0 ≡ from - from = omega arith in
      record {
        lines = record { low = omega arith; high = within; whole = subst (λ n. AreWholeLines (take n (drop from block))) none tt };
        few = omega arith;
        room = omega arith;
        listed = λ has_match is. sym (ends-none has_match block from);
      }

  -- a list, and the list of the lines behind it
  pub AreListed-append : (from middle to count more : ℕ) (ends own later : List ℕ) → AreListed IsKind block from middle count ends →
      AreListed IsKind block middle to more own → count + more ≤ length later →
      take (count + more) later ≡ take count ends ++ take more own → AreListed IsKind block from to (count + more) later
  AreListed-append from middle to count more ends own later a b room appended = record {
    lines = record {
      low = omega (arith, a.lines.low, b.lines.low);
      high = b.lines.high;
      whole = whole_between block from middle to a.lines.low b.lines.low a.lines.whole b.lines.whole;
    };
    few = omega (arith, a.few, b.few, newlines-append block from middle to a.lines.low b.lines.low);
    room = room;
    listed = λ has_match is. appended
        ∙ ap₂ (λ (xs : List ℕ) (ys : List ℕ). xs ++ ys) (a.listed has_match is) (b.listed has_match is)
        ∙ sym (ends-append has_match block from middle to a.lines.low b.lines.low a.lines.whole);
  }

-- the quarters lie in the list
pub quarter_within : (n len : ℕ) → n ≡ len / 4 → (k : ℕ) → k < 4 → k * n + n ≤ len
quarter_within n len e = four (λ k. k * n + n ≤ len) (omega (arith, e)) (omega (arith, e)) (omega (arith, e)) (omega (arith, e))

-- quarters of a list of four parts and a rest
module _ (n : ℕ) (p q r s rest : List ℕ) (at-p : length p ≡ n) (at-q : length q ≡ n) (at-r : length r ≡ n) (at-s : length s ≡ n)
    (few : length rest < 4) where
  abbrev parts : List ℕ
  parts = p ++ (q ++ (r ++ (s ++ rest)))

  all : length parts ≡ 4 * n + length rest
  all = omega (arith, length-append p (q ++ (r ++ (s ++ rest))), length-append q (r ++ (s ++ rest)), length-append r (s ++ rest), length-append s rest)

  part : length parts / 4 ≡ n
  part = omega (arith, all, few)

  prefix : (xs ys : List ℕ) → length xs ≡ n → take n (xs ++ ys) ≡ xs
  prefix xs ys e = ap (λ k. take k (xs ++ ys)) (sym e) ∙ take-append_seam xs ys

  back : (xs ys : List ℕ) → length xs ≡ n → drop n (xs ++ ys) ≡ ys
  back xs ys e = ap (λ k. drop k (xs ++ ys)) (sym e) ∙ drop-append_seam xs ys

  quarter-is : (k : ℕ) → quarter k parts ≡ take n (drop (k * n) parts)
  quarter-is k =
      let size : (k + 1) * n - k * n ≡ n = omega arith in
      ap (λ m. take ((k + 1) * m - k * m) (drop (k * m) parts)) part ∙ ap (λ m. take m (drop (k * n) parts)) size

  pub quarter-a : quarter 0 parts ≡ p
  quarter-a =
      let at : 0 * n ≡ 0 = omega arith in
      quarter-is 0 ∙ ap (λ m. take n (drop m parts)) at ∙ prefix p (q ++ (r ++ (s ++ rest))) at-p

  after_p : drop n parts ≡ q ++ (r ++ (s ++ rest))
  after_p = back p (q ++ (r ++ (s ++ rest))) at-p

  pub quarter-b : quarter 1 parts ≡ q
  quarter-b =
      let at : 1 * n ≡ n = omega arith in
      quarter-is 1 ∙ ap (λ m. take n (drop m parts)) at ∙ ap (take n) after_p ∙ prefix q (r ++ (s ++ rest)) at-q

  after_q : drop (n + n) parts ≡ r ++ (s ++ rest)
  after_q = sym (drop-drop n n parts) ∙ ap (drop n) after_p ∙ back q (r ++ (s ++ rest)) at-q

  pub quarter-c : quarter 2 parts ≡ r
  quarter-c =
      let at : 2 * n ≡ n + n = omega arith in
      quarter-is 2 ∙ ap (λ m. take n (drop m parts)) at ∙ ap (take n) after_q ∙ prefix r (s ++ rest) at-r

  after_r : drop (n + n + n) parts ≡ s ++ rest
  after_r = sym (drop-drop n (n + n) parts) ∙ ap (drop n) after_q ∙ back r (s ++ rest) at-r

  pub quarter-d : quarter 3 parts ≡ s
  quarter-d =
      let at : 3 * n ≡ n + n + n = omega arith in
      quarter-is 3 ∙ ap (λ m. take n (drop m parts)) at ∙ ap (take n) after_r ∙ prefix s rest at-s

pub length-quarter : (ends : List ℕ) (k : ℕ) → k < 4 → length (quarter k ends) ≡ length ends / 4
length-quarter ends k low =
    let n : ℕ = length ends / 4 in
    let size : (k + 1) * n - k * n ≡ n = omega arith in
    omega (
      arith,
      length-take ((k + 1) * n - k * n) (drop (k * n) ends),
      length-drop (k * n) ends,
      size,
      quarter_within n (length ends) refl k low,
    )

-- a quarter that is not moved yet, from its lane's count on
pub pending-quarter : (ends first : List ℕ) (k n : ℕ) → length first / 4 ≡ n → (count : ℕ) → count ≤ n →
    drop (k * n) ends ≡ drop (k * n) first → take count (drop (k * n) ends) ≡ take count (quarter k first)
pending-quarter ends first k n part count low same =
    let size : (k + 1) * n - k * n ≡ n = omega arith in
    ap (take count) same ∙ sym (take-take count n (drop (k * n) first) low)
    ∙ ap (λ m. take count (take m (drop (k * n) first))) (sym size)
    ∙ ap (λ m. take count (take ((k + 1) * m - k * m) (drop (k * m) first))) (sym part)

-- what is behind a quarter stays
pub pending-more : (new old first : List ℕ) (at more n next : ℕ) → more ≤ n → at + n ≡ next → drop (at + more) new ≡ drop (at + more) old →
    drop at old ≡ drop at first → drop next new ≡ drop next first
pending-more new old first at more n next low e same before =
    let there : at + more + (n - more) ≡ next = omega (arith, low, e) in
    ap (λ k. drop k new) (sym there) ∙ sym (drop-drop (n - more) (at + more) new) ∙ ap (drop (n - more)) same
    ∙ drop-drop (n - more) (at + more) old ∙ ap (λ k. drop k old) (there ∙ sym e)
    ∙ sym (drop-drop n at old) ∙ ap (drop n) before ∙ drop-drop n at first ∙ ap (λ k. drop k first) e

-- a list by the tests of another kind
pub AreListed-kind : (IsKind IsOther : (List ℕ → Bool) → Type 0) → ((has_match : List ℕ → Bool) → IsOther has_match → IsKind has_match) →
    (block : List ℕ) (from to count : ℕ) (ends : List ℕ) → AreListed IsKind block from to count ends → AreListed IsOther block from to count ends
AreListed-kind IsKind IsOther implies block from to count ends a = record {
  lines = a.lines;
  few = a.few;
  room = a.room;
  listed = λ has_match is. a.listed has_match (implies has_match is);
}

-- the room between two offsets of a list
pub room_between : (ends : List ℕ) (count stop n : ℕ) → count + n ≤ stop → stop ≤ length ends → n ≤ length (take (stop - count) (drop count ends))
room_between ends count stop n low high = omega (arith, low, high, length-take (stop - count) (drop count ends), length-drop count ends)

-- the steps of one more chunk, at most so many for each byte
pub work-more : (each from middle to before now later : ℕ) → from ≤ middle → middle ≤ to → now ≤ before + each * (middle - from) →
    later ≤ now + each * (to - middle) → later ≤ before + each * (to - from)
work-more each from middle to before now later low high done more =
    let size : to - from ≡ (middle - from) + (to - middle) = omega arith in
    omega (arith, done, more, ap (λ n. each * n) size)

pub moved-work : (each bytes more now later : ℕ) → 1 ≤ each → later ≡ now + more → more ≤ bytes → later ≤ now + each * bytes
moved-work each bytes more now later some e low = omega (arith, e, low, mul_both 1 bytes each bytes some (omega arith))

pub pending-far : (old first : List ℕ) (at n next : ℕ) → at + n ≡ next → drop at old ≡ drop at first → drop next old ≡ drop next first
pending-far old first at n next e same =
    ap (λ k. drop k old) (sym e) ∙ sym (drop-drop n at old) ∙ ap (drop n) same ∙ drop-drop n at first ∙ ap (λ k. drop k first) e

-- a list after a write to what lies between two offsets
module _ (ends own later : List ℕ) (count stop : ℕ) (low : count ≤ stop) (high : stop ≤ length ends)
    (size : length own ≡ length (take (stop - count) (drop count ends)))
    (is : later ≡ take count ends ++ (own ++ drop (stop - count) (drop count ends))) where
  abbrev behind : List ℕ
  behind = drop (stop - count) (drop count ends)

  before-len : length (take count ends) ≡ count
  before-len = omega (arith, length-take count ends, low, high)

  pub own-len : length own ≡ stop - count
  own-len = omega (arith, size, length-take (stop - count) (drop count ends), length-drop count ends, low, high)

  pub filled-len : length later ≡ length ends
  filled-len = omega (
    arith,
    ap (λ (xs : List ℕ). length xs) is,
    length-append (take count ends) (own ++ behind),
    length-append own behind,
    before-len,
    own-len,
    length-drop (stop - count) (drop count ends),
    length-drop count ends,
    low,
    high,
  )

  pub filled : (more : ℕ) → more ≤ length own → take (count + more) later ≡ take count ends ++ take more own
  filled more few =
      ap₂ (λ (n : ℕ) (xs : List ℕ). take (n + more) xs) (sym before-len) is
      ∙ take-append-add (take count ends) (own ++ behind) more
      ∙ ap (λ (xs : List ℕ). take count ends ++ xs) (take-append-le more own behind few)

  pub filled-rest : drop stop later ≡ drop stop ends
  filled-rest =
      let at : stop ≡ length (take count ends) + (stop - count) = omega (arith, before-len, low) in
      let there : count + (stop - count) ≡ stop = omega (arith, low) in
      ap₂ (λ (n : ℕ) (xs : List ℕ). drop n xs) at is
      ∙ drop-append-add (take count ends) (own ++ behind) (stop - count)
      ∙ ap (λ n. drop n (own ++ behind)) (sym own-len) ∙ drop-append_seam own behind
      ∙ drop-drop (stop - count) count ends ∙ ap (λ n. drop n ends) there

-- whole lines have a newline
some_newline : (text : List ℕ) → AreWholeLines text → 0 < length text → 1 ≤ count_by (λ b. nat_eq b newline) text
unfolding AreWholeLines
some_newline [] whole some = absurd (omega (arith, some))
some_newline (b ∷ []) whole some = rw whole (omega arith)
some_newline (b ∷ c ∷ text) whole some =
    let p : ℕ → Bool = λ x. nat_eq x newline in
    let split : count_by p (b ∷ c ∷ text) ≡ count_by p (b ∷ []) + count_by p (c ∷ text) =
    sum_by-append (λ x. cond (nat_eq x newline) 1 0) (b ∷ []) (c ∷ text) in
    omega (arith, split, some_newline (c ∷ text) whole (omega arith))

-- a list with room for each line is not full before the end
pub lists_all : (IsKind : (List ℕ → Bool) → Type 0) (block : List ℕ) (from to end count : ℕ) (ends : List ℕ) → AreLinesBetween block from end →
    newlines_between block from end ≤ length ends → AreListed IsKind block from to count ends → to ≤ end →
    (to ≢ end → count ≡ length ends) → to ≡ end
lists_all IsKind block from to end count ends lines room listed high all =
    elim (cases_eq to end) [
      | inl e ↦ e
      | inr other ↦
          let size : end - from ≡ (to - from) + (end - to) = omega (arith, listed.lines.low, high) in
          let at : from + (to - from) ≡ to = omega (arith, listed.lines.low) in
          let behind : drop (to - from) (take (end - from) (drop from block)) ≡ take (end - to) (drop to block) =
          ap (λ n. drop (to - from) (take n (drop from block))) size ∙ drop-take (to - from) (end - to) (drop from block)
          ∙ ap (take (end - to)) (drop-drop (to - from) from block ∙ ap (λ k. drop k block) at) in
          let whole = subst AreWholeLines behind (whole_drop (to - from) (take (end - from) (drop from block)) lines.whole) in
          let more : 0 < length (take (end - to) (drop to block)) =
          omega (arith, length-take (end - to) (drop to block), length-drop to block, lines.high, high, other) in
          absurd (omega (
            arith,
            all other,
            listed.few,
            room,
            newlines-append block from to end listed.lines.low high,
            some_newline (take (end - to) (drop to block)) whole more,
          ))
    ]
