-- Lists of matching lines: lines without a match, a line with one, and a list behind a list.
use Rattle.std.proofs.Common.{◌≡◌, ℕ, zero, suc, ◌+◌, ◌-◌, ◌<◌, ◌≤◌, inl, inr, Bool, true, false, cond, ◌&&◌, nat_eq, List, [], ◌∷◌, ◌++◌, length, take, drop, get_or, refl, sym, ap, ap₂, subst, ◌∙◌, arith, drop-cons, length-take, length-drop, zero-add, append-nil}
use Rattle.std.specs.Prelude.{slice_index, count_by, max}
use Rattle.std.specs.List.{filter, range_with_len, AllByRecursion}
use Rattle.std.proofs.lemmas.Bool.{cases_lt, eqb-true}
use Rattle.std.proofs.lemmas.List.{drop-drop, drop-take, take-take}
use Rattle.std.proofs.lemmas.List.Sums.{count_by-le-length}
use Rattle.std.proofs.lemmas.List.Elements.{All-nil, All-from_recursion, recursion_from_All}
use Rattle.cs_syntax.specs.Matching.{Tree, HasMatch}
use Rattle.cs_match.specs.Deciding.{Decides}
use Rattle.cs_match.specs.LastPart.{last_part}
use Rattle.cs_match.specs.Lines.{newline, terminated_lines}
use Rattle.cs_match.specs.NoNewline.{HasNoNewline}
use Rattle.cs_match.specs.Skipped.{AreLinesBetween, AreSkipped}
use Rattle.cs_match.specs.Skipping.{AreWholeLines, IsLineAfter, NoneMatch}
use Rattle.cs_match.specs.MatchingEnds.{is_matching_end, matching_ends}
use Rattle.cs_match.specs.Lanes.{AreListed}
use Rattle.cs_match.specs.Listing.{ListsLines}
use Rattle.cs_match.specs.declared.dfa.EndList.{EndList}
use Rattle.cs_match.proofs.ChunkLemmas.{AreListed-append}
use Rattle.cs_match.proofs.CountingLemmas.{count_cons, none_counted}
use Rattle.cs_match.proofs.LinesLemmas.{lines_within, terminated_lines-part, last_part-part, last_part-append}
use Rattle.cs_match.proofs.MatchingEndLemmas.{ends-append, ends-more, newlines-more, length-matching_ends}
use Rattle.cs_match.proofs.WholeLineLemmas.{between_by, whole_between, whole_line, whole_part, whole_is_terminated, terminated_lines-whole, whole_drop}

pub both : (a b : Bool) → a && b ≡ true → (a ≡ true) × (b ≡ true)
both true b e = (refl, e)
both false b e = cc

all_miss : (has_match : List ℕ → Bool) (lines : List (List ℕ)) → count_by has_match lines ≡ 0 →
    AllByRecursion (λ line. has_match line ≡ false) lines
all_miss has_match [] none = tt
all_miss has_match (line ∷ lines) none =
    let first = count_cons has_match line lines (has_match line) refl in
    let no : cond {A = ℕ} (has_match line) 1 0 ≡ 0 = omega (arith, first, none) in (
      misses (has_match line) no,
      all_miss has_match lines (omega (arith, first, none)),
    )
  where
    misses : (t : Bool) → cond {A = ℕ} t 1 0 ≡ 0 → t ≡ false
    misses true e = let no : ⊥ = omega (arith, e) in absurd no
    misses false e = refl

no_items : (xs : List ℕ) → length xs ≡ 0 → xs ≡ []
no_items [] none = refl
no_items (x ∷ xs) none = let no : ⊥ = omega (arith, none) in absurd no

-- the byte at a newline
pub newline_at : (block : List ℕ) (end : ℕ) → end < length block → drop end block ≡ newline ∷ drop (end + 1) block → get_or block end 0 ≡ newline
newline_at block end high here = let is = drop-cons block end 0 high in cc

pub newline_here : (block : List ℕ) (end : ℕ) → end < length block → get_or block end 0 ≡ newline → drop end block ≡ newline ∷ drop (end + 1) block
newline_here block end high here =
    let next : suc end ≡ end + 1 = omega arith in
    drop-cons block end 0 high ∙ ap₂ (λ (b n : ℕ). b ∷ drop n block) here next

module _ (has_match : List ℕ → Bool) (block : List ℕ) where
  -- lines without a match have no ends
  pub no_ends : (from to : ℕ) → from ≤ to → to ≤ length block →
      NoneMatch has_match (terminated_lines (take (to - from) (drop from block))) → matching_ends has_match block from to ≡ []
  no_ends from to low high none =
      let lines = terminated_lines (take (to - from) (drop from block)) in
      no_items (matching_ends has_match block from to) (length-matching_ends has_match block from to low high
      ∙ none_counted has_match lines (recursion_from_All (λ line. has_match line ≡ false) lines none))

  -- and lines without ends have no match
  pub none_listed : (from to : ℕ) → from ≤ to → to ≤ length block → matching_ends has_match block from to ≡ [] →
      NoneMatch has_match (terminated_lines (take (to - from) (drop from block)))
  none_listed from to low high none =
      let lines = terminated_lines (take (to - from) (drop from block)) in
      let count : count_by has_match lines ≡ 0 = sym (length-matching_ends has_match block from to low high) ∙ ap (λ (xs : List ℕ). length xs) none in
      All-from_recursion (λ line. has_match line ≡ false) lines (all_miss has_match lines count)

  -- one matching line
  pub line_end : (start end : ℕ) → start ≤ end → end < length block → HasNoNewline (take (end - start) (drop start block)) →
      get_or block end 0 ≡ newline → has_match (take (end - start) (drop start block)) ≡ true →
      matching_ends has_match block start (end + 1) ≡ end ∷ []
  line_end start end low high part here matches =
      let line = take (end - start) (drop start block) in
      let none : NoneMatch has_match (terminated_lines line) =
      subst (NoneMatch has_match) (sym (terminated_lines-part line part)) (All-nil (λ line. has_match line ≡ false)) in
      let is : is_matching_end has_match block start end ≡ true =
      ap₂ (λ (b : ℕ) (l : List ℕ). nat_eq b newline && has_match l) here (last_part-part line part) ∙ matches in
      ends-more has_match block start end low
      ∙ ap₂ (λ (xs : List ℕ) (b : Bool). xs ++ cond b (end ∷ []) []) (no_ends start end low (omega arith) none) is

-- lines behind lines
pub lines_append : (block : List ℕ) (from middle to : ℕ) → AreLinesBetween block from middle → AreLinesBetween block middle to →
    AreLinesBetween block from to
lines_append block from middle to p q = record {
  low = omega (arith, p.low, q.low);
  high = q.high;
  whole = whole_between block from middle to p.low q.low p.whole q.whole;
}

-- as many are listed as match, at most one for each byte
module _ (has_match : List ℕ → Bool) (block : List ℕ) (from to : ℕ) (ends : List ℕ) (lines : AreLinesBetween block from to)
    (is : ends ≡ matching_ends has_match block from to) where
  pub listed_count : length ends ≡ count_by has_match (terminated_lines (take (to - from) (drop from block)))
  listed_count = ap (λ (xs : List ℕ). length xs) is ∙ length-matching_ends has_match block from to lines.low lines.high

  pub listed_few : length ends ≤ to - from
  listed_few =
      let slice = take (to - from) (drop from block) in
      omega (arith, listed_count, count_by-le-length has_match (terminated_lines slice), lines_within slice, length-take (to - from) (drop from block))

module _ (t : Tree) (block : List ℕ) where
  pub AreListed-skipped : (from to : ℕ) (ends : List ℕ) → AreSkipped (λ has_match. Decides has_match t) block from to →
      AreListed (λ has_match. Decides has_match t) block from to 0 ends
  AreListed-skipped from to ends s = record {
    lines = s.lines;
    few = omega arith;
    room = omega arith;
    listed = λ has_match is. sym (no_ends has_match block from to s.lines.low s.lines.high (s.none has_match is));
  }

  module _ (start end : ℕ) (line : IsLineAfter block start start end) where
    pub line_lines : AreLinesBetween block start (end + 1)
    line_lines = record {
      low = omega (arith, line.order);
      high = omega (arith, line.high);
      whole = whole_line block start end line.order line.newline;
    }

    pub AreListed-line : (ends : List ℕ) → HasMatch t (take (end - start) (drop start block)) → 1 ≤ length ends → take 1 ends ≡ end ∷ [] →
        AreListed (λ has_match. Decides has_match t) block start (end + 1) 1 ends
    AreListed-line ends matches room taken =
        let here = newline_at block end line.high line.newline in
        let one : cond {A = ℕ} (nat_eq (get_or block end 0) newline) 1 0 ≡ 1 = ap (λ b. cond {A = ℕ} (nat_eq b newline) 1 0) here in
        record {
          lines = line_lines;
          few = omega (arith, newlines-more block start end line.order line.high, one);
          room = room;
          listed = λ has_match is. taken ∙ sym (line_end has_match block start end line.order line.high line.part here
              ((is (take (end - start) (drop start block))).1 matches));
        }

    -- whole lines from the start of the line on have all of it
    pub whole_past : (to : ℕ) → start < to → to ≤ end + 1 → AreWholeLines (take (to - start) (drop start block)) → to ≡ end + 1
    whole_past to moves most whole =
        elim (cases_lt to (end + 1)) [
          | inr all ↦ omega (arith, most, all)
          | inl before ↦
              let low : start ≤ to = omega (arith, moves) in
              let high : to ≤ end = omega (arith, before) in
              let some : 0 < length (take (to - start) (drop start block)) = omega (
                arith,
                length-take (to - start) (drop start block),
                length-drop start block,
                moves,
                high,
                line.high,
              ) in
              absurd (no_part (take (to - start) (drop start block)) (take (end - to) (drop to block)) some whole
              (subst HasNoNewline (between_by block start to end low high) line.part))
        ]
      where
        prefix_part : (a b : List ℕ) → HasNoNewline (a ++ b) → HasNoNewline a
        prefix_part [] b part = tt
        prefix_part (x ∷ a) b part = (part.0, prefix_part a b part.1)

        no_part : (a b : List ℕ) → 0 < length a → AreWholeLines a → HasNoNewline (a ++ b) → ⊥
        no_part [] b some whole part = omega (arith, some)
        no_part (x ∷ a) b some whole part = whole_part x a whole (prefix_part (x ∷ a) b part)

  -- the line of a candidate, seen from its own start
  pub line_alone : (from start end : ℕ) → IsLineAfter block from start end → IsLineAfter block start start end
  unfolding AreWholeLines
  line_alone from start end line =
      let none : 0 ≡ start - start = omega arith in
      record {
        low = omega arith;
        order = line.order;
        high = line.high;
        before = subst (λ n. AreWholeLines (take n (drop start block))) none tt;
        part = line.part;
        newline = line.newline;
      }

  -- lines without a match, and a list of those after them
  pub ListsLines-skipped : (from start : ℕ) (lines : EndList) (ends : List ℕ) →
      AreSkipped (λ has_match. Decides has_match t) block from start → start < length block → ListsLines t block start lines ends →
      ListsLines t block from lines ends
  ListsLines-skipped from start lines ends skipped within l = record {
    listed =
        let same : 0 + lines.count ≡ lines.count = zero-add lines.count in
        subst (λ n. AreListed (λ has_match. Decides has_match t) block from lines.to n ends) same
        (AreListed-append (λ has_match. Decides has_match t) block from start lines.to 0 lines.count ends ends ends
        (AreListed-skipped from start ends skipped) l.listed (omega (arith, l.listed.room)) (ap (λ n. take n ends) same));
    moves = λ low. omega (arith, skipped.lines.low, l.moves within);
    one = l.one;
  }

-- the first of a range that passes a test
first_passes : (p : ℕ → Bool) (a n e : ℕ) (es : List ℕ) → filter p (range_with_len a n) ≡ e ∷ es →
    (a ≤ e) × (e < a + n) × (p e ≡ true) × (filter p (range_with_len a (e - a)) ≡ [])
first_passes p a zero e es is = cc
first_passes p a (suc n) e es is = here (p a) refl (first_passes p (a + 1) n e es) is
  where
    here : (t : Bool) → p a ≡ t →
        (filter p (range_with_len (a + 1) n) ≡ e ∷ es →
        (a + 1 ≤ e) × (e < a + 1 + n) × (p e ≡ true) × (filter p (range_with_len (a + 1) (e - (a + 1))) ≡ [])) →
        cond t (a ∷ filter p (range_with_len (a + 1) n)) (filter p (range_with_len (a + 1) n)) ≡ e ∷ es →
        (a ≤ e) × (e < a + suc n) × (p e ≡ true) × (filter p (range_with_len a (e - a)) ≡ [])
    here true passes more is =
        let same : a ≡ e = cc in
        let none : 0 ≡ e - a = omega (arith, same) in (
          omega (arith, same),
          omega (arith, same),
          ap p (sym same) ∙ passes,
          sym (ap (λ k. filter p (range_with_len a k)) none),
        )
    here false fails more is =
        let later = more is in
        let one : suc (e - (a + 1)) ≡ e - a = omega (arith, later.0) in (
          omega (arith, later.0),
          omega (arith, later.1),
          later.2,
          ap (λ k. filter p (range_with_len a k)) (sym one)
              ∙ ap (λ t. cond t (a ∷ filter p (range_with_len (a + 1) (e - (a + 1)))) (filter p (range_with_len (a + 1) (e - (a + 1))))) fails
              ∙ later.3,
        )

-- The first matching line of a list: no line before it matches, and the list goes on behind it.
pub record IsFirstEnd (has_match : List ℕ → Bool) (block : List ℕ) (from to end : ℕ) (ends : List ℕ) : Type 0 where
  pub low : from ≤ end
  pub high : end < to
  pub newline : get_or block end 0 ≡ newline
  pub matches : has_match (last_part (take (end - from) (drop from block))) ≡ true
  pub none : matching_ends has_match block from end ≡ []
  pub rest : matching_ends has_match block (end + 1) to ≡ ends

pub first_end : (has_match : List ℕ → Bool) (block : List ℕ) (from to end : ℕ) (ends : List ℕ) → from ≤ to → to ≤ length block →
    matching_ends has_match block from to ≡ end ∷ ends → IsFirstEnd has_match block from to end ends
unfolding matching_ends
first_end has_match block from to end ends low high is =
    let first = first_passes (is_matching_end has_match block from) from (to - from) end ends is in
    let flags = both (nat_eq (get_or block end 0) newline) (has_match (last_part (take (end - from) (drop from block)))) first.2 in
    let within : end < to = omega (arith, first.1, low) in
    let here : get_or block end 0 ≡ newline = eqb-true (get_or block end 0) newline flags.0 in
    let line = newline_here block end (omega (arith, within, high)) here in
    let whole = whole_line block from end first.0 line in
    record {
      low = first.0;
      high = within;
      newline = here;
      matches = flags.1;
      none = first.3;
      rest = same_rest (matching_ends has_match block (end + 1) to)
          (sym (ap₂ (λ (xs : List ℕ) (t : Bool). (xs ++ cond t (end ∷ []) []) ++ matching_ends has_match block (end + 1) to) first.3 first.2)
          ∙ sym (ap (λ (xs : List ℕ). xs ++ matching_ends has_match block (end + 1) to) (ends-more has_match block from end first.0))
          ∙ sym (ends-append has_match block from (end + 1) to (omega (arith, first.0)) (omega (arith, within)) whole) ∙ is);
    }
  where
    same_rest : (xs : List ℕ) → end ∷ xs ≡ end ∷ ends → xs ≡ ends
    same_rest xs e = cc

-- the line around an end, and the lines before it
module _ (block : List ℕ) (from start end : ℕ) (line : IsLineAfter block from start end) where
  abbrev before : List ℕ
  before = take (start - from) (drop from block)

  abbrev own : List ℕ
  own = take (end - start) (drop start block)

  pub last_is_line : last_part (take (end - from) (drop from block)) ≡ own
  last_is_line =
      ap last_part (between_by block from start end line.low line.order) ∙ last_part-append before own
      ∙ ap (λ part. last_part (part ++ own)) ((whole_is_terminated before).0 line.before) ∙ last_part-part own line.part

  pub lines_before : terminated_lines (take (end - from) (drop from block)) ≡ terminated_lines before
  lines_before =
      ap terminated_lines (between_by block from start end line.low line.order) ∙ terminated_lines-whole own before line.before
      ∙ ap (λ lines. terminated_lines before ++ lines) (terminated_lines-part own line.part) ∙ append-nil (terminated_lines before)

-- the first matching line of a list: the lines before it have no match, and it has one
module _ (has_match : List ℕ → Bool) (block : List ℕ) (from to end : ℕ) (ends : List ℕ) (high : to ≤ length block)
    (first : IsFirstEnd has_match block from to end ends) (start stop : ℕ) (at : stop ≡ end) (line : IsLineAfter block from start stop) where
  pub first_skips : NoneMatch has_match (terminated_lines (take (start - from) (drop from block)))
  first_skips =
      subst (NoneMatch has_match) (lines_before block from start stop line)
      (subst (λ k. NoneMatch has_match (terminated_lines (take (k - from) (drop from block)))) (sym at)
      (none_listed has_match block from end first.low (omega (arith, first.high, high)) first.none))

  pub first_matches : has_match (take (stop - start) (drop start block)) ≡ true
  first_matches =
      subst (λ part. has_match part ≡ true) (last_is_line block from start stop line)
      (subst (λ k. has_match (last_part (take (k - from) (drop from block))) ≡ true) (sym at) first.matches)

no_newline_drop : (n : ℕ) (text : List ℕ) → HasNoNewline text → HasNoNewline (drop n text)
no_newline_drop zero text none = none
no_newline_drop (suc n) [] none = tt
no_newline_drop (suc n) (b ∷ text) none = no_newline_drop n text none.1

part_to : (block : List ℕ) (from to : ℕ) → from ≤ to → drop from (take to block) ≡ take (to - from) (drop from block)
part_to block from to low =
    let all : from + (to - from) ≡ to = omega (arith, low) in
    subst (λ n. drop from (take n block) ≡ take (to - from) (drop from block)) all (drop-take from (to - from) block)

-- the line that ends at a newline: it begins behind the last newline before, unless that is before the whole lines
module _ (block : List ℕ) (from size end : ℕ) (low : from ≤ end) (high : end < length block) (here : get_or block end 0 ≡ newline)
    (within : size ≤ end) (whole : AreWholeLines (take size (take end block))) (part : HasNoNewline (drop size (take end block))) where
  line_past : from ≤ size → IsLineAfter block from size end
  line_past past =
      record {
        low = past;
        order = within;
        high = high;
        before = subst AreWholeLines (ap (drop from) (take-take size end block within) ∙ part_to block from size past)
            (whole_drop from (take size (take end block)) whole);
        part = subst HasNoNewline (part_to block size end within) part;
        newline = newline_here block end high here;
      }

  line_all : size ≤ from → IsLineAfter block from from end
  unfolding AreWholeLines
  line_all before =
      let none : 0 ≡ from - from = omega arith in
      let rest : size + (from - size) ≡ from = omega (arith, before) in
      record {
        low = omega arith;
        order = low;
        high = high;
        before = subst (λ n. AreWholeLines (take n (drop from block))) none tt;
        part = subst HasNoNewline (drop-drop (from - size) size (take end block) ∙ ap (λ n. drop n (take end block)) rest
            ∙ part_to block from end low) (no_newline_drop (from - size) (drop size (take end block)) part);
        newline = newline_here block end high here;
      }

  pub line_at : (start : ℕ) → start ≡ max size from → IsLineAfter block from start end
  line_at start greatest =
      elim (cases_lt size from) [
        | inl before ↦
            let is : from ≡ start = omega (arith, greatest, before) in
            subst (λ s. IsLineAfter block from s end) is (line_all (omega (arith, before)))
        | inr past ↦
            let is : size ≡ start = omega (arith, greatest, past) in
            subst (λ s. IsLineAfter block from s end) is (line_past past)
      ]

-- a first element is written

pub first_taken : (xs : List ℕ) → 0 < length xs → take 1 xs ≡ slice_index xs 0 ∷ []
first_taken [] some = let no : ⊥ = omega (arith, some) in absurd no
first_taken (x ∷ xs) some = refl

-- the first element of a list that is written from its start on
pub first_of_rest : (old own : List ℕ) (count : ℕ) → count ≡ 0 → 0 < length own →
    slice_index (take count old ++ (own ++ drop (length old - count) (drop count old))) 0 ≡ slice_index own 0
first_of_rest old [] count none some = let no : ⊥ = omega (arith, some) in absurd no
first_of_rest old (x ∷ own) zero none some = refl
first_of_rest old (x ∷ own) (suc count) none some = let no : ⊥ = omega (arith, none) in absurd no
