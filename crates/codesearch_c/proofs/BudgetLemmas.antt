-- Lines of a part of a block.
use Rattle.std.proofs.Common.{◌≡◌, ℤ, ◌+◌, ◌-◌, ◌<◌, ◌≤◌, ◌⊎◌, inl, inr, ℕ, zero, suc, Bool, List, [], ◌∷◌, ◌++◌, length, take, drop, refl, sym, ap, subst, ◌∙◌, arith, append-nil, length-drop, length-take}
use Rattle.std.specs.Prelude.{pos, negsuc}
use Rattle.cs_syntax.specs.Matching.{Tree}
use Rattle.std.proofs.lemmas.List.{drop_all, drop-drop, drop-append-le, take-append-drop, take-take, take_rest, length-take-le}
use Rattle.std.proofs.lemmas.Slice.{between_is}
use Rattle.std.proofs.lemmas.Bool.{cases_lt}
use Rattle.cs_match.specs.Lines.{newline, lines, terminated_lines}
use Rattle.cs_match.specs.NoNewline.{HasNoNewline}
use Rattle.cs_match.specs.Skipped.{AreLinesBetween}
use Rattle.cs_match.specs.Skipping.{AreWholeLines, IsLineAfter}
use Rattle.cs_match.proofs.LinesLemmas.{lines-none}
use Rattle.cs_match.proofs.WholeLineLemmas.{whole_line, whole_between, whole_drop, whole_part}
use Rattle.codesearch_c.specs.declared.lines.LineBounds.{LineBounds}
use Rattle.codesearch_c.specs.declared.within.Budget.{Budget}
use Rattle.codesearch_c.specs.Budgets.{BeginsLine, IsLineFrom, IsStop, HasNoStop, IsNextWithinCode, IsCountWithinCode}
use Rattle.codesearch_c.specs.Budgets as answer
use Rattle.codesearch_c.specs.Codes.{stopped}
use Rattle.codesearch_c.specs.Patterns.{IsNextCode}
use Rattle.codesearch_c.specs.MatchingLines.{matching_from, matching_lines}
use Rattle.codesearch_c.proofs.MatchingLineLemmas.{size, size_whole, lines_whole, matching-append}

-- a slice of a prefix
pub slice_prefix : (block : List ℕ) (start end stop : ℕ) → end ≤ stop →
    take (end - start) (drop start (take stop block)) ≡ take (end - start) (drop start block)
slice_prefix block start end stop low =
    between_is (take stop block) start end ∙ ap (λ xs. drop start xs) (take-take end stop block low)
    ∙ sym (between_is block start end)

-- a newline of a prefix
newline_prefix : (block : List ℕ) (end stop : ℕ) → end < length (take stop block) →
    drop end (take stop block) ≡ newline ∷ drop (end + 1) (take stop block) →
    drop end block ≡ newline ∷ drop (end + 1) block
newline_prefix block end stop low is =
    subst (λ text. drop end text ≡ newline ∷ drop (end + 1) text) (take-append-drop stop block)
    (drop-append-le end (take stop block) (drop stop block) (omega arith) ∙ ap (λ xs. xs ++ drop stop block) is
    ∙ ap (λ xs. newline ∷ xs) (sym (drop-append-le (end + 1) (take stop block) (drop stop block) (omega arith))))

-- ---- the line that a search finds

module _ (block : List ℕ) (from start : ℕ) (before : AreLinesBetween block from start) where
  pub line_after : (stop low end : ℕ) → stop ≤ length block → IsLineAfter (take stop block) start low end →
      IsLineFrom block from low end
  line_after stop low end within l =
      let size : length (take stop block) ≡ stop = length-take-le stop block within in
      record {
        begins = record {
          lines = record {
            low = omega (arith, before.low, l.low);
            high = omega (arith, l.order, l.high);
            whole = whole_between block from start low before.low l.low before.whole
                (subst AreWholeLines (slice_prefix block start low stop (omega (arith, l.order, l.high))) l.before);
          };
          within = omega (arith, l.order, l.high);
        };
        order = l.order;
        part = subst HasNoNewline (slice_prefix block low end stop (omega (arith, l.high))) l.part;
        ends = inr (newline_prefix block end stop l.high l.newline);
      }

  pub line_at_end : start < length block → HasNoNewline (drop start block) → IsLineFrom block from start (length block)
  line_at_end within part = record {
    begins = record { lines = before; within = within };
    order = omega arith;
    part = subst HasNoNewline (sym (take_rest block start)) part;
    ends = inl refl;
  }

  pub lines_on : (end : ℕ) → AreLinesBetween block start end → AreLinesBetween block from end
  lines_on end more = record {
    low = omega (arith, before.low, more.low);
    high = more.high;
    whole = whole_between block from start end before.low more.low before.whole more.whole;
  }

pub no_lines : (block : List ℕ) (from : ℕ) → from ≤ length block → AreLinesBetween block from from
unfolding AreWholeLines
no_lines block from within =
    let none : from - from ≡ 0 = omega arith in
    record { low = omega arith; high = within; whole = subst (λ n. AreWholeLines (take n (drop from block))) (sym none) tt }

-- ---- whole lines before an offset

-- the end of whole lines
pub whole_end : (block : List ℕ) (from middle to : ℕ) → from ≤ middle → middle ≤ to →
    AreWholeLines (take (to - from) (drop from block)) → AreWholeLines (take (to - middle) (drop middle block))
whole_end block from middle to low high whole =
    let on : drop (middle - from) (drop from (take to block)) ≡ drop middle (take to block) =
    drop-drop (middle - from) from (take to block) ∙ ap (λ n. drop n (take to block)) (omega arith) in
    subst AreWholeLines (ap (λ xs. drop (middle - from) xs) (between_is block from to) ∙ on ∙ sym (between_is block middle to))
    (whole_drop (middle - from) (take (to - from) (drop from block)) whole)

part_take : (n : ℕ) (text : List ℕ) → HasNoNewline text → HasNoNewline (take n text)
part_take zero text p = tt
part_take (suc n) [] p = tt
part_take (suc n) (b ∷ text) p = (p.0, part_take n text p.1)

-- whole lines are no part of a line
pub whole_no_part : (text : List ℕ) → 0 < length text → AreWholeLines text → HasNoNewline text → ⊥
whole_no_part [] some whole part = absurd (omega arith)
whole_no_part (b ∷ text) some whole part = whole_part b text whole part

-- no line begins after a part of a line
module _ (block : List ℕ) (from low high : ℕ) (after : from ≤ low) (part : HasNoNewline (take (high - low) (drop low block))) where
  pub begins_in_no_part : (at : ℕ) → BeginsLine block from at → low < at → at ≤ high → ⊥
  begins_in_no_part at b above below =
      let shorter : take (at - low) (take (high - low) (drop low block)) ≡ take (at - low) (drop low block) =
      take-take (at - low) (high - low) (drop low block) (omega arith) in
      whole_no_part (take (at - low) (drop low block))
      (omega (arith, length-take (at - low) (drop low block), length-drop low block, b.within))
      (whole_end block from low at after (omega arith) b.lines.whole)
      (subst HasNoNewline shorter (part_take (at - low) (take (high - low) (drop low block)) part))

-- ---- where a search stops

module _ (block : List ℕ) (budget : Budget) where
  -- the first newline at or after the last byte of the budget
  module _ (last at : ℕ) (low : budget.from ≤ last) (after : budget.from + budget.bytes ≡ last + 1) (within : last ≤ at)
      (part : HasNoNewline (take (at - last) (drop last block))) where
    -- no line begins between
    later_is : (later : ℕ) → BeginsLine block budget.from later → budget.from + budget.bytes ≤ later → at < later
    later_is later b spent = elim (cases_lt at later) [
      | inl is ↦ is
      | inr is ↦ absurd (begins_in_no_part block budget.from last at low part later b (omega arith) is)
    ]

    pub stops_after : at + 1 < length block → drop at block ≡ newline ∷ drop (at + 1) block → IsStop block budget (at + 1)
    stops_after more is = record {
      begins = record {
        lines = record {
          low = omega arith;
          high = omega arith;
          whole = whole_line block budget.from at (omega arith) is;
        };
        within = more;
      };
      spent = omega arith;
      first = λ later b spent. let h = later_is later b spent in omega arith;
    }

    pub stops_nowhere : length block ≤ at + 1 → HasNoStop block budget
    stops_nowhere end later b = elim (cases_lt later (budget.from + budget.bytes)) [
      | inl is ↦ is
      | inr is ↦ absurd (let h = later_is later b is in omega (arith, b.within))
    ]

  pub stops_no_more : (last : ℕ) → budget.from ≤ last → budget.from + budget.bytes ≡ last + 1 → last ≤ length block →
      HasNoNewline (drop last block) → HasNoStop block budget
  stops_no_more last low after within part =
      stops_nowhere last (length block) low after within (subst HasNoNewline (sym (take_rest block last)) part) (omega arith)

  -- a budget of no bytes
  pub stops_at_once : budget.bytes ≡ 0 → budget.from < length block → IsStop block budget budget.from
  stops_at_once none within = record {
    begins = record { lines = no_lines block budget.from (omega arith); within = within };
    spent = omega arith;
    first = λ later b spent. b.lines.low;
  }

  pub begins_within : (stop at : ℕ) → IsStop block budget stop → BeginsLine (take stop block) budget.from at →
      at < budget.from + budget.bytes
  begins_within stop at s b =
      let size : length (take stop block) ≡ stop = length-take-le stop block s.begins.lines.high in
      let here : BeginsLine block budget.from at = record {
        lines = record {
          low = b.lines.low;
          high = omega (arith, b.within, size, s.begins.within);
          whole = subst AreWholeLines (slice_prefix block budget.from at stop (omega (arith, b.within, size))) b.lines.whole;
        };
        within = omega (arith, b.within, size, s.begins.within);
      } in
      elim (cases_lt at (budget.from + budget.bytes)) [
        | inl is ↦ is
        | inr is ↦ absurd (omega (arith, s.first at here is, b.within, size))
      ]

-- ---- a search up to an offset

-- a line of whole lines ends before their end
ends_before : (block : List ℕ) (from stop start end : ℕ) → AreLinesBetween block from stop →
    IsLineFrom (take stop block) from start end → end < stop
ends_before block from stop start end l f = cases f.ends
  where
    size : length (take stop block) ≡ stop
    size = length-take-le stop block l.high

    low : start < stop
    low = omega (arith, f.begins.within, size)

    cases : (end ≡ length (take stop block)) ⊎ (drop end (take stop block) ≡ newline ∷ drop (end + 1) (take stop block)) → end < stop
    cases (inl is) =
        let at : end ≡ stop = is ∙ size in
        let part = subst (λ n. HasNoNewline (take (n - start) (drop start block))) at
        (subst HasNoNewline (slice_prefix block start end stop (omega arith)) f.part) in
        absurd (whole_no_part (take (stop - start) (drop start block))
        (omega (arith, low, l.high, length-take (stop - start) (drop start block), length-drop start block))
        (whole_end block from start stop f.begins.lines.low (omega (arith, low)) l.whole) part)
    cases (inr is) = elim (cases_lt end stop) [
      | inl below ↦ below
      | inr above ↦ absurd (let none = drop_all end (take stop block) (omega (arith, size)) in cc)
    ]

module _ (t : List ℕ → Bool) (block : List ℕ) where
  terminated : (text : List ℕ) → AreWholeLines text → lines text ≡ terminated_lines text
  terminated text whole =
      ap lines (sym (append-nil text)) ∙ lines_whole text [] whole
      ∙ ap (λ ls. terminated_lines text ++ ls) lines-none ∙ append-nil (terminated_lines text)

  -- the matching lines before and after an offset
  pub matching_split : (from stop : ℕ) → AreLinesBetween block from stop → matching_lines t block from
      ≡ matching_lines t (take stop block) from ++ matching_lines t block stop
  unfolding matching_lines
  matching_split from stop l =
      let text = take (stop - from) (drop from block) in
      let here : drop from (take stop block) ≡ text = sym (between_is block from stop) in
      let on : drop (stop - from) (drop from block) ≡ drop stop block = drop-drop (stop - from) from block
      ∙ ap (λ n. drop n block) (omega (arith, l.low)) in
      let all : drop from block ≡ text ++ drop stop block = sym (take-append-drop (stop - from) (drop from block))
      ∙ ap (λ xs. text ++ xs) on in
      let len : length text ≡ stop - from = length-take-le (stop - from) (drop from block)
      (omega (arith, l.low, l.high, length-drop from block)) in
      let at : from + size (terminated_lines text) ≡ stop = omega (arith, size_whole text l.whole, len, l.low) in
      ap (λ xs. matching_from t from (lines xs)) all
      ∙ ap (matching_from t from) (lines_whole text (drop stop block) l.whole)
      ∙ matching-append t from (terminated_lines text) (lines (drop stop block))
      ∙ ap (λ n. matching_from t from (terminated_lines text) ++ matching_from t n (lines (drop stop block))) at
      ∙ ap (λ ls. matching_from t from ls ++ matching_from t stop (lines (drop stop block)))
      (sym (ap lines here ∙ terminated text l.whole))

  pub none_before : (from stop : ℕ) → AreLinesBetween block from stop → matching_lines t (take stop block) from ≡ [] →
      matching_lines t block from ≡ matching_lines t block stop
  none_before from stop l none =
      matching_split from stop l ∙ ap (λ ls. ls ++ matching_lines t block stop) none

  pub first_before : (from stop : ℕ) (line : LineBounds) → AreLinesBetween block from stop →
      IsLineFrom (take stop block) from line.start line.end → matching_lines t (take stop block) from
      ≡ line ∷ matching_lines t (take stop block) (line.end + 1) → matching_lines t block from
      ≡ line ∷ matching_lines t block (line.end + 1)
  first_before from stop line l f first =
      let inside = ends_before block from stop line.start line.end l f in
      let low : from ≤ line.end + 1 = omega (arith, f.begins.lines.low, f.order) in
      let rest : AreLinesBetween block (line.end + 1) stop = record {
        low = omega (arith, inside);
        high = l.high;
        whole = whole_end block from (line.end + 1) stop low (omega (arith, inside)) l.whole;
      } in
      matching_split from stop l ∙ ap (λ ls. ls ++ matching_lines t block stop) first
      ∙ ap (λ ls. line ∷ ls) (sym (matching_split (line.end + 1) stop rest))

-- ---- the code of a search of the lines before a stop

module _ (pattern : Tree) (block : List ℕ) (budget : Budget) (old new : LineBounds) (reached : ℕ) where
  module _ (stop : ℕ) (s : IsStop block budget stop) where
    pub next_before : (code shown : ℤ) → shown ≡ code → (code ≡ pos 0 → ⊥) →
        IsNextCode pattern (take stop block) budget.from old new code →
        (code ≡ pos 1 → IsLineFrom (take stop block) budget.from new.start new.end) →
        IsNextWithinCode pattern block budget old new reached reached shown
    next_before (pos zero) shown e some n line = absurd (some refl)
    next_before (pos (suc zero)) shown e some n line =
        answer.found e (λ has_match decides. first_before has_match block budget.from stop new s.begins.lines (line refl)
        (n.found refl has_match decides)) (begins_within block budget stop new.start s (line refl).begins) refl
    next_before (pos (suc (suc k))) shown e some n line =
        answer.no_memory (e ∙ n.only (λ is. let one = is in cc) some) (n.kept (λ is. let one = is in cc)) refl
    next_before (negsuc k) shown e some n line =
        answer.no_memory (e ∙ n.only (λ is. let one = is in cc) some) (n.kept (λ is. let one = is in cc)) refl

    pub next_stops : (code : ℤ) → code ≡ pos 0 → IsNextCode pattern (take stop block) budget.from old new code →
        IsNextWithinCode pattern block budget old new reached stop stopped
    next_stops code is n =
        answer.stops refl s (λ has_match decides. none_before has_match block budget.from stop s.begins.lines (n.none is has_match decides))
        (n.kept (λ one. let e = sym is ∙ one in cc))
