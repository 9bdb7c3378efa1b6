use Rattle.std.proofs.Common.{◌≡◌, ◌+◌, ◌<◌, ◌≤◌, ◌∷◌, ◌++◌, suc, Bool, List, ℕ, length, take, drop, get_or, sym, ap, subst, ◌∙◌, arith, drop-cons}
use Rattle.std.proofs.lemmas.List.{drop_all}
use Rattle.std.proofs.lemmas.Slice.{between_is}
use Rattle.cs_match.specs.Deciding.{Decides}
use Rattle.cs_match.specs.MatchingEnds.{matching_ends}
use Rattle.cs_match.specs.Skipping.{AreWholeLines}
use Rattle.cs_match.proofs.DecidabilityLemmas.{matching_is_decidable}
use Rattle.cs_match.proofs.ListingLemmas.{IsFirstEnd, first_end, first_matches, first_skips, none_listed}
use Rattle.cs_match.proofs.WholeLineLemmas.{whole_from}
use Rattle.codesearch_c.specs.declared.lines.LineBounds.{LineBounds}
use Rattle.codesearch_c.specs.MatchingLines.{AreListedTo}
use Rattle.codesearch_c.proofs.MatchingLineLemmas.{listed_next, listed_on, next_match, next_none_to}
use Rattle.codesearch_c.proofs.lines.put_listed.Goals as goal

-- the next end of a list
next : (has_match : List ℕ → Bool) (text listed ends : List ℕ) (offset to k : ℕ) → offset ≤ to → to ≤ length text → k < length listed →
    drop k ends ≡ matching_ends has_match text offset to → listed ≡ ends →
    IsFirstEnd has_match text offset to (get_or listed k 0) (drop (k + 1) ends)
next has_match text listed ends offset to k low high within rest is =
    let more : suc k ≡ k + 1 = omega arith in
    first_end has_match text offset to (get_or listed k 0) (drop (k + 1) ends) low high
    (sym rest ∙ ap (drop k) (sym is) ∙ drop-cons listed k 0 within ∙ ap (λ n. get_or listed k 0 ∷ drop n listed) more
    ∙ ap (λ (xs : List ℕ). get_or listed k 0 ∷ drop (k + 1) xs) is)

pub line_to-line-requires : goal.line_to-line-requires
line_to-line-requires c =
    let i = c.loop-end.invariant in
    let decided = matching_is_decidable c.args.matcher.now.tree in
    let first = next decided.0 c.args.text.now c.listed-end-items.result.now c.args.matcher.now.ends c.loop-end.offset c.args.part.end c.loop-end.end-index
    i.high c.requires.lines.high c.loop-end-test.true (i.ends decided.0 decided.1) c.listed-end-items.ensures in
    record {
      low = first.low;
      within = omega (arith, first.high, c.requires.lines.high);
      newline = first.newline;
    }

pub loop-end-preserved : goal.loop-end-preserved
loop-end-preserved c =
    let i = c.loop-end.invariant in
    let text = c.args.text.now in
    let offset = c.loop-end.offset in
    let to = c.args.part.end in
    let l = c.line_to-line.ensures in
    let start = c.line_to-line.result.start in
    let end = c.line_to-line.result.end in
    let first : (has_match : List ℕ → Bool) → Decides has_match c.args.matcher.now.tree →
    IsFirstEnd has_match text offset to (get_or c.listed-end-items.result.now c.loop-end.end-index 0) (drop (c.loop-end.end-index + 1) c.args.matcher.now.ends) =
    λ has_match decides. next has_match text c.listed-end-items.result.now c.args.matcher.now.ends offset to c.loop-end.end-index
    i.high c.requires.lines.high c.loop-end-test.true (i.ends has_match decides) c.listed-end-items.ensures in
    let decided = matching_is_decidable c.args.matcher.now.tree in
    record {
      low = omega (arith, i.low, l.line.low, l.line.order);
      high = omega (arith, (first decided.0 decided.1).high, l.end);
      fewer = omega (arith, i.fewer, l.line.low, l.line.order);
      ends = λ has_match decides. sym (first has_match decides).rest ∙ ap (λ n. matching_ends has_match text (n + 1) to) (sym l.end);
      listed = λ has_match decides rest old before.
          subst (λ (ls : List LineBounds). AreListedTo has_match (text ++ rest) old ls (c.loop-end.count + 1) (end + 1)) (sym c.put_line.ensures)
          (listed_next has_match (text ++ rest) old c.loop-end.lines c.loop-end.count offset (record { start = start; end = end })
          (i.listed has_match decides rest old before)
          (next_match has_match text rest offset start end l.line
          (first_skips has_match text offset to _ _ c.requires.lines.high (first has_match decides) start end l.end l.line)
          (first_matches has_match text offset to _ _ c.requires.lines.high (first has_match decides) start end l.end l.line)));
    }

pub returns-clause-listed : goal.returns-clause-listed
returns-clause-listed c = λ has_match decides rest old before.
    let i = c.loop-end.invariant in
    let text = c.args.text.now in
    let offset = c.loop-end.offset in
    let to = c.args.part.end in
    let high = c.requires.lines.high in
    let all : length c.args.matcher.now.ends ≤ c.loop-end.end-index =
    omega (arith, c.loop-end-test.false, ap (λ (xs : List ℕ). length xs) c.listed-end-items.ensures) in
    let none = none_listed has_match text offset to i.high high
    (sym (i.ends has_match decides) ∙ drop_all c.loop-end.end-index c.args.matcher.now.ends all) in
    let whole = whole_from (take to text) c.args.part.start offset i.low
    (subst AreWholeLines (between_is text c.args.part.start to) c.requires.lines.whole) in
    listed_on has_match (text ++ rest) old c.loop-end.lines c.loop-end.count offset to (i.listed has_match decides rest old before)
    (next_none_to has_match text rest offset to i.high high (subst AreWholeLines (sym (between_is text offset to)) whole) none)
