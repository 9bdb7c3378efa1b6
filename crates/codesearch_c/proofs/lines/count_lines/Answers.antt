use Rattle.std.proofs.Common.{◌≡◌, ◌+◌, List, length, take, sym, ap, subst, ◌∙◌, arith, length-take}
use Rattle.cs_match.specs.Deciding.{Decides}
use Rattle.cs_match.proofs.LinesLemmas.{lines_within}
use Rattle.codesearch_c.specs.declared.lines.LineBounds.{LineBounds}
use Rattle.codesearch_c.specs.MatchingLines.{matching_lines}
use Rattle.codesearch_c.proofs.MatchingLineLemmas.{none_beyond, count_is, count_split}
use Rattle.codesearch_c.proofs.lines.count_lines.Goals as goal

pub overflow_add-result : goal.overflow_add-result
overflow_add-result c =
    let text = take c.whole_lines_len-whole.result c.args.block.now in
    omega (
      arith,
      c.count-count.ensures.bound,
      lines_within text,
      length-take c.whole_lines_len-whole.result
          c.args.block.now,
      c.in-Some.ensures.last.0,
    )

pub returns-in-Some-clause-found : goal.returns-in-Some-clause-found
returns-in-Some-clause-found c = λ has_match decides.
    let block = c.args.block.now in
    let whole = c.whole_lines_len-whole.result in
    let e = c.in-Some.ensures in
    let end = c.in-Some.field-0.end in
    let here = e.found has_match (subst (Decides has_match) (sym c.count-count.ensures.same) decides) in
    let one : length (matching_lines has_match block whole) ≡ 1 + length (matching_lines has_match block (end + 1)) =
    ap (λ (ls : List LineBounds). length ls) here ∙ omega arith in
    let none : length (matching_lines has_match block (end + 1)) ≡ 0 = ap (λ (ls : List LineBounds). length ls)
    (none_beyond has_match block (end + 1) (omega (arith, e.last.1))) in
    omega (
      arith,
      c.count-count.ensures.found has_match decides,
      count_split has_match block whole
          c.whole_lines_len-whole.ensures.whole,
      count_is has_match block whole,
      one,
      none,
    )

pub returns-in-None-clause-found : goal.returns-in-None-clause-found
returns-in-None-clause-found c = λ has_match decides.
    let block = c.args.block.now in
    let whole = c.whole_lines_len-whole.result in
    let none : length (matching_lines has_match block whole) ≡ 0 = ap (λ (ls : List LineBounds). length ls)
    (c.in-None.ensures.found has_match (subst (Decides has_match) (sym c.count-count.ensures.same) decides)) in
    omega (
      arith,
      c.count-count.ensures.found has_match decides,
      count_split has_match block whole
          c.whole_lines_len-whole.ensures.whole,
      count_is has_match block whole,
      none,
    )
