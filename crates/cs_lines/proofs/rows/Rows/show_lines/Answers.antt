use Rattle.std.proofs.Common.{◌≡◌, ◌<◌, ◌+◌, ◌-◌, ◌∷◌, ◌⊎◌, inl, inr, [], ℕ, List, length, take, drop, refl, sym, ap, ◌∙◌, arith}
use Rattle.std.proofs.lemmas.List.{drop_all}
use Rattle.std.proofs.lemmas.Bool.{false≢true}
use Rattle.cs_match.specs.Lines.{terminated_lines}
use Rattle.cs_match.proofs.SkippedLineLemmas.{whole_none}
use Rattle.cs_match.proofs.WholeLineLemmas.{whole_from, whole_line}
use Rattle.cs_lines.specs.Scans.{rows_at}
use Rattle.cs_tree.specs.SinkOutputs.{given}
use Rattle.cs_lines.specs.Spacing.{printed_by, progress_of}
use Rattle.cs_tree.proofs.SinkOutputLemmas.{keeps_same, keeps_then}
use Rattle.cs_lines.proofs.BlockLemmas.{line_here, whole_more}
use Rattle.cs_lines.proofs.SpacingLemmas.{take_step, drop_step, take_ended, drop_ended}
use Rattle.cs_lines.proofs.rows.Rows.show_lines.Goals as goal
use Rattle.cs_lines.proofs.rows.Rows.show_lines.Goals.{then-lines-test+else-offset-block, else-lines-test}
use Rattle.cs_lines.proofs.rows.Rows.show_lines.Given.{Over}

no_lines : terminated_lines [] ≡ []
unfolding terminated_lines
no_lines = refl

ended_by : (g : Over) (c : goal.Left-lines g) → (c.lines.left ≡ 0) ⊎ (terminated_lines (drop c.lines.offset c.args.block.now) ≡ [])
ended_by g c = elim c.lines-test.branch [
  | then-lines-test+else-offset-block w ↦ inr (ap terminated_lines (drop_all c.lines.offset c.args.block.now (omega (arith, w.if-offset-block))) ∙ no_lines)
  | else-lines-test w ↦ inl (omega (arith, w.lines-test))
]

pub lines-init : goal.lines-init
lines-init g c = record {
  within = omega arith;
  whole = c.requires.whole;
  before = whole_none;
  room = omega arith;
  few = omega arith;
  size = omega arith;
  rest = refl;
  rows = λ finding. refl;
  page = refl;
  scan = (refl, refl, refl);
  keeps = keeps_same g.O.Sink.model g.O.Sink.failed c.args.out.now;
}

pub lines-preserved : goal.lines-preserved
lines-preserved g c =
    let block = c.args.block.now in
    let i = c.lines.invariant in
    let e = c.line_end-end.ensures in
    let end = c.line_end-end.result in
    let shown = c.show.ensures.row in
    let self = c.lines.self in
    let some : 0 < c.lines.left = omega (arith, c.lines-test.true) in
    let ls = terminated_lines (drop c.lines.offset block) in
    let later = terminated_lines (drop (end + 1) block) in
    let line = take (end - c.lines.offset) (drop c.lines.offset block) in
    let is : ls ≡ line ∷ later = line_here block c.lines.offset end e.low e.part e.newline in
    let t = take_step c.lines.left some ls later line is in
    let rest = rows_at (c.lines.next + 1) (take (c.lines.left - 1) later) in
    let now = given c.lines.out in
    record {
      within = omega (arith, e.high);
      whole = whole_from block c.lines.offset (end + 1) (omega (arith, e.low)) i.whole;
      before = whole_more block c.lines.offset (end + 1) (omega (arith, e.low)) i.before (whole_line block c.lines.offset end e.low e.newline);
      room = omega (arith, i.room, e.low);
      few = omega (arith, i.few);
      size = omega (arith, i.size, i.few, some, ap (λ (l : List (List ℕ)). length l) t);
      rest = sym (drop_step c.lines.left some ls later line is) ∙ i.rest;
      rows = λ finding.
          i.rows finding
          ∙ ap (λ (l : List (List ℕ)). printed_by self.page finding (progress_of self now) (rows_at c.lines.next l)) t
          ∙ ap (λ p. printed_by self.page finding p rest) (sym (shown.0 finding (λ marked. absurd (false≢true marked))))
          ∙ ap (λ page. printed_by page finding (progress_of c.show.new.self (given c.show.new.out)) rest) (sym shown.1);
      page = shown.1 ∙ i.page;
      scan = (shown.2.0 ∙ i.scan.0, shown.2.1 ∙ i.scan.1, shown.2.2 ∙ i.scan.2);
      keeps = keeps_then g.O.Sink.model g.O.Sink.failed c.args.out.now c.lines.out c.show.new.out i.keeps c.show.ensures.keeps;
    }

pub returns-clause-rows : goal.returns-clause-rows
returns-clause-rows g c =
    let i = c.lines.invariant in
    let block = c.args.block.now in
    let ended : (c.lines.left ≡ 0) ⊎ (terminated_lines (drop c.lines.offset block) ≡ []) = ended_by g c in
    let none = take_ended c.lines.left (terminated_lines (drop c.lines.offset block)) ended in (
      λ finding. sym (i.rows finding
          ∙ ap (λ (l : List (List ℕ)). printed_by c.lines.self.page finding (progress_of c.lines.self (given c.lines.out)) (rows_at c.lines.next l)) none),
      i.page,
    )

pub returns-clause-count : goal.returns-clause-count
returns-clause-count g c =
    let i = c.lines.invariant in
    let block = c.args.block.now in
    let ended : (c.lines.left ≡ 0) ⊎ (terminated_lines (drop c.lines.offset block) ≡ []) = ended_by g c in
    let none = take_ended c.lines.left (terminated_lines (drop c.lines.offset block)) ended in
    omega (arith, i.size, ap (λ (l : List (List ℕ)). length l) none)

pub returns-clause-len : goal.returns-clause-len
returns-clause-len g c =
    let i = c.lines.invariant in
    let block = c.args.block.now in
    let ended : (c.lines.left ≡ 0) ⊎ (terminated_lines (drop c.lines.offset block) ≡ []) = ended_by g c in
    record {
      within = i.within;
      whole = i.before;
      rest = sym (drop_ended c.lines.left (terminated_lines (drop c.lines.offset block)) ended) ∙ i.rest;
    }
