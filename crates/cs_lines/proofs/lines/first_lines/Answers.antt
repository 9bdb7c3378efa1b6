use Rattle.std.proofs.Common.{◌≡◌, ◌<◌, ◌+◌, ◌-◌, ◌∷◌, inr, [], take, drop, refl, sym, ap, ◌∙◌, arith}
use Rattle.std.proofs.lemmas.List.{drop_all}
use Rattle.cs_match.specs.Lines.{terminated_lines}
use Rattle.cs_match.proofs.SkippedLineLemmas.{whole_none}
use Rattle.cs_match.proofs.WholeLineLemmas.{whole_from, whole_line}
use Rattle.cs_lines.proofs.BlockLemmas.{line_here, whole_more}
use Rattle.cs_lines.proofs.SpacingLemmas.{drop_ended, drop_step}
use Rattle.cs_lines.proofs.lines.first_lines.Goals as goal

no_lines : terminated_lines [] ≡ []
unfolding terminated_lines
no_lines = refl

pub lines-init : goal.lines-init
lines-init c = record { within = omega arith; whole = c.requires.whole; before = whole_none; rest = refl }

pub lines-preserved : goal.lines-preserved
lines-preserved c =
    let block = c.args.block.now in
    let i = c.lines.invariant in
    let e = c.line_end-offset.ensures in
    let end = c.line_end-offset.result in
    let some : 0 < c.lines.left = omega (arith, c.lines-test.true) in
    let line = take (end - c.lines.offset) (drop c.lines.offset block) in
    let later = terminated_lines (drop (end + 1) block) in
    let is : terminated_lines (drop c.lines.offset block) ≡ line ∷ later = line_here block c.lines.offset end e.low e.part e.newline in
    record {
      within = omega (arith, e.high);
      whole = whole_from block c.lines.offset (end + 1) (omega (arith, e.low)) i.whole;
      before = whole_more block c.lines.offset (end + 1) (omega (arith, e.low)) i.before (whole_line block c.lines.offset end e.low e.newline);
      rest = sym (drop_step c.lines.left some (terminated_lines (drop c.lines.offset block)) later line is) ∙ i.rest;
    }

pub returns-else-offset-block : goal.returns-else-offset-block
returns-else-offset-block c =
    let i = c.lines.invariant in
    let rest = drop c.lines.offset c.args.block.now in
    let none : terminated_lines rest ≡ [] = ap terminated_lines (drop_all c.lines.offset c.args.block.now c.if-offset-block.false) ∙ no_lines in
    record {
      within = i.within;
      whole = i.before;
      rest = sym (drop_ended c.lines.left (terminated_lines rest) (inr none)) ∙ i.rest;
    }
