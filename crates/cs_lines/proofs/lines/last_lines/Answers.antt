use Rattle.std.proofs.Common.{◌≡◌, ◌+◌, ◌-◌, ◌⊎◌, ℕ, List, [], length, refl, sym, ap, subst, ◌∙◌, arith, length-take}
use Rattle.std.proofs.lemmas.List.{take_all}
use Rattle.std.proofs.Math.Seq.{drop-length}
use Rattle.std.proofs.lemmas.Bool.Decides.{nat_tests}
use Rattle.cs_match.specs.Lines.{terminated_lines}
use Rattle.cs_match.specs.Skipping.{AreWholeLines}
use Rattle.cs_lines.proofs.BlockLemmas.{line_whole, line_before, last_are}
use Rattle.cs_lines.proofs.lines.last_lines.Goals as goal

none : length (terminated_lines []) ≡ 0
unfolding terminated_lines
none = refl

pub lines-init : goal.lines-init
lines-init c =
    let block = c.args.block.now in
    record {
      within = omega arith;
      whole = subst AreWholeLines (sym (take_all (length block) block (omega arith))) c.requires.whole;
      lines = ap (λ (rest : List ℕ). c.args.count + length (terminated_lines rest)) (drop-length block) ∙ omega (arith, none);
    }

pub lines-preserved : goal.lines-preserved
lines-preserved c =
    let block = c.args.block.now in
    let i = c.lines.invariant in
    let e = c.whole_lines_len-start.ensures in
    let line = c.whole_lines_len-start.result in
    let at = c.lines.start - 1 in
    let next : at + 1 ≡ c.lines.start = omega (arith, c.if-start-gt0.true) in
    record {
      within = omega (arith, e.within, length-take at block);
      whole = line_whole block c.lines.start at line next i.within i.whole e.within e.whole;
      lines = omega (arith, i.lines, c.lines-test.true, line_before block c.lines.start at line next i.within i.whole e.within e.rest);
    }

pub returns-after-lines-clause-last : goal.returns-after-lines-clause-last
returns-after-lines-clause-last c =
    let i = c.lines.invariant in
    let ended : (c.lines.left ≡ 0) ⊎ (c.lines.start ≡ 0) = grind (arith, nat_tests, c.lines-test.false) in
    last_are c.args.block.now c.lines.start c.args.count c.lines.left i.whole i.lines ended
