use Rattle.std.proofs.Common.{◌≡◌, ◌<◌, ◌+◌, ◌-◌, ◌++◌, [], ℕ, List, length, take, drop, refl, sym, ap, subst, ◌∙◌, arith, length-drop, length-take}
use Rattle.std.proofs.lemmas.List.{take_rest, drop-drop}
use Rattle.std.proofs.lemmas.Bool.Decides.{nat_tests}
use Rattle.cs_match.specs.Lines.{terminated_lines}
use Rattle.cs_match.proofs.WholeLineLemmas.{whole_from, whole_rest}
use Rattle.cs_lines.specs.Blocks.{IsFirstLines}
use Rattle.cs_lines.proofs.BlockLemmas.{lines_from, first_within, count_within}
use Rattle.cs_lines.proofs.ScanLemmas.{fits_some}
use Rattle.cs_lines.proofs.rows.Rows.pass.Goals as goal

pub returns-then-self-eq0-clause-passed : goal.returns-then-self-eq0-clause-passed
returns-then-self-eq0-clause-passed g c =
    let block = c.args.block.now in
    let r = c.requires in
    let left = c.args.self.now.left in
    let later = terminated_lines (drop c.args.from block) in
    let zero : left ≡ 0 = omega (arith, c.if-self-eq0.true) in
    let none : length (take left later) ≡ 0 = ap (λ n. length (take n later)) zero in
    record {
      within = omega (arith, r.within.0, r.within.1);
      whole = r.whole.0;
      lines = lines_from block c.args.held c.args.from r.within.0 r.whole.1
          ∙ ap (λ n. terminated_lines (take (c.args.from - c.args.held) (drop c.args.held block)) ++ drop n later) (sym zero);
      most = refl;
      left = omega (arith, zero);
      number = omega (arith, none);
      room = omega arith;
    }

pub show_lines-passed-requires-clause-whole : goal.show_lines-passed-requires-clause-whole
show_lines-passed-requires-clause-whole g c =
    whole_rest c.args.block.now c.args.from (whole_from c.args.block.now c.args.held c.args.from c.requires.within.0 c.requires.whole.0)

pub returns-clause-passed : goal.returns-clause-passed
returns-clause-passed g c =
    let block = c.args.block.now in
    let r = c.requires in
    let old = c.args.self.now in
    let from = c.args.from in
    let e = c.show_lines-passed.ensures in
    let len = c.show_lines-passed.result.len in
    let later = terminated_lines (drop from block) in
    let some : 0 < old.left = grind (arith, nat_tests, c.if-self-eq0.false) in
    let same = take_rest block from in
    let first = subst (λ text. IsFirstLines old.left text len) same e.len in
    let count : c.show_lines-passed.result.count ≡ length (take old.left later) =
    e.count ∙ ap (λ (text : List ℕ). length (take old.left (terminated_lines text))) same in
    let held = terminated_lines (take (from - c.args.held) (drop c.args.held block)) in
    let none : held ≡ [] = fits_some held old.left r.fits some in
    let number = ap (λ n. old.number + n) count in
    record {
      within = omega (arith, first.within, length-drop from block, r.within.1);
      whole = whole_from block c.args.held (from + len) (omega (arith, r.within.0)) r.whole.0;
      lines = ap terminated_lines (sym (drop-drop len from block)) ∙ first.rest
          ∙ ap (λ (ls : List (List ℕ)). ls ++ drop old.left later) (sym none);
      most = e.scan.1;
      left = ap (λ n. old.left - n) count;
      number = number;
      room = omega (arith, count, first_within old.left (drop from block) len first, r.within.0);
    }

pub overflow_add-self : goal.overflow_add-self
overflow_add-self g c =
    let block = c.args.block.now in
    let rest = take (length block - c.args.from) (drop c.args.from block) in
    omega (
      arith,
      c.requires.room,
      c.requires.within.1,
      c.show_lines-passed.ensures.count,
      count_within rest c.args.self.now.left,
      length-take (length block - c.args.from) (drop c.args.from block),
      length-drop c.args.from block,
    )
