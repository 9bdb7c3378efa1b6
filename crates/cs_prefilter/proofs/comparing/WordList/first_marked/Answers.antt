use Rattle.std.proofs.Common.{◌≡◌, ◌+◌, ◌<◌, ◌≤◌, List, length, ap, sym, subst, ◌∙◌, w64, true≢false, arith}
use Rattle.std.specs.Prelude.{Any}
use Rattle.std.specs.Int.{trailing_zeros}
use Rattle.std.specs.Int.Count.{trailing_of_zero}
use Rattle.cs_prefilter.specs.declared.word.Word.{Word}
use Rattle.cs_tree.specs.declared.steps.Steps.{Steps}
use Rattle.cs_prefilter.specs.WordAt.{WordAt}
use Rattle.cs_prefilter.proofs.BitLemmas.{lowest_within, lowest_rises}
use Rattle.cs_prefilter.proofs.ScanLemmas.{none_before_lowest, none_cleared}
use Rattle.cs_prefilter.proofs.comparing.WordList.first_marked.Goals as goal
use Rattle.cs_prefilter.proofs.comparing.WordList.first_marked.Goals.{else-k-len-via-then-k-len+else-occurs, else-k-len-via-else-k-len}

pub marks-preserved : goal.marks-preserved
marks-preserved c =
    let words = c.args.self.now.words.items in
    let text = c.args.text.now in
    let at = c.args.offset in
    let rest = c.marks.rest in
    let some : 0 < rest = omega (arith, c.marks-test.true) in
    let fits = c.marks.auto.rest-fits.fits in
    let rises = lowest_rises w64 rest some fits (trailing_of_zero 64) in
    let below = lowest_within w64 rest some fits in
    elim c.else-k-len.branch [
      | else-k-len-via-then-k-len+else-occurs w ↦ record {
        none = none_cleared words text at rest some fits c.marks.invariant.none
            (λ inside any. absurd (true≢false (sym (w.occurs.ensures.found.1
            (subst (λ (ws : List Word). Any (WordAt text (at + trailing_zeros w64 rest)) ws) (sym w.deref.ensures.value) any)) ∙ w.if-occurs.false)));
        rises = omega (arith, c.marks.invariant.rises, w.occurs.ensures.work.0, ap (λ (s : Steps). s.count) w.steps-is);
        work = omega (
          arith,
          c.marks.invariant.work,
          w.occurs.ensures.work.1,
          ap (λ (s : Steps). s.count) w.steps-is,
          w.deref.ensures.len,
          rises,
          w.if-k-len.true,
          c.min-len.ensures,
          c.args.self.now.few,
        );
      }
      | else-k-len-via-else-k-len w ↦ record {
        none = none_cleared words text at rest some fits c.marks.invariant.none
            (λ inside any. absurd (omega (arith, inside, w.if-k-len.false, c.min-len.ensures, below)));
        rises = omega (arith, c.marks.invariant.rises, ap (λ (s : Steps). s.count) w.steps-is);
        work = omega (arith, c.marks.invariant.work, ap (λ (s : Steps). s.count) w.steps-is, rises);
      }
    ]

pub marks-smaller : goal.marks-smaller
marks-smaller c =
    let rest = c.marks.rest in
    let some : 0 < rest = omega (arith, c.marks-test.true) in
    let fits = c.marks.auto.rest-fits.fits in
    omega (arith, lowest_within w64 rest some fits, lowest_rises w64 rest some fits (trailing_of_zero 64))

pub returns-then-occurs-clause-stop : goal.returns-then-occurs-clause-stop
returns-then-occurs-clause-stop c =
    let rest = c.marks.rest in
    let within : c.args.offset + trailing_zeros w64 rest ≤ length c.args.text.now =
    omega (arith, c.if-k-len.true, c.min-len.ensures, c.requires.within) in
    record {
      low = omega arith;
      high = within;
      none = none_before_lowest c.args.self.now.words.items c.args.text.now c.args.offset rest
          (c.args.offset + trailing_zeros w64 rest) c.marks.auto.rest-fits.fits c.marks.invariant.none (omega arith) within;
      stops = λ t. subst (λ (ws : List Word). Any (WordAt c.args.text.now (c.args.offset + trailing_zeros w64 rest)) ws)
          c.deref.ensures.value (c.occurs.ensures.found.0 c.if-occurs.true);
    }

pub returns-clause-stop : goal.returns-clause-stop
returns-clause-stop c =
    let rest = c.marks.rest in
    let whole : trailing_zeros w64 rest ≡ 64 = ap (λ n. trailing_zeros w64 n) c.marks-test.false ∙ trailing_of_zero 64 in
    record {
      low = omega arith;
      high = omega (arith, c.min-len.ensures, c.requires.within);
      none = none_before_lowest c.args.self.now.words.items c.args.text.now c.args.offset rest (c.args.offset + c.min-len.result)
          c.marks.auto.rest-fits.fits c.marks.invariant.none (omega (arith, whole, c.min-len.ensures))
          (omega (arith, c.min-len.ensures, c.requires.within));
      stops = λ t. absurd (true≢false (sym t));
    }
