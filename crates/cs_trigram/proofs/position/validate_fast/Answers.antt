use Rattle.std.proofs.Common.{◌≤◌, ◌+◌, ◌∙◌, sym, ap, subst, refl, length, arith, length-append}
use Rattle.cs_trigram.specs.Text.{last_byte, line_so_far}
use Rattle.cs_trigram.specs.FastPath.{LinesFit, AreValidPairs, column_after}
use Rattle.cs_trigram.proofs.FastPathLemmas.{valid_pairs_validate, column-append, last_byte-append}
use Rattle.cs_trigram.proofs.position.validate_fast.Goals as goal

pub returns-clause-rule : goal.returns-clause-rule
returns-clause-rule c = λ prefix is_after.
    let most = c.args.limits.now in
    let bytes = c.args.bytes.now in
    let fit = c.in_ok-column.ensures.fit in
    let last = c.in_ok-last.ensures.item.3 in
    let pairs_are_valid : AreValidPairs (last_byte prefix) bytes = subst (λ b. AreValidPairs b bytes) is_after.before
    (c.if-not-are_plainly_valid.ensures refl) in
    let room : length prefix + length bytes ≤ most.bytes = omega (arith, is_after.count, c.if-limits-count.false) in
    let lines : LinesFit most.line (length (line_so_far prefix)) bytes = subst (λ k. LinesFit most.line k bytes) is_after.column fit.0 in (
      valid_pairs_validate most prefix bytes pairs_are_valid room lines,
      record {
        count = omega (arith, is_after.count, length-append prefix bytes);
        column = fit.1 ∙ ap (λ k. column_after k bytes) is_after.column ∙ sym (column-append prefix bytes);
        before = last_byte-append prefix bytes c.in_ok-last.last.now last.0 (last.1 0);
      },
    )
