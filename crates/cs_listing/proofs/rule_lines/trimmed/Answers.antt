use Rattle.std.proofs.Common.{◌≡◌, ◌+◌, ◌<◌, ◌&&◌, not, nat_eq, cond, get_or, length, take, drop, sym, ap, ◌∙◌, arith}
use Rattle.std.proofs.lemmas.List.{drop_more, at_drop_all}
use Rattle.cs_listing.specs.RuleFiles.{trimmed_after}
use Rattle.cs_listing.proofs.LineLemmas.{stays, stays_step, cut}
use Rattle.cs_listing.proofs.rule_lines.trimmed.Goals as goal
use Rattle.cs_listing.proofs.rule_lines.trimmed.Goals.{then-stays, else-stays}

pub loop-at-preserved : goal.loop-at-preserved
loop-at-preserved c =
    let line = c.args.line.now in
    let at = c.loop-at.at in
    let kept = c.loop-at.kept in
    let quoted = c.loop-at.is_quoted in
    let rest = drop (at + 1) line in
    let quoting = not quoted && nat_eq (get_or line at 0) 92 in
    let less : at < length line = omega arith in
    let chosen : cond c.stays.result (at + 1) kept ≡ c.if-stays.kept =
    elim c.if-stays.branch [
      | then-stays w ↦ ap (λ t. cond t (at + 1) kept) w.if-stays.true ∙ sym w.kept-is
      | else-stays w ↦ ap (λ t. cond t (at + 1) kept) w.if-stays.false ∙ sym w.kept-is
    ] in
    record {
      same = c.loop-at.invariant.same
          ∙ ap (λ r. stays kept at (length (trimmed_after quoted r))) (drop_more line at 0 less)
          ∙ stays_step quoted (get_or line at 0) kept at rest
          ∙ ap (λ t. stays (cond t (at + 1) kept) (at + 1) (length (trimmed_after quoting rest))) (sym c.stays.ensures)
          ∙ ap (λ k. stays k (at + 1) (length (trimmed_after quoting rest))) chosen
          ∙ ap (λ q. stays c.if-stays.kept (at + 1) (length (trimmed_after q rest))) (sym c.quotes-is_quoted.ensures);
      within = elim c.if-stays.branch [ then-stays w ↦ omega arith | else-stays w ↦ omega arith ];
    }

pub returns : goal.returns
returns c =
    let line = c.args.line.now in
    let all = c.loop-at.invariant.same ∙ at_drop_all (λ r. stays c.loop-at.kept c.loop-at.at (length (trimmed_after c.loop-at.is_quoted r)))
    line c.loop-at.at (omega arith) in
    ap (λ n. take n line) (sym all) ∙ cut _ line
