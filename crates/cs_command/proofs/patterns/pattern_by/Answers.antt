use Rattle.std.proofs.Common.{List, map, ap, ◌∙◌}
use Rattle.std.proofs.lemmas.Result.{err_from_is_err_and}
use Rattle.cs_command.specs.Patterns.{pattern_by}
use Rattle.cs_command.specs.WordLines.{line_view}
use Rattle.cs_command.specs.declared.word_lines.WordLine.{WordLine}
use Rattle.cs_command.proofs.StageLemmas.{and_then_ok, and_then_err, ok_after, err_after}
use Rattle.cs_command.proofs.patterns.pattern_by.Goals as goal

pub returns-in_err-pattern-clause-fault : goal.returns-in_err-pattern-clause-fault
returns-in_err-pattern-clause-fault c =
    let p = err_from_is_err_and c.from_residual.result c.from_residual.ensures.1 in
    rw (p.1, p.2) (λ known.
    ap (λ (lines : List WordLine). pattern_by c.args.style c.args.fold (map line_view lines)) c.in-Some.ensures.cases.0
    ∙ and_then_err _ _ _ (c.in_err-pattern.ensures.fault known))

pub returns : goal.returns
returns c =
    let is = ap (λ (lines : List WordLine). pattern_by c.args.style c.args.fold (map line_view lines)) c.in-Some.ensures.cases.0
    ∙ and_then_ok _ _ _ c.in_ok-pattern.ensures.pattern in
    record {
      pattern = ok_after _ _ c.joined.result is c.joined.ensures.pattern;
      fault = err_after _ _ c.joined.result is c.joined.ensures.fault;
    }
