use Rattle.std.proofs.Common.{sym, ◌∙◌}
use Rattle.std.proofs.lemmas.Result.{err_from_is_err_and}
use Rattle.cs_command.proofs.StageLemmas.{and_then_ok, and_then_err}
use Rattle.cs_command.proofs.values.limits_in.Goals as goal

pub returns-in_err-most : goal.returns-in_err-most
returns-in_err-most c =
    let p = err_from_is_err_and c.from_residual.result c.from_residual.ensures.1 in
    rw (p.1, p.2) (sym (and_then_err _ _ _ (sym c.in_err-most.ensures)))

pub returns-in_err-before : goal.returns-in_err-before
returns-in_err-before c =
    let p = err_from_is_err_and c.from_residual-in_err-before.result c.from_residual-in_err-before.ensures.1 in
    rw (p.1, p.2) (sym (and_then_ok _ _ _ (sym c.in_ok-most.ensures) ∙ and_then_err _ _ _ (sym c.in_err-before.ensures)))

pub returns-in_err-after : goal.returns-in_err-after
returns-in_err-after c =
    let p = err_from_is_err_and c.from_residual-in_err-after.result c.from_residual-in_err-after.ensures.1 in
    rw (p.1, p.2) (sym (and_then_ok _ _ _ (sym c.in_ok-most.ensures) ∙ and_then_ok _ _ _ (sym c.in_ok-before.ensures)
    ∙ and_then_err _ _ _ (sym c.in_err-after.ensures)))

pub returns-in_err-around : goal.returns-in_err-around
returns-in_err-around c =
    let p = err_from_is_err_and c.from_residual-in_err-around.result c.from_residual-in_err-around.ensures.1 in
    rw (p.1, p.2) (sym (and_then_ok _ _ _ (sym c.in_ok-most.ensures) ∙ and_then_ok _ _ _ (sym c.in_ok-before.ensures)
    ∙ and_then_ok _ _ _ (sym c.in_ok-after.ensures) ∙ and_then_err _ _ _ (sym c.in_err-around.ensures)))

pub returns : goal.returns
returns c =
    sym (and_then_ok _ _ _ (sym c.in_ok-most.ensures) ∙ and_then_ok _ _ _ (sym c.in_ok-before.ensures)
    ∙ and_then_ok _ _ _ (sym c.in_ok-after.ensures) ∙ and_then_ok _ _ _ (sym c.in_ok-around.ensures))
