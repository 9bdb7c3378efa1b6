use Rattle.std.proofs.Common.{◌≡◌, ◌∙◌, List, ℕ, sym}
use Rattle.cs_state.specs.StampedNames.{number_text}
use Rattle.cs_state.proofs.NumberLemmas.{after_device, after_inode, after_modified, after_size, any_if, any_none, cut, grouped}
use Rattle.cs_state.proofs.stamp_text.after_stamp.Goals as goal

pub returns-in_err-rest-clause-none : goal.returns-in_err-rest-clause-none
returns-in_err-rest-clause-none c =
    let stamp = c.args.stamp.now in
    any_none c.from_residual.result (λ rest whole. c.in_err-rest.ensures.none (after_device stamp rest) (whole ∙ grouped stamp rest))

pub returns-in_err-rest-2-clause-none : goal.returns-in_err-rest-2-clause-none
returns-in_err-rest-2-clause-none c =
    let stamp = c.args.stamp.now in
    any_none c.from_residual-in_err-rest-2.result (λ rest whole.
    c.in_err-rest-2.ensures.none (after_inode stamp rest)
    (cut c.args.text.now _ c.in_ok-rest.rest.now (after_device stamp rest) c.in_ok-rest.ensures.some (whole ∙ grouped stamp rest)))

pub returns-in_err-rest-3-clause-none : goal.returns-in_err-rest-3-clause-none
returns-in_err-rest-3-clause-none c =
    let stamp = c.args.stamp.now in
    any_none c.from_residual-in_err-rest-3.result (λ rest whole.
    c.in_err-rest-3.ensures.none (after_size stamp rest)
    (cut c.in_ok-rest.rest.now _ c.in_ok-rest-2.rest.now (after_inode stamp rest) c.in_ok-rest-2.ensures.some
    (cut c.args.text.now _ c.in_ok-rest.rest.now (after_device stamp rest) c.in_ok-rest.ensures.some (whole ∙ grouped stamp rest))))

pub returns-in_err-rest-4-clause-none : goal.returns-in_err-rest-4-clause-none
returns-in_err-rest-4-clause-none c =
    let stamp = c.args.stamp.now in
    any_none c.from_residual-in_err-rest-4.result (λ rest whole.
    c.in_err-rest-4.ensures.none (after_modified stamp rest)
    (cut c.in_ok-rest-2.rest.now _ c.in_ok-rest-3.rest.now (after_size stamp rest) c.in_ok-rest-3.ensures.some
    (cut c.in_ok-rest.rest.now _ c.in_ok-rest-2.rest.now (after_inode stamp rest) c.in_ok-rest-2.ensures.some
    (cut c.args.text.now _ c.in_ok-rest.rest.now (after_device stamp rest) c.in_ok-rest.ensures.some (whole ∙ grouped stamp rest)))))

pub returns-clause-none : goal.returns-clause-none
returns-clause-none c =
    let stamp = c.args.stamp.now in
    any_if c.after_number-5.result (λ none rest whole.
    none rest
    (cut c.in_ok-rest-3.rest.now _ c.in_ok-rest-4.rest.now (after_modified stamp rest) c.in_ok-rest-4.ensures.some
    (cut c.in_ok-rest-2.rest.now _ c.in_ok-rest-3.rest.now (after_size stamp rest) c.in_ok-rest-3.ensures.some
    (cut c.in_ok-rest.rest.now _ c.in_ok-rest-2.rest.now (after_inode stamp rest) c.in_ok-rest-2.ensures.some
    (cut c.args.text.now _ c.in_ok-rest.rest.now (after_device stamp rest) c.in_ok-rest.ensures.some (whole ∙ grouped stamp rest))))))
    c.after_number-5.ensures.none
