use Rattle.std.proofs.Common.{map, sym, inl}
use Rattle.std.specs.Prelude.{string_bytes}
use Rattle.std.specs.List.{filter_map}
use Rattle.std.proofs.lemmas.Result.{err_from_is_err_and}
use Rattle.cs_listing.specs.Models.{chosen_in}
use Rattle.cs_command.specs.Choices.{choice_in, choices_by, choices_of}
use Rattle.cs_command.specs.Texts.{shown}
use Rattle.cs_command.proofs.ChoiceLemmas.{more_choices}
use Rattle.cs_command.proofs.RequestLemmas.{bad_limits, bad_colour, bad_depth, bad_pattern, requested}
use Rattle.cs_command.proofs.request.request_by.Goals as goal

pub returns-in_err-limits-clause-fault : goal.returns-in_err-limits-clause-fault
returns-in_err-limits-clause-fault c =
    let words = map string_bytes c.args.words.now in
    let p = err_from_is_err_and c.from_residual.result c.from_residual.ensures.1 in
    rw (p.1, p.2) (λ known. inl (bad_limits words c.args.items.now c.args.options.now _ (sym c.in_err-limits.ensures)))

pub returns-in_err-colour-clause-fault : goal.returns-in_err-colour-clause-fault
returns-in_err-colour-clause-fault c =
    let words = map string_bytes c.args.words.now in
    let p = err_from_is_err_and c.from_residual-in_err-colour.result c.from_residual-in_err-colour.ensures.1 in
    rw (p.1, p.2) (λ known. inl (bad_colour words c.args.items.now c.args.options.now _ (sym c.in_ok-limits.ensures)
    _ (sym c.in_err-colour.ensures)))

pub returns-in_err-depth-clause-fault : goal.returns-in_err-depth-clause-fault
returns-in_err-depth-clause-fault c =
    let words = map string_bytes c.args.words.now in
    let p = err_from_is_err_and c.from_residual-in_err-depth.result c.from_residual-in_err-depth.ensures.1 in
    rw (p.1, p.2) (λ known. inl (bad_depth words c.args.items.now c.args.options.now _ (sym c.in_ok-limits.ensures)
    _ (sym c.in_ok-colour.ensures) _ (sym c.in_err-depth.ensures)))

pub returns-in_err-pattern-clause-fault : goal.returns-in_err-pattern-clause-fault
returns-in_err-pattern-clause-fault c =
    let words = map string_bytes c.args.words.now in
    let p = err_from_is_err_and c.from_residual-in_err-pattern.result c.from_residual-in_err-pattern.ensures.1 in
    rw (p.1, p.2) (λ known. inl (bad_pattern words c.args.items.now c.args.options.now _ (sym c.in_ok-limits.ensures)
    _ (sym c.in_ok-colour.ensures) _ (sym c.in_ok-depth.ensures) (shown c.in_ok-texts.texts) c.in_ok-texts.ensures
    c.case_of.result c.case_of.ensures _ (c.in_err-pattern.ensures.fault known)))

pub returns-clause-request : goal.returns-clause-request
returns-clause-request c =
    let words = map string_bytes c.args.words.now in
    let files = c.args.options.now.switches.files in
    let depth = c.in_ok-depth.depth in (
      choices_of words files depth c.args.items.now,
      requested words c.args.items.now c.args.options.now _ (sym c.in_ok-limits.ensures)
          _ (sym c.in_ok-colour.ensures) depth (sym c.in_ok-depth.ensures) (shown c.in_ok-texts.texts) c.in_ok-texts.ensures
          c.case_of.result c.case_of.ensures _ c.may_update.ensures _ c.in_ok-pattern.ensures.pattern,
      more_choices (choices_by files depth) (filter_map (choice_in words) c.args.items.now) (chosen_in c.args.choices)
          (chosen_in c.choose_kinds.new.choices) (chosen_in c.choose_names.new.choices) c.choose_kinds.ensures c.in_ok-choose_names.ensures.all,
    )
