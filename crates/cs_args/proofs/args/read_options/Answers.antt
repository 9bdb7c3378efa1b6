use Rattle.std.proofs.Common.{[], ◌≡◌, ◌∙◌, ap, subst, drop, map, length, take, ◌-◌, Some, None}
use Rattle.std.specs.Prelude.{string_bytes}
use Rattle.std.proofs.lemmas.Result.{err_from_is_err_and}
use Rattle.cs_args.specs.Args.{option_items_from, without_terminator}
use Rattle.cs_args.specs.Settings.{IsNextItem, BreaksRule}
use Rattle.cs_args.proofs.ReadOptionsLemmas.{map-slice_from, read_next, none_next, fault_next, read_all, all_sound, rest_here}
use Rattle.cs_args.proofs.args.read_options.Goals as goal

pub returns-in_err-item-clause-fault : goal.returns-in_err-item-clause-fault
returns-in_err-item-clause-fault c =
    let p = err_from_is_err_and c.from_residual.result c.from_residual.ensures.1 in
    rw (p.1, p.2) (c.loop-item.invariant.sound
    ∙ fault_next c.args.tool (drop c.loop-item.arg_index (map string_bytes c.args.args.now)) c.loop-item.arg_index c.in_err-item.field-0.0
    (subst (λ args. BreaksRule c.args.tool c.loop-item.arg_index args c.in_err-item.field-0.0)
    (map-slice_from string_bytes c.loop-item.arg_index c.args.args.now) c.in_err-item.ensures.fault))

pub loop-item-preserved : goal.loop-item-preserved
loop-item-preserved c =
    rw c.set.ensures
    (read_next c.args.tool (map string_bytes c.args.args.now) c.loop-item.arg_index c.loop-item.settings c.in-Some.item
    c.loop-item.invariant
    (subst (λ args. IsNextItem c.args.tool c.loop-item.arg_index args (Some c.in-Some.item))
    (map-slice_from string_bytes c.loop-item.arg_index c.args.args.now)
    (subst (λ next. IsNextItem c.args.tool c.loop-item.arg_index
    (map string_bytes (take (length c.args.args.now - c.loop-item.arg_index)
    (drop c.loop-item.arg_index c.args.args.now))) next)
    c.in-Some.is c.in_ok-item.ensures.item)))

-- there is no further option
none_left : (c : goal.After-without_terminator) → option_items_from c.args.tool c.loop-item.arg_index
    (drop c.loop-item.arg_index (map string_bytes c.args.args.now)) ≡ []
none_left c =
    none_next c.args.tool (drop c.loop-item.arg_index (map string_bytes c.args.args.now)) c.loop-item.arg_index
    (subst (λ args. IsNextItem c.args.tool c.loop-item.arg_index args None)
    (map-slice_from string_bytes c.loop-item.arg_index c.args.args.now)
    (subst (λ next. IsNextItem c.args.tool c.loop-item.arg_index
    (map string_bytes (take (length c.args.args.now - c.loop-item.arg_index)
    (drop c.loop-item.arg_index c.args.args.now))) next)
    c.in_default.is c.in_ok-item.ensures.item))

pub returns-clause-settings : goal.returns-clause-settings
returns-clause-settings c = read_all c.args.tool (map string_bytes c.args.args.now) c.loop-item.arg_index
    c.loop-item.settings c.loop-item.invariant (none_left c)

pub returns-clause-sound : goal.returns-clause-sound
returns-clause-sound c = all_sound c.args.tool (map string_bytes c.args.args.now) c.loop-item.arg_index
    c.loop-item.settings c.loop-item.invariant (none_left c)

pub returns-clause-rest : goal.returns-clause-rest
returns-clause-rest c =
    c.without_terminator.ensures.rest ∙ ap without_terminator (map-slice_from string_bytes c.loop-item.arg_index c.args.args.now)
    ∙ rest_here c.args.tool (map string_bytes c.args.args.now) c.loop-item.arg_index c.loop-item.settings
    c.loop-item.invariant (none_left c)
