use Rattle.cs_command.proofs.ValueLemmas.{number_read, no_number}
use Rattle.cs_command.proofs.values.number_of.Goals as goal

pub returns-in-Ok : goal.returns-in-Ok
returns-in-Ok c =
    let parsed = c.in-Ok.ensures.value.0 in
    number_read c.args.text.now c.in-Ok.number parsed.0 parsed.1

pub returns-in-Err : goal.returns-in-Err
returns-in-Err c = no_number c.args.text.now c.in-Err.ensures.value.0
