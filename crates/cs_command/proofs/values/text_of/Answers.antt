use Rattle.std.proofs.Common.{List, ℕ, [], ap, ◌∙◌}
use Rattle.std.specs.Prelude.{if◌then◌else◌}
use Rattle.std.specs.Str.{is_utf8}
use Rattle.cs_command.proofs.ValueLemmas.{is_text, is_no_text}
use Rattle.cs_command.proofs.values.text_of.Goals as goal

pub returns-in-Ok : goal.returns-in-Ok
returns-in-Ok c =
    let read = c.in-Ok.ensures.cases in
    is_text c.bytes_of.result.now c.in-Ok.text.now read.0 read.1
    ∙ ap (λ (bytes : List ℕ). if is_utf8 bytes then bytes else []) c.bytes_of.ensures

pub returns-in-Err : goal.returns-in-Err
returns-in-Err c =
    is_no_text c.bytes_of.result.now c.in-Err.ensures.cases.0
    ∙ ap (λ (bytes : List ℕ). if is_utf8 bytes then bytes else []) c.bytes_of.ensures
