use Rattle.std.proofs.Common.{◌+◌, arith}
use Rattle.std.proofs.lemmas.List.{take_rest}
use Rattle.cs_listing.proofs.ClassLemmas.{none_from}
use Rattle.cs_listing.proofs.classes.name_at.Goals as goal

pub returns-in-Err-clause-before : goal.returns-in-Err-clause-before
returns-in-Err-clause-before c =
    let text = c.args.text.now in
    let at = c.args.at in
    let none = (rw c.in-Err.is at (rw (take_rest text at) at c.class_name.ensures)) in
    none_from text at c.in-Err.len c.saturating_add.result none.1 (omega (arith, c.saturating_add.ensures))
