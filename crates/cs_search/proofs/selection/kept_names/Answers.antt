use Rattle.std.proofs.Common.{[], Result, Option, sym, subst, ◌∙◌}
use Rattle.std.specs.Option.{option_copied}
use Rattle.std.specs.Result.{IsOkAnd}
use Rattle.cs_syntax.specs.Matching.{Tree}
use Rattle.cs_index.specs.declared.fault.IndexFault.{IndexFault}
use Rattle.cs_search.specs.IndexSearch.{AreKept}
use Rattle.cs_search.specs.Selections.{HasSelected}
use Rattle.cs_search.proofs.selection.kept_names.Goals as goal

pub returns-in-Ok-clause-kept : goal.returns-in-Ok-clause-kept
returns-in-Ok-clause-kept g c = λ bytes parts modelled stands below.
    let ids = c.args.ids.now in
    let s = c.read_all.new.self in
    let read = c.in_ok-read_all.ensures.read bytes parts [] modelled (c.in_ok-selection.ensures.selected bytes parts stands) below in
    let has = subst (λ (answer : Result (Unit {0}) IndexFault). IsOkAnd answer (λ _. HasSelected bytes parts ids s)) c.in-Ok.is read in
    subst (AreKept (option_copied c.args.file) parts.names ids) (sym c.into_names.ensures)
    (subst (λ (file : Option Tree). AreKept file parts.names ids s.names.items)
    (c.in_ok-read_all.ensures.same ∙ c.in_ok-selection.ensures.file) has.kept)

pub returns-in-Err-clause-kept : goal.returns-in-Err-clause-kept
returns-in-Err-clause-kept g c = λ bytes parts modelled stands below.
    subst (λ (answer : Result (Unit {0}) IndexFault). IsOkAnd answer
    (λ _. HasSelected bytes parts c.args.ids.now c.read_all.new.self)) c.in-Err.is
    (c.in_ok-read_all.ensures.read bytes parts [] modelled (c.in_ok-selection.ensures.selected bytes parts stands) below)
