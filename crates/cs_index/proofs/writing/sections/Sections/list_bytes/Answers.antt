use Rattle.std.proofs.Common.{◌∙◌, List, ap, length, map, subst, sym, arith}
use Rattle.std.specs.List.{concat}
use Rattle.cs_index.specs.Encoding.{PostingList, posting_list_bytes}
use Rattle.cs_index.specs.SectionsInvariant.{first_of}
use Rattle.cs_index.specs.Written.{Written}
use Rattle.cs_index.specs.WrittenLists.{IsWritten}
use Rattle.cs_index.proofs.writer.SectionsSteps.{lists_long, none_lists}
use Rattle.cs_index.proofs.writing.sections.Sections.list_bytes.Goals as goal

pub returns-then-self-eq0-clause-bytes : goal.returns-then-self-eq0-clause-bytes
returns-then-self-eq0-clause-bytes c =
    ap (λ (ps : List PostingList). length (concat (map posting_list_bytes ps)))
    (sym (none_lists c.self.inside c.if-self-eq0.true) ∙ ap (λ (w : Written). w.lists) c.self.view_is)

pub returns-then-self-eq0-clause-written : goal.returns-then-self-eq0-clause-written
returns-then-self-eq0-clause-written c = subst IsWritten c.self.view_is c.self.invariant.output

pub overflow_sub-result : goal.overflow_sub-result
overflow_sub-result c =
    let long = lists_long c.self.inside c.first_start-first.result c.self.invariant c.if-self-eq0.false
    (c.first_start-first.ensures ∙ ap (λ es. first_of es c.self.inside.start) c.deref.ensures.value) in
    omega (arith, long, c.len.ensures.value)

pub returns-clause-bytes : goal.returns-clause-bytes
returns-clause-bytes c =
    let long = lists_long c.self.inside c.first_start-first.result c.self.invariant c.if-self-eq0.false
    (c.first_start-first.ensures ∙ ap (λ es. first_of es c.self.inside.start) c.deref.ensures.value) in
    let same = ap (λ (w : Written). length (concat (map posting_list_bytes w.lists))) c.self.view_is in
    omega (arith, long, same, c.len.ensures.value)

pub returns-clause-written : goal.returns-clause-written
returns-clause-written c = subst IsWritten c.self.view_is c.self.invariant.output
