use Rattle.std.proofs.Common.{◌∙◌, ◌+◌, ap, arith}
use Rattle.cs_index.specs.Sending.{with_bytes}
use Rattle.cs_index.proofs.writer.SectionsSteps.{at_last, count_all, given_all}
use Rattle.cs_index.proofs.writing.sections.Sections.encoded_run.Goals as goal

pub overflow_add-self : goal.overflow_add-self
overflow_add-self c =
    let bound = count_all c.self.inside c.args.self.now c.args.ids.now c.self.view_is c.self.invariant
    (at_last c.self.inside c.args.self.now c.self.view_is c.self.invariant c.requires.some)
    c.requires.named c.next.ensures.rise in
    omega (arith, bound.1, c.next.ensures.value)

pub overflow_add-self-2 : goal.overflow_add-self-2
overflow_add-self-2 c =
    let bound = count_all c.self.inside c.args.self.now c.args.ids.now c.self.view_is c.self.invariant
    (at_last c.self.inside c.args.self.now c.self.view_is c.self.invariant c.requires.some)
    c.requires.named c.next.ensures.rise in
    omega (arith, bound.0, c.len.ensures)

pub invariant_of-self-2 : goal.invariant_of-self-2
invariant_of-self-2 c =
    (given_all c.self.inside c.args.self.now c.append.new.self (c.self.inside.count + c.len.result)
    (c.self.inside.next + c.next.result) c.args.ids.now c.self.view_is c.self.invariant
    (at_last c.self.inside c.args.self.now c.self.view_is c.self.invariant c.requires.some) c.requires.named
    c.next.ensures.rise (c.in_ok-append.ensures.ok ∙ ap (with_bytes c.self.inside.out) c.bytes.ensures)
    (ap (λ n. c.self.inside.count + n) c.len.ensures) (ap (λ n. c.self.inside.next + n) c.next.ensures.value)).are_sections

pub returns-clause-ok : goal.returns-clause-ok
returns-clause-ok c =
    (given_all c.self.inside c.args.self.now c.append.new.self (c.self.inside.count + c.len.result)
    (c.self.inside.next + c.next.result) c.args.ids.now c.self.view_is c.self.invariant
    (at_last c.self.inside c.args.self.now c.self.view_is c.self.invariant c.requires.some) c.requires.named
    c.next.ensures.rise (c.in_ok-append.ensures.ok ∙ ap (with_bytes c.self.inside.out) c.bytes.ensures)
    (ap (λ n. c.self.inside.count + n) c.len.ensures) (ap (λ n. c.self.inside.next + n) c.next.ensures.value)).is
