use Rattle.std.proofs.Common.{◌≡◌, ◌∙◌, ap, sym, arith}
use Rattle.std.proofs.lemmas.Bool.{ne_eqb}
use Rattle.cs_match.specs.States.{successor, accepts_before}
use Rattle.cs_match.proofs.state.State.step_over.Goals as goal

pub returns-then-first-eq10-clause-accepting : goal.returns-then-first-eq10-clause-accepting
returns-then-first-eq10-clause-accepting c =
    let t = c.args.program.now in
    let state = c.args.self.now in
    let first = c.first-first.result in
    let alike = c.byte_classes.ensures.alike first c.args.byte (omega arith) (omega arith) c.first-first.ensures.class state c.requires.block in
    c.end.ensures.accepting ∙ ap (λ b. accepts_before t state b) (sym c.if-first-eq10.true) ∙ alike.accepts

pub returns-then-first-eq10-clause-moved : goal.returns-then-first-eq10-clause-moved
returns-then-first-eq10-clause-moved c =
    let t = c.args.program.now in
    let state = c.args.self.now in
    let first = c.first-first.result in
    let alike = c.byte_classes.ensures.alike first c.args.byte (omega arith) (omega arith) c.first-first.ensures.class state c.requires.block in
    c.end.ensures.moved ∙ ap (λ b. successor t state b) (sym c.if-first-eq10.true) ∙ alike.successor

pub returns-else-first-eq10-clause-accepting : goal.returns-else-first-eq10-clause-accepting
returns-else-first-eq10-clause-accepting c =
    let t = c.args.program.now in
    let state = c.args.self.now in
    let first = c.first-first.result in
    let alike = c.byte_classes.ensures.alike first c.args.byte (omega arith) (omega arith) c.first-first.ensures.class state c.requires.block in
    let e : c.step_in_line.result ≡ accepts_before t state first = rw (ne_eqb first 10 c.if-first-eq10.false) c.step_in_line.ensures.accepting in
    e ∙ alike.accepts

pub returns-else-first-eq10-clause-moved : goal.returns-else-first-eq10-clause-moved
returns-else-first-eq10-clause-moved c =
    let t = c.args.program.now in
    let state = c.args.self.now in
    let first = c.first-first.result in
    let alike = c.byte_classes.ensures.alike first c.args.byte (omega arith) (omega arith) c.first-first.ensures.class state c.requires.block in
    let e : c.step_in_line.new.self ≡ successor t state first = rw (ne_eqb first 10 c.if-first-eq10.false) c.step_in_line.ensures.moved in
    e ∙ alike.successor
