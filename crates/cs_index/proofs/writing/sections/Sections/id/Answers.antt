use Rattle.std.proofs.Common.{arith, ◌∙◌, take, rules}
use Rattle.std.proofs.lemmas.Result.{on_ok_weaker}
use Rattle.cs_index.proofs.writer.SectionsSteps.{given, at_current, at_id, at_first, one_stream, one_posting}
use Rattle.cs_index.proofs.writing.sections.Sections.id.Goals as goal

pub overflow_sub-id : goal.overflow_sub-id
overflow_sub-id c =
    let known = at_current c.self.inside c.args.self.now c.self.view_is c.self.invariant c.in-None.is c.requires.begun in
    let fits = at_id c.self.inside c.args.self.now c.args.id c.self.view_is c.self.invariant known c.requires.above c.requires.named in
    omega (arith, fits.0)

pub overflow_add-self : goal.overflow_add-self
overflow_add-self c =
    let known = at_current c.self.inside c.args.self.now c.self.view_is c.self.invariant c.in-None.is c.requires.begun in
    let fits = at_id c.self.inside c.args.self.now c.args.id c.self.view_is c.self.invariant known c.requires.above c.requires.named in
    omega (arith, fits.1, fits.2)

pub invariant_of-self-in-None : goal.invariant_of-self-in-None
invariant_of-self-in-None c =
    let known = at_current c.self.inside c.args.self.now c.self.view_is c.self.invariant c.in-None.is c.requires.begun in
    (given c.self.inside c.args.self.now c.append_varint.new.self c.args.id c.self.view_is c.self.invariant known
    c.requires.above c.requires.named c.in_ok-append_varint-in-None.ensures.ok).are_sections

pub returns-in_ok-append_varint-in-None-clause-ok : goal.returns-in_ok-append_varint-in-None-clause-ok
returns-in_ok-append_varint-in-None-clause-ok c =
    let known = at_current c.self.inside c.args.self.now c.self.view_is c.self.invariant c.in-None.is c.requires.begun in
    (given c.self.inside c.args.self.now c.append_varint.new.self c.args.id c.self.view_is c.self.invariant known
    c.requires.above c.requires.named c.in_ok-append_varint-in-None.ensures.ok).is

pub begin-requires-clause-stream : goal.begin-requires-clause-stream
begin-requires-clause-stream c =
    let first = at_first c.self.inside c.args.self.now c.in-Some.trigram c.args.id c.self.view_is c.self.invariant
    c.in-Some.is c.requires.named in
    one_stream c.args.id (take c.encode_varint-len.result.1 c.encode_varint-len.result.0) first.small
    c.encode_varint-len.ensures.groups

pub returns-in-Some-clause-ok : goal.returns-in-Some-clause-ok
returns-in-Some-clause-ok c =
    let first = at_first c.self.inside c.args.self.now c.in-Some.trigram c.args.id c.self.view_is c.self.invariant
    c.in-Some.is c.requires.named in
    on_ok_weaker c.begin.result
    (λ is. is ∙ one_posting c.args.self.now c.in-Some.trigram c.args.id
    (take c.encode_varint-len.result.1 c.encode_varint-len.result.0) first.begun first.above first.small
    c.encode_varint-len.ensures.groups) c.begin.ensures.ok

pub invariant_of-self : goal.invariant_of-self
invariant_of-self c = search rules

pub returns-in_err-append_varint-in-None-clause-err : goal.returns-in_err-append_varint-in-None-clause-err
returns-in_err-append_varint-in-None-clause-err c = search rules
