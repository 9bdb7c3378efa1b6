use Rattle.std.proofs.Common.{◌∙◌, ◌++◌, [], ap, length, take, drop}
use Rattle.cs_index.specs.Sending.{Outgoing, bytes_in, with_bytes}
use Rattle.cs_index.proofs.writer.SectionsSteps.{begun_first}
use Rattle.cs_index.proofs.writing.sections.Sections.begin_first.Goals as goal

pub invariant_of-self : goal.invariant_of-self
invariant_of-self c =
    let prefix = c.in_ok-write_prefix.ensures in
    let out = c.new-out.ensures ∙ ap (λ bs. let out : Outgoing = record { sent = []; unsent = bs } in out) prefix in
    (begun_first c.self.inside c.args.self.now c.append_both.new.self c.args.trigram c.args.count c.len-start.result
    c.args.next c.args.ids.now c.self.view_is c.self.invariant c.requires.first c.requires.ids
    (c.in_ok-append_both.ensures.ok ∙ (λ i. with_bytes (out i) (take 3 (drop 1 (c.to_be_bytes.ensures i)) ++ c.args.ids.now)))
    (c.len-start.ensures.value ∙ ap (λ (o : Outgoing). length (bytes_in o)) out)).are_sections

pub returns-clause-ok : goal.returns-clause-ok
returns-clause-ok c =
    let prefix = c.in_ok-write_prefix.ensures in
    let out = c.new-out.ensures ∙ ap (λ bs. let out : Outgoing = record { sent = []; unsent = bs } in out) prefix in
    (begun_first c.self.inside c.args.self.now c.append_both.new.self c.args.trigram c.args.count c.len-start.result
    c.args.next c.args.ids.now c.self.view_is c.self.invariant c.requires.first c.requires.ids
    (c.in_ok-append_both.ensures.ok ∙ (λ i. with_bytes (out i) (take 3 (drop 1 (c.to_be_bytes.ensures i)) ++ c.args.ids.now)))
    (c.len-start.ensures.value ∙ ap (λ (o : Outgoing). length (bytes_in o)) out)).is
