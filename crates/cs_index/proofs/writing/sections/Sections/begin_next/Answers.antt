use Rattle.std.proofs.Common.{◌+◌, ◌∙◌, ◌++◌, ◌∷◌, [], ap}
use Rattle.cs_index.specs.SectionsInvariant.{current_list}
use Rattle.cs_index.specs.Sending.{with_bytes}
use Rattle.cs_index.proofs.writer.SectionsSteps.{begun_next}
use Rattle.cs_index.proofs.writing.sections.Sections.begin_next.Goals as goal

pub invariant_of-self-2 : goal.invariant_of-self-2
invariant_of-self-2 c =
    (begun_next c.self.inside c.args.self.now c.append_both.new.self c.push_reserved.new.self c.args.trigram c.args.count
    (c.len-start.result + 1) c.args.next c.args.ids.now c.self.view_is c.self.invariant c.requires.later
    c.requires.above c.requires.ids
    (c.in_ok-append_both.ensures.ok
    ∙ ap (λ header. with_bytes c.self.inside.out (header ++ c.args.ids.now)) c.to_be_bytes.ensures)
    (c.push_reserved.ensures.items ∙ ap (λ es. es ++ current_list c.self.inside ∷ []) c.reserve.ensures.items)
    (ap (λ n. n + 1) c.len-start.ensures.value)).are_sections

pub returns-clause-ok : goal.returns-clause-ok
returns-clause-ok c =
    (begun_next c.self.inside c.args.self.now c.append_both.new.self c.push_reserved.new.self c.args.trigram c.args.count
    (c.len-start.result + 1) c.args.next c.args.ids.now c.self.view_is c.self.invariant c.requires.later
    c.requires.above c.requires.ids
    (c.in_ok-append_both.ensures.ok
    ∙ ap (λ header. with_bytes c.self.inside.out (header ++ c.args.ids.now)) c.to_be_bytes.ensures)
    (c.push_reserved.ensures.items ∙ ap (λ es. es ++ current_list c.self.inside ∷ []) c.reserve.ensures.items)
    (ap (λ n. n + 1) c.len-start.ensures.value)).is
