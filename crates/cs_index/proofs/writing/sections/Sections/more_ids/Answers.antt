use Rattle.std.proofs.Common.{refl, arith}
use Rattle.cs_index.proofs.writer.SectionsSteps.{deltas_rise, given_ids, ids_fit}
use Rattle.cs_index.proofs.writing.sections.Sections.more_ids.Goals as goal

pub append_deltas-requires : goal.append_deltas-requires
append_deltas-requires c =
    deltas_rise c.self.inside c.args.self.now c.args.ids.now c.self.view_is c.self.invariant c.requires.some c.requires.rise

pub overflow_add-self : goal.overflow_add-self
overflow_add-self c =
    let fits = ids_fit c.self.inside c.args.self.now c.args.ids.now c.self.view_is c.self.invariant c.requires.some
    c.requires.rise in
    omega (arith, fits)

pub overflow_cast-self : goal.overflow_cast-self
overflow_cast-self c =
    let fits = ids_fit c.self.inside c.args.self.now c.args.ids.now c.self.view_is c.self.invariant c.requires.some
    c.requires.rise in
    omega (arith, fits)

pub invariant_of-self-2 : goal.invariant_of-self-2
invariant_of-self-2 c =
    (given_ids c.self.inside c.args.self.now c.args.ids.now c.self.view_is c.self.invariant c.requires.some c.requires.rise
    c.append_deltas.new.self _ c.in_ok-next.next c.in_ok-next.ensures.bytes refl c.in_ok-next.ensures.end).are_sections

pub returns : goal.returns
returns c =
    (given_ids c.self.inside c.args.self.now c.args.ids.now c.self.view_is c.self.invariant c.requires.some c.requires.rise
    c.append_deltas.new.self _ c.in_ok-next.next c.in_ok-next.ensures.bytes refl c.in_ok-next.ensures.end).is
