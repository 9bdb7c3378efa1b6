use Rattle.std.proofs.Common.{◌≡◌, ◌∙◌, length, sym}
use Rattle.std.proofs.lemmas.Bool.{eqb-true}
use Rattle.cs_match.specs.Parts.{shape_of}
use Rattle.cs_match.specs.Glushkov.{repeats, loop_ends}
use Rattle.cs_match.proofs.GlushkovLemmas.{no_positions}
use Rattle.cs_match.proofs.TraversalLemmas.{all_noted, length-loop_ends}
use Rattle.cs_match.proofs.glushkov.note_loops.Goals as goal

pub returns-then-not-is_empty-clause-noted : goal.returns-then-not-is_empty-clause-noted
returns-then-not-is_empty-clause-noted c =
    let t = shape_of c.args.root.now in
    let ends = loop_ends t c.args.positions.now c.args.here in
    all_noted c.args.loops.now c.find_ends.new.loops ends
    (c.requires.loops ∙ sym (length-loop_ends t c.args.positions.now c.args.here)) c.find_ends.ensures.noted

pub returns-else-not-is_empty-clause-noted : goal.returns-else-not-is_empty-clause-noted
returns-else-not-is_empty-clause-noted c =
    let t = shape_of c.args.root.now in
    let none : repeats t ≡ 0 = sym c.requires.loops
    ∙ eqb-true (length c.args.loops.now) 0 (sym c.is_empty.ensures ∙ c.if-not-is_empty.false) in
    no_positions c.args.loops.now (c.requires.loops ∙ none)
    ∙ sym (no_positions (loop_ends t c.args.positions.now c.args.here)
    (length-loop_ends t c.args.positions.now c.args.here ∙ none))
