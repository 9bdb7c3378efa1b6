use Rattle.std.proofs.Common.{◌≡◌, ◌+◌, ◌≤◌, ◌∙◌, take, drop, length, sym, ap, arith}
use Rattle.std.proofs.lemmas.List.{take_at}
use Rattle.cs_match.specs.Glushkov.{position_count}
use Rattle.cs_match.specs.Entered.{entered}
use Rattle.cs_match.specs.Parts.{shape_of}
use Rattle.cs_match.proofs.EnteredLemmas.{length-entered}
use Rattle.cs_match.proofs.TraversalLemmas.{mid_long}
use Rattle.cs_match.proofs.glushkov.enter.Goals as goal

pub returns-clause-entries : goal.returns-clause-entries
returns-clause-entries c =
    let t = c.args.program.now in
    let s = shape_of c.part-part.result.now in
    let ms = c.args.positions.now in
    let same = c.part-part.ensures.shape in
    ap (take (position_count t)) c.advance.ensures.enters.1
    ∙ take_at (entered s c.args.at.begins ms c.args.at.here) (drop (0 + position_count s) c.shift_from.new.self) (position_count t)
    (length-entered s c.args.at.begins ms c.args.at.here ∙ sym same.positions)
    ∙ sym (same.entered c.args.at.begins ms c.args.at.here)

pub returns-clause-scratch : goal.returns-clause-scratch
returns-clause-scratch c =
    let s = shape_of c.part-part.result.now in
    let ms = c.args.positions.now in
    let old = c.shift_from.new.self in
    let same = c.part-part.ensures.shape in
    let size : length old ≡ length ms + 1 = omega (arith, ap length c.shift_from.ensures.shifted) in
    let room : 0 + position_count s ≤ length old = omega (arith, size, c.requires.one_each, same.positions) in
    record {
      loops = c.requires.scratch.loops;
      entries = mid_long 0 (position_count s) old c.advance.new.entries (entered s c.args.at.begins ms c.args.at.here)
          (length-entered s c.args.at.begins ms c.args.at.here) room c.advance.ensures.enters.1
          ∙ omega (arith, size, c.requires.one_each);
      masks = c.requires.scratch.masks;
    }

pub returns-clause-cost : goal.returns-clause-cost
returns-clause-cost c = (
  omega (arith, c.advance.ensures.cost, c.note_loops.ensures.cost.0, c.shift_from.ensures.cost),
  omega (
    arith,
    c.advance.ensures.cost,
    c.note_loops.ensures.cost.1,
    c.part-part.ensures.size,
    c.shift_from.ensures.cost,
    c.requires.scratch.entries,
  ),
)
