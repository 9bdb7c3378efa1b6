use Rattle.std.proofs.Common.{◌≡◌, ◌+◌, ◌++◌, ◌||◌, drop, take}
use Rattle.cs_syntax.specs.Matching.{cat, alt}
use Rattle.cs_match.specs.Glushkov.{position_count_of, repeats_of, accepts, loop_ends_of}
use Rattle.cs_match.specs.Entered.{entered, entered_all, entered_each, AreShifted}
use Rattle.cs_match.specs.Parts.{shape_of, shapes_of, size_of, sizes_of}
use Rattle.cs_match.specs.Traversal.{position_past, repeat_past}
use Rattle.cs_match.proofs.TraversalLemmas.{first_repeats, first_loop_ends}
use Rattle.cs_match.proofs.glushkov.+advance.Given as goal

abbrev pub invariant-loop-part : goal.invariant-loop-part
invariant-loop-part l =
    let t = shape_of l.fn.part in
    let rest = shapes_of (drop l.part-index l.part-items) in
    let here = drop l.cursor.position l.at.positions.now in
    let first = drop l.fn.cursor.position l.at.positions.now in
    record {
      cost : l.steps.count + sizes_of (drop l.part-index l.part-items) ≡ l.fn.steps.count + size_of l.fn.part;
      position : l.cursor.position + position_count_of rest ≡ position_past t l.fn.cursor;
      repeat : l.cursor.repeat + repeats_of rest ≡ repeat_past t l.fn.cursor;
      noted : take (repeats_of rest) (drop l.cursor.repeat l.at.loops.now) ≡ loop_ends_of rest here l.at.here;
      next : take (first_repeats rest) (drop l.cursor.repeat l.at.loops.now) ≡ first_loop_ends rest here l.at.here;
      accepting : accepts (cat rest) l.accepting here l.at.here ≡ accepts t l.enter first l.at.here;
      shifted : AreShifted l.cursor.position l.at.positions.now l.entries;
      ahead : drop l.cursor.position l.entries ≡ drop l.cursor.position l.fn.entries;
      entries : take l.cursor.position l.entries
          ++ (entered_all rest l.accepting here l.at.here ++ drop (l.cursor.position + position_count_of rest) l.fn.entries)
          ≡ take l.fn.cursor.position l.fn.entries ++ (entered t l.enter first l.at.here ++ drop (position_past t l.fn.cursor) l.fn.entries);
    }

abbrev pub invariant-loop-part-2 : goal.invariant-loop-part-2
invariant-loop-part-2 l =
    let t = shape_of l.fn.part in
    let rest = shapes_of (drop l.part-index l.part-items) in
    let here = drop l.cursor.position l.at.positions.now in
    let first = drop l.fn.cursor.position l.at.positions.now in
    record {
      cost : l.steps.count + sizes_of (drop l.part-index l.part-items) ≡ l.fn.steps.count + size_of l.fn.part;
      position : l.cursor.position + position_count_of rest ≡ position_past t l.fn.cursor;
      repeat : l.cursor.repeat + repeats_of rest ≡ repeat_past t l.fn.cursor;
      noted : take (repeats_of rest) (drop l.cursor.repeat l.at.loops.now) ≡ loop_ends_of rest here l.at.here;
      next : take (first_repeats rest) (drop l.cursor.repeat l.at.loops.now) ≡ first_loop_ends rest here l.at.here;
      accepting : (l.accepting || accepts (alt rest) l.enter here l.at.here) ≡ accepts t l.enter first l.at.here;
      shifted : AreShifted l.cursor.position l.at.positions.now l.entries;
      ahead : drop l.cursor.position l.entries ≡ drop l.cursor.position l.fn.entries;
      entries : take l.cursor.position l.entries
          ++ (entered_each rest l.enter here l.at.here ++ drop (l.cursor.position + position_count_of rest) l.fn.entries)
          ≡ take l.fn.cursor.position l.fn.entries ++ (entered t l.enter first l.at.here ++ drop (position_past t l.fn.cursor) l.fn.entries);
    }
