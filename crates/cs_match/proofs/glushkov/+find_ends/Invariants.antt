use Rattle.std.proofs.Common.{◌≡◌, ◌+◌, ◌&&◌, ◌||◌, drop}
use Rattle.std.proofs.Math.Seq.{sets}
use Rattle.cs_syntax.specs.Matching.{cat}
use Rattle.cs_match.specs.Parts.{shape_of, shapes_of, size_of, sizes_of}
use Rattle.cs_match.specs.Glushkov.{position_count_of, repeats_of, nullable, nullable_all, nullable_some, is_final, is_final_some, accepts, loop_ends_of}
use Rattle.cs_match.specs.Traversal.{position_past, repeat_past, loops_after}
use Rattle.cs_match.proofs.glushkov.+find_ends.Given as goal

abbrev pub invariant-loop-part : goal.invariant-loop-part
invariant-loop-part l =
    let t = shape_of l.fn.part in
    let rest = shapes_of (drop l.part-index l.part-items) in
    record {
      cost : l.steps.count + sizes_of (drop l.part-index l.part-items) ≡ l.fn.steps.count + size_of l.fn.part;
      position : l.cursor.position + position_count_of rest ≡ position_past t l.fn.cursor;
      repeat : l.cursor.repeat + repeats_of rest ≡ repeat_past t l.fn.cursor;
      accepting : accepts (cat rest) l.all.accepting (drop l.cursor.position l.positions) l.here
          ≡ is_final t (drop l.fn.cursor.position l.positions) l.here;
      nullable : (l.all.nullable && nullable_all rest l.here) ≡ nullable t l.here;
      noted : sets l.loops l.cursor.repeat (loop_ends_of rest (drop l.cursor.position l.positions) l.here)
          ≡ loops_after t l.fn.cursor l.positions l.here l.fn.loops;
    }

abbrev pub invariant-loop-part-2 : goal.invariant-loop-part-2
invariant-loop-part-2 l =
    let t = shape_of l.fn.part in
    let rest = shapes_of (drop l.part-index l.part-items) in
    record {
      cost : l.steps.count + sizes_of (drop l.part-index l.part-items) ≡ l.fn.steps.count + size_of l.fn.part;
      position : l.cursor.position + position_count_of rest ≡ position_past t l.fn.cursor;
      repeat : l.cursor.repeat + repeats_of rest ≡ repeat_past t l.fn.cursor;
      accepting : (l.some.accepting || is_final_some rest (drop l.cursor.position l.positions) l.here)
          ≡ is_final t (drop l.fn.cursor.position l.positions) l.here;
      nullable : (l.some.nullable || nullable_some rest l.here) ≡ nullable t l.here;
      noted : sets l.loops l.cursor.repeat (loop_ends_of rest (drop l.cursor.position l.positions) l.here)
          ≡ loops_after t l.fn.cursor l.positions l.here l.fn.loops;
    }
