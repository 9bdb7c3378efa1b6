use Rattle.std.proofs.Common.{◌≡◌, ◌+◌, ◌-◌, ◌++◌, drop, take}
use Rattle.cs_match.specs.Glushkov.{position_count, accepts}
use Rattle.cs_match.specs.Entered.{entered, AreShifted}
use Rattle.cs_match.specs.Parts.{options}
use Rattle.cs_match.specs.Traversal.{position_past}
use Rattle.cs_match.proofs.glushkov.enter_options.Given as goal

abbrev pub invariant-loop-k : goal.invariant-loop-k
invariant-loop-k l =
    let rest = options l.n (l.count - l.k) in
    let all = options l.n l.count in
    let ms = drop l.cursor.position l.at.positions.now in
    let first = drop l.fn.cursor.position l.at.positions.now in
    record {
      position : l.cursor.position + position_count rest ≡ position_past all l.fn.cursor;
      repeat : l.cursor.repeat ≡ l.fn.cursor.repeat;
      accepting : accepts rest l.accepting ms l.at.here ≡ accepts all l.enter first l.at.here;
      shifted : AreShifted l.cursor.position l.at.positions.now l.entries;
      ahead : drop l.cursor.position l.entries ≡ drop l.cursor.position l.fn.entries;
      entries : take l.cursor.position l.entries
          ++ (entered rest l.accepting ms l.at.here ++ drop (l.cursor.position + position_count rest) l.fn.entries)
          ≡ take l.fn.cursor.position l.fn.entries ++ (entered all l.enter first l.at.here ++ drop (position_past all l.fn.cursor) l.fn.entries);
    }
