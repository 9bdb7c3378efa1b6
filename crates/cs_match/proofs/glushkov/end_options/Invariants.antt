use Rattle.std.proofs.Common.{◌≡◌, ◌+◌, ◌-◌, ◌&&◌, drop}
use Rattle.cs_match.specs.declared.state.LookAround.{LookAround}
use Rattle.cs_match.specs.Glushkov.{position_count, nullable, is_final, accepts}
use Rattle.cs_match.specs.Parts.{options}
use Rattle.cs_match.proofs.glushkov.end_options.Given as goal

abbrev pub invariant-loop-k : goal.invariant-loop-k
invariant-loop-k l =
    let rest = options l.n (l.count - l.k) in
    let all = options l.n l.count in
    record {
      position : l.cursor.position + position_count rest ≡ l.fn.cursor.position + position_count all;
      repeat : l.cursor.repeat ≡ l.fn.cursor.repeat;
      accepting : (here : LookAround) → accepts rest l.all.accepting (drop l.cursor.position l.positions) here
          ≡ is_final all (drop l.fn.cursor.position l.positions) here;
      nullable : (here : LookAround) → (l.all.nullable && nullable rest here) ≡ nullable all here;
    }
