use Rattle.std.proofs.Common.{length, ap, arith}
use Rattle.cs_match.specs.CachedStates.{StateList}
use Rattle.cs_match.proofs.CachedStateLemmas.{length-states_of}
use Rattle.cs_match.proofs.cached_states.CachedStates.find.Goals as goal

pub index-requires-else-slot-len : goal.index-requires-else-slot-len
index-requires-else-slot-len c =
    let m = c.self.inside in
    omega (
      arith,
      c.if-slot-len.false,
      c.len-in-loop-probe.ensures,
      c.self.invariant.1,
      m.behinds.ok.0,
      length-states_of m.count m.sets.items m.behinds.items,
      ap (λ (s : StateList). length s.items) c.self.view_is,
    )
