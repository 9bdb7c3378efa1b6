use Rattle.std.proofs.Common.{length, ap, arith}
use Rattle.cs_match.specs.CachedStates.{StateList}
use Rattle.cs_match.proofs.CachedStateLemmas.{length-states_of}
use Rattle.cs_match.proofs.cached_states.CachedStates.len.Goals as goal

pub returns : goal.returns
returns c =
    let m = c.self.inside in
    omega (arith, c.len.ensures, m.behinds.ok.0, length-states_of m.count m.sets.items m.behinds.items, ap (λ (s : StateList). length s.items) c.self.view_is)
