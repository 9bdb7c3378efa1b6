use Rattle.std.proofs.Common.{◌<◌, length, get_or, sym, ◌∙◌, ap, arith}
use Rattle.cs_match.specs.declared.state.State.{State}
use Rattle.cs_match.specs.CachedStates.{StateList}
use Rattle.cs_match.proofs.CachedStateLemmas.{length-states_of, state_is}
use Rattle.cs_match.proofs.cached_states.CachedStates.behind.Goals as goal

pub index-requires : goal.index-requires
index-requires c =
    let m = c.self.inside in
    omega (arith, c.requires, m.behinds.ok.0, length-states_of m.count m.sets.items m.behinds.items, ap (λ (s : StateList). length s.items) c.self.view_is)

pub returns : goal.returns
returns c = λ other.
    let m = c.self.inside in
    let slot = c.args.slot in
    let low : slot < length m.behinds.items =
    omega (arith, c.requires, length-states_of m.count m.sets.items m.behinds.items, ap (λ (s : StateList). length s.items) c.self.view_is) in
    let at = state_is m.count slot m.sets.items m.behinds.items other c.index.result.now low in
    c.index.ensures ∙ sym (ap (λ (s : State). s.behind) (sym (ap (λ (s : StateList). get_or s.items slot other) c.self.view_is) ∙ at))
