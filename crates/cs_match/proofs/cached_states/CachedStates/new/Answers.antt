use Rattle.std.proofs.Common.{◌≡◌, ◌*◌, refl, ap, arith}
use Rattle.cs_match.specs.CachedStates.{states_of, AreSets}
use Rattle.cs_match.specs.Work.{words}
use Rattle.cs_match.proofs.cached_states.CachedStates.new.Goals as goal

pub invariant_of-result : goal.invariant_of-result
unfolding AreSets
invariant_of-result c = (
  rw c.in_ok-with_capacity-2.ensures.items c.in_ok-with_capacity.ensures.items,
  omega (arith, c.in_ok-with_capacity-3.ensures.len, c.in_ok-with_capacity-2.ensures.len),
  c.in_ok-vec.ensures.len,
  c.requires.some,
  c.requires.few,
  c.in_ok-with_capacity-2.ensures.capacity,
  c.in_ok-with_capacity-3.ensures.capacity,
  (let w_is : c.div_ceil.result ≡ words c.args.count = omega (arith, c.div_ceil.ensures) in
      omega (arith, c.in_ok-with_capacity.ensures.capacity, c.in-Some.ensures, ap (λ k. c.args.most * k) w_is)),
)

pub returns : goal.returns
unfolding states_of
returns c = rw c.in_ok-with_capacity-2.ensures.items refl
