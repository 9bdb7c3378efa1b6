use Rattle.std.proofs.Common.{◌≡◌, false, length, replicate, refl, ap, subst, ◌∙◌, arith}
use Rattle.std.proofs.lemmas.List.{length-replicate}
use Rattle.cs_match.specs.declared.state.State.{State}
use Rattle.cs_match.specs.Glushkov.{position_count}
use Rattle.cs_match.specs.LazyDfa.{AreFirstStates}
use Rattle.cs_match.specs.States.{start}
use Rattle.cs_match.proofs.TransitionLemmas.{first_states, first_table}
use Rattle.cs_match.proofs.dfa.LazyDfa.new.Goals as goal

pub invariant_of-result : goal.invariant_of-result
invariant_of-result c =
    let t = c.args.program.now in
    let classes = c.byte_classes.result.now in
    let states = c.loop-slot.cached in
    let i = c.loop-slot.invariant in
    let end : c.loop-slot.slot ≡ 5 = omega (arith, i.few, c.loop-slot-test.false) in
    let are : AreFirstStates classes.count c.in_ok-scratch.scratch states = record {
      all = i.all ∙ ap (λ n. replicate n c.in_ok-scratch.scratch) end;
      most = i.most;
      more = i.more;
      fits = i.fits;
      sized = i.sized;
    } in
    let first = subst (λ (n : State). AreFirstStates classes.count n states) c.in_ok-scratch.ensures are in
    let five : length states.items ≡ 5 = ap length first.all ∙ length-replicate 5 (start t) in
    record {
      expanded = c.in_ok-memory.ensures.expanded;
      classes = c.byte_classes.ensures;
      cached = first_states t classes.count states first;
      table = first_table t classes c.write_first.new.transitions.items c.byte_classes.ensures c.write_first.ensures.rows states.items five;
      capacity = c.write_first.ensures.room;
      room = ap (λ (n : State). length n.positions) c.in_ok-scratch.ensures ∙ length-replicate (position_count t) false;
      memory = c.in_ok-memory.ensures.scratch;
    }

pub returns : goal.returns
returns c =
    let i = c.loop-slot.invariant in
    (refl, ap length i.all ∙ length-replicate c.loop-slot.slot c.in_ok-scratch.scratch ∙ omega (arith, i.few, c.loop-slot-test.false))

pub push-requires-clause-room : goal.push-requires-clause-room
push-requires-clause-room c =
    let i = c.loop-slot.invariant in
    omega (arith, ap length i.all, length-replicate c.loop-slot.slot c.in_ok-scratch.scratch, i.more)
