use Rattle.std.proofs.Common.{◌≡◌, ◌+◌, ◌<◌, ◌≤◌, ◌*◌, drop, length, get_or, sym, ap, subst, ◌∙◌, arith}
use Rattle.cs_match.specs.declared.dfa.Scan.{Scan}
use Rattle.cs_match.specs.declared.state.State.{State}
use Rattle.cs_match.specs.ConsistentDfa.{Dfa, IsConsistent, HasTransition, IsKnown, count_in}
use Rattle.cs_match.specs.Scanned.{scanned_part, HasScanned, PassesLines}
use Rattle.cs_match.specs.States.{state}
use Rattle.cs_match.proofs.DfaScanLemmas.{followed, passes_more, passes_none}
use Rattle.cs_match.proofs.KnownScanLemmas.{known_here, known_step}
use Rattle.cs_match.proofs.TransitionLemmas.{some_classes, known_leads, leads_on, accepted_low}
use Rattle.cs_match.proofs.dfa.LazyDfa.follow_known.Goals as goal

pub loop-to-init : goal.loop-to-init
loop-to-init c = record {
  low = omega arith;
  scanned = c.requires.scanned;
  known = λ known. known;
  passes = passes_none c.args.self.now.tree c.args.text.now c.args.scan;
}

pub next-next-requires-clause-row : goal.next-next-requires-clause-row
next-next-requires-clause-row c = c.table-table.ensures.states.row c.loop-to.number _ c.loop-to.invariant.scanned.at

pub loop-to-preserved : goal.loop-to-preserved
loop-to-preserved c =
    let s = c.args.self.now in
    let t = s.tree in
    let text = c.args.text.now in
    let i = c.loop-to.to in
    let b = get_or text i 0 in
    let scan : Scan = record { from = c.args.scan.from; to = i; number = c.loop-to.number } in
    let given = c.loop-to.invariant.scanned in
    let next = c.next-next.result in
    let m : State = state t (scanned_part text scan) in
    let lt : i < length text = c.loop-to-test.true in
    let byte : b < 256 = omega (arith, c.type_inv.text i) in
    let high : 4 * count_in s ≤ next = omega (arith, c.if-next-start.false, ap count_in c.self.view_is) in
    let right = subst (λ (d : Dfa). IsConsistent d.tree d.states) c.self.view_is c.self.invariant in
    let some = some_classes t s.states.classes right.classes in
    let moves : HasTransition s m b next =
    subst (λ x. HasTransition s m b x) (sym c.next-next.ensures) (c.table-table.ensures.states.next c.loop-to.number b m byte given.at) in
    let leads = known_leads t (count_in s) s.states.cached.items m b next moves (λ e. omega (arith, e, high, some)) in
    let on = leads_on t (count_in s) s.states.cached.items b next m leads (λ e. omega (arith, e, high, some, accepted_low (count_in s) b)) in
    let more = followed s right text scan given.low lt given.part next on.0 on.1 (λ e. omega (arith, e, high, some)) in
    record {
      low = omega (arith, c.loop-to.invariant.low);
      scanned = more.0;
      known = λ known. subst (λ n. IsKnown s n (drop (i + 1) text)) (sym (c.next-next.ensures ∙ c.table-table.ensures.states.same c.loop-to.number b))
          (known_step s c.loop-to.number b (drop (i + 1) text) (known_here s text i c.loop-to.number lt (c.loop-to.invariant.known known)));
      passes = passes_more t text c.args.scan scan (record { from = c.args.scan.from; to = i + 1; number = next }) c.loop-to.invariant.passes more.1 (omega arith);
    }

pub returns-clause-scanned : goal.returns-clause-scanned
returns-clause-scanned c =
    let i = c.loop-to.invariant in
    let end : c.loop-to.to ≡ length c.args.text.now = omega (arith, i.scanned.within, c.loop-to-test.false) in
    subst (λ k. HasScanned c.args.self.now c.args.text.now (record { from = c.args.scan.from; to = k; number = c.loop-to.number })) end i.scanned

pub returns-clause-passes : goal.returns-clause-passes
returns-clause-passes c =
    let i = c.loop-to.invariant in
    let end : c.loop-to.to ≡ length c.args.text.now = omega (arith, i.scanned.within, c.loop-to-test.false) in
    subst (λ k. PassesLines c.args.self.now.tree c.args.text.now c.args.scan
    (record { from = c.args.scan.from; to = k; number = c.loop-to.number })) end i.passes

pub returns-clause-known : goal.returns-clause-known
returns-clause-known c = λ known.
    let i = c.loop-to.invariant in
    let end : c.loop-to.to ≡ length c.args.text.now = omega (arith, i.scanned.within, c.loop-to-test.false) in
    subst (λ k. IsKnown c.args.self.now c.loop-to.number (drop k c.args.text.now)) end (i.known known)
