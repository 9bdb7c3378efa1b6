use Rattle.std.proofs.Common.{◌≡◌, ◌≢◌, ◌<◌, ◌≤◌, ◌+◌, ◌*◌, length, get_or, refl, sym, ap, subst, ◌∙◌, arith, below_more}
use Rattle.cs_match.specs.Glushkov.{IsExpanded}
use Rattle.cs_match.specs.LazyDfa.{match_number}
use Rattle.cs_match.specs.Work.{step_work, byte_work}
use Rattle.cs_match.specs.ConsistentDfa.{Dfa, IsConsistent, count_in}
use Rattle.cs_match.proofs.DecidabilityLemmas.{found_at, found_last}
use Rattle.cs_match.proofs.PositionCountLemmas.{mul_both, scaled}
use Rattle.cs_match.proofs.DfaSearchLemmas.{scan_found, scan_stays, scan_next, scan_ends}
use Rattle.cs_match.proofs.TransitionLemmas.{some_classes, stands_start}
use Rattle.cs_match.proofs.dfa.LazyDfa.is_match.Goals as goal

pub loop-b-init : goal.loop-b-init
loop-b-init c = record {
  rises = omega arith;
  work = omega arith;
  same = refl;
  number = rw (← c.self.view_is) (stands_start c.self.inside.program.now c.self.inside.states.classes.count c.self.inside.states.cached c.self.invariant.cached);
  none = λ k lt. absurd (omega arith);
}

pub returns-then-number-self-clause-found : goal.returns-then-number-self-clause-found
returns-then-number-self-clause-found c =
    let t = c.args.self.now.tree in
    let line = c.args.line.now in
    let i = c.loop-b.b-index in
    let given = c.loop-b.invariant in
    let new = c.next-number.new.self in
    let right = subst (λ (d : Dfa). IsConsistent d.tree d.states) c.self-in-loop-b-2.view_is c.self-in-loop-b-2.invariant in
    let lt : i < length line = omega arith in
    let some = some_classes new.tree new.states.classes right.classes in
    let is : c.next-number.result ≡ match_number (count_in new) =
    c.if-number-self.true ∙ ap (λ (d : Dfa). match_number (count_in d)) c.self-in-loop-b-2.view_is in
    let accepting = scan_found t new.tree (count_in new) new.states.cached.items c.next-number.result
    (c.next-number.ensures.work.0 ∙ given.same) some line i (get_or line i 0)
    (c.next-number.ensures.leads _ given.number) lt refl c.if-b-eq10.false is in
    let f = found_at t line (subst (λ (d : Dfa). IsExpanded d.tree) c.self.view_is c.self.invariant.expanded) i (omega arith) accepting in
    (λ _. f, λ _. refl)

pub loop-b-preserved : goal.loop-b-preserved
loop-b-preserved c =
    let t = c.args.self.now.tree in
    let line = c.args.line.now in
    let i = c.loop-b.b-index in
    let given = c.loop-b.invariant in
    let new = c.next-number.new.self in
    let right = subst (λ (d : Dfa). IsConsistent d.tree d.states) c.self-in-loop-b-2.view_is c.self-in-loop-b-2.invariant in
    let lt : i < length line = omega arith in
    let same = c.next-number.ensures.work.0 ∙ given.same in
    let some = some_classes new.tree new.states.classes right.classes in
    let other : c.next-number.result ≢ match_number (count_in new) =
    λ e. c.if-number-self.false (e ∙ sym (ap (λ (d : Dfa). match_number (count_in d)) c.self-in-loop-b-2.view_is)) in
    record {
      rises = omega (arith, given.rises, c.next-number.ensures.work.1.0);
      work = omega (arith, given.work, c.next-number.ensures.work.1.1, ap byte_work given.same);
      same = same;
      number = scan_next t new.tree (count_in new) new.states.cached.items c.next-number.result same some line i
          (get_or line i 0) (c.next-number.ensures.leads _ given.number) lt refl c.if-b-eq10.false other;
      none = below_more _ _ given.none (scan_stays t new.tree (count_in new) new.states.cached.items
          c.next-number.result same some line i (get_or line i 0) (c.next-number.ensures.leads _ given.number) lt refl
          c.if-b-eq10.false other);
    }

pub returns-clause-found : goal.returns-clause-found
returns-clause-found c =
    let t = c.args.self.now.tree in
    let line = c.args.line.now in
    let i = c.loop-b.b-index in
    let given = c.loop-b.invariant in
    let new = c.next-last.new.self in
    let ends = scan_ends t new.tree (count_in new) new.states.cached.items c.next-last.result
    (c.next-last.ensures.work.0 ∙ given.same) line i 10
    (c.next-last.ensures.leads _ given.number) (omega arith) refl in
    found_last t line (subst (λ (d : Dfa). IsExpanded d.tree) c.self.view_is c.self.invariant.expanded) _ ends (λ k lt. given.none k (omega arith))

pub returns-then-b-eq10-clause-work : goal.returns-then-b-eq10-clause-work
returns-then-b-eq10-clause-work c =
    let t = c.args.self.now.tree in
    let i = c.loop-b.b-index in
    let n = length c.args.line.now in
    let given = c.loop-b.invariant in
    let same = ap (λ (d : Dfa). d.tree) c.self-in-loop-b.view_is ∙ given.same in
    let lighter : step_work t ≤ byte_work t = omega arith in (
      same,
      (
        omega (arith, given.rises, c.search.ensures.cost.0),
        omega (
          arith,
          given.work,
          c.search.ensures.cost.1,
          scaled i (n + 1) (byte_work t) (omega arith),
          mul_both (n + 1) (step_work t) (n + 1) (byte_work t) (omega arith) lighter,
          ap (λ k. (n + 1) * k) (ap step_work same),
        ),
      ),
    )

pub returns-then-number-self-clause-work : goal.returns-then-number-self-clause-work
returns-then-number-self-clause-work c =
    let t = c.args.self.now.tree in
    let i = c.loop-b.b-index in
    let n = length c.args.line.now in
    let given = c.loop-b.invariant in (
      c.next-number.ensures.work.0 ∙ given.same,
      (
        omega (arith, given.rises, c.next-number.ensures.work.1.0),
        omega (arith, given.work, c.next-number.ensures.work.1.1, ap byte_work given.same, scaled (i + 1) (n + 1) (byte_work t) (omega arith)),
      ),
    )

pub returns-clause-work : goal.returns-clause-work
returns-clause-work c =
    let t = c.args.self.now.tree in
    let i = c.loop-b.b-index in
    let n = length c.args.line.now in
    let given = c.loop-b.invariant in (
      c.next-last.ensures.work.0 ∙ given.same,
      (
        omega (arith, given.rises, c.next-last.ensures.work.1.0),
        omega (arith, given.work, c.next-last.ensures.work.1.1, ap byte_work given.same, scaled (i + 1) (n + 1) (byte_work t) (omega arith)),
      ),
    )
