use Rattle.std.proofs.Common.{◌≡◌, ◌≢◌, ◌+◌, ◌*◌, ◌<◌, ◌∙◌, ℕ, List, false, length, get_or, inr, refl, sym, ap, subst, arith}
use Rattle.std.specs.Prelude.{IfSome}
use Rattle.std.proofs.lemmas.List.{get_or_default}
use Rattle.std.proofs.lemmas.Bool.{ne_eqb}
use Rattle.cs_syntax.specs.Matching.{Tree}
use Rattle.cs_match.specs.declared.state.State.{State}
use Rattle.cs_match.specs.Digits.{IsBlock}
use Rattle.cs_match.specs.Glushkov.{cuts_of}
use Rattle.cs_match.specs.LazyDfa.{StandsFor, cached, dead, Leads, next}
use Rattle.cs_match.specs.States.{start, successor, accepts_before}
use Rattle.cs_match.specs.Table.{next_number}
use Rattle.cs_match.specs.ConsistentDfa.{Dfa, IsConsistent, LeadsIn, table_in, count_in, state_in}
use Rattle.cs_match.proofs.PositionCountLemmas.{scaled}
use Rattle.cs_match.proofs.StateLemmas.{block_successor}
use Rattle.cs_match.proofs.TransitionLemmas.{some_classes}
use Rattle.cs_match.proofs.dfa.LazyDfa.next_number.Goals as goal

-- a number that stands for the state under construction is a correct transition
leads_to : (t u : Tree) (count : ℕ) (states : List State) (n m k : State) (b number : ℕ) → u ≡ t → m ≡ n → b ≢ 10 →
    accepts_before t n b ≡ false → k ≡ successor t n b → number ≢ 0 → StandsFor u count states number k → Leads u count states m b number
leads_to t u count states n m k b number same is other h made some stands =
    next (ap (λ x. accepts_before x m b) same ∙ ap (λ x. accepts_before t x b) is ∙ h)
    (subst (λ (x : State). StandsFor u count states number x) (made ∙ ap (λ x. successor t x b) (sym is) ∙ ap (λ x. successor x m b) (sym same)) stands)
    some (λ line. absurd (other line))

-- the state under construction has an unfinished character of a whole block
scratch_block : (old : Dfa) (slot byte : ℕ) → IsConsistent old.tree old.states → old.states.scratch ≡ successor old.tree (state_in old slot) byte →
    IsBlock (cuts_of old.tree) old.states.scratch.behind.unfinished
scratch_block old slot byte right is =
    subst (λ (n : State). IsBlock (cuts_of old.tree) n.behind.unfinished) (sym is)
    (block_successor old.tree (state_in old slot) byte (right.cached.blocks slot))

pub is_lost-requires : goal.is_lost-requires
is_lost-requires c =
    let old = c.args.self.now in
    let later : (successor old.tree (state_in old c.args.slot) c.args.byte).behind.first ≡ false = rw (ne_eqb c.args.byte 10 c.requires.within) refl in
    record { later = ap (λ (n : State). n.behind.first) c.requires.scratch ∙ later }

pub put-requires-clause-leads : goal.put-requires-clause-leads
put-requires-clause-leads c =
    let old = c.args.self.now in
    let t = old.tree in
    let right = subst (λ (d : Dfa). IsConsistent d.tree d.states) c.self.view_is c.self.invariant in
    let some = some_classes t old.states.classes right.classes in
    let is : 3 * c.self.inside.states.classes.count ≡ 3 * count_in old = ap (λ (d : Dfa). 3 * count_in d) c.self.view_is in
    leads_to t t (count_in old) old.states.cached.items (state_in old c.args.slot) (state_in old c.args.slot) old.states.scratch c.args.byte
    (3 * c.self.inside.states.classes.count) refl refl c.requires.within c.requires.stays c.requires.scratch (λ e. omega (arith, e, is, some))
    (dead is (c.is_lost.ensures.dead c.if-is_lost.true))

pub find-lookup-requires : goal.find-lookup-requires
find-lookup-requires c = c.self.invariant.room ∙ sym c.self.invariant.cached.sized

pub add-requires-then-len-most-clause-block : goal.add-requires-then-len-most-clause-block
add-requires-then-len-most-clause-block c =
    let old = c.args.self.now in
    let new = c.empty.new.self in
    subst (λ (t : Tree). IsBlock (cuts_of t) new.states.scratch.behind.unfinished) (sym c.empty.ensures.same)
    (subst (λ (n : State). IsBlock (cuts_of old.tree) n.behind.unfinished) (sym c.empty.ensures.scratch)
    (scratch_block old c.args.slot c.args.byte (subst (λ (d : Dfa). IsConsistent d.tree d.states) c.self.view_is c.self.invariant) c.requires.scratch))

pub add-next-requires-clause-block : goal.add-next-requires-clause-block
add-next-requires-clause-block c = scratch_block c.args.self.now c.args.slot c.args.byte (subst (λ (d : Dfa). IsConsistent d.tree d.states) c.self.view_is c.self.invariant) c.requires.scratch

pub put-requires-2-clause-leads : goal.put-requires-2-clause-leads
put-requires-2-clause-leads c =
    let old = c.args.self.now in
    let t = old.tree in
    let items = old.states.cached.items in
    let other = c.in-Some.other in
    let s = c.self.inside.states in
    let found = subst (λ (d : Dfa). (other < length d.states.cached.items)
    × (get_or d.states.cached.items other d.states.scratch ≡ d.states.scratch)) c.self.view_is
    (subst (λ o. IfSome o (λ k. (k < length s.cached.items) × (get_or s.cached.items k s.scratch ≡ s.scratch))) c.in-Some.is c.find-lookup.ensures.equal) in
    let right = subst (λ (d : Dfa). IsConsistent d.tree d.states) c.self.view_is c.self.invariant in
    let some = some_classes t old.states.classes right.classes in
    let is : other * s.classes.count ≡ other * count_in old = ap (λ (d : Dfa). other * count_in d) c.self.view_is in
    leads_to t t (count_in old) items (state_in old c.args.slot) (state_in old c.args.slot) old.states.scratch c.args.byte
    (other * s.classes.count) refl refl c.requires.within c.requires.stays c.requires.scratch
    (λ e. omega (arith, e, is, some, scaled 4 other (count_in old) c.if-other.true))
    (cached other is (record { within = found.0; ordinary = inr c.if-other.true })
    (get_or_default items other (start t) old.states.scratch found.0 ∙ found.1))

pub overflow_cast-next-2 : goal.overflow_cast-next-2
overflow_cast-next-2 c =
    let other = c.in-Some.other in
    let s = c.self.inside.states in
    let found = subst (λ o. IfSome o (λ k. (k < length s.cached.items) × (get_or s.cached.items k s.scratch ≡ s.scratch))) c.in-Some.is c.find-lookup.ensures.equal in
    let some = some_classes c.self.inside.program.now s.classes c.self.invariant.classes in
    omega (
      arith,
      some,
      c.self.invariant.cached.fits,
      scaled (other + 1) s.cached.most s.classes.count (omega (arith, found.0, c.self.invariant.cached.bound)),
    )

pub add-next-requires-clause-room : goal.add-next-requires-clause-room
add-next-requires-clause-room c =
    subst (λ (d : Dfa). length d.states.cached.items < d.states.cached.most) c.self.view_is
    (omega (arith, c.self.invariant.cached.bound, c.if-len-most.false, c.len.ensures, c.most.ensures))

pub returns-then-len-most-clause-leads : goal.returns-then-len-most-clause-leads
returns-then-len-most-clause-leads c =
    let old = c.args.self.now in
    let new = c.add-then-len-most.new.self in
    let added = c.add-then-len-most.ensures in
    leads_to old.tree new.tree (count_in new) new.states.cached.items (state_in old c.args.slot) (state_in old c.args.slot)
    c.empty.new.self.states.scratch c.args.byte c.add-then-len-most.result (added.same ∙ c.empty.ensures.same) refl
    c.requires.within c.requires.stays (c.empty.ensures.scratch ∙ c.requires.scratch) added.other added.number

pub put-requires-3-clause-slot : goal.put-requires-3-clause-slot
put-requires-3-clause-slot c = (c.add-next.ensures.kept c.args.slot c.requires.slot).0

pub put-requires-3-clause-leads : goal.put-requires-3-clause-leads
put-requires-3-clause-leads c =
    let old = c.args.self.now in
    let new = c.add-next.new.self in
    let added = c.add-next.ensures in
    leads_to old.tree new.tree (count_in new) new.states.cached.items (state_in old c.args.slot) (state_in new c.args.slot)
    old.states.scratch c.args.byte c.add-next.result added.same (added.kept c.args.slot c.requires.slot).1
    c.requires.within c.requires.stays c.requires.scratch added.other added.number

pub returns-2-clause-leads : goal.returns-2-clause-leads
returns-2-clause-leads c =
    subst (λ (n : State). LeadsIn c.put-3.new.self n c.args.byte c.add-next.result) (c.add-next.ensures.kept c.args.slot c.requires.slot).1
    c.put-3.ensures.leads

pub returns-2-clause-stored : goal.returns-2-clause-stored
returns-2-clause-stored c = λ room.
    subst (λ n. next_number (table_in c.put-3.new.self) (c.args.slot * n) c.args.byte ≡ c.add-next.result) c.add-next.ensures.count c.put-3.ensures.stored
