use Rattle.std.proofs.Common.{◌≡◌, ◌≢◌, ◌+◌, ◌-◌, ◌*◌, ◌<◌, ◌≤◌, ℕ, drop, length, refl, sym, ap, subst, ◌∙◌, arith, inl, inr}
use Rattle.std.proofs.lemmas.Bool.{cases_lt}
use Rattle.cs_match.specs.ConsistentDfa.{Dfa, IsConsistent, IsKnown, count_in}
use Rattle.cs_match.specs.LazyDfa.{match_number, dead_number, start_number}
use Rattle.cs_match.specs.Scanned.{HasScanned, ListsLine}
use Rattle.cs_match.specs.Work.{byte_work}
use Rattle.cs_match.proofs.DfaScanLemmas.{lists_none, over_byte, before_newline, over_match, over_dead}
use Rattle.cs_match.proofs.KnownScanLemmas.{rest_bytes, known_here, known_match, known_dead}
use Rattle.cs_match.proofs.PositionCountLemmas.{scaled}
use Rattle.cs_match.proofs.TransitionLemmas.{some_classes}
use Rattle.cs_match.proofs.WholeLineLemmas.{whole_from}
use Rattle.cs_match.proofs.dfa.LazyDfa.advance.Goals as goal

before_end : (i n : ℕ) → i ≤ n → i ≢ n → i < n
before_end i n within other = elim (cases_lt i n) [ inl low ↦ low | inr high ↦ absurd (other (omega (arith, within, high))) ]

-- known transitions, one that may be filled, and the rest of a line
enough : (w known rest bytes : ℕ) → 1 ≤ w → bytes ≡ known + rest + 1 → known + (w - 1) + rest ≤ w * bytes
enough w known rest bytes some size =
    let product : w * (known + rest + 1) ≡ w * (known + rest) + w = omega arith in
    omega (arith, ap (λ n. w * n) size, product, scaled 1 w (known + rest) some, some)

pub returns-then-seen-text-clause-lists : goal.returns-then-seen-text-clause-lists
returns-then-seen-text-clause-lists c =
    lists_none c.args.self.now.tree c.args.text.now c.args.scan c.follow_known-seen.result c.follow_known-seen.ensures.passes
    (omega (arith, c.if-seen-text.true, c.requires.within))

pub next-number-requires : goal.next-number-requires
next-number-requires c = record { number = (_, c.follow_known-seen.ensures.scanned.at) }

pub line_end-requires-clause-within : goal.line_end-requires-clause-within
line_end-requires-clause-within c =
    let known = c.follow_known-seen in
    let next = c.next-number in
    let right = subst (λ (d : Dfa). IsConsistent d.tree d.states) c.self.view_is c.self.invariant in
    let is : next.result ≡ match_number (count_in next.new.self) = c.if-number-count.true ∙ ap (λ (d : Dfa). match_number (count_in d)) c.self.view_is in
    let some = some_classes next.new.self.tree next.new.self.states.classes right.classes in
    before_newline c.args.self.now next.new.self next.ensures.work.0 right c.args.text.now c.args.scan known.result
    known.ensures.passes known.ensures.low known.ensures.scanned (before_end known.result.to _ known.ensures.scanned.within c.if-seen-text.false)
    next.result (next.ensures.leads _ known.ensures.scanned.at) c.requires.whole
    (λ e. omega (arith, e, is, some)) (λ e. omega (arith, e, is, some))

pub line_end-requires-clause-whole : goal.line_end-requires-clause-whole
line_end-requires-clause-whole c = whole_from c.args.text.now c.args.scan.from (c.follow_known-seen.result.to + 1)
    (omega (arith, c.follow_known-seen.ensures.scanned.low, c.follow_known-seen.ensures.passes.from)) c.requires.whole

pub returns-then-number-count-clause-lists : goal.returns-then-number-count-clause-lists
returns-then-number-count-clause-lists c =
    let known = c.follow_known-seen in
    let next = c.next-number in
    let right = subst (λ (d : Dfa). IsConsistent d.tree d.states) c.self.view_is c.self.invariant in
    let line = c.line_end.ensures in
    let is : next.result ≡ match_number (count_in next.new.self) = c.if-number-count.true ∙ ap (λ (d : Dfa). match_number (count_in d)) c.self.view_is in
    (over_match c.args.self.now next.new.self next.ensures.work.0 right c.args.text.now c.args.scan known.result
    known.ensures.passes known.ensures.low known.ensures.scanned (before_end known.result.to _ known.ensures.scanned.within c.if-seen-text.false)
    next.result (next.ensures.leads _ known.ensures.scanned.at) c.line_end.result line.low line.high line.part line.newline is).1

pub returns-then-number-count-clause-scanned : goal.returns-then-number-count-clause-scanned
returns-then-number-count-clause-scanned c =
    let known = c.follow_known-seen in
    let next = c.next-number in
    let right = subst (λ (d : Dfa). IsConsistent d.tree d.states) c.self.view_is c.self.invariant in
    let line = c.line_end.ensures in
    let is : next.result ≡ match_number (count_in next.new.self) = c.if-number-count.true ∙ ap (λ (d : Dfa). match_number (count_in d)) c.self.view_is in
    (over_match c.args.self.now next.new.self next.ensures.work.0 right c.args.text.now c.args.scan known.result
    known.ensures.passes known.ensures.low known.ensures.scanned (before_end known.result.to _ known.ensures.scanned.within c.if-seen-text.false)
    next.result (next.ensures.leads _ known.ensures.scanned.at) c.line_end.result line.low line.high line.part line.newline is).0

pub returns-then-number-count-clause-work : goal.returns-then-number-count-clause-work
returns-then-number-count-clause-work c =
    let known = c.follow_known-seen in
    let to = known.result.to in
    let end = c.line_end.result in
    let w = byte_work c.args.self.now.tree in (
      c.next-number.ensures.work.0,
      (
        omega (arith, c.add.ensures, c.next-number.ensures.work.1.0, c.line_end.ensures.work),
        omega (
          arith,
          c.add.ensures,
          c.next-number.ensures.work.1.1,
          c.line_end.ensures.work,
          c.line_end.ensures.low,
          enough w (to - c.args.scan.to) (end - to) (end + 1 - c.args.scan.to) (omega arith) (omega (arith, known.ensures.low, c.line_end.ensures.low)),
        ),
      ),
    )

pub line_end-requires-then-number-dead-clause-within : goal.line_end-requires-then-number-dead-clause-within
line_end-requires-then-number-dead-clause-within c =
    let known = c.follow_known-seen in
    let next = c.next-number in
    let right = subst (λ (d : Dfa). IsConsistent d.tree d.states) c.self.view_is c.self.invariant in
    let is : next.result ≡ dead_number (count_in next.new.self) = c.if-number-dead.true ∙ ap (λ (d : Dfa). dead_number (count_in d)) c.self.view_is in
    let some = some_classes next.new.self.tree next.new.self.states.classes right.classes in
    before_newline c.args.self.now next.new.self next.ensures.work.0 right c.args.text.now c.args.scan known.result
    known.ensures.passes known.ensures.low known.ensures.scanned (before_end known.result.to _ known.ensures.scanned.within c.if-seen-text.false)
    next.result (next.ensures.leads _ known.ensures.scanned.at) c.requires.whole
    (λ e. omega (arith, e, is, some)) (λ e. omega (arith, e, is, some))

pub line_end-requires-then-number-dead-clause-whole : goal.line_end-requires-then-number-dead-clause-whole
line_end-requires-then-number-dead-clause-whole c = whole_from c.args.text.now c.args.scan.from (c.follow_known-seen.result.to + 1)
    (omega (arith, c.follow_known-seen.ensures.scanned.low, c.follow_known-seen.ensures.passes.from)) c.requires.whole

pub returns-then-number-dead-clause-lists : goal.returns-then-number-dead-clause-lists
returns-then-number-dead-clause-lists c =
    let known = c.follow_known-seen in
    let next = c.next-number in
    let right = subst (λ (d : Dfa). IsConsistent d.tree d.states) c.self.view_is c.self.invariant in
    let line = c.line_end-then-number-dead.ensures in
    let is : next.result ≡ dead_number (count_in next.new.self) = c.if-number-dead.true ∙ ap (λ (d : Dfa). dead_number (count_in d)) c.self.view_is in
    subst (λ number. ListsLine c.args.self.now.tree c.args.text.now c.args.scan
    (record { from = known.result.from; to = c.line_end-then-number-dead.result + 1; number = number })) (sym (ap (λ (d : Dfa). start_number (count_in d)) c.self.view_is))
    (over_dead c.args.self.now next.new.self next.ensures.work.0 right c.args.text.now c.args.scan known.result
    known.ensures.passes known.ensures.low known.ensures.scanned (before_end known.result.to _ known.ensures.scanned.within c.if-seen-text.false)
    next.result (next.ensures.leads _ known.ensures.scanned.at) c.line_end-then-number-dead.result line.low line.high line.part line.newline is).1

pub returns-then-number-dead-clause-scanned : goal.returns-then-number-dead-clause-scanned
returns-then-number-dead-clause-scanned c =
    let known = c.follow_known-seen in
    let next = c.next-number in
    let right = subst (λ (d : Dfa). IsConsistent d.tree d.states) c.self.view_is c.self.invariant in
    let line = c.line_end-then-number-dead.ensures in
    let is : next.result ≡ dead_number (count_in next.new.self) = c.if-number-dead.true ∙ ap (λ (d : Dfa). dead_number (count_in d)) c.self.view_is in
    subst (λ number. HasScanned next.new.self c.args.text.now
    (record { from = known.result.from; to = c.line_end-then-number-dead.result + 1; number = number })) (sym (ap (λ (d : Dfa). start_number (count_in d)) c.self.view_is))
    (over_dead c.args.self.now next.new.self next.ensures.work.0 right c.args.text.now c.args.scan known.result
    known.ensures.passes known.ensures.low known.ensures.scanned (before_end known.result.to _ known.ensures.scanned.within c.if-seen-text.false)
    next.result (next.ensures.leads _ known.ensures.scanned.at) c.line_end-then-number-dead.result line.low line.high line.part line.newline is).0

pub returns-then-number-dead-clause-work : goal.returns-then-number-dead-clause-work
returns-then-number-dead-clause-work c =
    let known = c.follow_known-seen in
    let to = known.result.to in
    let line = c.line_end-then-number-dead in
    let end = line.result in
    let w = byte_work c.args.self.now.tree in (
      c.next-number.ensures.work.0,
      (
        omega (arith, c.add.ensures, c.next-number.ensures.work.1.0, line.ensures.work),
        omega (
          arith,
          c.add.ensures,
          c.next-number.ensures.work.1.1,
          line.ensures.work,
          line.ensures.low,
          enough w (to - c.args.scan.to) (end - to) (end + 1 - c.args.scan.to) (omega arith) (omega (arith, known.ensures.low, line.ensures.low)),
        ),
      ),
    )

pub returns-clause-lists : goal.returns-clause-lists
returns-clause-lists c =
    let known = c.follow_known-seen in
    let next = c.next-number in
    let right = subst (λ (d : Dfa). IsConsistent d.tree d.states) c.self.view_is c.self.invariant in
    let other : next.result ≢ match_number (count_in next.new.self) =
    λ e. c.if-number-count.false (e ∙ sym (ap (λ (d : Dfa). match_number (count_in d)) c.self.view_is)) in
    (over_byte c.args.self.now next.new.self next.ensures.work.0 right c.args.text.now c.args.scan known.result
    known.ensures.passes known.ensures.low known.ensures.scanned (before_end known.result.to _ known.ensures.scanned.within c.if-seen-text.false)
    next.result (next.ensures.leads _ known.ensures.scanned.at) other).1

pub returns-clause-scanned : goal.returns-clause-scanned
returns-clause-scanned c =
    let known = c.follow_known-seen in
    let next = c.next-number in
    let right = subst (λ (d : Dfa). IsConsistent d.tree d.states) c.self.view_is c.self.invariant in
    let other : next.result ≢ match_number (count_in next.new.self) =
    λ e. c.if-number-count.false (e ∙ sym (ap (λ (d : Dfa). match_number (count_in d)) c.self.view_is)) in
    (over_byte c.args.self.now next.new.self next.ensures.work.0 right c.args.text.now c.args.scan known.result
    known.ensures.passes known.ensures.low known.ensures.scanned (before_end known.result.to _ known.ensures.scanned.within c.if-seen-text.false)
    next.result (next.ensures.leads _ known.ensures.scanned.at) other).0

pub returns-clause-work : goal.returns-clause-work
returns-clause-work c =
    let known = c.follow_known-seen in
    let to = known.result.to in
    let w = byte_work c.args.self.now.tree in (
      c.next-number.ensures.work.0,
      (
        omega (arith, c.add.ensures, c.next-number.ensures.work.1.0),
        omega (
          arith,
          c.add.ensures,
          c.next-number.ensures.work.1.1,
          enough w (to - c.args.scan.to) 0 (to + 1 - c.args.scan.to) (omega arith) (omega (arith, known.ensures.low)),
        ),
      ),
    )

pub returns-then-seen-text-clause-known : goal.returns-then-seen-text-clause-known
returns-then-seen-text-clause-known c = λ h.
    record { same = refl; known = c.follow_known-seen.ensures.known h; work = omega (arith, c.add.ensures, c.follow_known-seen.ensures.low) }

pub returns-clause-known : goal.returns-clause-known
returns-clause-known c = λ h.
    let s = c.args.self.now in
    let text = c.args.text.now in
    let known = c.follow_known-seen in
    let to = known.result.to in
    let next = c.next-number in
    let right = subst (λ (d : Dfa). IsConsistent d.tree d.states) c.self.view_is c.self.invariant in
    let within : to < length text = before_end to _ known.ensures.scanned.within c.if-seen-text.false in
    let given = known.ensures.known h in
    let step = next.ensures.known (drop (to + 1) text) (rest_bytes text c.type_inv.text (to + 1))
    (known_here s text to known.result.number within given) in
    record {
      same = step.0;
      known = step.1;
      work = omega (arith, step.2, c.add.ensures, known.ensures.low);
    }

pub returns-then-number-count-clause-known : goal.returns-then-number-count-clause-known
returns-then-number-count-clause-known c = λ h.
    let s = c.args.self.now in
    let text = c.args.text.now in
    let known = c.follow_known-seen in
    let to = known.result.to in
    let next = c.next-number in
    let right = subst (λ (d : Dfa). IsConsistent d.tree d.states) c.self.view_is c.self.invariant in
    let end = c.line_end.result in
    let line = c.line_end.ensures in
    let within : to < length text = before_end to _ known.ensures.scanned.within c.if-seen-text.false in
    let given = known.ensures.known h in
    let step = next.ensures.known (drop (to + 1) text) (rest_bytes text c.type_inv.text (to + 1))
    (known_here s text to known.result.number within given) in
    let is : next.result ≡ match_number (count_in next.new.self) = c.if-number-count.true ∙ ap (λ (d : Dfa). match_number (count_in d)) c.self.view_is in
    record {
      same = step.0;
      known = known_match next.new.self right text c.type_inv.text (to + 1) end line.low line.part line.newline next.result is step.1;
      work = omega (arith, step.2, c.add.ensures, known.ensures.low, line.work, line.low);
    }

pub returns-then-number-dead-clause-known : goal.returns-then-number-dead-clause-known
returns-then-number-dead-clause-known c = λ h.
    let s = c.args.self.now in
    let text = c.args.text.now in
    let known = c.follow_known-seen in
    let to = known.result.to in
    let next = c.next-number in
    let right = subst (λ (d : Dfa). IsConsistent d.tree d.states) c.self.view_is c.self.invariant in
    let end = c.line_end-then-number-dead.result in
    let line = c.line_end-then-number-dead.ensures in
    let within : to < length text = before_end to _ known.ensures.scanned.within c.if-seen-text.false in
    let given = known.ensures.known h in
    let step = next.ensures.known (drop (to + 1) text) (rest_bytes text c.type_inv.text (to + 1))
    (known_here s text to known.result.number within given) in
    let is : next.result ≡ dead_number (count_in next.new.self) = c.if-number-dead.true ∙ ap (λ (d : Dfa). dead_number (count_in d)) c.self.view_is in
    record {
      same = step.0;
      known = subst (λ n. IsKnown next.new.self n (drop (end + 1) text)) (sym (ap (λ (d : Dfa). start_number (count_in d)) c.self.view_is))
          (known_dead next.new.self right text c.type_inv.text (to + 1) end line.low line.part line.newline next.result is step.1);
      work = omega (arith, step.2, c.add.ensures, known.ensures.low, line.work, line.low);
    }
