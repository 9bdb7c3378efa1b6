use Rattle.std.proofs.Common.{◌≡◌, ◌+◌, ◌-◌, ◌*◌, ◌≤◌, ℕ, List, length, take, drop, refl, sym, ap, subst, ◌∙◌, arith}
use Rattle.std.proofs.Math.ListN.{length-set}
use Rattle.std.proofs.lemmas.List.{length-take-le}
use Rattle.cs_syntax.specs.Matching.{Tree}
use Rattle.cs_match.specs.ConsistentDfa.{Dfa, IsKnown, count_in}
use Rattle.cs_match.specs.LazyDfa.{start_number}
use Rattle.cs_match.specs.MatchingEnds.{matching_ends, newlines_between}
use Rattle.cs_match.specs.Scanned.{ListsLine}
use Rattle.cs_match.specs.Skipping.{AreWholeLines}
use Rattle.cs_match.specs.Work.{byte_work}
use Rattle.cs_match.proofs.ChunkLemmas.{work-more}
use Rattle.cs_match.proofs.ListEndLemmas.{listed_found, few_found, whole_found, stops_found, listed_other, few_other, slice_same, rest_same, AreListed-part}
use Rattle.cs_match.proofs.MatchingEndLemmas.{ends-none}
use Rattle.cs_match.proofs.DfaScanLemmas.{scanned_none}
use Rattle.cs_match.proofs.TransitionLemmas.{stands_start}
use Rattle.cs_match.proofs.dfa.LazyDfa.list_ends.Goals as goal

pub scan-init : goal.scan-init
scan-init c =
    let s = c.args.self.now in
    let t : Dfa = record { tree = c.self.inside.program.now; states = c.self.inside.states } in
    let from = c.args.part.start in
    let text : List ℕ = take c.args.part.end c.args.block.now in
    record {
      from = refl;
      same = refl;
      scanned = rw (← c.self.view_is) (scanned_none t text from (start_number (count_in t))
          (omega (arith, c.requires.lines.low, c.requires.lines.high, length-take-le c.args.part.end c.args.block.now c.requires.lines.high))
          (stands_start t.tree (count_in t) t.states.cached c.self.invariant.cached));
      listed = λ has_match decides. sym (ends-none has_match text from);
      few = omega arith;
      room = omega arith;
      stops = λ none. absurd (omega (arith, none, c.requires.room));
      known = λ h. (refl, subst (λ n. IsKnown s n (drop from text)) (ap (λ (d : Dfa). start_number (count_in d)) (sym c.self.view_is)) h, omega arith);
      rises = omega arith;
      work = omega arith;
    }

pub advance-scan-requires-clause-whole : goal.advance-scan-requires-clause-whole
advance-scan-requires-clause-whole c =
    let block = c.args.block.now in
    subst (λ from. AreWholeLines (drop from (take c.args.part.end block))) (sym c.scan.invariant.from)
    (subst AreWholeLines (sym (rest_same block c.args.part.start c.args.part.end c.requires.lines.low)) c.requires.lines.whole)

pub scan-preserved-then-scan-eq-FOUND : goal.scan-preserved-then-scan-eq-FOUND
scan-preserved-then-scan-eq-FOUND c =
    let i = c.scan.invariant in
    let e = c.advance-scan.ensures in
    let t = c.args.self.now.tree in
    let text : List ℕ = take c.args.part.end c.args.block.now in
    let old = c.scan.scan in
    let new = c.advance-scan.result in
    let lists : ListsLine t text old new = subst (λ (u : Tree). ListsLine u text old new) i.same e.lists in
    let found = c.if-scan-eq-FOUND.true in
    let room = c.if-count-ends.true in
    record {
      from = lists.from ∙ i.from;
      same = e.work.0 ∙ i.same;
      scanned = e.scanned;
      listed = listed_found t text old new lists i.scanned.low e.scanned.within c.scan.count c.scan.ends i.few i.listed found room;
      few = few_found t text old new lists i.scanned.low e.scanned.within c.scan.count c.scan.ends i.few i.listed found room;
      room = omega (arith, room, length-set c.scan.ends c.scan.count (new.to - 1));
      stops = λ _. (
        stops_found t text old new lists i.scanned.low e.scanned.within c.scan.count c.scan.ends i.few i.listed found room,
        whole_found t text old new lists i.scanned.low e.scanned.within c.scan.count c.scan.ends i.few i.listed found room,
      );
      known = λ h.
          let before = i.known h in
          let after = e.known before.1 in
          (after.same ∙ before.0, after.known, omega (arith, after.work, before.2, lists.from, lists.moves, i.scanned.low));
      rises = omega (arith, i.rises, e.work.1.0);
      work = subst (λ from. c.advance-scan.new.steps.count ≤ c.args.steps.now.count + byte_work t * (new.to - from)) (sym lists.from)
          (work-more (byte_work t) old.from old.to new.to c.args.steps.now.count c.scan.steps.count c.advance-scan.new.steps.count
          i.scanned.low (omega (arith, lists.moves)) i.work
          (subst (λ (u : Tree). c.advance-scan.new.steps.count ≤ c.scan.steps.count + byte_work u * (new.to - old.to)) i.same e.work.1.1));
    }

pub scan-preserved : goal.scan-preserved
scan-preserved c =
    let i = c.scan.invariant in
    let e = c.advance-scan.ensures in
    let t = c.args.self.now.tree in
    let text : List ℕ = take c.args.part.end c.args.block.now in
    let old = c.scan.scan in
    let new = c.advance-scan.result in
    let lists : ListsLine t text old new = subst (λ (u : Tree). ListsLine u text old new) i.same e.lists in
    let other = c.if-scan-eq-FOUND.false in
    record {
      from = lists.from ∙ i.from;
      same = e.work.0 ∙ i.same;
      scanned = e.scanned;
      listed = listed_other t text old new lists i.scanned.low e.scanned.within c.scan.count c.scan.ends i.few i.listed other;
      few = few_other t text old new lists i.scanned.low e.scanned.within c.scan.count c.scan.ends i.few i.listed other;
      room = i.room;
      stops = λ full. absurd (omega (arith, full, c.if-count-ends.true));
      known = λ h.
          let before = i.known h in
          let after = e.known before.1 in
          (after.same ∙ before.0, after.known, omega (arith, after.work, before.2, lists.from, lists.moves, i.scanned.low));
      rises = omega (arith, i.rises, e.work.1.0);
      work = subst (λ from. c.advance-scan.new.steps.count ≤ c.args.steps.now.count + byte_work t * (new.to - from)) (sym lists.from)
          (work-more (byte_work t) old.from old.to new.to c.args.steps.now.count c.scan.steps.count c.advance-scan.new.steps.count
          i.scanned.low (omega (arith, lists.moves)) i.work
          (subst (λ (u : Tree). c.advance-scan.new.steps.count ≤ c.scan.steps.count + byte_work u * (new.to - old.to)) i.same e.work.1.1));
    }

pub returns-else-count-ends-clause-listed : goal.returns-else-count-ends-clause-listed
returns-else-count-ends-clause-listed c =
    let i = c.scan.invariant in
    let block = c.args.block.now in
    let from = c.args.part.start in
    let end = c.args.part.end in
    let to = c.scan.scan.to in
    let text : List ℕ = take end block in
    let full : c.scan.count ≡ length c.scan.ends = omega (arith, i.room, c.if-count-ends.false) in
    AreListed-part block from end c.requires.lines.low c.args.self.now.tree to c.scan.count c.scan.ends c.requires.lines.high
    (omega (arith, i.scanned.low, i.from)) (omega (arith, i.scanned.within, length-take-le end block c.requires.lines.high))
    (subst (λ f. AreWholeLines (take (to - f) (drop f text))) i.from (i.stops full).1)
    (subst (λ f. c.scan.count ≤ newlines_between text f to) i.from i.few) i.room
    (λ has_match decides. i.listed has_match decides ∙ ap (λ f. matching_ends has_match text f to) i.from)

pub returns-after-scan-clause-listed : goal.returns-after-scan-clause-listed
returns-after-scan-clause-listed c =
    let i = c.scan.invariant in
    let block = c.args.block.now in
    let from = c.args.part.start in
    let end = c.args.part.end in
    let to = c.scan.scan.to in
    let text : List ℕ = take end block in
    let within : to ≤ end = omega (arith, i.scanned.within, length-take-le end block c.requires.lines.high) in
    let all : end ≡ to = omega (arith, within, c.scan-test.false) in
    AreListed-part block from end c.requires.lines.low c.args.self.now.tree to c.scan.count c.scan.ends c.requires.lines.high
    (omega (arith, i.scanned.low, i.from)) within
    (subst (λ k. AreWholeLines (take (k - from) (drop from text))) all
    (subst AreWholeLines (sym (slice_same block from end c.requires.lines.low end c.requires.lines.low (omega arith))) c.requires.lines.whole))
    (subst (λ f. c.scan.count ≤ newlines_between text f to) i.from i.few) i.room
    (λ has_match decides. i.listed has_match decides ∙ ap (λ f. matching_ends has_match text f to) i.from)

pub returns-else-count-ends-clause-known : goal.returns-else-count-ends-clause-known
returns-else-count-ends-clause-known c = λ h.
    let i = c.scan.invariant in
    let s = c.args.self.now in
    let taken = (i.known (subst (IsKnown s (start_number (count_in s)))
    (sym (rest_same c.args.block.now c.args.part.start c.args.part.end c.requires.lines.low)) h)).2 in
    omega (arith, taken, i.from)

pub returns-after-scan-clause-known : goal.returns-after-scan-clause-known
returns-after-scan-clause-known c = λ h.
    let i = c.scan.invariant in
    let s = c.args.self.now in
    let taken = (i.known (subst (IsKnown s (start_number (count_in s)))
    (sym (rest_same c.args.block.now c.args.part.start c.args.part.end c.requires.lines.low)) h)).2 in
    omega (arith, taken, i.from)
