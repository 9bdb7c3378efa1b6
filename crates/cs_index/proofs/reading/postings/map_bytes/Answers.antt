use Rattle.std.proofs.Common.{◌≡◌, ◌+◌, ◌++◌, ◌<◌, ◌≤◌, ℕ, [], Option, None, Some, arith, get_or, length, refl, sym, ap, ◌∙◌}
use Rattle.std.proofs.lemmas.List.{append-nil}
use Rattle.std.specs.List.{cons_option}
use Rattle.cs_index.proofs.postings.MappedSteps.{mapped_one}
use Rattle.cs_index.proofs.reading.postings.map_bytes.Goals as goal

no_more : (o : Option ℕ) → ((new : ℕ) → o ≡ Some new → ⊥) → o ≡ None
no_more None h = refl
no_more (Some new) h = absurd (h new refl)

pub ids-preserved-in_default : goal.ids-preserved-in_default
ids-preserved-in_default c =
    let at : ℕ = c.ids.count in
    let inside : at < length c.args.bytes.now = omega (arith, c.ids-test.true, c.min-most.ensures) in
    let left : at < c.args.decoder.now.left = omega (arith, c.ids-test.true, c.min-most.ensures) in
    let small : get_or c.args.bytes.now at 0 < 128 = omega (arith, c.if-delta-ge128.false) in
    let none = sym (no_more c.new_id.result c.in_default.not-Some) ∙ c.new_id.ensures in
    record {
      mapped = mapped_one c.args.decoder.now c.args.bytes.now c.args.new_ids.now c.reserve.new.self.items at c.ids.next
          (get_or c.args.bytes.now at 0) c.ids.out.items c.ids.out.items c.ids.invariant.mapped inside left refl
          c.if-delta-eq0.false small c.if-delta-decoder.false
          (sym (append-nil c.ids.out.items) ∙ ap (λ o. c.ids.out.items ++ cons_option o []) none);
      bound = omega (arith, c.ids-test.true);
      room = let room = c.ids.invariant.room in omega (arith, room, c.ids-test.true);
    }

pub ids-preserved : goal.ids-preserved
ids-preserved c =
    let at : ℕ = c.ids.count in
    let inside : at < length c.args.bytes.now = omega (arith, c.ids-test.true, c.min-most.ensures) in
    let left : at < c.args.decoder.now.left = omega (arith, c.ids-test.true, c.min-most.ensures) in
    let small : get_or c.args.bytes.now at 0 < 128 = omega (arith, c.if-delta-ge128.false) in
    let some = sym c.in-Some.is ∙ c.new_id.ensures in
    record {
      mapped = mapped_one c.args.decoder.now c.args.bytes.now c.args.new_ids.now c.reserve.new.self.items at c.ids.next
          (get_or c.args.bytes.now at 0) c.ids.out.items c.push_reserved.new.self.items c.ids.invariant.mapped inside left refl
          c.if-delta-eq0.false small c.if-delta-decoder.false
          (c.push_reserved.ensures.items ∙ ap (λ o. c.ids.out.items ++ cons_option o []) some);
      bound = omega (arith, c.ids-test.true);
      room =
          let room = c.ids.invariant.room in
          omega (arith, room, c.ids-test.true, c.push_reserved.ensures.len, c.push_reserved.ensures.capacity);
    }
