use Rattle.std.proofs.Common.{◌<◌, ◌+◌, ◌-◌, ◌/◌, ◌∙◌, ap, ℕ, arith}
use Rattle.cs_index.specs.Encoding.{ListEntry}
use Rattle.cs_index.specs.declared.reading.section_offsets.SectionOffsets.{SectionOffsets}
use Rattle.cs_index.proofs.stored.StoredEntries.{found_there, later_there, none_there}
use Rattle.cs_index.proofs.reading.entries.find_entry.Goals as goal

pub returns-then-entry-trigram-clause-found : goal.returns-then-entry-trigram-clause-found
returns-then-entry-trigram-clause-found g c bytes m es has =
    let i = c.halves.invariant in
    let s : SectionOffsets = c.args.starts.now in
    let middle : ℕ = c.halves.low + (c.halves.high - c.halves.low) / 2 in
    let inside : middle < (s.trailer - s.list_index) / 11 = omega (arith, i.within) in
    found_there bytes s es has c.args.trigram middle c.in_ok-entry.entry inside
    (c.in_ok-entry.ensures.entry bytes (i.keeps ∙ m) (omega (arith, has.within, inside))) c.if-entry-trigram.true

pub halves-preserved-then-entry-trigram-2 : goal.halves-preserved-then-entry-trigram-2
halves-preserved-then-entry-trigram-2 g c =
    let i = c.halves.invariant in
    let s : SectionOffsets = c.args.starts.now in
    let middle : ℕ = c.halves.low + (c.halves.high - c.halves.low) / 2 in
    let inside : middle < (s.trailer - s.list_index) / 11 = omega (arith, i.within) in
    record {
      order = omega arith;
      within = i.within;
      between = λ bytes m es has k h e.
          let is = ap (λ (e : ListEntry). e.trigram) (c.in_ok-entry.ensures.entry bytes (i.keeps ∙ m) (omega (arith, has.within, inside))) in
          let above = later_there bytes s es has middle k inside h (omega (arith, is, e, c.if-entry-trigram-2.true)) in
          (omega (arith, above), (i.between bytes m es has k h e).1);
      keeps = c.read_entry.ensures.store.0 ∙ i.keeps;
      size = c.read_entry.ensures.store.1 ∙ i.size;
      failed = c.in_ok-entry.ensures.store.2 ∙ i.failed;
    }

pub halves-preserved : goal.halves-preserved
halves-preserved g c =
    let i = c.halves.invariant in
    let s : SectionOffsets = c.args.starts.now in
    let middle : ℕ = c.halves.low + (c.halves.high - c.halves.low) / 2 in
    let inside : middle < (s.trailer - s.list_index) / 11 = omega (arith, i.within) in
    record {
      order = omega arith;
      within = omega (arith, inside);
      between = λ bytes m es has k h e.
          let is = ap (λ (e : ListEntry). e.trigram) (c.in_ok-entry.ensures.entry bytes (i.keeps ∙ m) (omega (arith, has.within, inside))) in
          let other = c.if-entry-trigram.false in (
            (i.between bytes m es has k h e).0,
            later_there bytes s es has k middle h inside (omega (arith, is, e, other, c.if-entry-trigram-2.false)),
          );
      keeps = c.read_entry.ensures.store.0 ∙ i.keeps;
      size = c.read_entry.ensures.store.1 ∙ i.size;
      failed = c.in_ok-entry.ensures.store.2 ∙ i.failed;
    }

pub returns-clause-found : goal.returns-clause-found
returns-clause-found g c bytes m es has =
    none_there bytes c.args.starts.now es has c.args.trigram (λ k h e.
    let between = c.halves.invariant.between bytes m es has k h e in
    omega (arith, between.0, between.1, c.halves-test.false))
