use Rattle.std.proofs.Common.{◌+◌, ◌-◌, ◌*◌, ◌≤◌, ap, inl, inr, sym, subst, ℕ, length, arith}
use Rattle.std.proofs.lemmas.Bool.{cases_lt}
use Rattle.cs_index.specs.ListReading.{AreBytesOf}
use Rattle.cs_index.specs.StoredOpening.{AreAscendingOffsets}
use Rattle.cs_index.specs.declared.reading.section_offsets.SectionOffsets.{SectionOffsets}
use Rattle.cs_index.proofs.decoding.DecodableBytesOpen.{rise_from}
use Rattle.cs_index.proofs.stored.ListReads.{list_read}
use Rattle.cs_index.proofs.stored.Windows.{on_ok_both}
use Rattle.cs_index.proofs.reading.list_reader.ListReader.read.Goals as goal

pub invariant_of-self : goal.invariant_of-self
invariant_of-self g c =
    let s : SectionOffsets = c.starts-starts.result in
    let order = c.starts-starts.ensures.order in
    let rise = rise_from s.paths s.names s.postings s.name_index s.list_index s.trailer order.order in
    let stop = ap (λ (o : SectionOffsets). o.name_index) c.starts-starts.ensures.starts in
    let first = ap (λ (o : SectionOffsets). o.postings) c.starts-starts.ensures.starts in
    let fits = c.in-Some.ensures.fits in
    let bound = c.reach.ensures.bound s.name_index c.stop_at.ensures.within
    (omega (arith, c.min.ensures, c.max.ensures, c.min-len.ensures, stop, first, fits)) in
    omega (arith, bound, rise.de, rise.ea, order.short)

pub returns-clause-bytes : goal.returns-clause-bytes
returns-clause-bytes g c bytes m is =
    c.reach.ensures.piece bytes m (c.stop_at.ensures.piece bytes (subst (AreBytesOf bytes) (sym c.self.view_is) is))

pub returns-clause-list : goal.returns-clause-list
returns-clause-list g c bytes m is parts tables =
    let s : SectionOffsets = c.args.tables.now.starts in
    let new = c.reach.new.self in
    let same = c.starts-starts.ensures.starts in
    let order = subst AreAscendingOffsets same c.starts-starts.ensures.order in
    let rise = rise_from s.paths s.names s.postings s.name_index s.list_index s.trailer order.order in
    let stop = ap (λ (o : SectionOffsets). o.name_index) same in
    let first = ap (λ (o : SectionOffsets). o.postings) same in
    let entry = c.in-Some.entry in
    let fits = c.in-Some.ensures.fits in
    let most : ℕ = 3 + 5 * (entry.count + 1) in
    let room : ℕ = s.name_index - (s.postings + entry.offset) in
    let trailer : s.trailer ≤ length bytes = tables.stands.within in
    let piece = c.stop_at.ensures.piece bytes (subst (AreBytesOf bytes) (sym c.self.view_is) is) in
    let bound = c.reach.ensures.bound c.starts-starts.result.name_index c.stop_at.ensures.within
    (omega (arith, c.min.ensures, c.max.ensures, c.min-len.ensures, stop, first, fits)) in
    on_ok_both c.reach.result
    (λ from long there.
    list_read bytes c.args.tables.now parts tables order entry c.args.position c.in-Some.ensures.entry fits
    (record { at = new.start; bytes = new.piece.items }) there
    (let z : new.start ≤ s.postings + entry.offset = omega (arith, from, first) in z)
    (let z : new.start + length new.piece.items ≤ s.name_index = omega (arith, bound, stop) in z)
    (elim (cases_lt most room) [
      | inl less ↦ inr (omega (arith, less, long, c.min-len.ensures, stop, first))
      | inr more ↦ inl (omega (arith, more, long, c.min-len.ensures, stop, first, fits))
    ]))
    c.reach.ensures.from
    (c.reach.ensures.long bytes m piece (omega (arith, trailer, stop, first, fits, c.min-len.ensures, rise.de, rise.ea)))
    (c.reach.ensures.piece bytes m piece)
