use Rattle.std.proofs.Common.{◌∙◌, sym, refl}
use Rattle.cs_index.proofs.stored.SectionOffsets.{offsets_split, wrong_magic, wrong_trailer}
use Rattle.cs_index.proofs.reading.section_offsets.offsets_of.Goals as goal

pub returns-then-not-starts_with-clause-slices : goal.returns-then-not-starts_with-clause-slices
returns-then-not-starts_with-clause-slices c = λ bytes long header tail. wrong_magic bytes c.args.header.now
    c.args.tail.now c.args.len (record { long = long; header_is = header; tail_is = tail })
    (sym c.starts_with.ensures.value ∙ c.if-not-starts_with.true)

pub returns-then-not-is_trailer-clause-slices : goal.returns-then-not-is_trailer-clause-slices
returns-then-not-is_trailer-clause-slices c = λ bytes long header tail.
    wrong_trailer bytes c.args.header.now c.args.tail.now c.args.len
    (record { long = long; header_is = header; tail_is = tail }) (sym c.starts_with.ensures.value
    ∙ c.if-not-starts_with.false) (sym c.is_trailer.ensures.value ∙ c.if-not-is_trailer.true)

pub returns-clause-slices : goal.returns-clause-slices
returns-clause-slices c = λ bytes long header tail.
    offsets_split bytes c.args.header.now c.args.tail.now c.args.len
    (record { long = long; header_is = header; tail_is = tail }) c.offsets_in.result (sym c.starts_with.ensures.value
    ∙ c.if-not-starts_with.false) (sym c.is_trailer.ensures.value ∙ c.if-not-is_trailer.false)
    (c.if-not-is_trailer.ensures.enough refl) c.offsets_in.ensures.offsets c.offsets_in.ensures.fault
