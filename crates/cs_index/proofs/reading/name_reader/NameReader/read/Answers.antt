use Rattle.std.proofs.Common.{◌+◌, ◌∙◌, subst, Ok, Err, length, slice_get}
use Rattle.cs_index.specs.declared.fault.IndexFault.TheVariants.{BadNames}
use Rattle.cs_index.specs.declared.reading.name_reader.NameReader.{NameReader}
use Rattle.cs_index.specs.Windows.{HasText}
use Rattle.cs_index.proofs.stored.NamePieces.{named, offset_within, reads_on, stands_there}
use Rattle.cs_index.proofs.reading.name_reader.NameReader.read.Goals as goal

pub returns-in_default-clause-name : goal.returns-in_default-clause-name
returns-in_default-clause-name g c bytes m parts reads =
    let reader : NameReader = c.args.self.now in
    let after : NameReader = record reader { offsets = c.number.new.self; names = c.find_text.new.self } in
    let within = offset_within bytes parts reader reads c.args.id c.if-id-self.false in
    let is = c.in_ok-offset.ensures.number bytes m reads.offset_piece within in (
      named (slice_get parts.names c.args.id) (Err BadNames) after
          (λ name found. absurd (c.in_default.not-Some (length name)
          (c.in_ok-len.ensures.text bytes (c.number.ensures.store.0 ∙ m) reads.name_piece name
          (stands_there bytes parts reader reads c.args.id c.if-id-self.false c.in_ok-offset.offset name is
          found)).len)),
      reads_on bytes parts reader reads c.number.new.self c.find_text.new.self after.at after.len
          (c.in_ok-offset.ensures.piece bytes m reads.offset_piece)
          (c.in_ok-len.ensures.piece bytes (c.number.ensures.store.0 ∙ m) reads.name_piece),
    )

pub returns-clause-name : goal.returns-clause-name
returns-clause-name g c bytes m parts reads =
    let reader : NameReader = c.args.self.now in
    let after : NameReader =
    record reader { offsets = c.number.new.self; names = c.find_text.new.self; at = reader.start + c.in_ok-offset.offset; len = c.in-Some.len } in
    let within = offset_within bytes parts reader reads c.args.id c.if-id-self.false in
    let is = c.in_ok-offset.ensures.number bytes m reads.offset_piece within in (
      named (slice_get parts.names c.args.id) (Ok tt) after
          (λ name found. subst (HasText c.find_text.new.self (reader.start + c.in_ok-offset.offset) name) c.in-Some.is
          (c.in_ok-len.ensures.text bytes (c.number.ensures.store.0 ∙ m) reads.name_piece name
          (stands_there bytes parts reader reads c.args.id c.if-id-self.false c.in_ok-offset.offset name is found))),
      reads_on bytes parts reader reads c.number.new.self c.find_text.new.self after.at after.len
          (c.in_ok-offset.ensures.piece bytes m reads.offset_piece)
          (c.in_ok-len.ensures.piece bytes (c.number.ensures.store.0 ∙ m) reads.name_piece),
    )
