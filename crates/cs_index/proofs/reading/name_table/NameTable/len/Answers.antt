use Rattle.std.proofs.Common.{◌≡◌, ◌-◌, ◌/◌, ◌∙◌, ap, length, arith}
use Rattle.cs_index.specs.Opening.{texts_of}
use Rattle.cs_index.proofs.decoding.IndexFields.{offsets_long}
use Rattle.cs_index.proofs.reading.name_table.NameTable.len.Goals as goal

pub overflow_sub-result : goal.overflow_sub-result
overflow_sub-result c =
    let long = offsets_long c.self.inside.offsets.now (texts_of c.self.inside.names.now) c.self.invariant.offsets in
    omega (arith, long)

pub returns : goal.returns
returns c =
    let long = offsets_long c.self.inside.offsets.now (texts_of c.self.inside.names.now) c.self.invariant.offsets in
    (let z : length c.self.inside.offsets.now / 4 - 1 ≡ length (texts_of c.self.inside.names.now) = omega (arith, long) in z)
    ∙ ap length c.self.view_is
