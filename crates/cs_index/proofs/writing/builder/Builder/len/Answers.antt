use Rattle.std.proofs.Common.{◌∙◌, ap, sym, length, arith}
use Rattle.cs_index.specs.BuilderInvariant.{bucket_lists}
use Rattle.cs_index.specs.Built.{Built}
use Rattle.cs_index.proofs.encoding.InvertedLists.{length-entries_of}
use Rattle.cs_index.proofs.writing.builder.Builder.len.Goals as goal

pub overflow_cast-result : goal.overflow_cast-result
overflow_cast-result c =
    let many = length-entries_of 0 c.self.inside.names (bucket_lists c.self.inside) in
    omega (arith, many, c.len.ensures, c.self.invariant.built.bound)

pub returns : goal.returns
returns c = c.len.ensures ∙ sym (length-entries_of 0 c.self.inside.names (bucket_lists c.self.inside))
    ∙ ap (λ (b : Built). length b.entries) c.self.view_is
