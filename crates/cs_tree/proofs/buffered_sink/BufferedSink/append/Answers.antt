use Rattle.std.proofs.Common.{rules, ap, ◌∙◌, ◌++◌, take, slice_range, length, ◌+◌, ◌-◌}
use Rattle.std.proofs.lemmas.List.{with_items_is}
use borrow.Rule.Slice.PartMut.{post_of}
use Rattle.cs_tree.proofs.BufferLemmas.{adds_held, held_on}
use Rattle.cs_tree.proofs.buffered_sink.BufferedSink.append.Goals as goal

pub returns-clause-bytes : goal.returns-clause-bytes
returns-clause-bytes g c =
    let sink = c.args.self.now in
    let buf = c.args.buf.now in
    let bytes = c.deref_mut.result.now in
    let end = sink.end + length buf in
    let after = post_of sink.end (end - sink.end) bytes in
    let put = c.copy_from_slice.new.self in
    adds_held (g.O.Sink.model sink.inner) (slice_range sink.bytes.items sink.start sink.end) _ buf
    (ap (λ bytes. slice_range bytes sink.start end)
    (with_items_is sink.bytes (take sink.end bytes ++ (put ++ after)) (search rules))
    ∙ held_on bytes put buf after sink.start sink.end c.copy_from_slice.ensures.after (search rules) (search rules)
    ∙ ap (λ bytes. slice_range bytes sink.start sink.end ++ buf) c.deref_mut.ensures.value)
