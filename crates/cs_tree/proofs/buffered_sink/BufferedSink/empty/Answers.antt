use Rattle.std.proofs.Common.{rules, [], ap, slice_range}
use Rattle.cs_tree.proofs.BufferLemmas.{moves_held, held_parts}
use Rattle.cs_tree.proofs.GrowsLemmas.{Grows-chain}
use Rattle.cs_tree.proofs.buffered_sink.BufferedSink.empty.Goals as goal

pub pieces-preserved : goal.pieces-preserved
pieces-preserved g c =
    let sink = c.pieces.self in
    record {
      within = search rules;
      failed = search rules;
      taken = Grows-chain _ _ _ [] [] c.pieces.invariant.taken
          (moves_held (g.O.Sink.model sink.inner) (g.O.Sink.model c.write.new.self) _ _ _
          (held_parts sink.bytes.items _ sink.start sink.end c.in_ok-self.field-0 (search rules)
          (ap (λ bytes. slice_range bytes sink.start sink.end) c.deref.ensures.value))
          c.in_ok-self.ensures.bytes);
      size = search rules;
    }
