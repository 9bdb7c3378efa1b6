use Rattle.std.proofs.Common.{◌++◌, ◌-◌, ◌+◌, take, drop, ap, ◌∙◌, arith, length-take, length-drop}
use Rattle.cs_lines.specs.Buffer.{pending_bytes}
use Rattle.cs_lines.proofs.BufferLemmas.{refilled, pending_more}
use Rattle.cs_lines.proofs.buffer.LineBuffer.read.Goals as goal

pub returns-clause-text : goal.returns-clause-text
unfolding pending_bytes
returns-clause-text g c =
    let buffer = c.make_room.new.self in
    let bytes = c.read_behind.new.bytes in
    let n = c.in-Ok.n in
    let before = c.read_behind.ensures.before ∙ ap (λ l. take buffer.end l) c.deref_mut.ensures.value in
    let size = c.read_behind.auto.bytes ∙ c.deref_mut.ensures.len in
    record {
      bytes = take n (drop buffer.end bytes);
      size = omega (arith, length-take n (drop buffer.end bytes), length-drop buffer.end bytes, c.in-Ok.ensures.size);
      text = ap (λ l. take (buffer.end + n - buffer.start) (drop buffer.start l)) (refilled buffer.bytes.len buffer.bytes.items bytes size)
          ∙ pending_more buffer bytes before n
          ∙ ap (λ l. l ++ take n (drop buffer.end bytes)) c.in_ok-make_room.ensures.same;
      consumed = c.in-Ok.ensures.model.0;
      end = λ none. c.in-Ok.ensures.model.1 none (omega (arith, length-drop buffer.end bytes, c.in_ok-make_room.ensures.room, size));
    }
