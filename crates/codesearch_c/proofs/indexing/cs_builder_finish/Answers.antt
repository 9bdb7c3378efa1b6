use mir.Val.{to_z, of_z}
use Rattle.std.proofs.Common.{Err, ap, w32, ◌≡◌, ◌∙◌}
use Rattle.std.proofs.lemmas.Int.{to_z-of_z}
use Rattle.cs_index.specs.Built.{Built}
use Rattle.codesearch_c.specs.Building.{IsFinished}
use Rattle.codesearch_c.proofs.BuildingLemmas.{empty_is_none, taken, filled, not_finished}
use Rattle.codesearch_c.proofs.indexing.cs_builder_finish.Goals as goal

pub returns-in-Ok-clause-finished : goal.returns-in-Ok-clause-finished
returns-in-Ok-clause-finished c = λ empty.
    let builder = c.in-Some.builder in
    let index = c.fill_bytes.new.slot.handle.value in
    let shown : to_z w32 (of_z w32 c.fill_bytes.result) ≡ c.fill_bytes.result =
    to_z-of_z w32 c.fill_bytes.result (record { sfits = c.fill_bytes.type_inv }) in
    taken c.args.slot.now.handle.value c.take_builder.new.slot.handle.value c.take_builder.result builder _
    (λ (built : Built). IsFinished built index (to_z w32 (of_z w32 c.fill_bytes.result))) c.take_builder.ensures
    c.in-Some.is
    (filled builder c.in-Ok.bytes.items index c.fill_bytes.result (to_z w32 (of_z w32 c.fill_bytes.result))
    c.in-Ok.ensures.ok shown c.fill_bytes.ensures)

pub returns-in-Err-clause-finished : goal.returns-in-Err-clause-finished
returns-in-Err-clause-finished c = λ empty.
    let builder = c.in-Some.builder in
    let index = c.args.index.now.handle.value in
    let code = c.build_code.result in
    taken c.args.slot.now.handle.value c.take_builder.new.slot.handle.value c.take_builder.result builder _
    (λ (built : Built). IsFinished built index (to_z w32 (of_z w32 code))) c.take_builder.ensures c.in-Some.is
    (not_finished builder index c.in-Err.fault (to_z w32 (of_z w32 code)) (empty_is_none index empty)
    (to_z-of_z w32 code (record { sfits = c.build_code.type_inv }) ∙ c.build_code.ensures)
    (λ is. c.in-Err.ensures.too_large (ap Err is)) c.in-Err.ensures.other)
