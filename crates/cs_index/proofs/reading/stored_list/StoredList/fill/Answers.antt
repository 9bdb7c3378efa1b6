use Rattle.std.proofs.Common.{◌≡◌, ◌+◌, ◌-◌, ◌∙◌, inl, inr, ap, ℕ, List, arith}
use Rattle.std.proofs.lemmas.Bool.{cases_lt}
use Rattle.cs_tree.specs.Store.{part_of}
use Rattle.cs_index.proofs.stored.ListPieces.{new_piece, still_ready}
use Rattle.cs_index.proofs.stored.Windows.{list_from, on_ok}
use Rattle.cs_index.proofs.reading.stored_list.StoredList.fill.Goals as goal
use Rattle.cs_index.proofs.reading.stored_list.StoredList.fill.Goals.{then-len-self-ge-VARINT_LEN-via-then-len-self-ge-VARINT_LEN, then-len-self-ge-VARINT_LEN-via-else-len-self-ge-VARINT_LEN+then-self-len}

pub returns-then-len-self-ge-VARINT_LEN-clause-ready : goal.returns-then-len-self-ge-VARINT_LEN-clause-ready
returns-then-len-self-ge-VARINT_LEN-clause-ready g c bytes is holds =
    let s = c.self.inside in
    let len = c.len-len.ensures ∙ s.window.piece.ok.0 in
    still_ready bytes s c.args.self.now c.self.view_is c.self.invariant.used_within
    (elim c.then-len-self-ge-VARINT_LEN.branch [
      | then-len-self-ge-VARINT_LEN-via-then-len-self-ge-VARINT_LEN w ↦ inl (omega (arith, len, w.if-len-self-ge-VARINT_LEN.true))
      | then-len-self-ge-VARINT_LEN-via-else-len-self-ge-VARINT_LEN+then-self-len w ↦ inr (omega (arith, len, w.if-self-len.true))
    ]) holds

pub returns-clause-ready : goal.returns-clause-ready
returns-clause-ready g c bytes is holds =
    let s = c.self.inside in
    let at : ℕ = c.read.new.self.start + 0 in
    let len : ℕ = c.min-len.result in
    let piece : List ℕ = c.read.new.self.piece.items in
    on_ok c.read.result (λ read. new_piece bytes piece at (s.stop - at) len (omega (arith, c.min.ensures, c.min-len.ensures, c.read.ensures.start))
    (elim (cases_lt len 5) [
      | inl less ↦ inl (omega (arith, less, c.min.ensures, c.min-len.ensures, c.self.invariant.room, c.read.ensures.start))
      | inr more ↦ inr more
    ])
    (read ∙ ap (λ n. part_of bytes n len) (let z : s.window.start + s.used ≡ at = omega (arith, c.read.ensures.start) in z)))
    (c.read.ensures.piece bytes is (list_from bytes s c.args.self.now c.self.view_is holds))
