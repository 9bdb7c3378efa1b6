use Rattle.std.proofs.Common.{◌+◌, ◌-◌, ◌∙◌, ◌++◌, ap, sym, subst, ℕ, List, length, length-take, take, drop, arith}
use Rattle.std.proofs.lemmas.List.{take-append-drop}
use Rattle.cs_index.specs.IdStream.{ids_in}
use Rattle.cs_index.specs.StoredLists.{SkipsBelow, state_of}
use Rattle.cs_index.proofs.stored.ListPieces.{ids_skipped, moved, piece_is, run_taken}
use Rattle.cs_index.proofs.reading.stored_list.StoredList.skip_short.Goals as goal

pub returns-clause-skips : goal.returns-clause-skips
returns-clause-skips c bytes holds =
    let s = c.self.inside in
    let e = c.extent-ids.ensures in
    let len : ℕ = c.extent-ids.result.len in
    let piece : List ℕ = c.deref.result.now in
    let part : List ℕ = take (length piece - s.used) (drop s.used piece) in
    let ids : List ℕ = ids_in (take len part) c.extent-ids.result.count in
    let size = length-take len part in
    let written = ap length e.stream.written in
    subst (λ n. SkipsBelow bytes c.args.end c.args.self.now
    (state_of (moved s len (s.decoder.left - n) (s.decoder.next + c.extent-ids.result.next)))) (sym e.stream.counted)
    (subst (λ n. SkipsBelow bytes c.args.end c.args.self.now
    (state_of (moved s len (s.decoder.left - length ids) (s.decoder.next + n)))) (sym e.stream.follows)
    (ids_skipped bytes c.args.end _ c.args.self.now _
    (run_taken bytes c.args.end len ids (drop len part) s c.args.self.now c.self.view_is c.if-self.false c.self.invariant
    (sym (piece_is s.window.piece.items piece s.used c.deref.ensures.value) ∙ sym (take-append-drop len part)
    ∙ ap (λ (p : List ℕ). p ++ drop len part) e.stream.written)
    (omega (arith, size, written, e.within)) e.stream.rise (omega (arith, e.stream.counted, e.bound))
    (omega (arith, e.stream.follows, e.below, c.min-end.ensures, c.if-end-self.false))
    (omega (arith, e.stream.follows, e.below, c.min-end.ensures, c.if-end-self.false)) holds)))
