use Rattle.std.proofs.Common.{◌≡◌, ◌+◌, ◌-◌, ◌∙◌, ap, sym, ℕ, List, length, take, drop, length-drop, length-take, arith}
use Rattle.std.proofs.lemmas.List.{length-take-le, take-append-le, take-take}
use Rattle.cs_tree.specs.Store.{part_of}
use Rattle.cs_index.proofs.stored.ListPieces.{shown}
use Rattle.cs_index.proofs.stored.Windows.{read_after}
use Rattle.cs_index.proofs.reading.window.Window.read.Goals as goal

pub returns-clause-piece : goal.returns-clause-piece
returns-clause-piece g c bytes m has =
    let all : List ℕ = c.keep-kept.new.self.piece.items in
    let kept : ℕ = c.keep-kept.result in
    let n : ℕ = c.in_ok-n.n in
    let buf : List ℕ = c.fill_at.new.buf in
    let few = c.keep-kept.ensures.few in
    let size : kept ≡ length (take kept all) = sym (length-take-le kept all c.keep-kept.ensures.within) in
    let read = shown (λ b. take n buf ≡ part_of b (c.args.at + kept) (length buf)) (g.S.Store.model c.args.store.now) bytes m c.in_ok-n.ensures.bytes in
    let fits = length-take c.args.len all in
    let first : take kept c.as_mut_slice.result.now ≡ take kept all =
    ap (take kept) (c.as_mut_slice.ensures.value ∙ c.in_ok-resize.ensures.items)
    ∙ take-append-le kept (take c.args.len all) _ (omega (arith, fits, few, c.keep-kept.ensures.within)) ∙ take-take kept c.args.len all few in
    let part = length-take (length c.as_mut_slice.result.now - kept) (drop kept c.as_mut_slice.result.now) in
    let rest = length-drop kept c.as_mut_slice.result.now in
    let now = ap length (sym c.as_mut_slice.ensures.value) in
    let whole = c.in_ok-resize.ensures.len in
    let long = c.resize.new.self.ok.0 in
    read_after bytes (take kept all) buf _ _ _ _ c.args.at kept n c.resize.new.self.len c.args.len c.truncate.ensures.items first size
    (c.keep-kept.ensures.piece bytes has) c.in_ok-n.ensures.within
    (omega (arith, c.fill_at.ensures.len, part, rest, now, whole, long, few)) (omega (arith, whole)) read
