use Rattle.std.proofs.Common.{◌≡◌, ◌∙◌, ◌++◌, ◌-◌, Ok, ap, drop, length, length-drop, length-take, option_map, subst, sym, take, List, ℕ, arith}
use Rattle.std.proofs.lemmas.List.{take-take}
use Rattle.cs_tree.specs.Store.{ReadShows, part_of}
use Rattle.cs_state.proofs.PieceLemmas.{shows_piece}
use Rattle.cs_state.proofs.summed_bytes.SummedBytes.read_piece.Goals as goal

pub returns-clause-bytes : goal.returns-clause-bytes
returns-clause-bytes g c =
    let len = c.args.self.now.len in
    let model = g.S.Store.model c.args.self.now.store in
    let piece : List ℕ = c.deref.result.now in
    let buf : List ℕ = c.args.buf.now in
    let from : ℕ = c.min.result in
    let n : ℕ = c.min-n.result in
    let l = ap length c.deref.ensures.value ∙ sym c.reach.new.self.piece.ok.0 in
    let d = length-drop from piece in
    let t = length-take (length piece - from) (drop from piece) in
    let copied : c.copy_from_slice.new.self ≡ part_of piece from n = c.copy_from_slice.ensures.after
    ∙ take-take n (length piece - from) (drop from piece) (omega (arith, c.min-n.ensures, t)) in
    subst (λ (b : List ℕ). ReadShows (option_map (take len) model) c.args.at (Ok n) (b ++ drop n buf)) (sym copied)
    (shows_piece len c.args.at from n model piece buf (λ all m. c.deref.ensures.value ∙ (c.in_ok-reach.ensures.tested all m).0)
    (omega (arith, c.min.ensures, c.len.ensures, l)) (omega (arith, c.min-n.ensures, t, d)))
