use Rattle.std.proofs.Common.{◌≡◌, ◌+◌, ◌-◌, ◌∙◌, ap, sym, subst, ℕ, List, length, drop, length-take, length-drop, arith}
use Rattle.std.proofs.lemmas.Bool.{ltb-false}
use Rattle.cs_tree.specs.Store.{part_of}
use Rattle.cs_index.specs.Windows.{StandAt}
use Rattle.cs_index.proofs.stored.Windows.{has_from, stand}
use Rattle.cs_index.proofs.reading.window.Window.read_on.Goals as goal

pub returns-clause-piece : goal.returns-clause-piece
returns-clause-piece g c bytes m is =
    let piece : List ℕ = c.read.new.self.piece.items in
    let at : ℕ = c.args.self.now.start + c.args.used in
    subst (λ (n : ℕ). StandAt bytes n piece) (sym c.read.ensures.start) (stand bytes piece at c.min-len.result
    (c.in_ok-read.ensures.piece bytes m (has_from bytes c.args.self.now at is)))

pub returns-clause-end : goal.returns-clause-end
returns-clause-end g c bytes m is within none =
    let few = ltb-false (c.len.result - c.args.used) c.len-2.result none in
    let one = c.len.ensures ∙ c.args.self.now.piece.ok.0 in
    let two = c.len-2.ensures ∙ c.read.new.self.piece.ok.0 in
    let at : ℕ = c.args.self.now.start + c.args.used in
    let len : ℕ = c.min-len.result in
    let read = c.in_ok-read.ensures.piece bytes m (has_from bytes c.args.self.now at is) in
    let l = ap length read in
    let t = length-take len (drop at bytes) in
    let d = length-drop at bytes in
    let whole : len ≡ c.args.stop - c.read.new.self.start =
    omega (arith, l, t, d, within, few, one, two, c.min-len.ensures, c.max.ensures, c.read.ensures.start, c.requires.used, c.requires.window.within) in
    read ∙ (λ i. part_of bytes (sym c.read.ensures.start i) (whole i))
