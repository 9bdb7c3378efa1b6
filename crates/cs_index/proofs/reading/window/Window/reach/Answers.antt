use Rattle.std.proofs.Common.{ap, sym, subst, ℕ, List, length, drop, length-take, length-drop, arith}
use Rattle.cs_index.specs.Windows.{StandAt}
use Rattle.cs_index.proofs.stored.Windows.{has_from, on_ok, stand}
use Rattle.cs_index.proofs.reading.window.Window.reach.Goals as goal

pub returns-clause-piece : goal.returns-clause-piece
returns-clause-piece g c bytes m is =
    let piece : List ℕ = c.read.new.self.piece.items in
    on_ok c.read.result (λ read. subst (λ (n : ℕ). StandAt bytes n piece) (sym c.read.ensures.start) (stand bytes piece c.args.at c.args.most read))
    (c.read.ensures.piece bytes m (has_from bytes c.args.self.now c.args.at is))

pub returns-clause-long : goal.returns-clause-long
returns-clause-long g c bytes m is within =
    let t = length-take c.args.most (drop c.args.at bytes) in
    let d = length-drop c.args.at bytes in
    on_ok c.read.result (λ read. let l = ap length read in omega (arith, l, t, d, within, c.requires.len, c.read.ensures.start))
    (c.read.ensures.piece bytes m (has_from bytes c.args.self.now c.args.at is))
