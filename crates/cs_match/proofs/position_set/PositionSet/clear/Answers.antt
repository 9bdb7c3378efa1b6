use Rattle.std.proofs.Common.{◌≡◌, ℕ, replicate, ◌∙◌}
use Rattle.std.specs.Prelude.{vec_len}
use Rattle.cs_match.proofs.PositionSetLemmas.{length-positions_of, positions_of-zeros, IsPositionSet-zeros}
use Rattle.cs_match.proofs.position_set.PositionSet.clear.Goals as goal

zeros : (c : goal.After-fill) → c.fill.new.self.items ≡ replicate {A = ℕ} (vec_len c.self.inside.words) 0
zeros c = c.fill.ensures.items (λ y e. e)

pub invariant_of-self : goal.invariant_of-self
invariant_of-self c = rw (zeros c) (IsPositionSet-zeros _ _ (c.self.inside.words.ok.0 ∙ c.self.invariant.enough))

pub returns : goal.returns
returns c =
    let m = c.self.inside in
    rw (zeros c, ← c.self.view_is, length-positions_of m.words.items m.count) (positions_of-zeros (vec_len m.words) m.count)
