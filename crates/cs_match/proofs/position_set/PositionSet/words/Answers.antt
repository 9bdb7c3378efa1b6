use Rattle.std.proofs.Common.{◌≡◌, ℕ, List, length, sym, ◌∙◌, ap, subst}
use Rattle.cs_match.specs.PositionSet.{positions_of, IsPositionSet}
use Rattle.cs_match.proofs.PositionSetLemmas.{length-positions_of}
use Rattle.cs_match.proofs.position_set.PositionSet.words.Goals as goal

count_is : (c : goal.After-deref) → c.self.inside.count ≡ length c.args.self.now
count_is c = sym (length-positions_of c.self.inside.words.items c.self.inside.count) ∙ ap length c.self.view_is

pub returns-clause-set : goal.returns-clause-set
returns-clause-set c =
    subst (λ (ws : List ℕ). IsPositionSet ws (length c.args.self.now)) (sym c.deref.ensures.value)
    (subst (λ n. IsPositionSet c.self.inside.words.items n) (count_is c) c.self.invariant)

pub returns-clause-same : goal.returns-clause-same
returns-clause-same c =
    ap (λ (ws : List ℕ). positions_of ws (length c.args.self.now)) c.deref.ensures.value
    ∙ ap (positions_of c.self.inside.words.items) (sym (count_is c)) ∙ c.self.view_is
