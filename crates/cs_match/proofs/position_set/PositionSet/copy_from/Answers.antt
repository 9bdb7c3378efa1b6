use Rattle.std.proofs.Common.{◌≡◌, ℕ, List, length, sym, ◌∙◌, ap, subst, arith}
use Rattle.cs_match.specs.PositionSet.{positions_of, IsPositionSet}
use Rattle.cs_match.proofs.PositionSetLemmas.{length-positions_of}
use Rattle.cs_match.proofs.position_set.PositionSet.copy_from.Goals as goal

count_is : (c : goal.After-copy_from_slice-arg-1) → c.self.inside.count ≡ length c.args.self.now
count_is c = sym (length-positions_of c.self.inside.words.items c.self.inside.count) ∙ ap length c.self.view_is

pub copy_from_slice-requires : goal.copy_from_slice-requires
copy_from_slice-requires c = omega (arith, count_is c, c.self.invariant.enough, c.requires.enough, c.self.inside.words.ok.0)

pub invariant_of-self : goal.invariant_of-self
invariant_of-self c =
    subst (λ (ws : List ℕ). IsPositionSet ws c.self.inside.count) (sym c.copy_from_slice.ensures.items)
    (subst (λ n. IsPositionSet c.args.words.now n)
    (sym (sym (length-positions_of c.self.inside.words.items c.self.inside.count) ∙ ap length c.self.view_is)) c.requires)

pub returns : goal.returns
returns c =
    ap (λ (ws : List ℕ). positions_of ws c.self.inside.count) c.copy_from_slice.ensures.items
    ∙ ap (positions_of c.args.words.now) (sym (length-positions_of c.self.inside.words.items c.self.inside.count) ∙ ap length c.self.view_is)
