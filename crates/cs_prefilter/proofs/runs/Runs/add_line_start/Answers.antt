use Rattle.std.proofs.Common.{refl, sym, ◌∙◌, arith}
use Rattle.cs_prefilter.proofs.RunLemmas.{follow_still}
use Rattle.cs_prefilter.proofs.runs.Runs.add_line_start.Goals as goal

pub returns : goal.returns
returns c = follow_still _ _ _ (λ line i j h. h.0 ∙ sym h.1) refl refl
    (λ line i j h e some. let no : ⊥ = omega (arith, some, h.0, e.ends.long) in absurd no)
    (λ line i j h e is. e.edge refl is) (λ line i j h e has. has)
