-- The steps of the characters of a program.
use Rattle.std.proofs.Common.{◌≡◌, ℕ, true, List, sym, ap, ◌∙◌}
use Rattle.cs_syntax.specs.Matching.{Tree}
use Rattle.cs_syntax.specs.Cuts.{AreCutsOf}
use Rattle.cs_syntax.specs.CharSteps.{char_step}
use Rattle.cs_syntax.specs.declared.char_step.Unfinished.{Unfinished}
use Rattle.cs_syntax.proofs.CharStepLemmas.{char_step_members}
use Rattle.cs_match.specs.declared.state.LookBehind.{LookBehind}
use Rattle.cs_match.specs.Glushkov.{cuts_of, char_step_of}
use Rattle.cs_match.specs.LookBehind.{look_behind}

-- the step of a program's cuts
pub char_step_is : (t : Tree) (bits : LookBehind) (cuts : List ℕ) → bits ≡ look_behind t → bits.char ≡ true →
    AreCutsOf t cuts → (at : Unfinished) (b : ℕ) →
    char_step cuts at b ≡ char_step_of t at b
char_step_is t bits cuts is on of at b =
    let char : (look_behind t).char ≡ true = sym (ap (λ (x : LookBehind). x.char) is) ∙ on in
    rw char (char_step_members cuts (cuts_of t) of.members at b)
