use Rattle.std.proofs.Common.{◌≡◌, Bool, true, false, not, refl}
use mathlib.Core.Bool.{beq, xor}
use Rattle.cs_syntax.specs.Matching.{is_at_word_boundary}
use Rattle.cs_match.proofs.spans.pass.is_word_edge.Goals as goal

differ : (a b : Bool) → not (beq a b) ≡ xor a b
unfolding xor
differ true true = refl
differ true false = refl
differ false true = refl
differ false false = refl

pub returns : goal.returns
unfolding is_at_word_boundary
returns c = rw (c.is_word_before.ensures, c.is_word_after.ensures) (differ _ _)
