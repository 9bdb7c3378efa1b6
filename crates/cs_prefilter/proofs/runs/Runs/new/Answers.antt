use Rattle.std.proofs.Common.{Bool, List, refl, ap, ◌∙◌, arith}
use Rattle.cs_syntax.specs.Matching.{member}
use Rattle.cs_prefilter.proofs.RunLemmas.{is_a_byte, begins_anywhere}
use Rattle.cs_prefilter.proofs.runs.Runs.new.Goals as goal

pub invariant_of-result-clause-begins : goal.invariant_of-result-clause-begins
invariant_of-result-clause-begins c = ap (λ (set : List Bool). member set 10) c.all.ensures ∙ is_a_byte 10 (omega arith)

pub returns-clause-anywhere : goal.returns-clause-anywhere
returns-clause-anywhere c = begins_anywhere _ (λ is. (c.all.ensures, refl))
