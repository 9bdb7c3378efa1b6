use Rattle.std.proofs.Common.{Bool, List, refl, ap, ◌∙◌, arith}
use Rattle.std.proofs.lemmas.Bool.{false≢true}
use Rattle.cs_syntax.specs.Matching.{member}
use Rattle.cs_prefilter.proofs.RunLemmas.{is_a_byte, all_behind, begins_anywhere, follow_still, follow_none}
use Rattle.cs_prefilter.proofs.runs.Runs.begin_repeat.Goals as goal

pub returns-then-self-len-clause-anywhere : goal.returns-then-self-len-clause-anywhere
returns-then-self-len-clause-anywhere c =
    begins_anywhere c.args.self.now (λ is. let no : ⊥ = omega (arith, is, c.if-self-len.true, c.len.ensures) in absurd no)

pub returns-then-self-len-clause-follow : goal.returns-then-self-len-clause-follow
returns-then-self-len-clause-follow c = follow_none _ (λ line i j h. h) _

pub invariant_of-self-clause-begins : goal.invariant_of-self-clause-begins
invariant_of-self-clause-begins c = ap (λ (set : List Bool). member set 10) c.all-self.ensures ∙ is_a_byte 10 (omega arith)

pub returns-clause-anywhere : goal.returns-clause-anywhere
returns-clause-anywhere c = begins_anywhere _ (λ is. (c.all-self.ensures, refl))

pub returns-clause-follow : goal.returns-clause-follow
returns-clause-follow c = follow_still _ _ _ (λ line i j h. h) refl refl
    (λ line i j h e. all_behind line c.all-self.result e.ends.start e.is_line c.all-self.ensures)
    (λ line i j h e is. absurd (false≢true is)) (λ line i j h e has. has)
