use Rattle.std.proofs.Common.{◌≡◌, Bool, List, drop, max, refl, sym, ap, subst, ◌∙◌, arith}
use Rattle.std.proofs.lemmas.Bool.{false≢true}
use Rattle.cs_syntax.specs.Matching.{member}
use Rattle.cs_prefilter.specs.Runs.{EndsAt}
use Rattle.cs_prefilter.proofs.RunLemmas.{is_a_byte, same_ends, all_behind}
use Rattle.cs_prefilter.proofs.runs.Runs.cut.Goals as goal

pub returns-then-index-self-clause-ends : goal.returns-then-index-self-clause-ends
returns-then-index-self-clause-ends c = λ line j e.
    let start : max c.args.index c.args.self.now.start ≡ c.args.self.now.start = omega (arith, c.if-index-self.true) in
    subst (λ n. EndsAt line c.args.self.now n j) start e

pub invariant_of-self-clause-begins : goal.invariant_of-self-clause-begins
invariant_of-self-clause-begins c = ap (λ (set : List Bool). member set 10) c.all-self.ensures ∙ is_a_byte 10 (omega arith)

pub returns-clause-ends : goal.returns-clause-ends
returns-clause-ends c = λ line j e.
    let old = c.args.self.now in
    let start : max c.args.index old.start ≡ c.args.index = omega (arith, c.if-index-self.false) in
    same_ends line old _ (max c.args.index old.start) c.args.index j j
    (ap (λ n. drop n old.sets.items) start ∙ ap (drop c.args.index) (sym c.in_ok-keep_run.ensures.run.sets)) refl e
    (λ at. all_behind line c.all-self.result e.ends.start e.is_line c.all-self.ensures)
    (λ at is. absurd (false≢true is))

pub returns-clause-best : goal.returns-clause-best
returns-clause-best c = λ line j e has. c.in_ok-keep_run.ensures.best line j e has
