use Rattle.std.proofs.Common.{◌≡◌, ◌∙◌, ◌≤◌, ◌++◌, ◌/◌, ◌*◌, ap, subst, length, sym, ℕ, List, arith}
use Rattle.cs_state.specs.StateFile.{end_of, sealed}
use Rattle.cs_state.specs.SummedOutputs.{bytes_given}
use Rattle.cs_state.specs.Sums.{piece_count, sums_of}
use Rattle.cs_state.proofs.FormLemmas.{sealed_len}
use Rattle.cs_state.proofs.SumLemmas.{all_sums_len}
use Rattle.cs_state.proofs.summed_output.SummedOutput.finish.Goals as goal
use Rattle.cs_state.proofs.summed_output.SummedOutput.finish.Goals.{then-len-via-then-len, then-len-via-else-len+then-len-2}

pub returns-then-len-clause-too_large : goal.returns-then-len-clause-too_large
returns-then-len-clause-too_large g c = λ whole fault.
    let seal = c.args.self.seal in
    let body : List ℕ = bytes_given g.O.Output.given c.args.self in
    let completed = c.complete.new.self in
    let sums = ap length (c.in_ok-complete.ensures.sums (whole c.if-not-self.false)) ∙ all_sums_len seal body in
    let len = (whole c.if-not-self.false).len in
    let all = sealed_len seal body in
    let same = c.complete.ensures.same.1 in
    let many = completed.sums.ok.0 in
    elim c.then-len.branch [
      | then-len-via-then-len w ↦ omega (arith, len, all, same, w.if-len.true)
      | then-len-via-else-len+then-len-2 w ↦ omega (arith, len, all, same, many, sums, w.len.ensures, w.if-len.false, w.if-len-2.true)
    ]

pub returns-clause-bytes : goal.returns-clause-bytes
unfolding sealed
returns-clause-bytes g c = λ whole.
    let seal = c.args.self.seal in
    let body : List ℕ = bytes_given g.O.Output.given c.args.self in
    let completed = c.complete.new.self in
    let sums : completed.sums.items ≡ sums_of seal body = c.in_ok-complete.ensures.sums (whole c.if-not-self.false) in
    let size = ap length sums ∙ all_sums_len seal body in
    let counted = (whole c.if-not-self.false).len in
    let same = c.complete.ensures.same.1 in
    let many = completed.sums.ok.0 in
    let len : completed.len ≡ length body = omega (arith, counted, same, c.if-len.false) in
    let number : c.len-2.result / 8 ≡ piece_count completed.len = omega (arith, many, size, len, c.len-2.ensures) in
    c.in_ok-append_end.ensures number
    ∙ (λ i. (c.in_ok-append.ensures.given
    ∙ (λ j. c.in_ok-complete.ensures.given j ++ (c.deref.ensures.value ∙ sums) j)) i ++ end_of (c.complete.ensures.same.0 i) (len i))

pub returns-clause-short : goal.returns-clause-short
returns-clause-short g c = λ whole.
    let seal = c.args.self.seal in
    let body : List ℕ = bytes_given g.O.Output.given c.args.self in
    let completed = c.complete.new.self in
    let sums = ap length (c.in_ok-complete.ensures.sums (whole c.if-not-self.false)) ∙ all_sums_len seal body in
    let len = (whole c.if-not-self.false).len in
    let all = sealed_len seal body in
    let given = ap length (returns-clause-bytes g c whole) in
    let same = c.complete.ensures.same.1 in
    let many = completed.sums.ok.0 in
    omega (arith, len, all, given, same, many, sums, c.len.ensures, c.if-len.false, c.if-len-2.false)
