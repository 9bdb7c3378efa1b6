use Rattle.std.proofs.Common.{◌≡◌, ◌≤◌, ◌⊎◌, inl, inr, refl, arith}
use Rattle.std.specs.Prelude.{None}
use Rattle.std.proofs.lemmas.Bool.{cases_lt}
use Rattle.cs_syntax.specs.Matching.{rep}
use Rattle.cs_trigram.proofs.TruncationLemmas.{concatenations_via}
use Rattle.cs_trigram.proofs.EndStringOriginLemmas.{any_end_strings, end_strings_of_iteration, end_strings_of_any_iterations, end_strings_repeated}
use Rattle.cs_trigram.proofs.end_strings.end_strings_of_repeat.Goals as goal

pub loop-iteration-init : goal.loop-iteration-init
loop-iteration-init c = λ direction t a.
    let any = c.in_ok-bare_end_string.field-0.items in
    let begun = c.in_ok-begun.begun.items in
    let some =
    end_strings_of_iteration direction c.args.once.now any begun t 0
    (concatenations_via _ _ c.args.once.now any begun refl c.deref.ensures.value c.in_ok-begun.ensures.all) a
    (any_end_strings direction any (rep t 0 None) c.in_ok-bare_end_string.ensures) in
    end_strings_of_any_iterations direction begun c.in_ok-bare_end_string-2.field-0.items
    c.in_ok-end_strings.end_strings.items t c.in_ok-bare_end_string-2.ensures
    c.in_ok-end_strings.ensures some

pub loop-iteration-preserved : goal.loop-iteration-preserved
loop-iteration-preserved c = λ direction t a.
    let fars = c.loop-iteration.end_strings.items in
    let next = c.in_ok-end_strings-2.end_strings.items in
    end_strings_of_iteration direction c.args.once.now fars next t c.loop-iteration._iteration
    (concatenations_via _ _ c.args.once.now fars next refl c.deref-in-loop-iteration.ensures.value
    c.in_ok-end_strings-2.ensures.all) a (c.loop-iteration.invariant direction t a)

pub returns : goal.returns
returns c = λ direction t a most.
    let n = c.loop-iteration._iteration in
    let within : n ≤ c.args.least = omega arith in
    let enough : (n ≡ c.args.least) ⊎ (3 ≤ n) =
    elim (cases_lt 3 c.args.least) [ inl lt ↦ inr (omega arith) | inr le ↦ inl (omega arith) ] in
    end_strings_repeated direction c.loop-iteration.end_strings.items t n c.args.least most within enough
    (c.loop-iteration.invariant direction t a)
