use Rattle.std.proofs.Common.{◌≡◌, suc, ◌+◌, ◌-◌, ◌||◌, false, drop, sym, ◌∙◌, ap, refl, arith}
use Rattle.std.proofs.Math.Bool.{and_assoc, and-true, or-false, or-true}
use Rattle.cs_syntax.specs.Matching.{none}
use Rattle.cs_match.specs.declared.state.LookAround.{LookAround}
use Rattle.cs_match.specs.Expansion.{copies}
use Rattle.cs_match.specs.Glushkov.{position_count, nullable, nullable_all, is_final}
use Rattle.cs_match.specs.Parts.{optional_run, options}
use Rattle.cs_match.proofs.ShapeLemmas.{position_count_run, repeats_run}
use Rattle.cs_match.proofs.TraversalLemmas.{position_count_optional, repeats_options, nullable_optional, is_final_optional, accepted_all}
use Rattle.cs_match.proofs.OptionLemmas.{position_count_options, nullable_options, is_final_many}
use Rattle.cs_match.proofs.glushkov.end_options.Goals as goal

pub end_run-ends-requires : goal.end_run-ends-requires
end_run-ends-requires c =
    let one : c.args.count - c.loop-k.k ≡ suc (c.args.count - (c.loop-k.k + 1)) = omega arith in
    omega (
      arith,
      c.requires,
      c.loop-k.invariant.position,
      ap (λ k. position_count (options c.args.n k)) one,
      position_count_optional c.args.n,
      position_count_run c.args.n,
    )

pub loop-k-preserved : goal.loop-k-preserved
loop-k-preserved c =
    let n = c.args.n in
    let i = c.loop-k.invariant in
    let p = c.loop-k.cursor.position in
    let ms = drop p c.args.positions.now in
    let acc = c.loop-k.all.accepting in
    let t = optional_run n in
    let ts = copies (c.args.count - (c.loop-k.k + 1)) t none in
    let one : c.args.count - c.loop-k.k ≡ suc (c.args.count - (c.loop-k.k + 1)) = omega arith in
    let any : LookAround = record { first = false; last = false; edge = false } in
    let next : c.end_run-ends.new.cursor.position ≡ p + position_count t =
    omega (arith, (c.end_run-ends.ensures any).2, position_count_run n, position_count_optional n) in
    let final : (here : LookAround) → c.or.result.accepting ≡ is_final t ms here =
    λ here. c.or.ensures.accepting ∙ ap (λ x. c.end_run-ends.result.accepting || x) c.within.ensures.accepting
    ∙ or-false _ ∙ (c.end_run-ends.ensures here).0
    ∙ sym (is_final_optional n ms here) in
    let null : (here : LookAround) → c.or.result.nullable ≡ nullable t here =
    λ here. c.or.ensures.nullable ∙ ap (λ x. c.end_run-ends.result.nullable || x) c.within.ensures.nullable ∙ or-true _
    ∙ sym (nullable_optional n here) in
    record {
      position = omega (arith, next, rw one at i.position);
      repeat = omega (arith, (c.end_run-ends.ensures any).3, repeats_run n, i.repeat);
      accepting = λ here.
          rw (c.then-all.ensures.accepting, final here, null here)
          (accepted_all t ts c.args.positions.now here p _ next acc _ ((rw one at i.accepting) here));
      nullable = λ here.
          rw (c.then-all.ensures.nullable, null here)
          (and_assoc c.loop-k.all.nullable (nullable t here) (nullable_all ts here) ∙ (rw one at i.nullable) here);
    }

pub returns : goal.returns
returns c = λ here.
    let i = c.loop-k.invariant in
    let zero : c.args.count - c.loop-k.k ≡ 0 = omega (arith, c.loop-k-test.false) in
    let none : position_count (options c.args.n (c.args.count - c.loop-k.k)) ≡ 0 = ap (λ k. position_count (options c.args.n k)) zero in (
      sym (and-true c.loop-k.all.accepting) ∙ (rw zero at i.accepting) here,
      sym (and-true c.loop-k.all.nullable) ∙ (rw zero at i.nullable) here,
      omega (arith, none, i.position),
      omega (arith, i.repeat, repeats_options c.args.n c.args.count),
    )

pub overflow_mul-end : goal.overflow_mul-end
overflow_mul-end c = omega (arith, c.requires, position_count_options c.args.n c.args.count, c.len.ensures, c.len.type_inv)

pub overflow_add-end : goal.overflow_add-end
overflow_add-end c = omega (arith, c.requires, position_count_options c.args.n c.args.count, c.len.ensures, c.len.type_inv)

pub first_in-requires : goal.first_in-requires
first_in-requires c = omega (arith, c.requires, position_count_options c.args.n c.args.count)

pub returns-then-are_many : goal.returns-then-are_many
returns-then-are_many c = λ here. (
  is_final_many c.args.n c.args.cursor.now.position c.args.count c.first_in.result c.option_bits.result
      c.args.positions.now (c.if-are_many.ensures refl).0 (c.if-are_many.ensures refl).1
      c.option_bits.ensures c.first_in.ensures.found c.first_in.ensures.first here,
  sym (nullable_options c.args.n c.args.count here),
  omega (arith, position_count_options c.args.n c.args.count),
  omega (arith, repeats_options c.args.n c.args.count),
)
