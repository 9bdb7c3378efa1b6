use Rattle.std.proofs.Common.{◌≡◌, ℕ, suc, ◌+◌, ◌-◌, ◌≤◌, ◌∷◌, ◌||◌, ◌++◌, Bool, List, take, drop, length, refl, sym, ◌∙◌, ap, arith, length-append, length-take, length-drop, take-append-drop, true≢false}
use Rattle.std.proofs.Math.Bool.{and-true, or_comm}
use Rattle.cs_syntax.specs.Matching.{none}
use Rattle.cs_match.specs.Expansion.{copies}
use Rattle.cs_match.specs.Glushkov.{position_count, accepts}
use Rattle.cs_match.specs.Entered.{entered}
use Rattle.cs_match.specs.Parts.{run, optional_run, options}
use Rattle.cs_match.proofs.OptionLemmas.{position_count_options, accepts_many, entered_many}
use Rattle.cs_match.proofs.ShapeLemmas.{position_count_run, repeats_run}
use Rattle.cs_match.proofs.TraversalLemmas.{position_count_optional, repeats_options, accepts_optional, entered_optional, accepted_all, entered_shifted, entered_ahead, all_entered}
use Rattle.cs_match.proofs.glushkov.enter_options.Goals as goal
use Rattle.cs_match.proofs.glushkov.enter_options.Goals.{then-enter, else-enter}

pub enter_run-accepting-requires : goal.enter_run-accepting-requires
enter_run-accepting-requires c =
    let one : c.args.count - c.loop-k.k ≡ suc (c.args.count - (c.loop-k.k + 1)) = omega arith in (
      omega (
        arith,
        c.requires.0,
        c.loop-k.invariant.position,
        ap (λ k. position_count (options c.args.n k)) one,
        position_count_optional c.args.n,
        position_count_run c.args.n,
      ),
      c.loop-k.invariant.shifted,
    )

pub loop-k-preserved : goal.loop-k-preserved
loop-k-preserved c =
    let n = c.args.n in
    let i = c.loop-k.invariant in
    let p = c.loop-k.cursor.position in
    let ms = c.args.at.now.positions.now in
    let here = c.args.at.now.here in
    let acc = c.loop-k.accepting in
    let first = c.args.entries.now in
    let old = c.loop-k.entries in
    let new = c.enter_run-accepting.new.entries in
    let t = optional_run n in
    let ts = copies (c.args.count - (c.loop-k.k + 1)) t none in
    let one : c.args.count - c.loop-k.k ≡ suc (c.args.count - (c.loop-k.k + 1)) = omega arith in
    let e = c.enter_run-accepting.ensures in
    let next : c.enter_run-accepting.new.cursor.position ≡ p + position_count t =
    omega (arith, e.2, position_count_run n, position_count_optional n) in
    let room : p + position_count t ≤ length ms = omega (arith, c.requires.0, rw one at i.position) in
    let moved : new ≡ take p old ++ (entered t acc (drop p ms) here ++ drop (p + position_count t) old) =
    e.1 ∙ ap (λ (k : ℕ). take p old ++ (entered (run n) acc (drop p ms) here ++ drop (p + k) old))
    (position_count_run n ∙ sym (position_count_optional n))
    ∙ ap (λ (xs : List Bool). take p old ++ (xs ++ drop (p + position_count t) old)) (sym (entered_optional n acc (drop p ms) here)) in
    let left : (c.enter_run-accepting.result || acc) ≡ accepts t acc (drop p ms) here =
    ap (λ x. x || acc) e.0 ∙ sym (accepts_optional n acc (drop p ms) here) in
    record {
      position = omega (arith, next, rw one at i.position);
      repeat = omega (arith, e.3, repeats_run n, i.repeat);
      accepting = rw left (accepted_all t ts ms here p _ next acc _ (rw one at i.accepting));
      shifted = entered_shifted t ts ms first old new here p _ acc next room i.shifted i.ahead moved;
      ahead = entered_ahead t ts ms first old new here p _ acc next room i.shifted i.ahead moved;
      entries = rw left (all_entered t ts ms first old new here p _ acc next room i.shifted i.ahead moved _ (rw one at i.entries));
    }

pub returns : goal.returns
returns c =
    let i = c.loop-k.invariant in
    let p = c.loop-k.cursor.position in
    let es = c.loop-k.entries in
    let here : p ≡ p + 0 = omega arith in
    let zero : c.args.count - c.loop-k.k ≡ 0 = omega (arith, c.loop-k-test.false) in
    let none : position_count (options c.args.n (c.args.count - c.loop-k.k)) ≡ 0 = ap (λ k. position_count (options c.args.n k)) zero in (
      sym (and-true c.loop-k.accepting) ∙ (rw zero at i.accepting),
      sym (take-append-drop p es) ∙ ap (λ (xs : List Bool). take p es ++ xs) (i.ahead ∙ ap (λ k. drop k c.args.entries.now) here)
          ∙ (rw zero at i.entries),
      omega (arith, none, i.position),
      omega (arith, i.repeat, repeats_options c.args.n c.args.count),
    )

pub overflow_mul-end : goal.overflow_mul-end
overflow_mul-end c =
    omega (arith, c.requires.0, c.requires.1.long, position_count_options c.args.n c.args.count, c.len.ensures, c.len.type_inv)

pub overflow_add-end : goal.overflow_add-end
overflow_add-end c =
    omega (arith, c.requires.0, c.requires.1.long, position_count_options c.args.n c.args.count, c.len.ensures, c.len.type_inv)

pub first_in-last-requires : goal.first_in-last-requires
first_in-last-requires c = omega (arith, c.requires.0, position_count_options c.args.n c.args.count)

pub overflow_add-first : goal.overflow_add-first
overflow_add-first c =
    let size = position_count_options c.args.n c.args.count in
    omega (arith, c.first_in-last.ensures.within, c.requires.0, c.requires.1.long, size, c.len.ensures, c.len.type_inv)

pub fill-requires : goal.fill-requires
fill-requires c =
    let p = c.args.cursor.now.position in
    let old = c.args.entries.now in
    omega (
      arith,
      ap length c.put.ensures,
      length-append (take p old) (c.args.enter ∷ drop (p + 1) old),
      length-take p old,
      length-drop (p + 1) old,
      c.requires.1.long,
      c.requires.0,
      position_count_options c.args.n c.args.count,
    )

pub returns-then-are_many : goal.returns-then-are_many
returns-then-are_many c =
    let n = c.args.n in
    let p = c.args.cursor.now.position in
    let ms = c.args.at.now.positions.now in
    let here = c.args.at.now.here in
    let many = c.if-are_many.ensures refl in
    let last = c.first_in-last.ensures in (
      or_comm c.args.enter _
          ∙ accepts_many n p c.args.count c.first_in-last.result c.option_bits.result ms many.0 many.1 c.option_bits.ensures
          last.found last.first c.args.enter here,
      entered_many n p c.args.count c.first_in-last.result c.option_bits.result ms many.0 many.1 c.option_bits.ensures
          last.found last.first c.args.enter c.if-enter.first c.option_bits-then-are_many.result c.args.entries.now c.fill.new.self c.put.new.self many.2
          (omega (arith, c.requires.0, position_count_options n c.args.count)) c.requires.1
          (λ e. elim c.if-enter.branch [ then-enter w ↦ w.first-is | else-enter w ↦ absurd (true≢false (sym e ∙ w.if-enter.false)) ])
          (λ e. elim c.if-enter.branch [ then-enter w ↦ absurd (true≢false (sym w.if-enter.true ∙ e)) | else-enter w ↦ w.first-is ])
          c.option_bits-then-are_many.ensures c.put.ensures c.fill.ensures.length c.fill.ensures.each here,
      omega (arith, position_count_options n c.args.count),
      omega (arith, repeats_options n c.args.count),
    )
