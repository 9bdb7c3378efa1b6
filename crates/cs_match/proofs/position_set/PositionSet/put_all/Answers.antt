use Rattle.std.proofs.Common.{◌≡◌, ℕ, ◌+◌, ◌-◌, ◌*◌, ◌/◌, ◌%◌, ◌<◌, ◌≤◌, eqb, false, List, length, get_or, set, sym, ◌∙◌, ap, subst, inl, inr, arith, length-set, get_or-set_same, get_or-set_other}
use Rattle.std.proofs.lemmas.Bool.{cases_eq}
use Rattle.std.proofs.lemmas.List.{get_or_read}
use Rattle.std.specs.Prelude.{if◌then◌else◌}
use Rattle.std.specs.Int.{bit_at}
use Rattle.cs_match.specs.PositionSet.{positions_of, has_from, has_bit_from}
use Rattle.cs_match.proofs.PositionSetLemmas.{length-positions_of}
use Rattle.cs_match.proofs.OffsetLemmas.{IsPositionSet-put, get_or-put}
use Rattle.cs_match.proofs.position_set.PositionSet.put_all.Goals as goal
use Rattle.cs_match.proofs.position_set.PositionSet.put_all.Goals.{After-loop-index}

pub loop-index-preserved : goal.loop-index-preserved
loop-index-preserved c =
    let now = c.loop-index.self-inside.words.items in
    let old = c.self.inside.words.items in
    let which = c.which.inside.words.items in
    let first = c.args.from / 64 in
    let by = c.args.from % 64 in
    let at = c.loop-index.index in
    let new = c.with_bits.result in
    let in-now : at < length now = omega (
      arith,
      c.loop-index-test.true,
      c.min-end.ensures,
      c.len-2.ensures,
      c.self.inside.words.ok.0,
      c.loop-index.invariant.as_many,
    ) in
    let word : c.index.result.now ≡ get_or old at 0 = get_or_read now at _ in-now c.index.ensures 0
    ∙ c.loop-index.invariant.pending at (omega arith) in
    record {
      position_count = c.loop-index.invariant.position_count;
      as_many = length-set now at new ∙ c.loop-index.invariant.as_many;
      fits = λ k. elim (cases_eq k at) [
        | inl same ↦ omega (
          arith,
          ap (λ (i : ℕ). get_or (set now at new) i 0) same,
          get_or-set_same now at new 0
              in-now,
          c.with_bits.type_inv,
        )
        | inr other ↦ omega (arith, get_or-set_other now at k new 0 other, c.loop-index.invariant.fits k)
      ];
      done = λ k i low high h.
          let bits : ℕ → Type 0 = λ k. eqb (bit_at (get_or (set now at new) k 0) i) 1
          ≡ (if has_bit_from which by ((k - first) * 64 + i) then c.args.on else eqb (bit_at (get_or old k 0) i) 1) in
          elim (cases_eq k at) [
            | inl same ↦
                subst bits (sym same)
                (ap (λ x. eqb (bit_at x i) 1) (get_or-set_same now at new 0 in-now) ∙ c.with_bits.ensures i h
                ∙ ap (λ x. if x then c.args.on else eqb (bit_at c.index.result.now i) 1)
                (c.word_from-bits.ensures i h ∙ ap (λ (xs : List ℕ). has_bit_from xs by ((at - first) * 64 + i))
                c.deref.ensures.value)
                ∙ ap (λ x. if has_bit_from which by ((at - first) * 64 + i) then c.args.on else eqb (bit_at x i) 1) word)
            | inr other ↦
                ap (λ x. eqb (bit_at x i) 1) (get_or-set_other now at k new 0 other)
                ∙ c.loop-index.invariant.done k i low (omega (arith, high, other)) h
          ];
      before = λ k lt. get_or-set_other now at k new 0 (λ same. omega (arith, lt, same, c.loop-index.auto.index))
          ∙ c.loop-index.invariant.before k lt;
      pending = λ k le. get_or-set_other now at k new 0 (λ same. omega (arith, le, same))
          ∙ c.loop-index.invariant.pending k (omega (arith, le));
    }

room : (c : After-loop-index) → c.args.from + c.which.inside.count ≤ c.self.inside.count
room c =
    omega (
      arith,
      c.requires,
      length-positions_of c.which.inside.words.items c.which.inside.count,
      length-positions_of c.self.inside.words.items c.self.inside.count,
      ap length c.which.view_is,
      ap length c.self.view_is,
    )

ends : (c : After-loop-index) (k : ℕ) → c.loop-index.index ≤ k → k < length c.self.inside.words.items →
    c.args.from / 64 + length c.which.inside.words.items + 1 ≤ k
ends c k from h =
    omega (
      arith,
      from,
      h,
      c.loop-index-test.false,
      c.min-end.ensures,
      c.len.ensures,
      c.len-2.ensures,
      c.self.inside.words.ok.0,
      c.which.inside.words.ok.0,
    )

pub invariant_of-self : goal.invariant_of-self
invariant_of-self c =
    let i = c.loop-index.invariant in
    rw i.position_count
    (IsPositionSet-put _ c.self.inside.words.items c.which.inside.words.items c.self.inside.count c.which.inside.count
    c.args.from c.loop-index.index c.args.on
    c.self.invariant c.which.invariant i.as_many i.fits (room c) (ends c) i.done i.before i.pending)

pub returns-clause-length : goal.returns-clause-length
returns-clause-length c =
    length-positions_of c.loop-index.self-inside.words.items c.loop-index.self-inside.count ∙ c.loop-index.invariant.position_count
    ∙ sym (length-positions_of c.self.inside.words.items c.self.inside.count) ∙ ap length c.self.view_is

pub returns-clause-each : goal.returns-clause-each
returns-clause-each c = λ k h.
    let i = c.loop-index.invariant in
    let old = c.self.inside.words.items in
    let count = c.self.inside.count in
    let within : k < count = omega (arith, h, length-positions_of old count, ap length c.self.view_is) in
    ap (λ n. get_or (positions_of c.loop-index.self-inside.words.items n) k false) i.position_count
    ∙ get_or-put _ old c.which.inside.words.items count c.which.inside.count c.args.from c.loop-index.index c.args.on
    c.self.invariant c.which.invariant i.as_many i.fits (room c) (ends c) i.done i.before i.pending k within
    ∙ ap (λ ws. if has_from ws c.args.from k then c.args.on else get_or (positions_of old count) k false) c.which.view_is
    ∙ ap (λ ms. if has_from c.args.which.now c.args.from k then c.args.on else get_or ms k false) c.self.view_is
