use Rattle.std.proofs.Common.{◌≡◌, ℕ, ◌+◌, ◌*◌, ◌<◌, ◌≤◌, eqb, true, false, length, get_or, set, sym, ◌∙◌, ap, subst, inl, inr, arith, length-set, get_or-set_same, get_or-set_other}
use Rattle.std.proofs.lemmas.Bool.{cases_eq}
use Rattle.std.proofs.lemmas.List.{get_or_read}
use Rattle.std.specs.Prelude.{if◌then◌else◌}
use Rattle.std.specs.Int.{bit_at}
use Rattle.cs_match.specs.PositionSet.{positions_of, is_selected}
use Rattle.cs_match.proofs.PositionSetLemmas.{length-positions_of}
use Rattle.cs_match.proofs.RangeLemmas.{IsPositionSet-filled, get_or-filled}
use Rattle.cs_match.proofs.position_set.PositionSet.fill.Goals as goal
use Rattle.cs_match.proofs.position_set.PositionSet.fill.Goals.{After-loop-index}

pub index-requires : goal.index-requires
index-requires c =
    omega (
      arith,
      c.loop-index-test.true,
      c.div_ceil-index-end.ensures,
      c.requires,
      length-positions_of c.self.inside.words.items c.self.inside.count,
      ap length c.self.view_is,
      c.self.invariant.enough,
      c.loop-index.invariant.as_many,
    )

pub index_mut-requires : goal.index_mut-requires
index_mut-requires c =
    omega (
      arith,
      c.loop-index-test.true,
      c.div_ceil-index-end.ensures,
      c.requires,
      length-positions_of c.self.inside.words.items c.self.inside.count,
      ap length c.self.view_is,
      c.self.invariant.enough,
      c.loop-index.invariant.as_many,
    )

pub loop-index-preserved : goal.loop-index-preserved
loop-index-preserved c =
    let now = c.loop-index.self-inside.words.items in
    let old = c.self.inside.words.items in
    let at = c.loop-index.index in
    let new = c.with_bits.result in
    let there : ℕ → ℕ → Type 0 = λ k i. eqb (bit_at (get_or (set now at new) k 0) i) 1
    ≡ (if is_selected c.args.which c.args.from c.args.end (k * 64 + i) then true else
    eqb (bit_at (get_or old k 0) i) 1) in
    let in-now : at < length now =
    omega (
      arith,
      c.loop-index-test.true,
      c.div_ceil-index-end.ensures,
      c.requires,
      length-positions_of c.self.inside.words.items c.self.inside.count,
      ap length c.self.view_is,
      c.self.invariant.enough,
      c.loop-index.invariant.as_many,
    ) in
    let word : c.index.result.now ≡ get_or old at 0 = get_or_read now at _ in-now c.index.ensures 0
    ∙ c.loop-index.invariant.pending at (omega arith) in
    record {
      position_count = c.loop-index.invariant.position_count;
      as_many = length-set now at new ∙ c.loop-index.invariant.as_many;
      fits = λ k. elim (cases_eq k at) [
        | inl same ↦ omega (
          arith,
          ap (λ (i : ℕ). get_or (set now at new) i 0) same,
          get_or-set_same now at new 0
              in-now,
          c.with_bits.type_inv,
        )
        | inr other ↦ omega (arith, get_or-set_other now at k new 0 other, c.loop-index.invariant.fits k)
      ];
      done = λ k i lt h. elim (cases_eq k at) [
        | inl same ↦
            subst (λ k. there k i) (sym same)
            (ap (λ x. eqb (bit_at x i) 1) (get_or-set_same now at new 0 in-now) ∙ c.with_bits.ensures i h
            ∙ ap (λ x. if x then true else eqb (bit_at c.index.result.now i) 1) (c.range_bits-bits.ensures i h)
            ∙ ap (λ x. if is_selected c.args.which c.args.from c.args.end (at * 64 + i) then true else eqb (bit_at x i) 1) word)
        | inr other ↦ ap (λ x. eqb (bit_at x i) 1) (get_or-set_other now at k new 0 other)
            ∙ c.loop-index.invariant.done k i (omega (arith, lt, other)) h
      ];
      pending = λ k le. get_or-set_other now at k new 0 (λ same. omega (arith, le, same))
          ∙ c.loop-index.invariant.pending k (omega (arith, le));
    }

room : (c : After-loop-index) → c.args.end ≤ c.self.inside.count
room c = omega (arith, c.requires, length-positions_of c.self.inside.words.items c.self.inside.count, ap length c.self.view_is)

ends : (c : After-loop-index) → c.args.end ≤ c.loop-index.index * 64
ends c = omega (arith, c.loop-index-test.false, c.div_ceil-index-end.ensures)

pub invariant_of-self : goal.invariant_of-self
invariant_of-self c =
    let i = c.loop-index.invariant in
    rw i.position_count
    (IsPositionSet-filled _ c.self.inside.words.items c.self.inside.count c.args.which c.args.from c.args.end c.loop-index.index
    c.self.invariant i.as_many (room c) i.fits i.done i.pending (ends c))

pub returns-clause-length : goal.returns-clause-length
returns-clause-length c =
    length-positions_of c.loop-index.self-inside.words.items c.loop-index.self-inside.count ∙ c.loop-index.invariant.position_count
    ∙ sym (length-positions_of c.self.inside.words.items c.self.inside.count) ∙ ap length c.self.view_is

pub returns-clause-each : goal.returns-clause-each
returns-clause-each c = λ k h.
    let i = c.loop-index.invariant in
    let old = c.self.inside.words.items in
    let count = c.self.inside.count in
    let within : k < count = omega (arith, h, length-positions_of old count, ap length c.self.view_is) in
    ap (λ n. get_or (positions_of c.loop-index.self-inside.words.items n) k false) i.position_count
    ∙ get_or-filled _ old count c.args.which c.args.from c.args.end c.loop-index.index c.self.invariant i.as_many
    (room c) i.fits i.done i.pending (ends c) k within
    ∙ ap (λ ms. if is_selected c.args.which c.args.from c.args.end k then true else get_or ms k false) c.self.view_is
