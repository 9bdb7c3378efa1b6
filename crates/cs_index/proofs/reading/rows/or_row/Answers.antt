use Rattle.std.proofs.Common.{◌≡◌, ◌+◌, ◌||◌, ◌⊎◌, ◌∙◌, ◌∷◌, ap, sym, subst, ℕ, List, Bool, Vec, Global, suc, length, false, drop, get_or, drop-cons, inl, inr, arith}
use Rattle.std.proofs.lemmas.Bool.{eq-eqb, eqb-true, true≢false}
use Rattle.std.proofs.Math.Bool.{or-false}
use Rattle.std.specs.List.{list_any}
use Rattle.cs_index.specs.Rows.{column}
use Rattle.cs_index.proofs.candidates.WindowRows.{no_flag, or_step}
use Rattle.cs_index.proofs.reading.rows.or_row.Goals as goal
use Rattle.cs_index.proofs.reading.rows.or_row.Goals.{then-not-is_empty+in_ok-add_row, else-not-is_empty}

pub add_row-requires : goal.add_row-requires
add_row-requires c =
    elim (c.row_at-other.ensures.width c.args.width c.requires) [
      | inl z ↦ absurd (true≢false (sym (eq-eqb (length c.row_at-other.result.now) 0 z) ∙ sym c.if-not-is_empty.ensures))
      | inr wide ↦ elim c.loop-member.invariant.width [ inl none ↦ inl none | inr row ↦ inr (row ∙ sym wide) ]
    ]

pub loop-member-preserved : goal.loop-member-preserved
loop-member-preserved c =
    let members : List ℕ = c.args.members.now in
    let at : ℕ = c.loop-member.member-index in
    let m : ℕ = get_or members at 0 in
    let next : suc at ≡ at + 1 = omega arith in
    let first : drop at members ≡ m ∷ drop (at + 1) members = drop-cons members at 0 c.loop-member-test.true
    ∙ ap (λ k. m ∷ drop k members) next in
    let row : List Bool = c.loop-member.row.items in
    let other : List Bool = c.row_at-other.result.now in
    elim c.if-not-is_empty.branch [
      | then-not-is_empty+in_ok-add_row w ↦
          let items = ap (λ (v : Vec Bool Global). v.items) w.row-is in
          record {
            width = elim (c.row_at-other.ensures.width c.args.width c.requires) [
              | inl z ↦ absurd (true≢false (sym (eq-eqb (length other) 0 z) ∙ sym w.if-not-is_empty.ensures))
              | inr wide ↦ inr (ap length items ∙ w.in_ok-add_row.ensures.width ∙ wide)
            ];
            flags = λ k h.
                let known : List Bool = column k c.args.rows.now in
                or_step known (get_or row k false) (get_or c.if-not-is_empty.row.items k false)
                (list_any (λ n. get_or known n false) members) (drop at members) (drop (at + 1) members) m first
                (ap (λ (r : List Bool). get_or r k false) items ∙ w.in_ok-add_row.ensures.flags k
                ∙ ap (λ b. get_or row k false || b) (c.row_at-other.ensures.row k)) (c.loop-member.invariant.flags k h);
          }
      | else-not-is_empty w ↦
          let items = ap (λ (v : Vec Bool Global). v.items) w.row-is in
          record {
            width = subst (λ (r : List Bool). (length r ≡ 0) ⊎ (length r ≡ c.args.width)) (sym items) c.loop-member.invariant.width;
            flags = λ k h.
                let known : List Bool = column k c.args.rows.now in
                let none : length other ≡ 0 = eqb-true (length other) 0 (sym w.if-not-is_empty.ensures) in
                or_step known (get_or row k false) (get_or c.if-not-is_empty.row.items k false)
                (list_any (λ n. get_or known n false) members) (drop at members) (drop (at + 1) members) m first
                (ap (λ (r : List Bool). get_or r k false) items ∙ sym (or-false (get_or row k false))
                ∙ ap (λ b. get_or row k false || b) (sym (no_flag other none k) ∙ c.row_at-other.ensures.row k))
                (c.loop-member.invariant.flags k h);
          }
    ]
