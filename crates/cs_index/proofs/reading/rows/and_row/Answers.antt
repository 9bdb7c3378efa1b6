use Rattle.std.proofs.Common.{◌∙◌, ap, sym, length, inl, inr}
use Rattle.std.proofs.lemmas.Bool.{eq-eqb, true≢false}
use Rattle.cs_index.proofs.reading.rows.and_row.Goals as goal

pub meet-requires : goal.meet-requires
meet-requires c =
    elim (c.row_at-other.ensures.width c.args.width c.requires) [
      | inl z ↦ absurd (true≢false (sym (eq-eqb (length c.row_at-other.result.now) 0 z) ∙ sym c.if-is_empty.ensures))
      | inr wide ↦ ap length c.deref_mut.ensures.value ∙ c.loop-member.invariant.width ∙ sym wide
    ]
