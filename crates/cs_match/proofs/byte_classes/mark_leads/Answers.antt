use Rattle.std.proofs.Common.{◌≡◌, ◌+◌, ◌∙◌, ℕ, suc, false, inl, inr, sym, ap, subst, arith}
use Rattle.std.proofs.lemmas.Bool.{cases_lt}
use Rattle.cs_syntax.specs.CharSteps.{char_step, finished}
use Rattle.cs_syntax.specs.declared.char_step.Unfinished.{Unfinished}
use Rattle.cs_match.specs.ByteClasses.{begins_at}
use Rattle.cs_match.proofs.DigitLemmas.{lead_alike}
use Rattle.cs_match.proofs.byte_classes.mark_leads.Goals as goal

pub loop-byte-preserved : goal.loop-byte-preserved
loop-byte-preserved c =
    let i = c.loop-byte.invariant in
    let cuts = c.args.cuts.now in
    let byte = c.loop-byte.byte in
    let mark = c.mark-in-loop-byte.ensures in
    let new = c.mark-in-loop-byte.new.begins in
    let next : byte + 1 ≡ suc byte = omega arith in
    let steps : begins_at new (byte + 1) ≡ false → char_step cuts finished byte ≡ char_step cuts finished (suc byte) =
    λ e. ap (λ (at : Unfinished). char_step cuts at byte) (sym c.none.ensures) ∙ sym c.step-before.ensures
    ∙ c.is_same.ensures (mark.marked e) ∙ c.step-here.ensures
    ∙ ap (λ (at : Unfinished). char_step cuts at (byte + 1)) c.none-in-loop-byte.ensures ∙ ap (char_step cuts finished) next in
    record {
      bytes = mark.bytes ∙ i.bytes;
      kept = λ b e. i.kept b (mark.kept b e);
      first = λ e. i.first (mark.kept 192 e);
      alike = λ b from lt e. elim (cases_lt b byte) [
        | inl less ↦ i.alike b from less (mark.kept (suc b) e)
        | inr ge ↦
            let same : byte ≡ b = omega (arith, ge, lt) in
            subst (λ (k : ℕ). char_step cuts finished k ≡ char_step cuts finished (suc k)) same
            (steps (subst (λ (k : ℕ). begins_at new k ≡ false) (omega (arith, same)) e))
      ];
    }

pub returns : goal.returns
returns c =
    let i = c.loop-byte.invariant in
    record {
      bytes = i.bytes;
      kept = i.kept;
      alike = λ b lt e from. elim (cases_lt b 192) [
        | inl below ↦ absurd (i.first (subst (λ (k : ℕ). begins_at c.loop-byte.begins k ≡ false) (omega (arith, below, from)) e))
        | inr lead ↦ lead_alike c.args.cuts.now b lead (i.alike b lead (omega (arith, lt, c.loop-byte-test.false)) e)
      ];
    }
