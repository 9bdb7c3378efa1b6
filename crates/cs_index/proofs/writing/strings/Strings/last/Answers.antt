use Rattle.std.proofs.Common.{◌≡◌, ◌∙◌, ◌-◌, ap, sym, eqb, false, List, ℕ, length, Some, slice_get}
use Rattle.std.proofs.lemmas.Bool.{true≢false, eq-eqb}
use Rattle.cs_index.proofs.writer.CodedStrings.{last_at}
use Rattle.cs_index.proofs.writing.strings.Strings.last.Goals as goal

pub returns : goal.returns
returns c =
    let s = c.self.inside in
    let test : c.is_empty.result ≡ eqb s.codes.len 0 = c.is_empty.ensures in
    let some : c.is_empty.result ≡ false = c.if-is_empty.false in
    ap Some (c.deref.ensures.value ∙ c.self.invariant.last_is)
    ∙ sym (last_at s.codes.items s.rests.items (λ zero. true≢false (sym (test ∙ eq-eqb _ _ (s.codes.ok.0 ∙ zero)) ∙ some)))
    ∙ ap (λ (ts : List (List ℕ)). slice_get ts (length ts - 1)) c.self.view_is
