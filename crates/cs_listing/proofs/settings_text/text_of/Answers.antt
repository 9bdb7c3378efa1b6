use Rattle.std.proofs.Common.{List, ℕ, sym, ap, ◌∙◌}
use Rattle.std.specs.Prelude.{Some}
use Rattle.cs_listing.proofs.SettingLemmas.{is_text, no_text}
use Rattle.cs_listing.proofs.settings_text.text_of.Goals as goal

pub returns-in_ok-from_str-in-Ok : goal.returns-in_ok-from_str-in-Ok
returns-in_ok-from_str-in-Ok c =
    let text = c.in-Ok.ensures.cases in
    ap (λ (t : List ℕ). Some t) (c.in_ok-from_str-in-Ok.ensures.ok ∙ text.0) ∙ sym (is_text c.args.bytes.now text.1)

pub returns-in-Err : goal.returns-in-Err
returns-in-Err c = sym (no_text c.args.bytes.now c.in-Err.ensures.cases.0)
