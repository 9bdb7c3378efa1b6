use Rattle.std.proofs.Common.{◌-◌, length, sym, ap, ◌∙◌}
use Rattle.std.specs.List.{slice_get}
use Rattle.cs_tree.proofs.NameEndLemmas.{tilde_last, tilde_none}
use Rattle.cs_tree.proofs.walking.ends_in_tilde.Goals as goal

pub returns-in-Some : goal.returns-in-Some
returns-in-Some c = sym (tilde_last c.args.name.now c.in-Some.byte.now
    (ap (λ xs. slice_get xs (length xs - 1)) (sym c.as_bytes.ensures.value) ∙ sym c.in-Some.ensures.value))

pub returns-in-None : goal.returns-in-None
returns-in-None c = sym (tilde_none c.args.name.now
    (ap (λ xs. slice_get xs (length xs - 1)) (sym c.as_bytes.ensures.value) ∙ sym c.in-None.ensures.value))
