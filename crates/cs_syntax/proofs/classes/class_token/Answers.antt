use Rattle.std.proofs.Common.{◌≡◌, false, ◌&&◌, sym, ap, ◌∙◌, eq-eqb}
use Rattle.std.specs.Prelude.{nat_eq}
use Rattle.std.proofs.lemmas.List.{take_rest}
use Rattle.std.proofs.lemmas.Bool.{and_from, and_left, and_right, ne_eqb}
use Rattle.cs_syntax.specs.Tokens.{starts_with_byte}
use Rattle.cs_syntax.specs.Classes.{span, after_colon}
use Rattle.cs_syntax.proofs.ConditionalLemmas.{when_true, when_false}
use Rattle.cs_syntax.proofs.classes.class_token.Goals.{else-byte-eq91-via-then-byte-eq91+else-starts_with_byte, else-byte-eq91-via-else-byte-eq91}
use Rattle.cs_syntax.proofs.classes.class_token.Goals as goal

pub returns-then-starts_with_byte-clause-value : goal.returns-then-starts_with_byte-clause-value
returns-then-starts_with_byte-clause-value c =
    when_true _ (and_from _ _ (eq-eqb _ 91 c.if-byte-eq91.true) (sym c.starts_with_byte.ensures ∙ c.if-starts_with_byte.true))
    (c.after_colon.ensures.value ∙ ap after_colon (take_rest c.args.rest.now 1))

pub returns-clause-value : goal.returns-clause-value
returns-clause-value c =
    let rest = c.args.rest.now in
    let other : (nat_eq c.args.byte 91 && starts_with_byte 58 rest) ≡ false =
    elim c.else-byte-eq91.branch [
      | else-byte-eq91-via-then-byte-eq91+else-starts_with_byte w ↦ and_right (nat_eq c.args.byte 91) _
          (sym w.starts_with_byte.ensures ∙ w.if-starts_with_byte.false)
      | else-byte-eq91-via-else-byte-eq91 w ↦ and_left _ _ (ne_eqb _ 91 w.if-byte-eq91.false)
    ] in
    when_false _ other (when_false _ (ne_eqb _ 92 c.if-byte-eq92.false)
    (c.span.ensures.value ∙ ap (λ low. span low rest) c.class_char.ensures.value))
