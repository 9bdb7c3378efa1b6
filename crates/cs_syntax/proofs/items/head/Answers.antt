use Rattle.std.proofs.Common.{◌≡◌, false, ◌&&◌, drop, sym, ap, ◌∙◌}
use Rattle.std.proofs.lemmas.List.{take_rest}
use Rattle.std.proofs.lemmas.Bool.{and_from, and_left, and_right}
use Rattle.cs_syntax.specs.Tokens.{starts_with_byte}
use Rattle.cs_syntax.specs.Groups.{name}
use Rattle.cs_syntax.proofs.ConditionalLemmas.{when_true, when_false}
use Rattle.cs_syntax.proofs.items.head.Goals.{else-starts_with_byte-2-via-then-starts_with_byte-2+else-starts_with_byte-3, else-starts_with_byte-2-via-else-starts_with_byte-2}
use Rattle.cs_syntax.proofs.items.head.Goals as goal

pub returns-then-starts_with_byte-clause-value : goal.returns-then-starts_with_byte-clause-value
returns-then-starts_with_byte-clause-value c lexeme =
    when_true _ (sym c.starts_with_byte.ensures ∙ c.if-starts_with_byte.true)
    (c.name.ensures.value lexeme ∙ ap (name c.args.flags 2) (take_rest c.args.text.now 1))

pub returns-then-starts_with_byte-3-clause-value : goal.returns-then-starts_with_byte-3-clause-value
returns-then-starts_with_byte-3-clause-value c lexeme =
    let text = c.args.text.now in
    let second = ap (starts_with_byte 60) (sym (take_rest text 1))
    ∙ sym c.starts_with_byte-then-starts_with_byte-2.ensures ∙ c.if-starts_with_byte-3.true in
    when_false _ (sym c.starts_with_byte.ensures ∙ c.if-starts_with_byte.false)
    (when_true _ (and_from _ _ (sym c.starts_with_byte-2.ensures ∙ c.if-starts_with_byte-2.true) second)
    (c.name-then-starts_with_byte-3.ensures.value lexeme ∙ ap (name c.args.flags 3) (take_rest text 2)))

pub returns-clause-value : goal.returns-clause-value
returns-clause-value c lexeme =
    let text = c.args.text.now in
    let other : (starts_with_byte 80 text && starts_with_byte 60 (drop 1 text)) ≡ false =
    elim c.else-starts_with_byte-2.branch [
      | else-starts_with_byte-2-via-then-starts_with_byte-2+else-starts_with_byte-3 w ↦
          and_right (starts_with_byte 80 text) _ (ap (starts_with_byte 60) (sym (take_rest text 1))
          ∙ sym w.starts_with_byte-then-starts_with_byte-2.ensures ∙ w.if-starts_with_byte-3.false)
      | else-starts_with_byte-2-via-else-starts_with_byte-2 w ↦ and_left _ _ (sym c.starts_with_byte-2.ensures
          ∙ w.if-starts_with_byte-2.false)
    ] in
    when_false _ (sym c.starts_with_byte.ensures ∙ c.if-starts_with_byte.false) (when_false _ other (c.set_flags.ensures.value lexeme))
