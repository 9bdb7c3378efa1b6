use Rattle.std.proofs.Common.{sym, ap, ◌∙◌}
use Rattle.std.proofs.lemmas.List.{take_rest}
use Rattle.cs_syntax.specs.Groups.{head}
use Rattle.cs_syntax.proofs.ConditionalLemmas.{when_true}
use Rattle.cs_syntax.proofs.items.group.Goals as goal

pub returns-then-starts_with_byte-clause-value : goal.returns-then-starts_with_byte-clause-value
returns-then-starts_with_byte-clause-value c lexeme =
    when_true _ (sym c.starts_with_byte.ensures ∙ c.if-starts_with_byte.true)
    (c.head.ensures.value lexeme ∙ ap (head c.args.flags) (take_rest c.args.rest.now 1))
