use Rattle.cs_syntax.proofs.GroupLemmas.{set_flags-dash, set_flags-end}
use Rattle.cs_syntax.proofs.items.set_flags.Goals as goal

pub returns-then-starts_with_byte-clause-value : goal.returns-then-starts_with_byte-clause-value
returns-then-starts_with_byte-clause-value c lexeme =
    set_flags-dash _ _ _ _ _ _ c.set_len-n.ensures.count c.with_set-set.ensures c.starts_with_byte.ensures
    c.if-starts_with_byte.true (c.cleared_flags.ensures.value lexeme)

pub returns-clause-value : goal.returns-clause-value
returns-clause-value c lexeme =
    set_flags-end _ _ _ _ _ _ c.set_len-n.ensures.count c.with_set-set.ensures c.starts_with_byte.ensures
    c.if-starts_with_byte.false (c.after_flags.ensures.value lexeme)
