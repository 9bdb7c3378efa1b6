use Rattle.std.proofs.Common.{sym, ap, ◌∙◌}
use Rattle.cs_command.specs.Patterns.{has_capital_after}
use Rattle.cs_command.proofs.PatternLemmas.{no_byte, capital_byte, other_byte}
use Rattle.cs_command.proofs.patterns.has_capital.Goals as goal

pub returns-then-is_capital : goal.returns-then-is_capital
returns-then-is_capital c =
    sym (c.bytes.invariant ∙ ap (has_capital_after c.args.literal c.bytes.escaped) c.in-Some.ensures.cases.0
    ∙ capital_byte c.args.literal c.bytes.escaped c.in-Some.byte.now c.in-Some.behind.now (sym c.is_capital.ensures ∙ c.if-is_capital.true))

pub bytes-preserved : goal.bytes-preserved
bytes-preserved c =
    c.bytes.invariant ∙ ap (has_capital_after c.args.literal c.bytes.escaped) c.in-Some.ensures.cases.0
    ∙ other_byte c.args.literal c.bytes.escaped c.in-Some.byte.now c.in-Some.behind.now (sym c.is_capital.ensures ∙ c.if-is_capital.false)
    ∙ ap (λ escaped. has_capital_after c.args.literal escaped c.in-Some.behind.now) (sym c.escapes-escaped.ensures)

pub returns : goal.returns
returns c = sym (c.bytes.invariant ∙ no_byte c.args.literal c.bytes.escaped c.bytes.rest.now c.in_default.ensures.cases)
