use Rattle.std.proofs.Common.{inl, inr, refl, rules, arith}
use Rattle.codesearch_c.specs.Spans.{counted, outside}
use Rattle.codesearch_c.proofs.spans.cs_count_lines.Goals as goal

pub returns-then-to-from : goal.returns-then-to-from
returns-then-to-from c = outside (search rules) (inl (omega arith)) refl

pub returns-then-text-to : goal.returns-then-text-to
returns-then-text-to c = outside (search rules) (inr (omega arith)) refl

pub returns : goal.returns
returns c = counted (search rules) (omega arith) (omega arith) c.newlines.ensures
