-- Matches of a line, one after another.
use Rattle.std.specs.Prelude.{ℕ, ◌≤◌, List, [], ◌∷◌, map}
use Rattle.cs_match.specs.declared.spans.Span.{Span as A_span}
use Rattle.cs_lines.specs.Forms.{Span}

abbrev pub pair_of : A_span → Span
pair_of span = (span.start, span.end)

abbrev pub pairs : List A_span → List Span
pairs spans = map pair_of spans

-- each begins at or after the end of the one before it, and all end within the line
abbrev pub AreOrdered : ℕ → ℕ → List Span → Type 0
AreOrdered from size [] = from ≤ size
AreOrdered from size (span ∷ spans) = (from ≤ span.0) × (span.0 ≤ span.1) × AreOrdered span.1 size spans
