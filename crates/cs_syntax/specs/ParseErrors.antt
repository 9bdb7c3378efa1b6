-- The errors that `parse` may return for a text.
-- docs/PATTERNS.md, "Syntax errors".
use Rattle.std.specs.Prelude.{ℕ, ◌≡◌, ◌<◌, Bool, List}
use Rattle.cs_syntax.specs.Matching.{Tree}
use Rattle.cs_syntax.specs.Weight.{max_weight, weight}
use Rattle.cs_syntax.specs.Parsing.{ParsesAs, HasSyntaxError, IsTextFault}
use Rattle.cs_syntax.specs.declared.fault.PatternFault.TheVariants.{TooLarge, Memory}
use Rattle.cs_syntax.specs.declared.fault.PatternError.{PatternError}

-- The text has this syntax error at its offset; or it parses as a tree that is too heavy; or an allocation failed.
pub data IsParseError (text : List ℕ) (fold : Bool) (e : PatternError) : Type 0 where
  syntax : IsTextFault e.fault → HasSyntaxError text fold e.fault e.at → IsParseError text fold e
  too_large :
      e.fault ≡ TooLarge → e.at ≡ 0 →
      (t : Tree) → ParsesAs text fold t → max_weight < weight t → IsParseError text fold e
  memory : e.fault ≡ Memory → e.at ≡ 0 → IsParseError text fold e
