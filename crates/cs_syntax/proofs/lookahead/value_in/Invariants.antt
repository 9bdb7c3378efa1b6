use Rattle.std.proofs.Common.{◌≡◌, ◌≤◌, min, drop}
use Rattle.cs_syntax.specs.U32Numbers.{max_u32}
use Rattle.cs_syntax.specs.Numbers.{number_of_digits}
use Rattle.cs_syntax.proofs.NumberLemmas.{value_after}
use Rattle.cs_syntax.proofs.lookahead.value_in.Given as goal

abbrev pub invariant-loop-digit : goal.invariant-loop-digit
invariant-loop-digit l =
    record {
      value : min (value_after l.base l.value (drop l.digit-index l.digits)) max_u32 ≡ min (number_of_digits l.base l.digits) max_u32;
      fits : l.value ≤ max_u32;
    }
