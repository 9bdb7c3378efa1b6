use Rattle.std.proofs.Common.{◌≡◌, ◌≤◌, ◌-◌, length}
use Rattle.cs_syntax.specs.Parsing.{parse_result}
use Rattle.cs_syntax.specs.ParserState.{parse_from, state_of, HasOperand}
use Rattle.cs_syntax.proofs.parser.read.Given as goal

abbrev pub invariant-text : goal.invariant-text
invariant-text l =
    record {
      same : parse_from l.parser l.bytes l.offset ≡ parse_result l.bytes l.fold;
      kept : HasOperand (state_of l.parser);
      within : l.offset ≤ length l.bytes;
    }

abbrev pub decreases-text : goal.decreases-text
decreases-text l = length l.bytes - l.offset
