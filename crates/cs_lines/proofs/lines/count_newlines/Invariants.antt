use Rattle.std.proofs.Common.{◌≡◌, take}
use Rattle.std.specs.List.{count_by}
use Rattle.cs_match.proofs.LinesLemmas.{is_newline}
use Rattle.cs_lines.proofs.lines.count_newlines.Given as goal

abbrev pub invariant-loop-b : goal.invariant-loop-b
invariant-loop-b l = l.count ≡ count_by is_newline (take l.b-index l.part)
