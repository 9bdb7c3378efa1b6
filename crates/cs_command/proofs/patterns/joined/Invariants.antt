use Rattle.std.proofs.Common.{◌≡◌, drop, map}
use Rattle.cs_command.specs.Patterns.{joined}
use Rattle.cs_command.specs.WordLines.{line_view}
use Rattle.cs_command.proofs.patterns.joined.Given as goal

-- the pattern so far and the lines that are left are all
abbrev pub invariant-patterns : goal.invariant-patterns
invariant-patterns l =
    joined l.style l.fold l.fn.first (map line_view l.more) ≡ joined l.style l.fold l.all (map line_view (drop l.line-index l.more))
