use Rattle.std.proofs.Common.{◌≡◌, map, string_bytes, take}
use Rattle.cs_command.specs.WordLines.{line_view, lines_in}
use Rattle.cs_command.proofs.word_lines.lines_in.Given as goal

-- the lines of some parts so far
abbrev pub invariant-parts : goal.invariant-parts
invariant-parts l = map line_view l.lines.items ≡ lines_in (map string_bytes l.words) (take l.part-index l.parts)
