use Rattle.std.proofs.Common.{◌≡◌, ◌+◌, ◌++◌, ◌==◌, length, map}
use Rattle.std.specs.List.{slice_split}
use denote.Text.{Utf8}
use denote.Shadow.{shadow}
use Rattle.cs_command.specs.WordLines.{line_view, lines_from, part_lines}
use Rattle.cs_command.proofs.word_lines.push_lines.Given as goal

-- the lines so far and those of the text that is left are all, and that text begins at the offset
abbrev pub invariant-lines : goal.invariant-lines
invariant-lines l =
    shadow (Utf8 l.rest) × (l.at + length l.rest ≡ length l.text)
    × (map line_view l.lines.items ++ lines_from l.part l.at (slice_split (λ byte. byte == 10) l.rest)
    ≡ map line_view l.fn.lines.items ++ part_lines l.part l.text)

abbrev pub decreases-lines : goal.decreases-lines
decreases-lines l = length l.rest
