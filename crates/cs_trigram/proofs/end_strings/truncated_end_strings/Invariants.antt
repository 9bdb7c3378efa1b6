use Rattle.std.proofs.Common.{◌≡◌, [], map, drop}
use Rattle.cs_trigram.specs.EndStrings.{truncated, with_end_strings}
use Rattle.cs_trigram.proofs.end_strings.truncated_end_strings.Given as goal

abbrev pub invariant-loop-end_string : goal.invariant-loop-end_string
invariant-loop-end_string l =
    with_end_strings l.short.items (map (truncated l.longest) (drop l.end_string-index l.end_strings))
    ≡ with_end_strings [] (map (truncated l.longest) l.end_strings)
