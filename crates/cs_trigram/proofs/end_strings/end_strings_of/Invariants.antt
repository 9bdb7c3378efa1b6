use Rattle.std.proofs.Common.{◌≡◌, [], map, drop}
use Rattle.cs_trigram.specs.EndStrings.{with_end_strings, whole_end}
use Rattle.cs_trigram.proofs.end_strings.end_strings_of.Given as goal

abbrev pub invariant-loop-string : goal.invariant-loop-string
invariant-loop-string l =
    with_end_strings l.end_strings.items (map whole_end (drop l.string-index l.strings)) ≡ with_end_strings [] (map whole_end l.strings)
