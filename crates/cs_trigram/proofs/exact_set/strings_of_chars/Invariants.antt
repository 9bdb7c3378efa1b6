use Rattle.std.proofs.Common.{true, take}
use Rattle.cs_syntax.specs.Matching.{one_char}
use Rattle.cs_trigram.specs.Analysis.{IsEnumeration}
use Rattle.cs_trigram.specs.MayMatch.{MayMatch}
use Rattle.cs_trigram.proofs.exact_set.strings_of_chars.Given as goal

abbrev pub invariant-loop-range : goal.invariant-loop-range
invariant-loop-range l = IsEnumeration l.strings.items (MayMatch true (one_char (take l.range-index l.range-items)))
