use Rattle.cs_trigram.specs.Analysis.{IsEnumeration}
use Rattle.cs_trigram.proofs.CharStringLemmas.{IsByteBelow}
use Rattle.cs_trigram.proofs.exact_set.strings_of_set.Given as goal

abbrev pub invariant-loop-byte : goal.invariant-loop-byte
invariant-loop-byte l = IsEnumeration l.strings.items (IsByteBelow l.set l.byte)
