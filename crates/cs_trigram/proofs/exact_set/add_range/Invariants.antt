use Rattle.std.proofs.Common.{true, ◌+◌, ◌≤◌, ℕ, List}
use Rattle.cs_syntax.specs.Matching.{one_char}
use Rattle.cs_trigram.specs.Analysis.{IsEnumeration}
use Rattle.cs_trigram.specs.MayMatch.{MayMatch}
use Rattle.cs_trigram.proofs.CharStringLemmas.{IsCharBelow}
use Rattle.cs_trigram.proofs.exact_set.add_range.Given as goal

abbrev pub invariant-loop-n : goal.invariant-loop-n
invariant-loop-n l = record {
  from : l.fn.range.0 ≤ l.n;
  to : l.n ≤ l.fn.range.1 + 1;
  strings : (ranges : List (ℕ × ℕ)) → IsEnumeration l.fn.strings.items (MayMatch true (one_char ranges)) →
      IsEnumeration l.strings.items (IsCharBelow ranges l.fn.range l.n);
}
