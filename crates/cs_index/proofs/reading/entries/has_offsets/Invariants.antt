use Rattle.std.proofs.Common.{◌≡◌, ◌≤◌, ◌+◌, ◌-◌, ◌*◌, ◌%◌, List, ℕ, length, drop}
use Rattle.std.specs.List.{AllByRecursion}
use Rattle.cs_index.specs.Encoding.{IsString}
use Rattle.cs_index.specs.Opening.{number_at, texts_of}
use Rattle.cs_index.specs.ValidSections.{has_starts}
use Rattle.cs_index.proofs.stored.SectionPieces.{run_bytes}
use Rattle.cs_index.proofs.reading.entries.has_offsets.Given as goal

abbrev pub invariant-names : goal.invariant-names
invariant-names l = record {
  texts : List (List ℕ);
  each : AllByRecursion IsString texts;
  bytes : drop l.from l.names ≡ run_bytes texts;
  from : l.from ≤ length l.names;
  number : number_at l.numbers l.at ≡ l.start + l.from;
  within : l.at + 8 ≤ length l.numbers;
  whole : l.at % 4 ≡ 0;
  few : l.at + 4 * length texts + 4 ≤ length l.numbers;
  left : has_starts l.numbers 0 l.start (texts_of l.names) ≡ has_starts l.numbers l.at (l.start + l.from) texts;
}

abbrev pub decreases-names : goal.decreases-names
decreases-names l = length l.numbers - l.at
