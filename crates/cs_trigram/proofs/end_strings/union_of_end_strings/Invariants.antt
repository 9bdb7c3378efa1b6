use Rattle.std.proofs.Common.{◌≡◌, length}
use Rattle.std.specs.Vec.Iter.{into_iter_items, into_iter_len}
use Rattle.cs_trigram.specs.EndStrings.{with_end_strings}
use Rattle.cs_trigram.proofs.end_strings.union_of_end_strings.Given as goal

abbrev pub invariant-loop-end_string : goal.invariant-loop-end_string
invariant-loop-end_string l = record {
  added : with_end_strings l.both.items (into_iter_items l.end_string-iterator) ≡ with_end_strings l.initial.both.items l.fn.more.items;
  left : length (into_iter_items l.end_string-iterator) ≡ into_iter_len l.end_string-iterator;
}
