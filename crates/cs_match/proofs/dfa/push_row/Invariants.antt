use Rattle.std.proofs.Common.{◌≡◌, ◌+◌, ◌<◌, ◌≤◌, ℕ, length, slice_index, vec_capacity}
use Rattle.cs_match.specs.LazyDfa.{until_newline}
use Rattle.cs_match.proofs.dfa.push_row.Given as goal

abbrev pub invariant-loop-class : goal.invariant-loop-class
invariant-loop-class l = record {
  len : length l.transitions.items ≡ length l.initial.transitions.items + l.class;
  kept : (k : ℕ) → k < length l.initial.transitions.items → slice_index l.transitions.items k ≡ slice_index l.initial.transitions.items k;
  row : (c : ℕ) → c < l.class →
      slice_index l.transitions.items (length l.initial.transitions.items + c) ≡ until_newline l.classes l.stays l.ends c;
  room : vec_capacity l.initial.transitions ≤ vec_capacity l.transitions;
}
