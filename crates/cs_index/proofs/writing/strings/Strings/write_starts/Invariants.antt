use Rattle.std.proofs.Common.{◌++◌, drop, length, map, flat_map}
use Rattle.std.specs.List.{concat}
use Rattle.cs_index.specs.Encoding.{with_nul, four_bytes, starts_from}
use Rattle.cs_index.proofs.writing.strings.Strings.write_starts.Given as goal
use Rattle.cs_index.proofs.writer.CodedStrings.{Remaining}

-- the offsets so far are written, and those of the remaining strings follow
abbrev pub invariant-strings : goal.invariant-strings
invariant-strings l = record {
  left : Remaining l.start (drop l.code-index l.code-items) l.out.items
      (l.initial.out.items ++ flat_map four_bytes (starts_from 0 (map with_nul l.self))) (length (concat (map with_nul l.self)));
}
