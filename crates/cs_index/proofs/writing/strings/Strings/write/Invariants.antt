use Rattle.std.proofs.Common.{◌≡◌, ◌≤◌, ◌++◌, drop, length, map}
use Rattle.std.specs.List.{concat}
use Rattle.cs_index.specs.Encoding.{with_nul}
use Rattle.cs_index.specs.StringCodes.{texts_from, AreCodes}
use Rattle.cs_index.proofs.writing.strings.Strings.write.Given as goal

-- the strings so far are written, and the remaining ones follow
abbrev pub invariant-strings : goal.invariant-strings
invariant-strings l = record {
  left : AreCodes l.text.items (drop l.code-index l.code-items) (drop l.at l.self-inside.rests.items);
  within : l.at ≤ length l.self-inside.rests.items;
  output : l.out.items ++ concat (map with_nul (texts_from l.text.items (drop l.code-index l.code-items) (drop l.at l.self-inside.rests.items)))
      ≡ l.initial.out.items ++ concat (map with_nul l.self);
}
