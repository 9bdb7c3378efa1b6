use Rattle.std.proofs.Common.{◌≡◌, ◌++◌, map, drop, string_bytes, true}
use Rattle.cs_index.specs.Encoding.{IsString}
use Rattle.std.specs.List.{AllByRecursion, list_all}
use Rattle.cs_index.specs.Built.{is_storable}
use Rattle.cs_index.proofs.writing.strings.strings_of.Given as goal

abbrev pub invariant-paths : goal.invariant-paths
invariant-paths l = record {
  texts : l.texts ++ map string_bytes (drop l.path-index l.paths) ≡ map string_bytes l.paths;
  each : AllByRecursion IsString l.texts;
  rest : list_all is_storable (map string_bytes (drop l.path-index l.paths)) ≡ true;
}
