use Rattle.std.proofs.Common.{◌≡◌, ◌++◌, length, map, string_bytes}
use denote.Text.{Utf8}
use denote.Shadow.{shadow}
use Rattle.codesearch_c.specs.Building.{nul_parts}
use Rattle.codesearch_c.proofs.indexing.split_paths.Given as goal

abbrev pub invariant-paths : goal.invariant-paths
invariant-paths l = shadow (Utf8 l.rest) × (map string_bytes l.paths.items ++ nul_parts l.rest ≡ nul_parts l.fn.text)

abbrev pub decreases-paths : goal.decreases-paths
decreases-paths l = length l.rest
