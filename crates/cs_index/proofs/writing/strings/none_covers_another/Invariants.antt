use Rattle.std.proofs.Common.{◌≡◌, map, drop, string_bytes, String, Global}
use Rattle.std.specs.List.{list_all}
use Rattle.cs_tree.specs.Cover.{is_alone}
use Rattle.cs_index.proofs.writing.strings.none_covers_another.Given as goal

abbrev pub invariant-paths : goal.invariant-paths
invariant-paths l = list_all (λ (path : String Global). is_alone (map string_bytes l.paths) (string_bytes path))
    (drop l.path-index l.paths) ≡ list_all
    (λ (path : String Global). is_alone (map string_bytes l.paths) (string_bytes path)) l.paths
