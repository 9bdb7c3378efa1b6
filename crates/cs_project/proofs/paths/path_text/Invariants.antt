use Rattle.std.proofs.Common.{◌≡◌, map, take}
use Rattle.std.specs.Prelude.{string_bytes}
use Rattle.cs_listing.specs.Walk.{path_text}
use Rattle.cs_project.proofs.paths.path_text.Given as goal

-- the path of the first names
abbrev pub invariant-names : goal.invariant-names
invariant-names l = string_bytes l.path ≡ path_text (map string_bytes (take l.name-index l.names))
