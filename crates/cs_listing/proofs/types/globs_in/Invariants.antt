use Rattle.std.proofs.Common.{◌≡◌, map, drop}
use Rattle.cs_listing.specs.Types.{globs_among, type_of}
use Rattle.cs_listing.proofs.types.globs_in.Given as goal

-- the type is not among the rows so far
abbrev pub invariant-types : goal.invariant-types
invariant-types l = globs_among (map type_of l.types) l.name ≡ globs_among (map type_of (drop l.own-index l.types)) l.name
