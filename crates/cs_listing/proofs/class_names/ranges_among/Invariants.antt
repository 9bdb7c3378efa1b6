use Rattle.std.specs.Prelude.{bytes_eq}
use Rattle.std.specs.Map.{lookup}
use Rattle.std.proofs.Common.{◌≡◌, map, drop}
use Rattle.cs_listing.proofs.class_names.ranges_among.Given as goal

-- the class is not among the rows so far
abbrev pub invariant-classes : goal.invariant-classes
invariant-classes l = lookup (bytes_eq l.name) (map (λ row. (row.0.now, row.1.now)) l.classes)
    ≡ lookup (bytes_eq l.name) (map (λ row. (row.0.now, row.1.now)) (drop l.own-index l.classes))
