use Rattle.std.proofs.Common.{◌≡◌, map, take}
use Rattle.std.specs.Prelude.{string_bytes}
use Rattle.cs_listing.specs.Models.{names}
use Rattle.cs_listing.proofs.user_settings.matches_rule.Given as goal

-- the names so far
abbrev pub invariant-names : goal.invariant-names
invariant-names l = names l.names.items ≡ map string_bytes (take l.name-index l.name-items)
