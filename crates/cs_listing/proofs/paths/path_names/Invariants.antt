use Rattle.std.proofs.Common.{◌≡◌, ◌++◌, length, map}
use Rattle.std.specs.Prelude.{string_bytes}
use denote.Text.{Utf8}
use denote.Shadow.{shadow}
use Rattle.cs_listing.specs.PathNames.{names_along}
use Rattle.cs_listing.proofs.paths.path_names.Given as goal

-- the names so far, and those of the rest, are those of the path
abbrev pub invariant-names : goal.invariant-names
invariant-names l = record {
  text : shadow (Utf8 l.rest);
  all : map string_bytes l.names.items ++ names_along l.rest ≡ names_along l.path;
}

abbrev pub decreases-names : goal.decreases-names
decreases-names l = length l.rest
