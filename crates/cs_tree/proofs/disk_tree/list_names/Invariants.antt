use Rattle.std.proofs.Common.{◌≡◌, true, length}
use Rattle.std.specs.List.{list_all}
use Rattle.cs_tree.specs.Folders.{is_element}
use Rattle.cs_tree.specs.Trees.{listing_names}
use Rattle.cs_tree.proofs.disk_tree.list_names.Given as goal

-- what is listed so far are names
abbrev pub invariant-names : goal.invariant-names
invariant-names l = list_all is_element (listing_names l.listing) ≡ true

abbrev pub decreases-names : goal.decreases-names
decreases-names l = length l.rest
