use Rattle.std.proofs.Common.{◌≡◌, true}
use Rattle.std.specs.List.{list_all}
use Rattle.cs_tree.specs.Folders.{is_element}
use Rattle.cs_tree.specs.Trees.{listing_names}
use Rattle.cs_tree.proofs.disk_tree.list_once.Given as goal

-- what is listed so far are names
abbrev pub invariant-reads : goal.invariant-reads
invariant-reads g l = list_all is_element (listing_names l.listing) ≡ true
