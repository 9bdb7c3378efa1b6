use Rattle.std.proofs.Common.{◌≡◌, length}
use denote.Text.{Utf8}
use denote.Shadow.{shadow}
use Rattle.std.specs.List.{list_all}
use Rattle.cs_tree.specs.Clean.{elements}
use Rattle.cs_tree.specs.Proper.{is_proper, is_proper_path}
use Rattle.cs_tree.proofs.paths.is_proper_path.Given as goal

-- the path is proper exactly if the remaining elements are proper
abbrev pub invariant-elements : goal.invariant-elements
invariant-elements l = record {
  text : shadow (Utf8 l.rest);
  left : is_proper_path l.path ≡ list_all is_proper (elements l.rest);
}

abbrev pub decreases-elements : goal.decreases-elements
decreases-elements l = length l.rest
