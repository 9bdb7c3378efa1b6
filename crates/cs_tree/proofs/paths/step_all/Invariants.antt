use Rattle.std.proofs.Common.{◌≡◌, length}
use Rattle.std.specs.Prelude.{reverse}
use denote.Text.{Utf8}
use denote.Shadow.{shadow}
use Rattle.std.specs.List.{fold}
use Rattle.cs_tree.specs.Clean.{elements, with_element}
use Rattle.cs_tree.specs.PathParts.{texts}
use Rattle.cs_tree.proofs.paths.step_all.Given as goal

-- the remaining elements give the result of all elements
abbrev pub invariant-elements : goal.invariant-elements
invariant-elements l = record {
  text : shadow (Utf8 l.rest);
  left : fold with_element (reverse (texts l.above.items)) (elements l.rest)
      ≡ fold with_element (reverse (texts l.initial.above.items)) (elements l.text);
}

abbrev pub decreases-elements : goal.decreases-elements
decreases-elements l = length l.rest
