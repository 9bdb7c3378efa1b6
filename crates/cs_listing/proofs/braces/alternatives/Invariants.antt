use Rattle.std.proofs.Common.{◌≡◌, length}
use Rattle.std.specs.Prelude.{Some}
use Rattle.cs_listing.specs.Braces.{pieces_in, texts_after, alternatives}
use Rattle.cs_listing.specs.Models.{expansion_of}
use Rattle.cs_listing.proofs.braces.alternatives.Given as goal

-- what is read of the glob, and the rest
abbrev pub invariant-pieces : goal.invariant-pieces
invariant-pieces l = texts_after (Some (expansion_of l.expansion)) (pieces_in l.rest) ≡ alternatives l.fn.glob

abbrev pub decreases-pieces : goal.decreases-pieces
decreases-pieces l = length l.rest
