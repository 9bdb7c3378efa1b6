use Rattle.std.proofs.Common.{subst}
use Rattle.cs_index.specs.ValidParts.{AreValidParts}
use Rattle.cs_index.proofs.reading.index.Index.are_valid.Goals as goal

pub returns : goal.returns
returns c = subst AreValidParts c.self.view_is (c.are_valid.ensures.parts c.self.inside.bytes.now _ c.self.invariant)
