use Rattle.cs_listing.proofs.classes.ranges_named.Goals as goal

pub returns : goal.returns
returns c = c.ranges_among.ensures
