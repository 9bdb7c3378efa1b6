use Rattle.std.proofs.Common.{ap, sym, ◌∙◌, rules}
use Rattle.cs_listing.specs.Reading.{lent}
use Rattle.cs_listing.proofs.ClassLemmas.{named, ranged}
use Rattle.cs_listing.proofs.classes.add_item.Goals as goal

pub returns-in-Some : goal.returns-in-Some
returns-in-Some c =
    let item = named c.args.text.now c.in-Some.name.now c.in-Some-ranges_named.named.now (c.requires ∙ ap lent c.in-Some.is)
    (c.ranges_named.ensures ∙ ap lent c.in-Some-ranges_named.is) in
    (c.in-Some-ranges_named.named.now, item.0, search rules, item.1)

pub returns : goal.returns
returns c =
    let read = c.in-Some-range.ensures in
    (_, ranged c.args.text.now _ (c.requires ∙ ap lent c.in_default.is) read.0, search rules, read.1)
