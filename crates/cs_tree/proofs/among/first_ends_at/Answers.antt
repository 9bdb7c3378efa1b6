use Rattle.std.proofs.Common.{sym}
use Rattle.cs_tree.proofs.NarrowLemmas.{first_ends}
use Rattle.cs_tree.proofs.among.first_ends_at.Goals as goal

pub returns-in-Some : goal.returns-in-Some
returns-in-Some g c = first_ends g.P.AsStr.text c.args.at c.args.paths.now _ _ c.requires (sym c.in-Some.ensures.value) c.as_str.ensures
