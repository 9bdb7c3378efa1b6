use Rattle.std.proofs.Common.{sym}
use Rattle.cs_tree.proofs.NameEndLemmas.{name_after}
use Rattle.cs_tree.proofs.walking.last_element.Goals as goal

pub returns-in-Some : goal.returns-in-Some
returns-in-Some c = sym (rw c.in-Some.is at (name_after c.args.path.now c.rsplit_once.result c.rsplit_once.ensures.cases))

pub returns-in-None : goal.returns-in-None
returns-in-None c = sym (rw c.in-None.is at (name_after c.args.path.now c.rsplit_once.result c.rsplit_once.ensures.cases))
