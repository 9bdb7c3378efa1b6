use Rattle.cs_learned.proofs.KnownProjectLemmas.{found_in}
use Rattle.cs_learned.proofs.known_project.KnownProject.find.Goals as goal

pub returns-in-Some-clause-found : goal.returns-in-Some-clause-found
returns-in-Some-clause-found g c =
    found_in g.S.Store.model c.args.self.now.files c.in-Some.files c.args.name.now c.args.stamp.now c.find.result
    c.in-Some.is c.find.ensures.found
