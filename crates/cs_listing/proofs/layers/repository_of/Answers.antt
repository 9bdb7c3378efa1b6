use Rattle.cs_listing.proofs.LayerLemmas.{repository_found}
use Rattle.cs_listing.proofs.layers.repository_of.Goals as goal

pub returns-in-Some-exclude-clause-found : goal.returns-in-Some-exclude-clause-found
returns-in-Some-exclude-clause-found c =
    let inv = c.folders.invariant in
    repository_found c.args.folders.now c.folders.upper.now c.in-Some.above.now inv.0 c.in-Some.folder.now c.in-Some-exclude.exclude
    c.args.path.now c.in-Some.ensures.cases inv.1 inv.2 c.in-Some-exclude.is
