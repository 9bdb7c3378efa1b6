use Rattle.std.proofs.Common.{None, refl}
use Rattle.cs_trigram.specs.declared.queries.Query.TheVariants.{All}
use Rattle.cs_search.proofs.CsearchLemmas.{accepted_plan}
use Rattle.cs_search.proofs.stored.without_index.Goals as goal

pub returns-in-Err : goal.returns-in-Err
returns-in-Err c = c.in-Err.ensures.refused None

pub returns : goal.returns
returns c = (All, (accepted_plan c.args.job.now c.in-Ok.plan c.in-Ok.ensures.plan, refl), refl)
