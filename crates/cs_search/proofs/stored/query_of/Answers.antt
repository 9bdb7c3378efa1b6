use Rattle.std.proofs.Common.{rules}
use Rattle.cs_search.proofs.stored.query_of.Goals as goal

pub returns-then-brute : goal.returns-then-brute
returns-then-brute c = search rules
