use Rattle.cs_learned.proofs.FreshLemmas.{is_fresh}
use Rattle.cs_learned.proofs.laws.a_search_is_fresh.Goals as goal

pub returns : goal.returns
returns c = is_fresh c.a_skipped_file_prints_nothing.ensures
