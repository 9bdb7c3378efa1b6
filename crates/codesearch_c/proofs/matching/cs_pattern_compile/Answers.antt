use Rattle.codesearch_c.proofs.BuildingLemmas.{empty_is_none}
use Rattle.codesearch_c.proofs.matching.cs_pattern_compile.Goals as goal

pub returns-in-Err-clause-refused : goal.returns-in-Err-clause-refused
returns-in-Err-clause-refused c = λ empty _. empty_is_none c.args.slot.now.handle.value empty
