use Rattle.cs_syntax.proofs.ParseLemmas.{text_fault}
use Rattle.cs_syntax.proofs.laws.syntax_errors_are_text_faults.Goals as goal

pub returns : goal.returns
returns c = text_fault
