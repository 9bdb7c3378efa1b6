use Rattle.std.proofs.Common.{arith}
use Rattle.cs_trigram.proofs.CorrectQueryLemmas.{all_repeated, correct_repeated}
use Rattle.cs_trigram.proofs.analysis.query_of_repeat.Goals as goal

pub returns-then-least-eq0 : goal.returns-then-least-eq0
returns-then-least-eq0 c = λ t most query many. all_repeated t c.args.least most (omega arith)

pub returns : goal.returns
returns c = λ t most query. correct_repeated _ t c.args.least most (omega arith) query
