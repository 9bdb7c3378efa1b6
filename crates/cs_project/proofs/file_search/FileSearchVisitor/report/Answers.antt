use Rattle.std.proofs.Common.{refl}
use Rattle.cs_project.proofs.VisitLemmas.{nothing_visited}
use Rattle.cs_project.proofs.file_search.FileSearchVisitor.report.Goals as goal

pub returns-clause-visits : goal.returns-clause-visits
returns-clause-visits g c bytes = nothing_visited c.args.self.now record c.args.self.now { reports = c.unlisted.new.self } bytes refl
