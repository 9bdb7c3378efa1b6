use Rattle.cs_project.proofs.ListedLemmas.{lists_none}
use Rattle.cs_project.proofs.listing.NameListingVisitor.report.Goals as goal

pub returns-clause-visits : goal.returns-clause-visits
returns-clause-visits g c = lists_none c.args.self.now record c.args.self.now { reports = c.unlisted.new.self }
