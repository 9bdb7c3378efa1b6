use Rattle.cs_listing.proofs.ReportLemmas.{reports_once as law}
use Rattle.cs_listing.proofs.laws.walks_report_once.Goals as goal

pub returns : goal.returns
returns c = law
