use Rattle.cs_listing.proofs.ReportAllLemmas.{reports_all as law}
use Rattle.cs_listing.proofs.laws.walks_report_all.Goals as goal

pub returns : goal.returns
returns c = law
