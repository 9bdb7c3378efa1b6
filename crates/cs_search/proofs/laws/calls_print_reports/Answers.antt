use Rattle.cs_search.proofs.StyleReportLemmas.{input_begun, input_reported, text_report_begun, text_reported}
use Rattle.cs_search.proofs.laws.calls_print_reports.Goals as goal

pub returns : goal.returns
returns c = record {
  inputs = input_reported;
  inputs_begun = input_begun;
  texts = text_reported;
  texts_begun = text_report_begun;
}
