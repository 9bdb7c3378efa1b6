-- What a search of one input prints and returns. docs/PROMISES.md, "What is printed".
use Rattle.std.specs.Prelude.{ℕ, Bool, List, ◌≡◌, Option, Some, None, Result, MatchResult}
use Rattle.cs_syntax.specs.Matching.{Tree}
use Rattle.cs_match.specs.Deciding.{Decides}
use Rattle.cs_tree.specs.StreamModels.{SourceModel}
use Rattle.cs_tree.specs.Sinks.{Grows, SinkModel}
use Rattle.cs_search.specs.declared.status.GrepFault.{GrepFault}
use Rattle.cs_search.specs.declared.status.ReadFault.{ReadFault}
use Rattle.cs_search.specs.declared.status.Grepped.{Grepped}
use Rattle.cs_tree.specs.TakesPrefix.{TakesPrefix}
use Rattle.cs_search.specs.Report.{Report, report as report_of}
use Rattle.cs_args.specs.declared.jobs.Style.{Style}

-- The output of the report was written, and the answer has the report's match and fault.
abbrev pub IsReported : Report ReadFault → Option SinkModel → Option SinkModel → Grepped → Type 0
IsReported report before after answer =
    Grows before after report.output × (answer.matched ≡ report.matched) × (answer.fault ≡ report.fault)

-- the same, for an input with a model
abbrev pub Reports : Option SourceModel → (SourceModel → Report ReadFault) → Option SinkModel → Option SinkModel → Grepped → Type 0
Reports None report before after answer = Unit {0}
Reports (Some model) report before after answer = IsReported (report model) before after answer

-- After an error a prefix of the report's output was written.
abbrev pub ReportsPrefix : Option SourceModel → (SourceModel → Report ReadFault) → Option SinkModel → Option SinkModel → Type 0
ReportsPrefix None report before after = Unit {0}
ReportsPrefix (Some model) report before after = TakesPrefix (report model).output before after

-- Both, by each test that decides whether a line has a match.
abbrev pub ReportsBy : Tree → Option SourceModel → ((List ℕ → Bool) → SourceModel → Report ReadFault) →
    Option SinkModel → Option SinkModel → Result Grepped GrepFault → Type 0
ReportsBy tree model report before after result = MatchResult result
    (λ answer. (has_match : List ℕ → Bool) → Decides has_match tree → Reports model (report has_match) before after answer)
    (λ _. (has_match : List ℕ → Bool) → Decides has_match tree → ReportsPrefix model (report has_match) before after)

-- the report of a text in memory, which is searched to its end
abbrev pub text_report : Style → List ℕ → (List ℕ → Bool) → List ℕ → Report ReadFault
text_report style name has_match text = report_of style name has_match text None

-- The same for a text in memory.
abbrev pub IsReportedBy : Tree → ((List ℕ → Bool) → Report ReadFault) → Option SinkModel → Option SinkModel →
    Result Grepped GrepFault → Type 0
IsReportedBy tree report before after result = MatchResult result
    (λ answer. (has_match : List ℕ → Bool) → Decides has_match tree → IsReported (report has_match) before after answer)
    (λ _. (has_match : List ℕ → Bool) → Decides has_match tree → TakesPrefix (report has_match).output before after)
