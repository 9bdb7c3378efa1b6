-- The searched part of an input with a model, and its report.
-- docs/PROMISES.md, "What is printed"; docs/FORMAT.md, "Limits".
use Rattle.std.specs.Prelude.{ℕ, nat_lt, if◌then◌else◌, Bool, List, length, take, Option, Some, None}
use Rattle.cs_tree.specs.StreamModels.{SourceModel, ends, fails}
use Rattle.cs_args.specs.declared.jobs.Style.{Style}
use Rattle.cs_search.specs.declared.status.ReadFault.{ReadFault}
use Rattle.cs_search.specs.declared.status.ReadFault.TheVariants.{Read, TooLong}
use Rattle.cs_search.specs.Report.{Report, report}

-- the number of bytes of an input that are searched: 2^30
abbrev pub max_searched : ℕ
max_searched = 1073741824

-- why a search stops before the end of its input: the input is longer than the limit, or fails within it
abbrev pub fault_within : ℕ → SourceModel → Option ReadFault
fault_within limit model = if nat_lt limit (length model.bytes) then Some TooLong else elim model.ending [ ends ↦ None | fails ↦ Some Read ]

-- the report of an input that is searched up to a limit
unfoldable pub input_report : ℕ → Style → List ℕ → (List ℕ → Bool) → SourceModel → Report ReadFault
input_report limit style name has_match model =
    report style name has_match (take limit model.bytes) (fault_within limit model)
