-- The promise about a search by an index (`IsSearch`), of a call over a tree and two outputs.
use Rattle.std.specs.Prelude.{ℕ, Bool, List, Option, Result}
use Rattle.cs_syntax.specs.Matching.{Tree}
use Rattle.cs_tree.specs.Sinks.{SinkModel}
use Rattle.cs_tree.specs.Snapshot.{Snapshot}
use Rattle.cs_trigram.specs.declared.queries.Query.{Query}
use Rattle.cs_args.specs.declared.jobs.SearchJob.{SearchJob}
use Rattle.cs_args.specs.declared.fault.ToolFault.{ToolFault}
use Rattle.cs_search.specs.declared.status.Status.{Status}
use Rattle.cs_search.specs.Printed.{search_outputs}
use Rattle.cs_search.specs.Searched.{IsSearch}

-- It holds of their models before and after the call.
abbrev pub SearchesBy : {T O E : Type 0} → (Bool → Tree → Query → Type 0) → (T → Option Snapshot) → (T → ℕ) →
    (O → Option SinkModel) → (E → Option SinkModel) → SearchJob → Option (List ℕ) → T → T → O → O → E → E →
    Result Status ToolFault → Type 0
SearchesBy IsRight snapshot failed out_model err_model job index tree tree' out out' err err' answer =
    IsSearch IsRight job index (snapshot tree) (failed tree) (failed tree') (search_outputs out_model err_model out out' err err') answer
