-- The promise about a search by an index, wherever the bytes of the index come from.
-- docs/PROMISES.md, "Searches of an index".
use Rattle.std.specs.Prelude.{ℕ, ◌⊎◌, Bool, List, Option, Some, Result}
use Rattle.cs_syntax.specs.Matching.{Tree}
use Rattle.cs_tree.specs.TakesPrefix.{EndsAfter}
use Rattle.cs_tree.specs.Snapshot.{Snapshot}
use Rattle.cs_trigram.specs.declared.queries.Query.{Query}
use Rattle.cs_index.specs.OpenedParts.{Parts}
use Rattle.cs_args.specs.declared.jobs.Tool.TheVariants.{Csearch}
use Rattle.cs_args.specs.declared.jobs.SearchJob.{SearchJob}
use Rattle.cs_args.specs.declared.fault.ToolFault.{ToolFault}
use Rattle.cs_search.specs.declared.status.Status.{Status}
use Rattle.cs_search.specs.InputReport.{max_searched}
use Rattle.cs_search.specs.Csearch.{OpensWith, DecidesSearch, csearch_printed, IsReady, RefusedInOrder}
use Rattle.cs_search.specs.Printed.{SearchOutputs, PrintsAnswer, PrintsNothing, PrintsFaults}
use Rattle.cs_search.specs.SearchHeadline.{SearchesLikeGrep}

-- What csearch promises, given the job, the bytes of the index, the tree's snapshot and its failures, the outputs, and the
-- answer. What is printed and what is refused is that of one query, and `IsRight` says which queries are right for a pattern.
pub record IsSearch (IsRight : Bool → Tree → Query → Type 0) (job : SearchJob) (index : Option (List ℕ)) (tree : Option Snapshot)
    (failed failed' : ℕ) (outputs : SearchOutputs) (answer : Result Status ToolFault) : Type 0 where
  -- the query that is run, if the search comes so far
  pub query : Query
  pub prints : (parts : Parts) (has_match keeps : List ℕ → Bool) → OpensWith index parts → DecidesSearch job has_match keeps →
      PrintsAnswer (csearch_printed max_searched job.style has_match keeps parts query tree) outputs answer
  pub promised : SearchesLikeGrep job index tree (λ printed. PrintsAnswer (Some printed) outputs answer)
  pub begins : PrintsNothing outputs ⊎ IsReady IsRight job index query
  pub refused : RefusedInOrder IsRight job index query answer
  pub faults : (parts : Parts) → OpensWith index parts →
      PrintsFaults Csearch parts.names failed failed' (λ lines. EndsAfter lines outputs.err outputs.err_then answer)
