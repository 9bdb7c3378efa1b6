-- The last part of the main promise. docs/PROMISES.md, "The main promise".
--
--     Where every indexed file still reads as it was indexed, csearch prints exactly what cgrep prints
--     over the indexed files in name order.
use Rattle.std.specs.Prelude.{ℕ, Bool, List, [], ◌∷◌, Option, filter}
use Rattle.std.specs.FinMap as map'
use Rattle.cs_tree.specs.Snapshot.{Snapshot}
use Rattle.cs_history.specs.FileTrigrams.{ReadAsIndexed}
use Rattle.cs_history.specs.History.{History, files_of}
use Rattle.cs_history.specs.HistoryIndex.{indexed_names, IsBuiltByJobs}
use Rattle.cs_history.specs.Premises.{modelled_snapshot, Premises}
use Rattle.cs_args.specs.declared.jobs.SearchJob.{SearchJob}
use Rattle.cs_search.specs.InputReport.{max_searched}
use Rattle.cs_search.specs.Printed.{Printed, searched_by_cgrep}
use Rattle.cs_search.specs.Csearch.{DecidesSearch}

-- Premises: the index is that of the earlier jobs, and every file that it names still reads as it was indexed.
pub record SearchPremises (tree : Option Snapshot) (index : Option (List ℕ)) (earlier : History) : Type 0 where
  pub jobs_left : Premises (tree ∷ []) index earlier
  pub by_jobs : IsBuiltByJobs earlier
  pub still_reads : ReadAsIndexed (modelled_snapshot tree) (map'.entries (files_of earlier))

-- A search prints what cgrep prints for the indexed names that `-f` keeps, in their order. `Prints` says that exactly
-- this was written to both outputs, and its status returned.
abbrev pub SearchesLikeGrep : SearchJob → Option (List ℕ) → Option Snapshot → (Printed → Type 0) → Type 0
SearchesLikeGrep job index tree Prints =
    (earlier : History) (has_match keeps : List ℕ → Bool) → SearchPremises tree index earlier → DecidesSearch job has_match keeps →
    Prints (searched_by_cgrep max_searched job.style has_match (modelled_snapshot tree) (filter keeps (indexed_names earlier)))
