-- The search of an index as a search of cgrep. docs/PROMISES.md, "The main promise".
use Rattle.std.specs.Prelude.{◌≡◌, ℕ, Bool, false, List, Option, Some, map, filter, string_bytes}
use Rattle.cs_tree.specs.Snapshot.{Snapshot}
use Rattle.cs_index.specs.OpenedParts.{Parts, files_read}
use Rattle.cs_history.specs.FileTrigrams.{ReadAsIndexed}
use Rattle.cs_args.specs.declared.jobs.SearchJob.{SearchJob}
use Rattle.cs_args.specs.declared.jobs.GrepJob.{GrepJob}
use Rattle.cs_search.specs.InputReport.{max_searched}
use Rattle.cs_search.specs.Printed.{Printed, searched_by_cgrep}
use Rattle.cs_search.specs.Csearch.{OpensWith, DecidesSearch}

-- If each file reads as it was indexed, a search prints what cgrep prints for all names that `-f` keeps, whoever
-- wrote the index. `Prints` says that this was printed and returned.
abbrev pub PrintsLikeCgrep : SearchJob → Option (List ℕ) → Option Snapshot → (Printed → Type 0) → Type 0
PrintsLikeCgrep job index tree Prints =
    (parts : Parts) (snapshot : Snapshot) (has_match keeps : List ℕ → Bool) →
    OpensWith index parts → tree ≡ Some snapshot → ReadAsIndexed snapshot (files_read parts) → DecidesSearch job has_match keeps →
    Prints (searched_by_cgrep max_searched job.style has_match snapshot (filter keeps parts.names))

-- The job of cgrep searches exactly these files, for the same pattern, in the same style.
pub record IsSameSearch (job : SearchJob) (names : List (List ℕ)) (like : GrepJob) : Type 0 where
  pub pattern : like.pattern ≡ job.pattern
  pub fold : like.fold ≡ job.fold
  pub style : like.style ≡ job.style
  pub files : like.standard ≡ false
  pub over : map string_bytes like.files.items ≡ names
