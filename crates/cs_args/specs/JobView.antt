-- A job as contracts see it: texts are lists of bytes.
use Rattle.std.specs.Prelude.{◌≡◌, ℕ, Bool, List, Option, option_map, map, string_bytes, Result, Ok, Err, MatchResult}
use Rattle.cs_args.specs.declared.fault.WordFault.{WordFault}
use Rattle.cs_args.specs.declared.fault.WordFault.TheVariants.{Memory}
use Rattle.cs_args.specs.declared.jobs.Job.{Job}
use Rattle.cs_args.specs.declared.jobs.Job.TheVariants.{Index, Search, Grep}
use Rattle.cs_args.specs.declared.jobs.Style.{Style}

pub data JobView : Type 0 where
  index : (list reset log_skip : Bool) (cwd : List ℕ) (paths : List (List ℕ)) → JobView
  search : (style : Style) (fold brute : Bool) (file : Option (List ℕ)) (pattern : List ℕ) → JobView
  grep : (style : Style) (fold : Bool) (pattern : List ℕ) (standard : Bool) (files : List (List ℕ)) → JobView

abbrev pub job_view : Job → JobView
job_view (Index job) =
    index job.list job.reset job.log_skip (string_bytes job.cwd) (map string_bytes job.paths.items)
job_view (Search job) =
    search job.style job.fold job.brute (option_map string_bytes job.file) (string_bytes job.pattern)
job_view (Grep job) =
    grep job.style job.fold (string_bytes job.pattern) job.standard (map string_bytes job.files.items)

-- The answer is the job that the arguments parse as, or their error; instead of the job it may be Memory.
abbrev pub GivesJob : Result JobView WordFault → Result Job WordFault → Type 0
GivesJob (Ok job) answer = MatchResult answer (λ found. job_view found ≡ job) (λ fault. fault ≡ Memory)
GivesJob (Err fault) answer = answer ≡ Err fault
