-- The kinds of jobs. docs/PROMISES.md, "Jobs of cindex".
use Rattle.std.specs.Prelude.{◌≡◌, ◌&&◌, if◌then◌else◌}
use Rattle.cs_history.specs.Jobs.{has_no_path}
use Rattle.cs_args.specs.declared.jobs.IndexJob.{IndexJob}

pub data JobKind : Type 0 where
  -- `-list`, with any other options
  lists : JobKind
  -- `-reset` without paths
  clears : JobKind
  -- any other job
  walks : JobKind

-- the kind of a job
abbrev pub job_kind : IndexJob → JobKind
job_kind job = if job.list then lists else (if job.reset && has_no_path job then clears else walks)

-- the job walks: it is neither `-list` nor `-reset` without paths
abbrev pub Walks : IndexJob → Type 0
Walks job = job_kind job ≡ walks
