-- The plan of a search by an index: its contents, its errors, and the index that answers its query.
use Rattle.std.specs.Prelude.{ℕ, ◌≡◌, true, false, List, Option, String, Vec, string_bytes, Result, Err, MatchResult}
use Rattle.std.specs.declared.alloc.Global.{Global}
use Rattle.cs_syntax.specs.Matching.{Tree}
use Rattle.cs_syntax.specs.Parsing.{ParsesAs}
use Rattle.cs_trigram.specs.declared.queries.Query.{Query}
use Rattle.cs_trigram.specs.QueryOf.{IsQueryOf}
use Rattle.cs_index.specs.OpenedParts.{Parts}
use Rattle.cs_index.specs.Candidates.{candidates_of}
use Rattle.cs_index.specs.Answerable.{is_answerable}
use Rattle.cs_args.specs.declared.jobs.SearchJob.{SearchJob}
use Rattle.cs_args.specs.declared.fault.ToolFault.{ToolFault}
use Rattle.cs_search.specs.declared.stored.Plan.{Plan}
use Rattle.cs_search.specs.declared.stored.PlannedJob.{PlannedJob}
use Rattle.cs_search.specs.declared.status.Status.{Status}
use Rattle.cs_search.specs.Refusals.{has_write_failed}
use Rattle.cs_search.specs.Csearch.{file_text, OpensWith, RefusedInOrder}
use Rattle.cs_search.specs.IndexSearch.{IsFileProgram, AreKept}
use Rattle.cs_search.specs.Programs.{IsProgramOf}

-- A plan has a query for the pattern, and programs that match what both patterns match.
pub record IsPlan (job : SearchJob) (plan : Plan) : Type 0 where
  pub query : (pattern : Tree) → ParsesAs (string_bytes job.pattern) job.fold pattern →
      IsQueryOf job.brute pattern plan.query
  pub program : IsProgramOf (string_bytes job.pattern) job.fold plan.program
  pub file : IsFileProgram (file_text job) plan.file

-- The error is right for this job and index, and is not a failed write.
abbrev pub RefusesPlan : SearchJob → Option (List ℕ) → ToolFault → Type 0
RefusesPlan job index fault =
    (query : Query) × RefusedInOrder IsQueryOf job index query {A = Status} (Err fault)
    × (has_write_failed {A = Status} (Err fault) ≡ false)

-- The texts are the names that the plan selects from the index in the bytes: those of the candidates that `-f` keeps. Each
-- list that the query mentions is whole.
pub record AreSelected (plan : Plan) (index : Option (List ℕ)) (texts : List (String Global)) : Type 0 where
  pub parts : Parts
  pub opens : OpensWith index parts
  pub whole : is_answerable parts plan.query ≡ true
  pub kept : AreKept plan.file parts.names (candidates_of parts plan.query) texts

-- the names that the plan selects, or an error that is right for the job
abbrev pub SelectsOrRefuses : PlannedJob → Option (List ℕ) → Result (Vec (String Global) Global) ToolFault → Type 0
SelectsOrRefuses planned index answer =
    MatchResult answer (λ names. AreSelected planned.plan.now index names.items) (RefusesPlan planned.job.now index)
