-- What the functions behind the program promise each other.
use Rattle.std.specs.Prelude.{◌≡◌, ℕ, List, map, Option, Result, Ok, Err, string_bytes}
use Rattle.cs_tree.specs.declared.fault.IoFault.{IoFault}
use Rattle.cs_tree.specs.declared.fault.IoFault.TheVariants.{Failed, Memory}
use Rattle.cs_args.specs.Messages.{line_of}
use Rattle.cs_args.specs.declared.fault.Refusal.TheVariants.{Word}
use Rattle.cs_args.specs.declared.fault.WordFault.{WordFault}
use Rattle.cs_args.specs.declared.jobs.Job.{Job}
use Rattle.codesearch.specs.Program.{Surroundings, DoesJob, IsUnreadBy, IsUntouched, Refuses, arg_at, unreadable_line, memory_line}
use Rattle.codesearch.specs.declared.call.Call.{Call}
use Rattle.codesearch.specs.declared.outcome.Outcome.{Outcome}

-- The job is done over the index, or a read of the index failed in it. If memory for a read is missing, nothing was done.
abbrev pub AnswersJob : (Option (List ℕ) → Type 0) → Job → Result Outcome IoFault → Surroundings → Surroundings → Type 0
AnswersJob IsIndex job (Ok outcome) old new = (index : Option (List ℕ)) → IsIndex index → DoesJob job index old new outcome
AnswersJob IsIndex job (Err fault) old new = IsUnreadBy job IsIndex old new × (fault ≡ Memory → IsUntouched old new)

-- a run over the index file with this name ends as its job does, or because the file cannot be read
abbrev pub EndsRead : List ℕ → Result Outcome IoFault → Outcome → Type 0
EndsRead name (Ok job) outcome = outcome ≡ job
EndsRead name (Err Failed) outcome = Refuses outcome (unreadable_line name)
EndsRead name (Err Memory) outcome = Refuses outcome memory_line

-- it ends with the line of an error of the arguments
abbrev pub RefusesArgs : Call → WordFault → Outcome → Type 0
RefusesArgs call fault outcome =
    Refuses outcome (line_of call.tool (Word fault) (arg_at fault (map string_bytes call.args.now)))
