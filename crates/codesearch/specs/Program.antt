-- What the program does: the tool that its arguments call, its errors in their order, what the tool does, what becomes
-- of the index file, and the exit status. docs/PROMISES.md, "The program".
use Rattle.std.specs.Prelude.{◌≡◌, ℕ, ◌+◌, Bool, true, false, ◌&&◌, not, if◌then◌else◌, List, [], ◌∷◌, ◌++◌, map, drop, find, length, slice_get, Option, Some, None, is_none, unwrap_or, option_map, option_and_then, Result, Ok, Err, ◌⊎◌, codes, decimal, bytes_eq, string_bytes, nat_eq}
use Rattle.std.specs.Option.{option_or}
use Rattle.std.specs.Path.{path_file_name}
use Rattle.cs_tree.specs.declared.fault.IoFault.{IoFault}
use Rattle.cs_tree.specs.Cover.{is_absolute}
use Rattle.cs_tree.specs.Sinks.{SinkModel, CountsOne}
use Rattle.cs_tree.specs.Snapshot.{Snapshot}
use Rattle.cs_tree.specs.StreamModels.{SourceModel}
use Rattle.cs_tree.specs.TakesPrefix.{EndsAfter}
use Rattle.cs_args.specs.Args.{parse_args}
use Rattle.cs_args.specs.FileFaults.{tool_name}
use Rattle.cs_args.specs.JobView.{JobView, job_view, GivesJob}
use Rattle.cs_args.specs.Messages.{line_of}
use Rattle.cs_args.specs.declared.fault.CindexFault.{CindexFault}
use Rattle.cs_args.specs.declared.fault.CindexFault.TheVariants.{BadPath}
use Rattle.cs_args.specs.declared.fault.Refusal.TheVariants.{Word as A_word, Tool as A_tool, Index as An_index}
use Rattle.cs_args.specs.declared.fault.ToolFault.{ToolFault}
use Rattle.cs_args.specs.declared.fault.WordFault.{WordFault}
use Rattle.cs_args.specs.declared.fault.WordFault.TheVariants.{UnknownOption, NoValue, BadTruth, NoPattern, ExtraWord, Memory as WordMemory}
use Rattle.cs_args.specs.declared.jobs.GrepJob.{GrepJob}
use Rattle.cs_args.specs.declared.jobs.IndexJob.{IndexJob}
use Rattle.cs_args.specs.declared.jobs.Job.{Job}
use Rattle.cs_args.specs.declared.jobs.Job.TheVariants.{Index, Search, Grep}
use Rattle.cs_args.specs.declared.jobs.Reply.{Reply}
use Rattle.cs_args.specs.declared.jobs.Reply.TheVariants as reply
use Rattle.cs_args.specs.declared.jobs.SearchJob.{SearchJob}
use Rattle.cs_args.specs.declared.jobs.Style.{Style}
use Rattle.cs_args.specs.declared.jobs.Tool.{Tool}
use Rattle.cs_args.specs.declared.jobs.Tool.TheVariants.{Cindex, Csearch, Cgrep}
use Rattle.cs_history.specs.History.{History, index_of}
use Rattle.cs_history.specs.Jobs.{after_done}
use Rattle.cs_history.specs.Premises.{modelled_snapshot, Premises}
use Rattle.cs_search.specs.Cgrep.{IsGrep}
use Rattle.cs_search.specs.Printed.{SearchOutputs, PrintsNothing}
use Rattle.cs_trigram.specs.QueryOf.{IsQueryOf}
use Rattle.cs_search.specs.Refusals.{has_write_failed}
use Rattle.cs_search.specs.Searched.{IsSearch}
use Rattle.cs_search.specs.declared.status.Status.{Status}
use Rattle.cs_search.specs.declared.status.Status.TheVariants.{Matched, NoMatch}
use Rattle.cs_cindex.specs.Output.{JobTree}
use Rattle.cs_cindex.specs.Steps.{Outputs, outputs, State, IsUnread, IsWholeStep}
use Rattle.codesearch.specs.declared.call.Call.{Call}
use Rattle.codesearch.specs.declared.given.Given.{Given}
use Rattle.codesearch.specs.declared.outcome.Outcome.{Outcome}
use Rattle.codesearch.specs.declared.outcome.Outcome.TheVariants.{Done, Searched, Refused}
use Rattle.codesearch.specs.declared.outcome.ProgramFault.{ProgramFault}
use Rattle.codesearch.specs.declared.outcome.ProgramFault.TheVariants.{FirstArg, NonText, NoFolder, Unreadable, Unwritable, Leftover, Descriptors, Refusal, Memory}
use Rattle.codesearch.specs.declared.running.FoundFile.{FoundFile}
use Rattle.codesearch.specs.declared.running.World.{World}
use Rattle.cs_storage.specs.FileAfter.{file_after}
use Rattle.cs_storage.specs.declared.folder.StorageFault.{StorageFault}
use Rattle.cs_storage.specs.declared.folder.StorageFault.TheVariants as storage
use Rattle.cs_storage.specs.declared.update.IndexUpdate.{IndexUpdate}
use Rattle.cs_storage.specs.declared.update.IndexUpdate.TheVariants.{Keep}

-- ---- what the arguments mean

abbrev pub given_args : Given → List (List ℕ)
given_args given = map string_bytes given.args.items

-- the tool with this name
abbrev pub tool_named : List ℕ → Option Tool
tool_named name = find (λ tool. bytes_eq (tool_name tool) name) (Cindex ∷ Csearch ∷ Cgrep ∷ [])

-- the tool whose name the program is run by
abbrev pub own_tool : Given → Option Tool
own_tool given = option_and_then tool_named (path_file_name (string_bytes given.program))

-- this tool, or if there is none the one that the first argument names
abbrev pub tool_of : Given → Option Tool
tool_of given = option_or (own_tool given) (option_and_then tool_named (slice_get (given_args given) 0))

-- the arguments of the tool
abbrev pub tool_args : Given → List (List ℕ)
tool_args given = if is_none (own_tool given) then drop 1 (given_args given) else given_args given

-- the current folder, if it begins with `/`
abbrev pub absolute_folder : Given → Option (List ℕ)
absolute_folder given =
    option_and_then (λ folder. if is_absolute folder then Some folder else None) (option_map string_bytes given.folder)

-- what the arguments of the tool parse as
abbrev pub meaning : Given → Tool → Result JobView WordFault
meaning given tool = parse_args tool (unwrap_or (absolute_folder given) []) (tool_args given)

-- ---- errors

abbrev pub first_arg_line : List ℕ
first_arg_line = codes "codesearch: first word must be cindex, csearch or cgrep\n"

abbrev pub non_text_line : Tool → ℕ → List ℕ
non_text_line tool number = tool_name tool ++ codes ": word " ++ decimal number ++ codes " is not text\n"

abbrev pub no_folder_line : List ℕ
no_folder_line = codes "codesearch: no current folder\n"

abbrev pub unreadable_line : List ℕ → List ℕ
unreadable_line file = codes "codesearch: cannot read " ++ file ++ codes "\n"

abbrev pub unwritable_line : List ℕ → List ℕ
unwritable_line file = codes "codesearch: cannot write " ++ file ++ codes "\n"

-- a file at FILE~ is to be removed by hand
abbrev pub leftover_line : List ℕ → List ℕ → List ℕ
leftover_line file temp = codes "codesearch: cannot write " ++ file ++ (codes ": remove " ++ temp ++ codes "\n")

abbrev pub descriptors_line : List ℕ
descriptors_line = codes "codesearch: too many open files\n"

abbrev pub memory_line : List ℕ
memory_line = codes "codesearch: out of memory\n"

-- the line for an index file that cannot be opened or read
abbrev pub reading_line : List ℕ → StorageFault → List ℕ
reading_line file storage.Failed = unreadable_line file
reading_line file storage.Locked = unreadable_line file
reading_line file storage.Leftover = unreadable_line file
reading_line file storage.Descriptors = descriptors_line
reading_line file storage.Memory = memory_line

-- the line for an index file that cannot be claimed, written or removed
abbrev pub writing_line : List ℕ → List ℕ → StorageFault → List ℕ
writing_line file temp storage.Failed = unwritable_line file
writing_line file temp storage.Locked = unwritable_line file
writing_line file temp storage.Leftover = leftover_line file temp
writing_line file temp storage.Descriptors = descriptors_line
writing_line file temp storage.Memory = memory_line

-- the argument that an error points at
abbrev pub arg_at : WordFault → List (List ℕ) → List ℕ
arg_at (UnknownOption position) args = unwrap_or (slice_get args position) []
arg_at (NoValue position) args = unwrap_or (slice_get args position) []
arg_at (BadTruth position) args = unwrap_or (slice_get args position) []
arg_at (ExtraWord position) args = unwrap_or (slice_get args position) []
arg_at NoPattern args = []
arg_at WordMemory args = []

-- the path of the job that an error points at
abbrev pub path_at : CindexFault → IndexJob → List ℕ
path_at (BadPath position) job = unwrap_or (slice_get (map string_bytes job.paths.items) position) []
path_at fault job = []

-- the index file: its name and that of FILE~, why it cannot be opened or read, and why it cannot be claimed for an update
pub record IndexFile : Type 0 where
  pub name : List ℕ
  pub temp : List ℕ
  pub unreadable : Option StorageFault
  pub unclaimed : Option StorageFault

-- this line, if the error is there
abbrev pub when : Bool → List ℕ → Option (List ℕ)
when is_there line = if is_there then Some line else None

-- the line for an error of the arguments
abbrev pub word_line : Tool → List (List ℕ) → Result JobView WordFault → Option (List ℕ)
word_line tool args (Ok job) = None
word_line tool args (Err fault) = Some (line_of tool (A_word fault) (arg_at fault args))

-- `cindex` has no current folder
abbrev pub lacks_folder : Given → Tool → Bool
lacks_folder given Cindex = is_none (absolute_folder given)
lacks_folder given Csearch = false
lacks_folder given Cgrep = false

-- The errors that come before the tool, in their order; the first one ends the program with its line: no tool is named,
-- an argument is not UTF-8, there is no current folder, the index file is unreadable, the arguments are
-- wrong, and the index file cannot be claimed.
abbrev pub early_line_for : Option Tool → Given → IndexFile → Option (List ℕ)
early_line_for None given file = Some first_arg_line
early_line_for (Some tool) given file =
    option_or (when given.has_non_text (non_text_line tool (length (tool_args given) + 1)))
    (option_or (when (lacks_folder given tool) no_folder_line)
    (option_or (option_map (reading_line file.name) file.unreadable)
    (option_or (word_line tool (tool_args given) (meaning given tool))
    (option_map (writing_line file.name file.temp) file.unclaimed))))

abbrev pub early_line : Given → IndexFile → Option (List ℕ)
early_line given file = early_line_for (tool_of given) given file

-- ---- how it ends

-- 0 if some line matched or a job of cindex is done, 1 if no line matched, 2 after an error
abbrev pub exit_status : Outcome → ℕ
exit_status (Done update) = 0
exit_status (Searched Matched) = 0
exit_status (Searched NoMatch) = 1
exit_status (Refused fault) = 2

-- what becomes of the index file
abbrev pub update_of : Outcome → IndexUpdate
update_of (Done update) = update
update_of (Searched status) = Keep
update_of (Refused fault) = Keep

-- the line of an error
abbrev pub fault_line : ProgramFault → List ℕ
fault_line FirstArg = first_arg_line
fault_line (NonText tool number) = non_text_line tool number
fault_line NoFolder = no_folder_line
fault_line (Unreadable file) = unreadable_line file.now
fault_line (Unwritable file) = unwritable_line file.now
fault_line (Leftover file temp) = leftover_line file.now temp.now
fault_line Descriptors = descriptors_line
fault_line (Refusal tool refusal arg) = line_of tool refusal arg.now
fault_line Memory = memory_line

-- it ends with this error line
abbrev pub Refuses : Outcome → List ℕ → Type 0
Refuses (Done update) line = ⊥
Refuses (Searched status) line = ⊥
Refuses (Refused fault) line = fault_line fault ≡ line

-- it ends because an allocation failed before the tool
abbrev pub EndsOutOfMemory : Outcome → Type 0
EndsOutOfMemory outcome = Refuses outcome memory_line ⊎ ((tool : Tool) × Refuses outcome (line_of tool (A_word WordMemory) []))

-- a search ends with this answer
abbrev pub EndsSearch : Tool → Result Status ToolFault → Outcome → Type 0
EndsSearch tool (Ok status) outcome = outcome ≡ Searched status
EndsSearch tool (Err fault) outcome = Refuses outcome (line_of tool (A_tool fault) [])

-- a job of cindex is done; `-list` leaves the index file alone
abbrev pub IsDone : IndexJob → Outcome → Type 0
IsDone job (Done update) = job.list ≡ true → update ≡ Keep
IsDone job (Searched status) = ⊥
IsDone job (Refused fault) = ⊥

-- a job of cindex ends with this reply
abbrev pub IsReplied : IndexJob → Reply → Outcome → Type 0
IsReplied job reply.Done outcome = IsDone job outcome
IsReplied job (reply.Refused fault) outcome = Refuses outcome (line_of Cindex (An_index fault) (path_at fault job))

-- ---- what the tool does

-- What the program runs over: the models of the tree, of standard input and of both outputs, and their failures.
pub record Surroundings : Type 0 where
  pub tree : Option Snapshot
  pub tree_failed : ℕ
  pub input : Option SourceModel
  pub input_failed : ℕ
  pub outputs : Outputs

module _ {T R O E : Type 0} (snapshot : T → Option Snapshot) (tree_failed : T → ℕ) (source : R → Option SourceModel)
    (input_failed : R → ℕ) (out_model : O → Option SinkModel) (out_failed : O → ℕ) (err_model : E → Option SinkModel)
    (err_failed : E → ℕ) where
  abbrev pub surroundings : World T R O E → Surroundings
  surroundings world = record {
    tree = snapshot world.tree;
    tree_failed = tree_failed world.tree;
    input = source world.input;
    input_failed = input_failed world.input;
    outputs = outputs out_model out_failed err_model err_failed world.out world.err;
  }

  -- `Claim` holds of what they are before and after
  abbrev pub Between : World T R O E → World T R O E → (Surroundings → Surroundings → Type 0) → Type 0
  Between old new Claim = Claim (surroundings old) (surroundings new)

abbrev pub KeepsInput : Surroundings → Surroundings → Type 0
KeepsInput old new = (new.input ≡ old.input) × (new.input_failed ≡ old.input_failed)

-- the models of the outputs
abbrev pub models_of : Surroundings → Surroundings → SearchOutputs
models_of old new = record {
  out = old.outputs.out.model;
  out_then = new.outputs.out.model;
  err = old.outputs.err.model;
  err_then = new.outputs.err.model;
}

-- nothing is printed, no call of the tree fails, and standard input is not read
pub record IsUntouched (old new : Surroundings) : Type 0 where
  pub tree : new.tree_failed ≡ old.tree_failed
  pub input : KeepsInput old new
  pub printed : PrintsNothing (models_of old new)
  pub counted : CountsOne false old.outputs.out.failed new.outputs.out.failed old.outputs.err.failed new.outputs.err.failed

-- a failed write is counted, if the answer is one
abbrev pub CountsWrite : Result Status ToolFault → Outputs → Outputs → Type 0
CountsWrite answer old new =
    CountsOne (has_write_failed answer) old.out.failed new.out.failed old.err.failed new.err.failed

-- the tree of a job
abbrev pub tree_of : Surroundings → Surroundings → JobTree
tree_of old new = record { snapshot = old.tree; failed = old.tree_failed; failed_then = new.tree_failed }

-- the state that a job of cindex changes
abbrev pub state_of : Option (List ℕ) → Surroundings → State
state_of index around = record { index = index; outputs = around.outputs }

-- A job of cindex is done over this index, and leaves that of the update.
abbrev pub DoesIndexing : IndexJob → Option (List ℕ) → Surroundings → Surroundings → Outcome → Type 0
DoesIndexing job index old new outcome =
    (answer : Reply) × IsReplied job answer outcome × KeepsInput old new
    × IsWholeStep job (tree_of old new) answer (state_of index old) (state_of (file_after (update_of outcome) index) new)

-- A job of csearch is done over this index.
abbrev pub DoesSearch : SearchJob → Option (List ℕ) → Surroundings → Surroundings → Outcome → Type 0
DoesSearch job index old new outcome =
    (answer : Result Status ToolFault) × EndsSearch Csearch answer outcome × KeepsInput old new
    × CountsWrite answer old.outputs new.outputs
    × IsSearch IsQueryOf job index old.tree old.tree_failed new.tree_failed (models_of old new) answer

-- A job of cgrep is done.
abbrev pub DoesGrep : GrepJob → Surroundings → Surroundings → Outcome → Type 0
DoesGrep job old new outcome =
    (answer : Result Status ToolFault) × EndsSearch Cgrep answer outcome × CountsWrite answer old.outputs new.outputs
    × IsGrep job old.tree old.tree_failed new.tree_failed old.input new.input old.input_failed new.input_failed (models_of old new) answer

-- The tool does its job over this index as it promises, and the outcome follows from its answer.
abbrev pub DoesJob : Job → Option (List ℕ) → Surroundings → Surroundings → Outcome → Type 0
DoesJob (Index job) index old new outcome = DoesIndexing job index old new outcome
DoesJob (Search job) index old new outcome = DoesSearch job index old new outcome
DoesJob (Grep job) index old new outcome = DoesGrep job old new outcome

-- ---- what the program does

-- The job that the arguments mean is done. `IsIndex` says which bytes the index file has, if that is known.
abbrev pub DoesMeaning : Given → (Option (List ℕ) → Type 0) → Surroundings → Surroundings → Outcome → Type 0
DoesMeaning given IsIndex old new outcome =
    (tool : Tool) × (job : Job) × (tool_of given ≡ Some tool) × (meaning given tool ≡ Ok (job_view job))
    × ((index : Option (List ℕ)) → IsIndex index → DoesJob job index old new outcome)

-- A job of cindex reads the index file after its arguments, and posting lists after its walk.
abbrev pub IsUnreadBy : Job → (Option (List ℕ) → Type 0) → Surroundings → Surroundings → Type 0
IsUnreadBy (Index job) IsIndex old new = IsUnread job (tree_of old new) IsIndex old.outputs new.outputs × KeepsInput old new
IsUnreadBy (Search job) IsIndex old new = IsUntouched old new
IsUnreadBy (Grep job) IsIndex old new = IsUntouched old new

-- A read of the index file failed in the job that the arguments mean.
pub record EndsUnread (given : Given) (file : IndexFile) (IsIndex : Option (List ℕ) → Type 0)
    (old new : Surroundings) : Type 0 where
  pub failed : file.unreadable ≡ Some storage.Failed
  pub tool : Tool
  pub is_tool : tool_of given ≡ Some tool
  pub job : Job
  pub means : meaning given tool ≡ Ok (job_view job)
  pub unread : IsUnreadBy job IsIndex old new

-- The first error that comes before the tool ends the program, and nothing is done, except if the index file cannot be
-- read: a job of cindex that walks may have printed its diagnostics by then. Without such an error the job is done.
abbrev pub RunsAfter : Option (List ℕ) → Given → IndexFile → (Option (List ℕ) → Type 0) → Surroundings → Surroundings → Outcome → Type 0
RunsAfter (Some line) given file IsIndex old new outcome =
    Refuses outcome line × (IsUntouched old new ⊎ EndsUnread given file IsIndex old new)
RunsAfter None given file IsIndex old new outcome = DoesMeaning given IsIndex old new outcome

-- What the program does; instead of that it may end before the tool because an allocation failed.
abbrev pub Runs : Given → IndexFile → (Option (List ℕ) → Type 0) → Surroundings → Surroundings → Outcome → Type 0
Runs given file IsIndex old new outcome =
    RunsAfter (early_line given file) given file IsIndex old new outcome ⊎ (EndsOutOfMemory outcome × IsUntouched old new)

-- ---- the index file as it was found

-- the opened file: a read of it failed, or none did
abbrev pub opened_file : {S : Type 0} → FoundFile S → Bool → IndexFile
opened_file file unreadable = record {
  name = file.name.now;
  temp = file.temp.now;
  unreadable = if unreadable then Some storage.Failed else None;
  unclaimed = None;
}

-- ---- what is asked before the job is done

-- What is given calls this tool with these arguments, and this is what they parse as.
pub record IsCall (call : Call) : Type 0 where
  pub tool : tool_of call.given.now ≡ Some call.tool
  pub args : map string_bytes call.args.now ≡ tool_args call.given.now
  pub text : call.given.now.has_non_text ≡ false
  pub folder : lacks_folder call.given.now call.tool ≡ false
  pub job : GivesJob (meaning call.given.now call.tool) call.job

-- whether a search in this style prints lines
abbrev pub is_of_lines : Style → Bool
is_of_lines style = not style.count && not style.list

-- the job prints matching lines, so that it may not search the file that it writes them to
abbrev pub prints_lines : Result Job WordFault → Bool
prints_lines (Ok (Index job)) = false
prints_lines (Ok (Search job)) = is_of_lines job.style
prints_lines (Ok (Grep job)) = is_of_lines job.style
prints_lines (Err fault) = false

-- the job may update the index file
abbrev pub may_update : Result Job WordFault → Bool
may_update (Ok (Index job)) = not job.list
may_update (Ok (Search job)) = false
may_update (Ok (Grep job)) = false
may_update (Err fault) = false

-- ---- the line of an error

-- it is printed and flushed; if memory for it is missing, the line of that
abbrev pub PrintsErrorLine : ProgramFault → Option SinkModel → Option SinkModel → Result Unit IoFault → Type 0
PrintsErrorLine fault err later result =
    EndsAfter (fault_line fault) err later result ⊎ EndsAfter memory_line err later result

abbrev pub ReportsOutcome : Outcome → Option SinkModel → Option SinkModel → Result Unit IoFault → Type 0
ReportsOutcome (Refused fault) err later result = PrintsErrorLine fault err later result
ReportsOutcome (Done update) err later result = later ≡ err
ReportsOutcome (Searched status) err later result = later ≡ err

-- ---- the main promise

-- The index after a run of cindex is that of the earlier jobs, and of this job if the exit status is 0.
abbrev pub RunsKeepHistory : Type 0
RunsKeepHistory =
    (job : IndexJob) (index : Option (List ℕ)) (old new : Surroundings) (outcome : Outcome) (earlier : History) →
    DoesIndexing job index old new outcome → Premises (old.tree ∷ []) index earlier →
    file_after (update_of outcome) index
    ≡ index_of (if nat_eq (exit_status outcome) 0 then after_done earlier job (modelled_snapshot old.tree) else earlier)
