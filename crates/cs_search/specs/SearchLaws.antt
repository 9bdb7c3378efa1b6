-- The laws of searches, each of which a function of `laws` proves. docs/PROMISES.md, "The main promise".
use Rattle.std.specs.Prelude.{◌≡◌, ◌<◌, ℕ, Bool, true, List, [], length, filter, string_bytes, Option, Some, Result, Ok}
use Rattle.std.specs.List.{list_any}
use Rattle.std.specs.FinMap as map'
use Rattle.cs_syntax.specs.Matching.{Tree}
use Rattle.cs_match.specs.Deciding.{Decides}
use Rattle.cs_match.specs.Lines.{lines}
use Rattle.cs_tree.specs.StreamModels.{SourceModel}
use Rattle.cs_tree.specs.Snapshot.{Snapshot}
use Rattle.cs_trigram.specs.declared.queries.Query.{Query}
use Rattle.cs_trigram.specs.Trigram.{has}
use Rattle.cs_trigram.specs.Text.{text_trigrams, limits}
use Rattle.cs_trigram.specs.Query.{LosesNoLine}
use Rattle.cs_trigram.specs.ExactRuns.{HasExactRuns, IsSelective}
use Rattle.cs_index.specs.Encoding.{Entry, names_of}
use Rattle.cs_index.specs.PostingLists.{set_at}
use Rattle.cs_index.specs.Opening.{opening}
use Rattle.cs_index.specs.OpenedParts.{Parts, are_whole, lists_in}
use Rattle.cs_index.specs.Candidates.{candidates_of}
use Rattle.cs_history.specs.History.{History, Update, nothing, ◌⊳◌, files_of, index_of}
use Rattle.cs_history.specs.Premises.{IsShort}
use Rattle.cs_history.specs.WellFormed.{IsUpdate}
use Rattle.cs_history.specs.FileTrigrams.{ReadAsIndexed}
use Rattle.cs_history.specs.MatchingFiles.{names_matching}
use Rattle.cs_history.specs.HistoryIndex.{indexed_names}
use Rattle.cs_history.specs.IndexBytes.{HasIndex}
use Rattle.cs_args.specs.declared.jobs.Tool.{Tool}
use Rattle.cs_args.specs.declared.jobs.Style.{Style}
use Rattle.cs_args.specs.declared.jobs.SearchJob.{SearchJob}
use Rattle.cs_args.specs.declared.jobs.GrepJob.{GrepJob}
use Rattle.cs_args.specs.declared.fault.ToolFault.{ToolFault}
use Rattle.cs_search.specs.InputReport.{max_searched}
use Rattle.cs_search.specs.declared.status.Status.{Status}
use Rattle.cs_search.specs.Cgrep.{cgrep_printed}
use Rattle.cs_search.specs.Printed.{searched_by_cgrep, SearchOutputs, PrintsAnswer, all_printed, file_printed}
use Rattle.cs_search.specs.Refusals.{DecidesText}
use Rattle.cs_search.specs.GrepFaults.{IsSearchFault}
use Rattle.cs_search.specs.Csearch.{IsSound, DecidesSearch, AreAccepted, RefusedInOrder}
use Rattle.cs_search.specs.SearchHeadline.{SearchPremises, SearchesLikeGrep}
use Rattle.cs_search.specs.Searched.{IsSearch}
use Rattle.cs_search.specs.SameSearch.{PrintsLikeCgrep, IsSameSearch}

-- The files that a sound query excludes may be searched too, by either tool: nothing else is printed.
abbrev pub SkippedFilesHaveNoMatch : Type 0
SkippedFilesHaveNoMatch =
    (style : Style) (has_match keeps : List ℕ → Bool) (tree : Snapshot) (query : Query) (pattern : Tree) →
    LosesNoLine query pattern → Decides has_match pattern → (a b : Tool) (files : List Entry) → ReadAsIndexed tree files →
    all_printed (file_printed max_searched a style has_match tree) (filter keeps (names_matching query files))
    ≡ all_printed (file_printed max_searched b style has_match tree) (filter keeps (names_of files))

-- csearch prints what cgrep prints for all names that `-f` keeps, if each file reads as it was indexed.
abbrev pub SearchesAgreeWithCgrep : Type 0
SearchesAgreeWithCgrep =
    (job : SearchJob) (index : Option (List ℕ)) (tree : Option Snapshot) (failed failed' : ℕ) (outputs : SearchOutputs)
    (answer : Result Status ToolFault) → IsSearch IsSound job index tree failed failed' outputs answer →
    PrintsLikeCgrep job index tree (λ printed. PrintsAnswer (Some printed) outputs answer)

-- ---- indexes that jobs left

-- Such an index opens, and all its lists are whole.
abbrev pub IndexesOfJobsAreWhole : Type 0
IndexesOfJobsAreWhole = (history : History) (bytes : List ℕ) → HasIndex history bytes →
    (parts : Parts) × (opening bytes ≡ Ok parts) × (are_whole parts ≡ true)

-- If both patterns are accepted, a search of such an index fails only for a failed write or out of memory.
abbrev pub IndexesOfJobsAreAccepted : Type 0
IndexesOfJobsAreAccepted =
    (job : SearchJob) (history : History) (bytes : List ℕ) (query : Query) (answer : Result Status ToolFault) →
    HasIndex history bytes → AreAccepted job → RefusedInOrder IsSound job (Some bytes) query answer → IsSearchFault answer

-- After a first job each file reads as it was indexed, while the tree stays.
abbrev pub FirstJobsReadAsIndexed : Type 0
FirstJobsReadAsIndexed = (update : Update) → ReadAsIndexed update.tree (map'.entries (files_of (update ⊳ nothing)))

-- So the premises of the last part of the main promise hold.
abbrev pub FirstJobsMeetPremises : Type 0
FirstJobsMeetPremises = (update : Update) → IsUpdate update → IsShort (index_of (update ⊳ nothing)) →
    SearchPremises (Some update.tree) (index_of (update ⊳ nothing)) (update ⊳ nothing)

-- If each indexed file reads as it was indexed, no fault line is printed.
abbrev pub UnchangedFilesHaveNoFault : Type 0
UnchangedFilesHaveNoFault =
    (style : Style) (has_match keeps : List ℕ → Bool) (tree : Snapshot) (index : Option (List ℕ)) (earlier : History) →
    SearchPremises (Some tree) index earlier →
    (searched_by_cgrep max_searched style has_match tree (filter keeps (indexed_names earlier))).errors ≡ []

-- ---- the job of cgrep that is the same search

-- A test of the lines of the one decides the pattern of the other.
abbrev pub SameSearchesDecideAlike : Type 0
SameSearchesDecideAlike = (job : SearchJob) (names : List (List ℕ)) (like : GrepJob) (has_match keeps : List ℕ → Bool) →
    IsSameSearch job names like → DecidesSearch job has_match keeps → DecidesText (string_bytes like.pattern) like.fold has_match

-- It prints what is printed for these names, whatever standard input is.
abbrev pub SameSearchesPrintTheirFiles : Type 0
SameSearchesPrintTheirFiles =
    (job : SearchJob) (names : List (List ℕ)) (like : GrepJob) (has_match : List ℕ → Bool) (tree : Snapshot)
    (input : Option SourceModel) → IsSameSearch job names like →
    cgrep_printed max_searched like has_match (Some tree) input ≡ Some (searched_by_cgrep max_searched job.style has_match tree names)

-- A search of an index that jobs left prints what that job prints.
abbrev pub SameSearchesPrintAlike : Type 0
SameSearchesPrintAlike =
    (job : SearchJob) (index : Option (List ℕ)) (tree : Snapshot) (input : Option SourceModel) (outputs : SearchOutputs)
    (answer : Result Status ToolFault) (has_match keeps : List ℕ → Bool) (earlier : History) (like : GrepJob) →
    SearchesLikeGrep job index (Some tree) (λ printed. PrintsAnswer (Some printed) outputs answer) →
    DecidesSearch job has_match keeps → SearchPremises (Some tree) index earlier →
    IsSameSearch job (filter keeps (indexed_names earlier)) like →
    PrintsAnswer (cgrep_printed max_searched like has_match (Some tree) input) outputs answer

-- ---- candidates

-- Each file with a matching line is a candidate, if it reads as it was indexed.
abbrev pub MatchingFilesAreCandidates : Type 0
MatchingFilesAreCandidates =
    (query : Query) (pattern : Tree) (parts : Parts) (id : ℕ) (has_match : List ℕ → Bool) (bytes : List ℕ) →
    id < length parts.names → LosesNoLine query pattern → Decides has_match pattern →
    text_trigrams limits bytes ≡ Some (set_at id (lists_in parts)) →
    list_any has_match (lines bytes) ≡ true → has (candidates_of parts query) id ≡ true

-- Each candidate has the trigrams of the pattern's exact runs.
abbrev pub CandidatesHaveExactRuns : Type 0
CandidatesHaveExactRuns = (query : Query) (pattern : Tree) (parts : Parts) (id : ℕ) → id < length parts.names →
    IsSelective query pattern → has (candidates_of parts query) id ≡ true → HasExactRuns (has (set_at id (lists_in parts))) pattern
