-- What csearch prints and returns. docs/PROMISES.md, "Searches of an index" and "The main promise".
use Rattle.std.specs.Prelude.{ℕ, ◌≡◌, ◌⊎◌, Bool, true, false, List, filter, Option, Some, None, option_map, string_bytes, Result, Ok, Err, IfSome, IsSomeAnd}
use Rattle.cs_syntax.specs.Matching.{Tree}
use Rattle.cs_syntax.specs.Parsing.{ParsesAs}
use Rattle.cs_tree.specs.Snapshot.{Snapshot}
use Rattle.cs_trigram.specs.Query.{LosesNoLine}
use Rattle.cs_trigram.specs.declared.queries.Query.{Query}
use Rattle.cs_trigram.specs.declared.queries.Query.TheVariants.{All}
use Rattle.cs_index.specs.Decoding.{DecodesAs}
use Rattle.cs_index.specs.Failing.{Fails}
use Rattle.cs_index.specs.OpenedParts.{Parts, files_read}
use Rattle.cs_index.specs.declared.fault.IndexFault.{IndexFault}
use Rattle.cs_index.specs.declared.fault.IndexFault.TheVariants.{BadList}
use Rattle.cs_history.specs.MatchingFiles.{names_matching}
use Rattle.cs_args.specs.declared.jobs.Tool.TheVariants.{Csearch}
use Rattle.cs_args.specs.declared.jobs.Style.{Style}
use Rattle.cs_args.specs.declared.jobs.SearchJob.{SearchJob}
use Rattle.cs_args.specs.declared.fault.ToolFault.{ToolFault}
use Rattle.cs_args.specs.declared.fault.ToolFault.TheVariants.{Pattern, FilePattern, NoIndex, BadIndex, Write, Memory}
use Rattle.cs_index.specs.Answerable.{is_answerable}
use Rattle.cs_search.specs.Refusals.{IsAccepted, IsPatternRefused, DecidesText}
use Rattle.cs_search.specs.Printed.{Printed, file_printed, all_printed}

-- ---- which files are searched

-- the bytes of the index exist, and decode as these parts
abbrev pub OpensWith : Option (List ℕ) → Parts → Type 0
OpensWith index parts = IsSomeAnd index (λ bytes. DecodesAs bytes parts)

-- With `-brute` every file matches the query. Otherwise the query loses no line that the pattern matches.
abbrev pub IsSound : Bool → Tree → Query → Type 0
IsSound true pattern query = query ≡ All
IsSound false pattern query = LosesNoLine query pattern

-- the text of `-f`
abbrev pub file_text : SearchJob → Option (List ℕ)
file_text job = option_map string_bytes job.file

-- Without `-f` every name is kept, else those that its pattern matches. `-i` does not affect that pattern.
abbrev pub Keeps : Option (List ℕ) → (List ℕ → Bool) → Type 0
Keeps None keeps = (name : List ℕ) → keeps name ≡ true
Keeps (Some text) keeps = DecidesText text false keeps

-- the tests decide which lines the job's pattern matches, and which names it keeps
abbrev pub DecidesSearch : SearchJob → (List ℕ → Bool) → (List ℕ → Bool) → Type 0
DecidesSearch job has_match keeps = DecidesText (string_bytes job.pattern) job.fold has_match × Keeps (file_text job) keeps

-- ---- what is printed

-- for the files that match the query and whose names are kept
unfoldable pub csearch_printed : ℕ → Style → (List ℕ → Bool) → (List ℕ → Bool) → Parts → Query → Option Snapshot → Option Printed
csearch_printed limit style has_match keeps parts query tree =
    let names = filter keeps (names_matching query (files_read parts)) in
    option_map (λ (tree : Snapshot). all_printed (file_printed limit Csearch style has_match tree) names) tree

-- ---- errors

-- both patterns are accepted
abbrev pub AreAccepted : SearchJob → Type 0
AreAccepted job = IsAccepted (string_bytes job.pattern) job.fold × IfSome (file_text job) (λ text. IsAccepted text false)

-- The index opens, the query is right for the job's pattern, and `whole` says whether each list that it requires is whole.
-- `IsRight` says which queries are right for a pattern, given `-brute`.
pub record OpensWhole (IsRight : Bool → Tree → Query → Type 0) (job : SearchJob) (index : Option (List ℕ)) (query : Query)
    (whole : Bool) : Type 0 where
  pub parts : Parts
  pub opens : OpensWith index parts
  pub is_right : (pattern : Tree) → ParsesAs (string_bytes job.pattern) job.fold pattern → IsRight job.brute pattern query
  pub lists : is_answerable parts query ≡ whole

module _ (IsRight : Bool → Tree → Query → Type 0) (job : SearchJob) (index : Option (List ℕ)) (query : Query) where
  -- nothing keeps the search from its files
  abbrev pub IsReady : Type 0
  IsReady = AreAccepted job × OpensWhole IsRight job index query true

  -- The bytes have this error, or a required list is damaged.
  abbrev pub IsBad : IndexFault → Type 0
  IsBad fault =
      IsSomeAnd index (λ bytes. Fails bytes fault) ⊎ ((fault ≡ BadList) × OpensWhole IsRight job index query false)

  -- Errors come in this order: the pattern, the pattern of `-f`, no index, a bad index; all others come later.
  abbrev pub RefusedInOrder : {A : Type 0} → Result A ToolFault → Type 0
  RefusedInOrder (Ok answer) = IsReady
  RefusedInOrder (Err (Pattern error)) = IsPatternRefused (string_bytes job.pattern) job.fold error
  RefusedInOrder (Err (FilePattern error)) =
      IsAccepted (string_bytes job.pattern) job.fold × IsSomeAnd (file_text job) (λ text. IsPatternRefused text false error)
  RefusedInOrder (Err NoIndex) = AreAccepted job × (index ≡ None)
  RefusedInOrder (Err (BadIndex fault)) = AreAccepted job × IsBad fault
  RefusedInOrder (Err Write) = IsReady
  RefusedInOrder (Err Memory) = Unit {0}
