-- The clauses of csearch, from those of the functions that it calls.
use Rattle.std.proofs.Common.{◌≡◌, ℕ, ◌+◌, Bool, true, false, cond, List, [], ◌∷◌, ◌++◌, length, map, refl, sym, ap, subst, ◌∙◌, append_assoc, length-append, Option, Some, None, Result, Ok, Err, inl, inr}
use Rattle.cs_index.specs.Postings.{IsListFault}
use Rattle.cs_index.specs.PostingLists.{set_at, entries_of}
use Rattle.cs_trigram.specs.Trigram.{has}
use Rattle.std.specs.Prelude.{filter, slice_get, option_map, string_bytes, IfSome}
use Rattle.std.specs.List.{filter_map, range_with_len, cons_option}
use Rattle.std.proofs.lemmas.List.{map-id}
use Rattle.cs_syntax.specs.Matching.{Tree}
use Rattle.cs_syntax.specs.Parsing.{ParsesAs}
use Rattle.cs_syntax.specs.ParseErrors.{IsParseError}
use Rattle.cs_syntax.specs.declared.fault.PatternFault.{PatternFault}
use Rattle.cs_syntax.specs.declared.fault.PatternFault.TheVariants as pattern
use Rattle.cs_syntax.specs.declared.fault.PatternError.{PatternError}
use Rattle.cs_tree.specs.Snapshot.{Snapshot}
use Rattle.cs_index.specs.declared.fault.IndexFault.{IndexFault}
use Rattle.cs_index.specs.declared.fault.IndexFault.TheVariants.{BadList, Memory as IndexMemory}
use Rattle.cs_args.specs.declared.jobs.Tool.{Tool}
use Rattle.cs_args.specs.declared.jobs.Tool.TheVariants.{Csearch}
use Rattle.cs_args.specs.declared.jobs.SearchJob.{SearchJob}
use Rattle.cs_args.specs.declared.jobs.Style.{Style}
use Rattle.cs_args.specs.declared.fault.ToolFault.{ToolFault}
use Rattle.cs_args.specs.declared.fault.ToolFault.TheVariants.{FilePattern, BadIndex, Write, Memory}
use Rattle.cs_args.specs.Faults.{pattern_fault, pattern_fault_at, index_fault}
use Rattle.cs_trigram.specs.Query.{matches_set}
use Rattle.cs_trigram.specs.declared.queries.Query.{Query}
use Rattle.cs_trigram.specs.declared.queries.Query.TheVariants.{All}
use Rattle.cs_index.specs.Encoding.{Entry, PostingList}
use Rattle.cs_index.specs.Failing.{Fails}
use Rattle.cs_index.specs.OpenedParts.{Parts, lists_in, files_read}
use Rattle.cs_index.specs.Candidates.{candidates_of}
use Rattle.cs_index.specs.Answerable.{is_answerable}
use Rattle.cs_search.specs.InputReport.{max_searched}
use Rattle.cs_match.specs.Deciding.{Decides}
use Rattle.cs_search.specs.StoredSearch.{IsUnopened}
use Rattle.cs_search.specs.Refusals.{IsAccepted, has_write_failed}
use Rattle.cs_search.specs.GrepFaults.{IsSearchFault}
use Rattle.cs_history.specs.MatchingFiles.{names_matching}
use Rattle.cs_trigram.specs.QueryOf.{IsQueryOf}
use Rattle.cs_search.specs.Csearch.{file_text, OpensWith, Keeps, csearch_printed, AreAccepted, OpensWhole, IsReady, RefusedInOrder}
use Rattle.cs_search.specs.Plans.{IsPlan, RefusesPlan}
use Rattle.cs_search.specs.declared.stored.Plan.{Plan}
use Rattle.cs_search.specs.declared.status.Status.{Status}
use Rattle.cs_args.proofs.ArgSplitLemmas.{slice_get-prefix}
use Rattle.cs_search.proofs.CgrepLemmas.{read_once, decides_program}
use Rattle.cs_search.specs.IndexSearch.{FileRefused, file_fault_at, file_pattern_fault, names_at, IsFileProgram, DecidesNames}
use Rattle.cs_search.specs.Printed.{Printed, NamedFault, AreFaultsOf, PrintsFaults, file_printed, all_printed}

-- ---- errors of the `-f` pattern

file_refused_at : (text : List ℕ) (error : PatternError) (fault : PatternFault) → error.fault ≡ fault →
    IsParseError text false error → FileRefused (Some text) (file_fault_at fault error)
file_refused_at text error pattern.Memory is refused = tt
file_refused_at text error fault is refused = (refused, λ memory. cc)

pub file_refused : (text : List ℕ) (error : PatternError) → IsParseError text false error →
    FileRefused (Some text) (file_pattern_fault error)
file_refused text error refused = file_refused_at text error error.fault refl refused

-- ---- the names of the candidates

module _ (query : Query) (lists : List PostingList) where
  -- the names from one id on
  matching_from : (before names : List (List ℕ)) →
      filter_map (slice_get (before ++ names))
      (filter (λ id. matches_set query (λ g. has (set_at id lists) g)) (range_with_len (length before) (length names)))
      ≡ map (λ (e : Entry). e.0) (filter (λ (e : Entry). matches_set query (has e.1)) (entries_of (length before) names lists))
  matching_from before [] = refl
  matching_from before (name ∷ names) =
      let moved : (before ++ name ∷ []) ++ names ≡ before ++ name ∷ names = append_assoc before (name ∷ []) names in
      let next : length (before ++ name ∷ []) ≡ length before + 1 = length-append before (name ∷ []) in
      let rest = matching_from (before ++ name ∷ []) names in
      let later = λ (all : List (List ℕ)) (n : ℕ). filter_map (slice_get all)
      (filter (λ id. matches_set query (λ g. has (set_at id lists) g)) (range_with_len n (length names))) in
      let entries = λ (n : ℕ). map (λ (e : Entry). e.0) (filter (λ (e : Entry). matches_set query (has e.1)) (entries_of n names lists)) in
      let more : later (before ++ name ∷ names) (length before + 1) ≡ entries (length before + 1) =
      sym (λ i. later (moved i) (next i)) ∙ rest ∙ ap entries next in
      elim (matches_set query (has (set_at (length before) lists))) as (λ t.
      filter_map (slice_get (before ++ name ∷ names))
      (cond t (length before ∷ filter (λ id. matches_set query (λ g. has (set_at id lists) g))
      (range_with_len (length before + 1) (length names)))
      (filter (λ id. matches_set query (λ g. has (set_at id lists) g))
      (range_with_len (length before + 1) (length names))))
      ≡ map (λ (e : Entry). e.0) (cond t ((name, set_at (length before) lists)
      ∷ filter (λ (e : Entry). matches_set query (has e.1)) (entries_of (length before + 1) names lists))
      (filter (λ (e : Entry). matches_set query (has e.1)) (entries_of (length before + 1) names lists)))) [
        | true ↦ ap (λ (o : Option (List ℕ)). cons_option o (later (before ++ name ∷ names) (length before + 1)))
            (slice_get-prefix before name names) ∙ ap (λ (l : List (List ℕ)). name ∷ l) more
        | false ↦ more
      ]

pub candidates_named : (parts : Parts) (query : Query) → names_at parts.names (candidates_of parts query)
    ≡ names_matching query (files_read parts)
unfolding names_at candidates_of names_matching
candidates_named parts query = matching_from query (lists_in parts) [] parts.names

-- the names of all files
pub names_of_files : (first : ℕ) (names : List (List ℕ)) (lists : List PostingList) →
    map (λ (e : Entry). e.0) (entries_of first names lists) ≡ names
names_of_files first [] lists = refl
names_of_files first (name ∷ names) lists = ap (λ (l : List (List ℕ)). name ∷ l) (names_of_files (first + 1) names lists)

pub right_query : (brute : Bool) (query : Query) (text : List ℕ) (fold : Bool) (read : Tree) → ParsesAs text fold read →
    IsQueryOf brute read query → (pattern : Tree) → ParsesAs text fold pattern → IsQueryOf brute pattern query
right_query brute query text fold read reads right pattern wanted = subst (λ (t : Tree). IsQueryOf brute t query)
    (read_once text fold read pattern reads wanted) right

-- ---- errors, in their order

pub accepted_file : (text : Option (List ℕ)) (program : Option Tree) → IsFileProgram text program →
    IfSome text (λ text. IsAccepted text false)
accepted_file None None is = tt
accepted_file (Some text) (Some program) is = (is.0, is.1, is.2)
accepted_file text program is = absurd is

-- a plan exists only for accepted patterns
pub accepted_plan : (job : SearchJob) (plan : Plan) → IsPlan job plan → AreAccepted job
accepted_plan job plan is = ((is.program.0, is.program.1, is.program.2), accepted_file (file_text job) plan.file is.file)

module _ (job : SearchJob) (index : Option (List ℕ)) where
  pattern_first_at : (error : PatternError) (fault : PatternFault) → error.fault ≡ fault →
      IsParseError (string_bytes job.pattern) job.fold error → RefusesPlan job index (pattern_fault_at fault error)
  pattern_first_at error pattern.Memory is refused = (All, tt, refl)
  pattern_first_at error fault is refused = (All, (refused, λ memory. cc), refl)

  pub pattern_first : (error : PatternError) → IsParseError (string_bytes job.pattern) job.fold error →
      RefusesPlan job index (pattern_fault error)
  pattern_first error refused = pattern_first_at error error.fault refl refused

  pub file_second : (fault : ToolFault) → IsAccepted (string_bytes job.pattern) job.fold →
      FileRefused (file_text job) fault → RefusesPlan job index fault
  file_second (FilePattern error) accepted refused = (All, (accepted, refused), refl)
  file_second Memory accepted refused = (All, tt, refl)
  file_second fault accepted refused = absurd refused

  pub bad_index : (bytes : List ℕ) (fault : IndexFault) → AreAccepted job → Fails bytes fault →
      RefusesPlan job (Some bytes) (index_fault fault)
  bad_index bytes IndexMemory accepted is = (All, tt, refl)
  bad_index bytes fault accepted is = (All, (accepted, inl is), refl)

  bad_list : (query : Query) → AreAccepted job → OpensWhole IsQueryOf job index query false → RefusesPlan job index (BadIndex BadList)
  bad_list query accepted damaged = (query, (accepted, inr (refl, damaged)), refl)

  pub lists_fourth : (query : Query) (fault : IndexFault) → AreAccepted job → (parts : Parts) → OpensWith index parts →
      ((pattern : Tree) → ParsesAs (string_bytes job.pattern) job.fold pattern → IsQueryOf job.brute pattern query) →
      IsListFault (is_answerable parts query) fault → RefusesPlan job index (index_fault fault)
  lists_fourth query fault accepted parts opens right (inl bad) =
      subst (λ (f : IndexFault). RefusesPlan job index (index_fault f)) (sym bad.0)
      (bad_list query accepted (record { parts = parts; opens = opens; is_right = right; lists = bad.1 }))
  lists_fourth query fault accepted parts opens right (inr memory) =
      subst (λ (f : IndexFault). RefusesPlan job index (index_fault f)) (sym memory) (query, tt, refl)

  pub search_last : (query : Query) (answer : Result Status ToolFault) → IsReady IsQueryOf job index query →
      IsSearchFault answer → RefusedInOrder IsQueryOf job index query answer
  search_last query (Ok status) ready is = ready
  search_last query (Err Write) ready is = ready
  search_last query (Err Memory) ready is = tt
  search_last query (Err fault) ready is = absurd is

-- the answer of a search by an index that was not opened
pub unopened_late : (A : Type 0) (job : SearchJob) (fault : IndexFault) → AreAccepted job →
    IsUnopened {A = A} job fault (Ok (Err (index_fault fault)))
unopened_late A job IndexMemory accepted = inl (λ index. (All, tt))
unopened_late A job fault accepted = inr (accepted, refl, λ e. cc e)

-- an error of a list is not a failed write
pub list_unwritten : (fault : IndexFault) → has_write_failed {A = Status} (Err (index_fault fault)) ≡ false
list_unwritten IndexMemory = refl
list_unwritten fault = refl

-- ---- the selected names

pub names_decided : (text : Option (List ℕ)) (program : Option Tree) (keeps : List ℕ → Bool) →
    IsFileProgram text program → Keeps text keeps → DecidesNames keeps program
names_decided None None keeps is names = names
names_decided (Some text) (Some program) keeps is names =
    decides_program text false program keeps is names
names_decided text program keeps is names = absurd is

pub chosen : (limit : ℕ) (style : Style) (has_match keeps : List ℕ → Bool) (parts : Parts) (query : Query)
    (tree : Option Snapshot) (names : List (List ℕ)) → names
    ≡ filter keeps (names_at parts.names (candidates_of parts query)) →
    option_map (λ (s : Snapshot). all_printed (file_printed limit Csearch style has_match s) names) tree
    ≡ csearch_printed limit style has_match keeps parts query tree
unfolding csearch_printed
chosen limit style has_match keeps parts query tree names are =
    ap (λ (names : List (List ℕ)). option_map (λ (s : Snapshot). all_printed (file_printed limit Csearch style has_match s) names) tree)
    (are ∙ ap (filter keeps) (candidates_named parts query))

-- what a searcher with this tool, style and program prints for these names
module _ (Claim : Option Printed → Type 0) (tree : Option Snapshot) (names : List (List ℕ)) where
  abbrev By : Tool → Style → (List ℕ → Bool) → Type 0
  By tool style has_match = Claim (option_map (λ (s : Snapshot). all_printed (file_printed max_searched tool style has_match s) names) tree)

  pub by_csearch : (tool : Tool) (style wanted : Style) (program : Tree) → tool ≡ Csearch → style ≡ wanted →
      ((has_match : List ℕ → Bool) → Decides has_match program → By tool style has_match) →
      (has_match : List ℕ → Bool) → Decides has_match program → By Csearch wanted has_match
  by_csearch tool style wanted program is_tool is_style prints has_match decides =
      subst (λ t. By t wanted has_match) is_tool (subst (λ t. By tool t has_match) is_style (prints has_match decides))

-- ---- faults of the selected names

faults_past : {X : Type 0} (f : X → List ℕ) (b : Bool) (x : X) (kept xs : List X) →
    ((faults : List NamedFault) → AreFaultsOf (map f kept) faults → AreFaultsOf (map f xs) faults) →
    (faults : List NamedFault) → AreFaultsOf (map f (cond b (x ∷ kept) kept)) faults →
    AreFaultsOf (map f (x ∷ xs)) faults
faults_past f true x kept xs rest faults (inl are) = inl (rest faults are)
faults_past f true x kept xs rest faults (inr are) = inr (are.0, are.1, are.2, are.3, rest are.1 are.4)
faults_past f false x kept xs rest faults are = inl (rest faults are)

faults_kept : {X : Type 0} (f : X → List ℕ) (test : X → Bool) (xs : List X) (faults : List NamedFault) →
    AreFaultsOf (map f (filter test xs)) faults → AreFaultsOf (map f xs) faults
faults_kept f test [] faults are = are
faults_kept f test (x ∷ xs) faults are = faults_past f (test x) x (filter test xs) xs (faults_kept f test xs) faults are

faults_of_kept : (keeps : List ℕ → Bool) (names : List (List ℕ)) (faults : List NamedFault) →
    AreFaultsOf (filter keeps names) faults → AreFaultsOf names faults
faults_of_kept keeps names faults are =
    subst (λ (l : List (List ℕ)). AreFaultsOf l faults) (map-id names)
    (faults_kept (λ (name : List ℕ). name) keeps names faults
    (subst (λ (l : List (List ℕ)). AreFaultsOf l faults) (sym (map-id (filter keeps names))) are))

faults_chosen : (parts : Parts) (query : Query) (faults : List NamedFault) →
    AreFaultsOf (names_at parts.names (candidates_of parts query)) faults → AreFaultsOf parts.names faults
unfolding names_matching
faults_chosen parts query faults are =
    subst (λ (l : List (List ℕ)). AreFaultsOf l faults) (names_of_files 0 parts.names (lists_in parts))
    (faults_kept (λ (e : Entry). e.0) (λ (e : Entry). matches_set query (has e.1)) (files_read parts) faults
    (subst (λ (l : List (List ℕ)). AreFaultsOf l faults) (candidates_named parts query) are))

-- faults of selected names are faults of indexed files
pub PrintsFaults-chosen : (Writes : List ℕ → Type 0) (tool : Tool) (parts : Parts) (query : Query)
    (keeps : List ℕ → Bool) (names : List (List ℕ)) (failed failed' : ℕ) → names
    ≡ filter keeps (names_at parts.names (candidates_of parts query)) →
    PrintsFaults tool names failed failed' Writes → PrintsFaults tool parts.names failed failed' Writes
PrintsFaults-chosen Writes tool parts query keeps names failed failed' are faults = (
  faults.0,
  faults_chosen parts query faults.0 (faults_of_kept keeps (names_at parts.names (candidates_of parts query)) faults.0
      (subst (λ (l : List (List ℕ)). AreFaultsOf l faults.0) are faults.1)),
  faults.2,
  faults.3,
)
