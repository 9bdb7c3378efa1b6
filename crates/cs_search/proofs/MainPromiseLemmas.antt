-- csearch prints what cgrep prints if files read as they were indexed, in particular over an index that jobs left.
use Rattle.std.proofs.Common.{◌≡◌, ℕ, ◌<◌, ◌^◌, List, length, refl, sym, ap, subst, ◌∙◌, Bool, true, false, Option, Some, None}
use Rattle.cs_index.specs.Roundtrip.{parts_written, IsIndexWith}
use Rattle.std.specs.Prelude.{filter, map, option_map, String, string_bytes}
use Rattle.std.specs.declared.alloc.Global.{Global}
use Rattle.std.specs.FinMap as map'
use Rattle.cs_tree.specs.PathSet as set
use Rattle.cs_syntax.specs.Matching.{Tree}
use Rattle.cs_syntax.specs.Parsing.{ParsesAs}
use Rattle.cs_match.specs.Decidability.{MatchingIsDecidable}
use Rattle.cs_match.specs.Deciding.{Decides}
use Rattle.cs_tree.specs.Snapshot.{Snapshot}
use Rattle.cs_trigram.specs.declared.queries.Query.{Query, Query-F, fold-roll-Query}
use Rattle.cs_trigram.specs.declared.queries.Query.TheVariants.{rolls-All}
use Rattle.cs_trigram.specs.Query.{matches_set, matches_set_step, LosesNoLine}
use Rattle.cs_trigram.specs.QueryOf.{IsQueryOf}
use Rattle.cs_index.specs.Encoding.{encoding, encoding_of}
use Rattle.cs_index.specs.Decoding.{DecodesAs}
use Rattle.cs_index.specs.OpenedParts.{Parts, files_read, lists_in}
use Rattle.cs_index.proofs.decoding.DecodingIsUnique.{decoding_is_unique}
use Rattle.cs_index.proofs.encoding.EncodingDecodes.{encoding_decodes}
use Rattle.cs_index.proofs.encoding.EncodingOpens.{encoding_has}
use Rattle.cs_merge.proofs.ContentLemmas.{content_indexable, ascending_sets}
use Rattle.cs_history.specs.History.{History, index_of, paths_of, files_of}
use Rattle.cs_history.specs.HistoryIndex.{indexed_names, IsBuiltByJobs}
use Rattle.cs_history.specs.FileTrigrams.{ReadAsIndexed}
use Rattle.cs_history.specs.MatchingFiles.{names_matching}
use Rattle.cs_history.specs.WellFormed.{IsHistory}
use Rattle.cs_history.proofs.HistoryLemmas.{history_content, index_is}
use Rattle.cs_args.specs.declared.jobs.Tool.TheVariants.{Csearch, Cgrep}
use Rattle.cs_args.specs.declared.jobs.SearchJob.{SearchJob}
use Rattle.cs_search.specs.InputReport.{max_searched}
use Rattle.cs_search.specs.SearchHeadline.{SearchesLikeGrep}
use Rattle.cs_search.specs.SameSearch.{PrintsLikeCgrep}
use Rattle.cs_search.specs.Printed.{searched_by_cgrep, Printed, PrintsFaults, all_printed, file_printed}
use Rattle.cs_index.specs.Answerable.{is_answerable}
use Rattle.cs_index.specs.Postings.{IsListFault}
use Rattle.cs_index.specs.declared.fault.IndexFault.{IndexFault}
use Rattle.cs_args.specs.Faults.{index_fault}
use Rattle.cs_search.specs.Plans.{IsPlan, AreSelected, RefusesPlan}
use Rattle.cs_search.specs.declared.stored.Plan.{Plan}
use Rattle.cs_search.specs.Csearch.{file_text, OpensWith, IsSound, DecidesSearch, csearch_printed, OpensWhole, IsReady}
use Rattle.cs_search.proofs.SkippedFileLemmas.{search_alike}
use Rattle.cs_search.proofs.CgrepLemmas.{decides_program}
use Rattle.cs_search.proofs.SelectionLemmas.{decided}
use Rattle.cs_search.proofs.CsearchLemmas.{names_of_files, names_decided, accepted_plan, lists_fourth, chosen, PrintsFaults-chosen}

-- `-brute` loses no line either
loses : (brute : Bool) (pattern : Tree) (query : Query) → IsSound brute pattern query → LosesNoLine query pattern
loses true pattern query all = λ line set found has. ap (λ (q : Query). matches_set q set) (all ∙ sym rolls-All)
    ∙ fold-roll-Query Bool (matches_set_step set) Query-F.All
loses false pattern query right = right

-- bytes open as one index
pub opens_once : (index : Option (List ℕ)) (a b : Parts) → OpensWith index a → OpensWith index b → a ≡ b
opens_once None a b x y = absurd x
opens_once (Some bytes) a b x y = decoding_is_unique bytes a b x y

-- what is printed for the candidates
abbrev pub PrintsCandidates : SearchJob → Option (List ℕ) → Query → Option Snapshot → (Option Printed → Type 0) → Type 0
PrintsCandidates job index query tree Prints =
    (parts : Parts) (has_match keeps : List ℕ → Bool) → OpensWith index parts → DecidesSearch job has_match keeps →
    Prints (csearch_printed max_searched job.style has_match keeps parts query tree)

-- the query is sound for the job's pattern
abbrev IsSoundFor : SearchJob → Query → Type 0
IsSoundFor job query = (pattern : Tree) → ParsesAs (string_bytes job.pattern) job.fold pattern → IsSound job.brute pattern query

module _ (job : SearchJob) (has_match keeps : List ℕ → Bool) (query : Query) (sound : IsSoundFor job query)
    (tests : DecidesSearch job has_match keeps) (tree : Snapshot) (parts : Parts) where
  -- the search by the index and the search by cgrep print the same
  alike : ReadAsIndexed tree (files_read parts) →
      all_printed (file_printed max_searched Csearch job.style has_match tree) (filter keeps (names_matching query (files_read parts)))
      ≡ searched_by_cgrep max_searched job.style has_match tree (filter keeps parts.names)
  unfolding names_matching searched_by_cgrep
  alike agrees =
      search_alike job.style has_match keeps tree query tests.0.0
      (loses job.brute tests.0.0 query (sound tests.0.0 tests.0.1)) tests.0.2 Csearch Cgrep
      (files_read parts) agrees
      ∙ ap (λ (names : List (List ℕ)). all_printed (file_printed max_searched Cgrep job.style has_match tree)
      (filter keeps names)) (names_of_files 0 parts.names (lists_in parts))

-- a required list is damaged
pub lists_refused : (job : SearchJob) (index : Option (List ℕ)) (plan : Plan) → IsPlan job plan → (parts : Parts) →
    OpensWith index parts → (fault : IndexFault) → IsListFault (is_answerable parts plan.query) fault →
    RefusesPlan job index (index_fault fault)
lists_refused job index plan is parts opens fault refused =
    lists_fourth job index plan.query fault (accepted_plan job plan is) parts opens is.query refused

-- a plan, and the names that it selects
module _ (job : SearchJob) (index : Option (List ℕ)) (plan : Plan) (is : IsPlan job plan) (texts : List (String Global))
    (selected : AreSelected plan index texts) where
  abbrev opens_whole : OpensWhole IsQueryOf job index plan.query true
  opens_whole = record { parts = selected.parts; opens = selected.opens; is_right = is.query; lists = selected.whole }

  -- both patterns are accepted, the index opens, and the required lists are whole
  pub ready : IsReady IsQueryOf job index plan.query
  ready = (accepted_plan job plan is, opens_whole)

  -- what is printed for them
  pub searched : (tree : Option Snapshot) (Prints : Option Printed → Type 0) →
      ((has_match : List ℕ → Bool) → Decides has_match plan.program →
      Prints (option_map (λ (s : Snapshot). all_printed (file_printed max_searched Csearch job.style has_match s)
      (map string_bytes texts)) tree)) →
      PrintsCandidates job index plan.query tree Prints
  searched tree Prints prints = λ parts has_match keeps opens tests.
      let decides = decides_program (string_bytes job.pattern) job.fold plan.program has_match is.program tests.0 in
      let kept = names_decided (file_text job) plan.file keeps is.file tests.1 in
      subst (λ (p : Parts). Prints (csearch_printed max_searched job.style has_match keeps p plan.query tree))
      (opens_once index selected.parts parts selected.opens opens)
      (subst Prints (chosen max_searched job.style has_match keeps selected.parts plan.query tree
      (map string_bytes texts) (selected.kept keeps kept)) (prints has_match decides))

  -- faults of the selected names are faults of indexed names
  pub faults_chosen : MatchingIsDecidable → (Writes : List ℕ → Type 0) (opened : Parts) (failed failed' : ℕ) →
      OpensWith index opened → PrintsFaults Csearch (map string_bytes texts) failed failed' Writes →
      PrintsFaults Csearch opened.names failed failed' Writes
  faults_chosen decidable Writes opened failed failed' opens faults =
      let test = decided decidable plan.file in
      subst (λ (p : Parts). PrintsFaults Csearch p.names failed failed' Writes)
      (opens_once index selected.parts opened selected.opens opens)
      (PrintsFaults-chosen Writes Csearch selected.parts plan.query test.0 (map string_bytes texts) failed failed'
      (selected.kept test.0 test.1) faults)

module _ (job : SearchJob) (index : Option (List ℕ)) (query : Query) (tree : Option Snapshot)
    (Prints : Option Printed → Type 0) (by_index : PrintsCandidates job index query tree Prints) where
  -- what is printed over a tree with a snapshot
  model_printed : (parts : Parts) (snapshot : Snapshot) (has_match keeps : List ℕ → Bool) → OpensWith index parts →
      tree ≡ Some snapshot → DecidesSearch job has_match keeps → Prints
      (Some (all_printed (file_printed max_searched Csearch job.style has_match snapshot)
      (filter keeps (names_matching query (files_read parts)))))
  unfolding csearch_printed
  model_printed parts snapshot has_match keeps opens is tests =
      subst (λ (t : Option Snapshot). Prints (csearch_printed max_searched job.style has_match keeps parts
      query t)) is (by_index parts has_match keeps opens tests)

  pub like_cgrep : IsSoundFor job query → PrintsLikeCgrep job index tree (λ printed. Prints (Some printed))
  like_cgrep sound parts snapshot has_match keeps opens is agrees tests =
      subst Prints (ap (λ (p : Printed). Some p) (alike job has_match keeps query sound tests snapshot parts agrees))
      (model_printed parts snapshot has_match keeps opens is tests)

-- ---- an index that jobs built

module _ (history : History) (bytes : List ℕ) (is : IsHistory history) (by : IsBuiltByJobs history)
    (left : index_of history ≡ Some bytes) (short : length bytes < 2 ^ 32) where
  pub written : Parts
  written = parts_written (set.items (paths_of history)) (map'.entries (files_of history))

  there : encoding_of (set.items (paths_of history)) (map'.entries (files_of history)) ≡ bytes
  unfolding encoding
  there = index_is history bytes by left

  pub opens_so : DecodesAs bytes written
  unfolding written
  opens_so =
      let small = subst (λ (b : List ℕ). length b < 2 ^ 32) (sym there) short in
      subst (λ (b : List ℕ). DecodesAs b (parts_written (set.items (paths_of history)) (map'.entries (files_of history)))) there
      (encoding_decodes (set.items (paths_of history)) (map'.entries (files_of history))
      (content_indexable (paths_of history) (files_of history) (history_content history is) small))

  pub has_so : IsIndexWith written (set.items (paths_of history)) (map'.entries (files_of history))
  unfolding written
  has_so =
      let small = subst (λ (b : List ℕ). length b < 2 ^ 32) (sym there) short in
      encoding_has (set.items (paths_of history)) (map'.entries (files_of history))
      (content_indexable (paths_of history) (files_of history) (history_content history is) small)

  pub named : (parts : Parts) → DecodesAs bytes parts → parts.names ≡ indexed_names history
  named parts opens =
      let same : parts ≡ written = opens_once (Some bytes) parts written opens opens_so in
      ap (λ (p : Parts). p.names) same ∙ has_so.has_names

  pub agrees_still : (parts : Parts) (tree : Snapshot) → DecodesAs bytes parts →
      ReadAsIndexed tree (map'.entries (files_of history)) → ReadAsIndexed tree (files_read parts)
  agrees_still parts tree opens still =
      let same : written ≡ parts = opens_once (Some bytes) written parts opens_so opens in
      let files = has_so.has_files (ascending_sets (files_of history) (history_content history is).sets_are) in
      subst (λ (p : Parts). ReadAsIndexed tree (files_read p)) same (subst (ReadAsIndexed tree) (sym files) still)

pub as_promised : (job : SearchJob) (index : Option (List ℕ)) (query : Query) (tree : Option Snapshot)
    (Prints : Option Printed → Type 0) → OpensWhole IsSound job index query true → PrintsCandidates job index query tree Prints →
    SearchesLikeGrep job index tree (λ printed. Prints (Some printed))
as_promised job index query None Prints opened by_index earlier has_match keeps premises tests =
    absurd premises.jobs_left.trees_modelled.0
as_promised job None query (Some snapshot) Prints opened by_index earlier has_match keeps premises tests = absurd opened.opens
as_promised job (Some bytes) query (Some snapshot) Prints opened by_index earlier has_match keeps premises tests =
    let left = premises.jobs_left in
    let parts = opened.parts in
    let opens = opened.opens in
    let agrees = agrees_still earlier bytes left.is_history premises.by_jobs left.is_index left.short parts snapshot
    opens premises.still_reads in
    subst (λ (names : List (List ℕ)). Prints (Some (searched_by_cgrep max_searched job.style has_match snapshot (filter keeps names))))
    (named earlier bytes left.is_history premises.by_jobs left.is_index left.short parts opens)
    (like_cgrep job (Some bytes) query (Some snapshot) Prints by_index opened.is_right parts snapshot has_match keeps opens
    refl agrees tests)
