-- The clauses of a search by an index, for each way in which it ends.
use Rattle.std.proofs.Common.{◌≡◌, ℕ, Bool, true, false, List, ap, subst, Option, Some, None, Result, Ok, Err, refl, inl, inr, ◌⊎◌}
use Rattle.std.specs.Prelude.{filter, map, option_map, IfErr, IfSome, String, string_bytes}
use Rattle.std.specs.declared.alloc.Global.{Global}
use Rattle.cs_syntax.specs.Matching.{Tree}
use Rattle.cs_match.specs.Decidability.{MatchingIsDecidable}
use Rattle.cs_match.specs.Deciding.{Decides}
use Rattle.cs_tree.specs.TakesPrefix.{EndsAfter}
use Rattle.cs_tree.specs.Snapshot.{Snapshot}
use Rattle.cs_trigram.specs.declared.queries.Query.{Query}
use Rattle.cs_trigram.specs.declared.queries.Query.TheVariants.{All}
use Rattle.cs_index.specs.OpenedParts.{Parts}
use Rattle.cs_index.specs.Stored.{StoredParts}
use Rattle.cs_index.specs.declared.fault.IndexFault.{IndexFault}
use Rattle.cs_args.specs.declared.jobs.Style.{Style}
use Rattle.cs_args.specs.declared.jobs.Tool.{Tool}
use Rattle.cs_args.specs.declared.jobs.Tool.TheVariants.{Csearch}
use Rattle.cs_args.specs.declared.jobs.SearchJob.{SearchJob}
use Rattle.cs_args.specs.declared.fault.ToolFault.{ToolFault}
use Rattle.cs_args.specs.declared.fault.ToolFault.TheVariants.{Pattern, FilePattern, NoIndex, BadIndex, Write, Memory}
use Rattle.cs_search.specs.declared.status.Status.{Status}
use Rattle.cs_trigram.specs.QueryOf.{IsQueryOf}
use Rattle.cs_search.specs.Csearch.{OpensWith, csearch_printed, IsSound, OpensWhole, IsReady, IsBad, RefusedInOrder}
use Rattle.cs_search.specs.declared.stored.Plan.{Plan}
use Rattle.cs_search.specs.Plans.{IsPlan, AreSelected, RefusesPlan}
use Rattle.cs_search.specs.InputReport.{max_searched}
use Rattle.cs_search.specs.Printed.{Printed, SearchOutputs, PrintsAnswer, PrintsNothing, PrintsFaults, all_printed, file_printed, searched_by_cgrep}
use Rattle.cs_search.specs.SameSearch.{PrintsLikeCgrep}
use Rattle.cs_search.specs.Searched.{IsSearch}
use Rattle.cs_history.specs.HistoryIndex.{indexed_names}
use Rattle.cs_history.specs.Premises.{modelled_snapshot}
use Rattle.cs_search.specs.StoredSearch.{IsUnopened}
use Rattle.cs_search.specs.GrepFaults.{IsSearchFault}
use Rattle.cs_search.proofs.CsearchLemmas.{by_csearch, search_last}
use Rattle.cs_search.proofs.PrintedInputLemmas.{PrintsFaults-no, PrintsAnswer-nothing}
use Rattle.cs_search.proofs.MainPromiseLemmas.{PrintsCandidates, faults_chosen, like_cgrep, as_promised, ready, searched}

-- ---- a query that is selective is sound

sound : (brute : Bool) (pattern : Tree) (query : Query) → IsQueryOf brute pattern query → IsSound brute pattern query
sound true pattern query is = is
sound false pattern query is = is.0

module _ (job : SearchJob) (index : Option (List ℕ)) (query : Query) where
  sound_whole : (whole : Bool) → OpensWhole IsQueryOf job index query whole → OpensWhole IsSound job index query whole
  sound_whole whole opened = record {
    parts = opened.parts;
    opens = opened.opens;
    is_right = λ pattern reads. sound job.brute pattern query (opened.is_right pattern reads);
    lists = opened.lists;
  }

  sound_bad : (fault : IndexFault) → IsBad IsQueryOf job index query fault → IsBad IsSound job index query fault
  sound_bad fault (inl closed) = inl closed
  sound_bad fault (inr damaged) = inr (damaged.0, sound_whole false damaged.1)

  sound_ready : IsReady IsQueryOf job index query → IsReady IsSound job index query
  sound_ready ready = (ready.0, sound_whole true ready.1)

  sound_refusal : {A : Type 0} (answer : Result A ToolFault) → RefusedInOrder IsQueryOf job index query answer →
      RefusedInOrder IsSound job index query answer
  sound_refusal (Ok x) is = sound_ready is
  sound_refusal (Err (Pattern error)) is = is
  sound_refusal (Err (FilePattern error)) is = is
  sound_refusal (Err NoIndex) is = is
  sound_refusal (Err (BadIndex fault)) is = (is.0, sound_bad fault is.1)
  sound_refusal (Err Write) is = sound_ready is
  sound_refusal (Err Memory) is = tt

  sound_begins : (outputs : SearchOutputs) → PrintsNothing outputs ⊎ IsReady IsQueryOf job index query →
      PrintsNothing outputs ⊎ IsReady IsSound job index query
  sound_begins outputs (inl nothing) = inl nothing
  sound_begins outputs (inr ready) = inr (sound_ready ready)

module _ (job : SearchJob) (index : Option (List ℕ)) (tree : Option Snapshot) where
  pub sound_search : (failed failed' : ℕ) (outputs : SearchOutputs) (answer : Result Status ToolFault) →
      IsSearch IsQueryOf job index tree failed failed' outputs answer → IsSearch IsSound job index tree failed failed' outputs answer
  sound_search failed failed' outputs answer is = record {
    query = is.query;
    prints = is.prints;
    promised = is.promised;
    begins = sound_begins job index is.query outputs is.begins;
    refused = sound_refusal job index is.query answer is.refused;
    faults = is.faults;
  }

  -- an error before anything is searched
  pub refused_first : (failed failed' : ℕ) (outputs : SearchOutputs) (fault : ToolFault) →
      PrintsNothing outputs → failed' ≡ failed → RefusesPlan job index fault →
      IsSearch IsQueryOf job index tree failed failed' outputs (Err fault)
  refused_first failed failed' outputs fault nothing same refused = record {
    query = refused.0;
    prints = λ parts has_match keeps opens tests. PrintsAnswer-nothing
        (csearch_printed max_searched job.style has_match keeps parts refused.0 tree) outputs fault nothing;
    promised = λ earlier has_match keeps premises tests. PrintsAnswer-nothing
        (Some (searched_by_cgrep max_searched job.style has_match (modelled_snapshot tree) (filter keeps (indexed_names earlier))))
        outputs fault nothing;
    begins = inl nothing;
    refused = refused.1;
    faults = λ parts opens. PrintsFaults-no Csearch {A = Status} (Err fault) fault parts.names failed failed' outputs.err
        outputs.err_then refl same nothing.1;
  }

  pub out_of_memory : (failed failed' : ℕ) (outputs : SearchOutputs) → PrintsNothing outputs →
      failed' ≡ failed → IsSearch IsQueryOf job index tree failed failed' outputs (Err Memory)
  out_of_memory failed failed' outputs nothing same = refused_first failed failed' outputs Memory nothing same (All, tt, refl)

  module _ (failed failed' : ℕ) (outputs : SearchOutputs) (query : Query) (ready : IsReady IsQueryOf job index query) where
    -- a search of the selected files
    pub begun : (answer : Result Status ToolFault) → IsSearchFault answer →
        PrintsCandidates job index query tree (λ printed. PrintsAnswer printed outputs answer) →
        ((parts : Parts) → OpensWith index parts → PrintsFaults Csearch parts.names failed failed'
        (λ lines. EndsAfter lines outputs.err outputs.err_then answer)) →
        IsSearch IsQueryOf job index tree failed failed' outputs answer
    begun answer is prints faults = record {
      query = query;
      prints = prints;
      promised = as_promised job index query tree (λ (printed : Option Printed). PrintsAnswer printed outputs answer)
          (sound_whole job index query true ready.1) prints;
      begins = inr ready;
      refused = search_last job index query answer ready is;
      faults = faults;
    }

-- a search of the selected names that began
pub searches_selected : (job : SearchJob) (plan : Plan) → IsPlan job plan → (bytes : Option (List ℕ)) (texts : List (String Global)) →
    AreSelected plan bytes texts → (tree : Option Snapshot) (before after : ℕ) (outputs : SearchOutputs) (answer : Result Status ToolFault) →
    MatchingIsDecidable → (tool : Tool) (style : Style) → tool ≡ Csearch → style ≡ job.style → IsSearchFault answer →
    ((has_match : List ℕ → Bool) → Decides has_match plan.program → PrintsAnswer (option_map (λ (tree : Snapshot). all_printed
    (file_printed max_searched tool style has_match tree) (map string_bytes texts)) tree) outputs answer) →
    PrintsFaults tool (map string_bytes texts) before after (λ lines. EndsAfter lines outputs.err outputs.err_then answer) →
    IsSearch IsQueryOf job bytes tree before after outputs answer
searches_selected job plan is bytes texts selected tree before after outputs answer decidable tool style tool-is style-is only printed
    faulty =
    let Claim = λ (printed : Option Printed). PrintsAnswer printed outputs answer in
    let Writes = λ (lines : List ℕ). EndsAfter lines outputs.err outputs.err_then answer in
    let prints = by_csearch Claim tree (map string_bytes texts) tool style job.style plan.program tool-is style-is printed in
    let faults = subst (λ (t : Tool). PrintsFaults t (map string_bytes texts) before after Writes) tool-is faulty in
    begun job bytes tree before after outputs plan.query (ready job bytes plan is texts selected) answer only
    (searched job bytes plan is texts selected tree Claim prints)
    (λ opened opens. faults_chosen job bytes plan is texts selected decidable Writes opened before after opens faults)

-- ---- a store that has a model

pub if_modelled : (model : Option (List ℕ)) (P : List ℕ → Type 0) → ((bytes : List ℕ) → model ≡ Some bytes → P bytes) → IfSome model P
if_modelled None P holds = tt
if_modelled (Some bytes) P holds = holds bytes refl

pub of_model : (model : Option (List ℕ)) (P : List ℕ → Type 0) (bytes : List ℕ) → model ≡ Some bytes → IfSome model P → P bytes
of_model model P bytes is holds = subst (λ (m : Option (List ℕ)). IfSome m P) is holds

pub sound_if_read : (job : SearchJob) (model : Option (List ℕ)) (tree : Option Snapshot) (failed failed' : ℕ)
    (outputs : SearchOutputs) (answer : Result Status ToolFault) →
    IfSome model (λ bytes. IsSearch IsQueryOf job (Some bytes) tree failed failed' outputs answer) →
    IfSome model (λ bytes. IsSearch IsSound job (Some bytes) tree failed failed' outputs answer)
sound_if_read job None tree failed failed' outputs answer is = tt
sound_if_read job (Some bytes) tree failed failed' outputs answer is = sound_search job (Some bytes) tree failed failed' outputs answer is

-- ---- the same by cgrep, if each file reads as it was indexed

module _ (job : SearchJob) (index : Option (List ℕ)) (tree : Option Snapshot) (failed failed' : ℕ) (outputs : SearchOutputs) where
  pub agrees : (answer : Result Status ToolFault) → IsSearch IsSound job index tree failed failed' outputs answer →
      PrintsLikeCgrep job index tree (λ printed. PrintsAnswer (Some printed) outputs answer)
  agrees (Ok status) is = like_cgrep job index is.query tree
      (λ (printed : Option Printed). PrintsAnswer printed outputs (Ok status)) is.prints is.refused.1.is_right
  agrees (Err fault) is = by_begins is.begins
    where
      by_begins : PrintsNothing outputs ⊎ IsReady IsSound job index is.query →
          PrintsLikeCgrep job index tree (λ printed. PrintsAnswer (Some printed) outputs (Err fault))
      by_begins (inl nothing) = λ parts snapshot has_match keeps opens same still tests. PrintsAnswer-nothing
          (Some (searched_by_cgrep max_searched job.style has_match snapshot (filter keeps parts.names))) outputs fault nothing
      by_begins (inr ready) = like_cgrep job index is.query tree
          (λ (printed : Option Printed). PrintsAnswer printed outputs (Err fault)) is.prints ready.1.is_right

-- ---- an index in a store that does not open

refusal_of : (A B : Type 0) (job : SearchJob) (index : Option (List ℕ)) (query : Query) (fault : ToolFault) →
    RefusedInOrder IsSound job index query {A = A} (Err fault) → RefusedInOrder IsSound job index query {A = B} (Err fault)
refusal_of A B job index query Memory is = tt
refusal_of A B job index query fault is = is

module _ (A B : Type 0) (job : SearchJob) where
  -- an error of the plan, whatever the index is
  pub unopened_first : (opened : Result StoredParts IndexFault) (why : ToolFault) →
      ((index : Option (List ℕ)) → (query : Query) × RefusedInOrder IsQueryOf job index query {A = A} (Err why)) →
      IfErr opened (λ fault. IsUnopened {A = B} job fault (Ok (Err why)))
  unopened_first (Ok held) why refused = tt
  unopened_first (Err fault) why refused = inl (λ index. let r = refused index in
      (r.0, refusal_of A B job index r.0 why (sound_refusal job index r.0 {A = A} (Err why) r.1)))

  -- the same error
  pub unopened_as : (opened : Result StoredParts IndexFault) (why : ToolFault) →
      IfErr opened (λ fault. IsUnopened {A = A} job fault (Ok (Err why))) →
      IfErr opened (λ fault. IsUnopened {A = B} job fault (Ok (Err why)))
  unopened_as (Ok held) why is = tt
  unopened_as (Err fault) why (inl refused) = inl (λ index. let r = refused index in (r.0, refusal_of A B job index r.0 why r.1))
  unopened_as (Err fault) why (inr both) =
      inr (
        both.0,
        (let same : why ≡ BadIndex fault = err_once why (BadIndex fault) both.1 in
            ap (λ (f : ToolFault). Err f) same),
        both.2,
      )
    where
      err_once : (a b : ToolFault) → ◌≡◌ {A = Result A ToolFault} (Err a) (Err b) → a ≡ b
      err_once a b e = cc

  unready : (query : Query) × IsReady IsSound job None query → ⊥
  unready r = r.1.1.opens

  -- nothing is searched
  pub unopened_unready : (opened : Result StoredParts IndexFault) (ready : A) (answer : Result B ToolFault) →
      IfErr opened (λ fault. IsUnopened {A = A} job fault (Ok (Ok ready))) →
      IfErr opened (λ fault. IsUnopened {A = B} job fault (Ok answer))
  unopened_unready (Ok held) ready answer is = tt
  unopened_unready (Err fault) ready answer (inl all) = absurd (unready (all None))
  unopened_unready (Err fault) ready answer (inr both) = absurd (apart ready (BadIndex fault) both.1)
    where
      apart : (x : A) (why : ToolFault) → ◌≡◌ {A = Result A ToolFault} (Ok x) (Err why) → ⊥
      apart x why e = cc
