-- Searches of an index that jobs left: the index is accepted, unchanged files have no fault, and cgrep prints the
-- same.
use Rattle.std.proofs.Common.{◌≡◌, ◌≢◌, ℕ, ◌≤◌, ◌||◌, ◌&&◌, Bool, true, false, not, cond, List, [], ◌∷◌, length, map, refl, sym, ap, subst, ◌∙◌, arith, Option, Some, None, Result, Ok, Err, inl, inr, ◌<◌, ◌^◌}
use Rattle.std.proofs.lemmas.Bool.{true≢false, and_parts, and_from}
use Rattle.std.proofs.Math.Bool.{or-true}
use Rattle.std.specs.Prelude.{filter, string_bytes, nat_le, IfSome, IsSomeAnd}
use Rattle.std.specs.List.{list_all}
use Rattle.std.specs.FinMap as map'
use Rattle.cs_syntax.specs.Matching.{Tree}
use Rattle.cs_syntax.specs.Parsing.{ParsesAs, HasSyntaxError, tree as read_as, rejected as broken_by}
use Rattle.cs_syntax.specs.ParseErrors.{IsParseError, syntax, too_large, memory}
use Rattle.cs_syntax.specs.Weight.{weight, max_weight}
use Rattle.cs_syntax.specs.declared.fault.PatternFault.{PatternFault}
use Rattle.cs_syntax.specs.declared.fault.PatternFault.TheVariants as pattern
use Rattle.cs_syntax.specs.declared.fault.PatternError.{PatternError}
use Rattle.cs_tree.specs.StreamModels.{SourceModel}
use Rattle.cs_tree.specs.Snapshot.{Snapshot}
use Rattle.cs_tree.specs.PathSet.{Paths}
use Rattle.cs_tree.specs.Clean.{longest_path}
use Rattle.cs_tree.specs.Reachability.{is_reachable, reachable_files}
use Rattle.cs_tree.proofs.FoundLemmas.{get-found}
use Rattle.cs_trigram.specs.Text.{text_trigrams, limits}
use Rattle.cs_trigram.specs.declared.queries.Query.{Query}
use Rattle.cs_index.specs.Encoding.{Files, ListEntry}
use Rattle.cs_index.specs.Opening.{opening}
use Rattle.cs_index.specs.Decoding.{DecodesAs}
use Rattle.cs_index.specs.OpenedParts.{Parts, ids_read, are_whole}
use Rattle.cs_index.specs.Answerable.{is_answerable, mentions}
use Rattle.cs_index.specs.declared.fault.IndexFault.{IndexFault}
use Rattle.cs_index.proofs.decoding.FirstFailure.{decodable_does_not_fail}
use Rattle.cs_index.proofs.decoding.DecodableBytesOpen.{opens_as_decoded}
use Rattle.cs_merge.proofs.ContentLemmas.{each_of_map}
use Rattle.cs_history.specs.History.{History, Update, nothing, existing, ◌⊳◌, walked_paths, files_of, index_of}
use Rattle.cs_history.specs.FileTrigrams.{file_trigrams, ReadAsIndexed}
use Rattle.cs_history.specs.Premises.{IsShort}
use Rattle.cs_history.specs.WellFormed.{IsUpdate, IsHistory}
use Rattle.cs_history.specs.HistoryIndex.{indexed_names}
use Rattle.cs_history.specs.IndexBytes.{HasIndex}
use Rattle.cs_history.proofs.HistoryLemmas.{history_opens}
use Rattle.cs_history.proofs.MergedHistoryLemmas.{kept_first}
use Rattle.cs_args.specs.declared.jobs.Tool.TheVariants.{Cgrep}
use Rattle.cs_args.specs.declared.jobs.Style.{Style}
use Rattle.cs_args.specs.declared.jobs.SearchJob.{SearchJob}
use Rattle.cs_args.specs.declared.jobs.GrepJob.{GrepJob}
use Rattle.cs_args.specs.declared.fault.ToolFault.{ToolFault}
use Rattle.cs_args.specs.declared.fault.ToolFault.TheVariants.{Pattern, FilePattern, NoIndex, BadIndex, Write, Memory}
use Rattle.cs_search.specs.InputReport.{max_searched}
use Rattle.cs_search.specs.declared.status.Status.{Status}
use Rattle.cs_search.specs.Cgrep.{cgrep_printed}
use Rattle.cs_search.specs.Printed.{searched_by_cgrep, Printed}
use Rattle.cs_search.specs.Refusals.{IsAccepted, IsPatternRefused, DecidesText}
use Rattle.cs_search.specs.GrepFaults.{IsSearchFault}
use Rattle.cs_search.specs.Csearch.{DecidesSearch, file_text, AreAccepted, IsSound, IsBad, RefusedInOrder}
use Rattle.cs_search.specs.SearchHeadline.{SearchPremises, SearchesLikeGrep}
use Rattle.cs_search.specs.SameSearch.{IsSameSearch}
use Rattle.cs_search.proofs.SkippedFileLemmas.{search_silent}
use Rattle.cs_search.proofs.CgrepLemmas.{cgrep_files, read_once}
use Rattle.cs_search.proofs.MainPromiseLemmas.{written, opens_so}

-- ---- each list is whole, so the index is accepted

whole_answers : (parts : Parts) (query : Query) → are_whole parts ≡ true → is_answerable parts query ≡ true
unfolding is_answerable
whole_answers parts query whole = each parts.entries whole
  where
    each : (es : List ListEntry) → list_all (λ (e : ListEntry). (ids_read parts e).whole) es ≡ true →
        list_all (λ (e : ListEntry). not (mentions query e.trigram) || (ids_read parts e).whole) es ≡ true
    each [] all = refl
    each (e ∷ es) all =
        let both = and_parts (ids_read parts e).whole (list_all (λ (e : ListEntry). (ids_read parts e).whole) es) all in
        and_from (not (mentions query e.trigram) || (ids_read parts e).whole)
        (list_all (λ (e : ListEntry). not (mentions query e.trigram) || (ids_read parts e).whole) es)
        (ap (λ b. not (mentions query e.trigram) || b) both.0 ∙ or-true (not (mentions query e.trigram)))
        (each es both.1)

-- ---- an accepted pattern has no error

unreadable : (text : List ℕ) (fold : Bool) (tree : Tree) (fault : PatternFault) (at : ℕ) → ParsesAs text fold tree →
    HasSyntaxError text fold fault at → ⊥
unreadable text fold tree fault at reads broken = apart tree fault at (sym reads ∙ broken)
  where
    apart : (t : Tree) (k : PatternFault) (at : ℕ) → read_as t ≡ broken_by k at → ⊥
    apart t k at e = cc

accepted_apart : (text : List ℕ) (fold : Bool) (error : PatternError) → IsAccepted text fold →
    IsParseError text fold error → error.fault ≢ pattern.Memory → ⊥
accepted_apart text fold error accepted (syntax own is) other = unreadable text fold accepted.0 error.fault error.at accepted.1 is
accepted_apart text fold error accepted (too_large kind at tree reads heavy) other =
    let light = subst (λ (t : Tree). weight t ≤ max_weight) (read_once text fold accepted.0 tree accepted.1 reads) accepted.2 in
    omega (arith, light, heavy)
accepted_apart text fold error accepted (memory kind at) other = other kind

file_apart : (text : Option (List ℕ)) (error : PatternError) → IfSome text (λ text. IsAccepted text false) →
    IsSomeAnd text (λ text. IsPatternRefused text false error) → ⊥
file_apart None error accepted refused = refused
file_apart (Some text) error accepted refused = accepted_apart text false error accepted refused.0 refused.1

decodes_left : (history : History) (bytes : List ℕ) → IsHistory history → index_of history ≡ Some bytes →
    length bytes < 2 ^ 32 → (parts : Parts) × DecodesAs bytes parts
decodes_left nothing bytes is left short = let no : None ≡ Some bytes = left in cc
decodes_left (existing old parts) bytes is left short = (parts, subst (λ (b : List ℕ). DecodesAs b parts) (same left) is.decoded)
  where
    same : ◌≡◌ {A = Option (List ℕ)} (Some old) (Some bytes) → old ≡ bytes
    same e = cc
decodes_left (update ⊳ before) bytes is left short =
    (written (update ⊳ before) bytes is tt left short, opens_so (update ⊳ before) bytes is tt left short)

ok_once : (a b : Parts) → ◌≡◌ {A = Result Parts IndexFault} (Ok a) (Ok b) → a ≡ b
ok_once a b e = cc

module _ (history : History) (bytes : List ℕ) (left : HasIndex history bytes) where
  pub opens_whole : (parts : Parts) × (opening bytes ≡ Ok parts) × (are_whole parts ≡ true)
  opens_whole = let opens = history_opens history bytes left.is_history left.is_index left.short in (opens.parts, opens.opened, opens.whole)

  never_bad : (job : SearchJob) (query : Query) (fault : IndexFault) → IsBad IsSound job (Some bytes) query fault → ⊥
  never_bad job query fault (inl closed) =
      let decoded = decodes_left history bytes left.is_history left.is_index left.short in
      decodable_does_not_fail bytes decoded.0 fault decoded.1 closed
  never_bad job query fault (inr damaged) =
      let opened = damaged.1 in
      let same : opens_whole.0 ≡ opened.parts = ok_once opens_whole.0 opened.parts
      (sym opens_whole.1 ∙ opens_as_decoded bytes opened.parts opened.opens) in
      true≢false (sym (whole_answers opened.parts query (ap are_whole (sym same) ∙ opens_whole.2)) ∙ opened.lists)

  pub never_refused : (job : SearchJob) (query : Query) (answer : Result Status ToolFault) → AreAccepted job →
      RefusedInOrder IsSound job (Some bytes) query answer → IsSearchFault answer
  never_refused job query (Ok status) accepted refused = tt
  never_refused job query (Err (Pattern error)) accepted refused = accepted_apart (string_bytes job.pattern) job.fold
      error accepted.0 refused.0 refused.1
  never_refused job query (Err (FilePattern error)) accepted refused = file_apart (file_text job) error accepted.1 refused.1
  never_refused job query (Err NoIndex) accepted refused = let no : Some bytes ≡ None = refused.1 in cc
  never_refused job query (Err (BadIndex fault)) accepted refused = never_bad job query fault refused.1
  never_refused job query (Err Write) accepted refused = tt
  never_refused job query (Err Memory) accepted refused = tt

-- ---- a tree that was just indexed reads as it was indexed

module _ (update : Update) where
  abbrev paths : Paths
  paths = walked_paths update nothing

  read_so : (name trigrams : List ℕ) → map'.get (reachable_files (text_trigrams limits) update.tree paths) name
      ≡ Some trigrams → file_trigrams update.tree name ≡ Some trigrams
  read_so name trigrams found = by_test (is_reachable update.tree paths name && nat_le (length name) longest_path)
      (sym (get-found (text_trigrams limits) update.tree paths name) ∙ found)
    where
      by_test : (b : Bool) → cond b (file_trigrams update.tree name) None ≡ Some trigrams → file_trigrams update.tree name ≡ Some trigrams
      by_test true e = e
      by_test false e = cc

  pub reads_at_once : ReadAsIndexed update.tree (map'.entries (files_of (update ⊳ nothing)))
  reads_at_once =
      subst (λ (files : Files). ReadAsIndexed update.tree (map'.entries files)) (sym (kept_first update))
      (each_of_map (λ name (trigrams : List ℕ). file_trigrams update.tree name ≡ Some trigrams)
      (reachable_files (text_trigrams limits) update.tree paths) read_so)

  pub met_at_once : IsUpdate update → IsShort (index_of (update ⊳ nothing)) →
      SearchPremises (Some update.tree) (index_of (update ⊳ nothing)) (update ⊳ nothing)
  met_at_once is short = record {
    jobs_left = record { trees_modelled = (is.tree_is, tt); is_history = (is, tt); is_index = refl; short = short };
    by_jobs = tt;
    still_reads = reads_at_once;
  }

-- ---- files that read as they were indexed have no fault

pub unchanged_has_no_error : (style : Style) (has_match keeps : List ℕ → Bool) (tree : Snapshot)
    (index : Option (List ℕ)) (earlier : History) → SearchPremises (Some tree) index earlier →
    (searched_by_cgrep max_searched style has_match tree (filter keeps (indexed_names earlier))).errors ≡ []
unfolding searched_by_cgrep
unchanged_has_no_error style has_match keeps tree index earlier premises =
    search_silent style has_match keeps tree Cgrep (map'.entries (files_of earlier)) premises.still_reads

-- ---- the same search by cgrep

module _ (job : SearchJob) (names : List (List ℕ)) (like : GrepJob) (same : IsSameSearch job names like) where
  pub decided_alike : (has_match keeps : List ℕ → Bool) → DecidesSearch job has_match keeps →
      DecidesText (string_bytes like.pattern) like.fold has_match
  decided_alike has_match keeps tests =
      subst (λ text. DecidesText (string_bytes text) like.fold has_match) (sym same.pattern)
      (subst (λ fold. DecidesText (string_bytes job.pattern) fold has_match) (sym same.fold) tests.0)

  pub printed_by_cgrep : (has_match : List ℕ → Bool) (tree : Snapshot) (input : Option SourceModel) →
      cgrep_printed max_searched like has_match (Some tree) input
      ≡ Some (searched_by_cgrep max_searched job.style has_match tree names)
  unfolding searched_by_cgrep
  printed_by_cgrep has_match tree input =
      cgrep_files max_searched like has_match (Some tree) input same.files
      ∙ ap (λ (style : Style). Some (searched_by_cgrep max_searched style has_match tree (map string_bytes like.files.items))) same.style
      ∙ ap (λ (all : List (List ℕ)). Some (searched_by_cgrep max_searched job.style has_match tree all)) same.over

pub promised_by_cgrep : (job : SearchJob) (index : Option (List ℕ)) (tree : Snapshot) (input : Option SourceModel)
    (Prints : Option Printed → Type 0) (has_match keeps : List ℕ → Bool) (earlier : History) (like : GrepJob) →
    SearchesLikeGrep job index (Some tree) (λ printed. Prints (Some printed)) → DecidesSearch job has_match keeps →
    SearchPremises (Some tree) index earlier → IsSameSearch job (filter keeps (indexed_names earlier)) like →
    Prints (cgrep_printed max_searched like has_match (Some tree) input)
promised_by_cgrep job index tree input Prints has_match keeps earlier like promised decides_search premises same =
    subst Prints (sym (printed_by_cgrep job (filter keeps (indexed_names earlier)) like same has_match tree input))
    (promised earlier has_match keeps premises decides_search)
