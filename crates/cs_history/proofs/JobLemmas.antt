-- How one job extends a history.
use Rattle.std.proofs.Common.{◌≡◌, true, false, cond, List, [], ◌∷◌, ◌++◌, map, sym, ap, subst, ◌∙◌, inl, inr, Option, Some, None, string_bytes, String, nat_lt, length, bytes_eq}
use Rattle.cs_history.proofs.Common.{IsTree, IsModelled, cases_Bool, cond_both, ltb-false, slash, AllByRecursion, AllZip, begins, Snapshot, clean_fault, absolute, clean_path, has_nul, longest_path, from_list_all, History, nothing, ◌⊳◌, IsBuiltByJobs, AreClean, IsUpdate, IsHistory, given_texts, given_paths, has_no_path, AreCleanable, IsFitting, update_of, reset_history, after_done, after, history_after, IndexJob, Reply, NoNul}
use Rattle.std.proofs.lemmas.Str.{IsUtf8-append, IsUtf8-string_bytes}
use Rattle.std.specs.declared.alloc.Global.{Global}
use Rattle.std.specs.FinMap as map'
use Rattle.cs_tree.proofs.NormalizedLemmas.{cleaned_is_normalized, normalized_from, bytes_no_nul, no_nul_bytes, no_fault_parts}
use Rattle.cs_history.specs.Premises.{modelled_snapshot}
use Rattle.cs_args.specs.declared.jobs.Reply.TheVariants.{Done, Refused}
use Rattle.cs_history.proofs.PathElementLemmas.{IsClean, IsPart, slash_utf8}
use Rattle.cs_history.proofs.CleanedPathLemmas.{cleaned_part}

-- ---- the paths of a job

absolute_part : (cwd path : String Global) → NoNul (absolute (string_bytes cwd) (string_bytes path)) →
    IsPart (absolute (string_bytes cwd) (string_bytes path))
absolute_part cwd path h = record {
  no_nul = h;
  utf8 = cond_both (begins (slash ∷ []) (string_bytes path)) (string_bytes path)
      (string_bytes cwd ++ slash ∷ string_bytes path) Rattle.std.specs.Prelude.IsUtf8
      (λ _. IsUtf8-string_bytes path)
      (λ _. IsUtf8-append (string_bytes cwd) (slash ∷ string_bytes path) (IsUtf8-string_bytes cwd)
      (IsUtf8-append (slash ∷ []) (string_bytes path) slash_utf8 (IsUtf8-string_bytes path)));
}

-- a path that can be cleaned is clean afterwards
pub cleanable_clean : (cwd path : String Global) → clean_fault (string_bytes cwd) (string_bytes path) ≡ None →
    IsClean (clean_path (string_bytes cwd) (string_bytes path))
cleanable_clean cwd path h =
    let folder = string_bytes cwd in
    let text = string_bytes path in
    let passed = no_fault_parts (bytes_eq text []) (has_nul (absolute folder text))
    (nat_lt longest_path (length (clean_path folder text))) h in
    let part = cleaned_part folder text (absolute_part cwd path (no_nul_bytes (absolute folder text) passed.0)) in (
      part.utf8,
      normalized_from (clean_path folder text) (cleaned_is_normalized folder text)
          (bytes_no_nul (clean_path folder text) part.no_nul)
          (ltb-false longest_path (length (clean_path folder text)) passed.1),
    )

all_cleaned : (cwd : String Global) (paths : List (String Global)) →
    AllByRecursion (λ text. clean_fault (string_bytes cwd) text ≡ None) (map string_bytes paths) →
    AllByRecursion IsClean (map (λ text. clean_path (string_bytes cwd) text) (map string_bytes paths))
all_cleaned cwd [] all = tt
all_cleaned cwd (path ∷ paths) all = (cleanable_clean cwd path all.0, all_cleaned cwd paths all.1)

pub given_clean : (job : IndexJob) → AreCleanable job → AreClean (given_paths job)
given_clean job h = from_list_all IsClean (map (λ text. clean_path (string_bytes job.cwd) text) (given_texts job))
    (all_cleaned job.cwd job.paths.items h)

-- ---- the history after a job

pub list_adds_nothing : (before : History) (job : IndexJob) (tree : Snapshot) → job.list ≡ true → after_done before job tree ≡ before
list_adds_nothing before job tree l = ap (λ b. cond b before (cond job.reset (reset_history job tree) (update_of job tree ⊳ before))) l

pub reset_starts : (before : History) (job : IndexJob) (tree : Snapshot) → job.list ≡ false → job.reset ≡ true →
    after_done before job tree ≡ reset_history job tree
reset_starts before job tree l r =
    ap (λ b. cond b before (cond job.reset (reset_history job tree) (update_of job tree ⊳ before))) l
    ∙ ap (λ b. cond b (reset_history job tree) (update_of job tree ⊳ before)) r

reset_is_history : (job : IndexJob) (tree : Snapshot) → IsTree tree → AreClean (given_paths job) → IsHistory (reset_history job tree)
reset_is_history job tree is clean = cond_both (has_no_path job) nothing (update_of job tree ⊳ nothing) IsHistory
    (λ _. tt) (λ _. (record { tree_is = is; given_are = clean }, tt))

pub after_history : (before : History) (job : IndexJob) (tree : Snapshot) (reply : Reply) → IsHistory before →
    IsTree tree → IsFitting job reply → IsHistory (after before job tree reply)
after_history before job tree (Refused fault) is well fits = is
after_history before job tree Done is well fits =
    cond_both job.list before (cond job.reset (reset_history job tree) (update_of job tree ⊳ before)) IsHistory
    (λ _. is)
    (λ walks.
    let clean = given_clean job (fits walks) in
    cond_both job.reset (reset_history job tree) (update_of job tree ⊳ before) IsHistory
    (λ _. reset_is_history job tree well clean)
    (λ _. (record { tree_is = well; given_are = clean }, is)))

pub followed_history : (before : History) (jobs : List IndexJob) (trees : List Snapshot) (replies : List Reply) →
    IsHistory before → AllByRecursion IsTree trees → AllZip IsFitting jobs replies →
    IsHistory (history_after before jobs trees replies)
followed_history before [] trees replies is well fits = is
followed_history before (job ∷ jobs) [] replies is well fits = is
followed_history before (job ∷ jobs) (tree ∷ trees) [] is well fits = is
followed_history before (job ∷ jobs) (tree ∷ trees) (reply ∷ replies) is well fits =
    followed_history (after before job tree reply) jobs trees replies (after_history before job tree reply is well.0 fits.0) well.1 fits.1

-- ---- the first job that succeeds, other than `-list`, replaces an existing index

pub done_by_jobs : (before : History) (job : IndexJob) (tree : Snapshot) → job.list ≡ false → IsBuiltByJobs (after_done before job tree)
done_by_jobs before job tree l =
    subst IsBuiltByJobs (sym (ap (λ b. cond b before (cond job.reset (reset_history job tree) (update_of job tree ⊳ before))) l))
    (cond_both job.reset (reset_history job tree) (update_of job tree ⊳ before) IsBuiltByJobs
    (λ _. cond_both (has_no_path job) nothing (update_of job tree ⊳ nothing) IsBuiltByJobs (λ _. tt) (λ _. tt))
    (λ _. tt))

pub later_by_jobs : (before : History) (job : IndexJob) (tree : Snapshot) (reply : Reply) → IsBuiltByJobs before →
    IsBuiltByJobs (after before job tree reply)
later_by_jobs before job tree (Refused fault) by = by
later_by_jobs before job tree Done by =
    elim (cases_Bool job.list) [
      | inl l ↦ subst IsBuiltByJobs (sym (list_adds_nothing before job tree l)) by
      | inr l ↦ done_by_jobs before job tree l
    ]

-- ---- a job over a modelled tree

modelled_tree : (snapshot : Option Snapshot) → IsModelled snapshot → IsTree (modelled_snapshot snapshot)
modelled_tree None is = absurd is
modelled_tree (Some tree) is = is

pub cleanable_update : (job : IndexJob) (snapshot : Option Snapshot) → IsModelled snapshot → AreCleanable job →
    IsUpdate (update_of job (modelled_snapshot snapshot))
cleanable_update job snapshot is cleanable = record { tree_is = modelled_tree snapshot is; given_are = given_clean job cleanable }
