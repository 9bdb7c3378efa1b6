-- Errors of jobs over an index that jobs left.
use Rattle.std.proofs.Common.{◌≡◌, ℕ, ◌⊎◌, true, false, cond, ◌&&◌, List, length, refl, sym, ap, subst, ◌∙◌, inl, inr, Option, Some, None, string_bytes, option_map}
use Rattle.cs_cindex.proofs.Common.{IsModelled, option_or, true≢false, and_parts, cases_Bool, cond_both, eqb-true, length-map, Snapshot, IndexFault, IndexJob, Reply, Done, Refused, CindexFault, NoIndex, BadIndex, Unsorted, TooLarge, BadPath, Write, Memory, History, nothing, index_of, IsHistory, given_texts, has_no_path, modelled_snapshot, IsShort, JobKind, lists, clears, walks, job_kind, Walks, NeedsIndex, IsFirstBad, IsTooLarge, IsRightReply, first_bad, base, list_fault, base_fault, early_fault_of, early_fault, IsLateFault, IsDamaged, EarlyOr, HasCause, none-some}
use Rattle.cs_history.proofs.IndexLemmas.{no_index}
use Rattle.cs_cindex.proofs.OldIndexLemmas.{history_base, history_whole, history_lists}
use Rattle.std.proofs.lemmas.List.{nil_from_length}

-- ---- the kinds of jobs

pub data Cases (job : IndexJob) : Type 0 where
  listing : job.list ≡ true → job_kind job ≡ lists → Cases job
  clearing : job.list ≡ false → job.reset ≡ true → has_no_path job ≡ true → job_kind job ≡ clears → Cases job
  walking : job.list ≡ false → (job.reset && has_no_path job) ≡ false → job_kind job ≡ walks → Cases job

pub cases_of : (job : IndexJob) → Cases job
cases_of job =
    elim (cases_Bool job.list) [
      | inl l ↦ listing l (ap (λ b. cond b lists (cond (job.reset && has_no_path job) clears walks)) l)
      | inr l ↦ elim (cases_Bool (job.reset && has_no_path job)) [
        | inl both ↦ clearing l (and_parts job.reset (has_no_path job) both).0
            (and_parts job.reset (has_no_path job) both).1
            (ap (λ b. cond b lists (cond (job.reset && has_no_path job) clears walks)) l
            ∙ ap (λ b. cond b clears walks) both)
        | inr one ↦ walking l one (ap (λ b. cond b lists (cond (job.reset && has_no_path job) clears walks)) l
            ∙ ap (λ b. cond b clears walks) one)
      ]
    ]

-- a job walks unless it is a `-list` or a `-reset` without paths
pub walks_kind : (job : IndexJob) → (job.list ≡ false) × ((job.reset && has_no_path job) ≡ false) → Walks job
walks_kind job w =
    ap (λ b. cond b lists (cond (job.reset && has_no_path job) clears walks)) w.0
    ∙ ap (λ b. cond b clears walks) w.1

pub walks_parts : (job : IndexJob) → Walks job → (job.list ≡ false) × ((job.reset && has_no_path job) ≡ false)
walks_parts job w =
    elim (cases_of job) [
      | listing l k ↦ absurd (not_lists (sym k ∙ w))
      | clearing l r n k ↦ absurd (not_clears (sym k ∙ w))
      | walking l one k ↦ (l, one)
    ]
  where
    not_lists : lists ≡ walks → ⊥
    not_lists e = cc

    not_clears : clears ≡ walks → ⊥
    not_clears e = cc

-- ---- early errors

either : {A : Type 0} (f e : A) {P : Type 0} → (P → ⊥) → (f ≡ e) ⊎ P → Some e ≡ Some f
either f e never h = elim h [ inl is ↦ ap Some (sym is) | inr other ↦ absurd (never other) ]

-- an error that is neither late nor out of memory is the early one
pub is_early : (early : Option CindexFault) (late : Type 0) (fault : CindexFault) → (fault ≡ Memory → ⊥) → (late → ⊥) →
    EarlyOr early late fault → early ≡ Some fault
is_early None late fault no_memory none h = absurd (none h)
is_early (Some NoIndex) late fault no_memory none h = ap Some (sym h)
is_early (Some (BadIndex bad)) late fault no_memory none h = either fault (BadIndex bad) no_memory h
is_early (Some Unsorted) late fault no_memory none h = either fault Unsorted no_memory h
is_early (Some TooLarge) late fault no_memory none h = either fault TooLarge no_memory h
is_early (Some (BadPath path_index)) late fault no_memory none h = either fault (BadPath path_index) no_memory h
is_early (Some Write) late fault no_memory none h = either fault Write no_memory h
is_early (Some Memory) late fault no_memory none h = either fault Memory no_memory h

-- the cause of an early error, over an index that jobs left
pub data Causes (earlier : History) (job : IndexJob) (fault : CindexFault) : Type 0 where
  none_there : earlier ≡ nothing → NeedsIndex job → fault ≡ NoIndex → Causes earlier job fault
  refused : (path_index : ℕ) → job.list ≡ false → first_bad (string_bytes job.cwd) (given_texts job) ≡ Some path_index →
      fault ≡ BadPath path_index → Causes earlier job fault

module _ (earlier : History) (is : IsHistory earlier) (job : IndexJob) where
  some_is : {a b : CindexFault} → Some a ≡ Some b → b ≡ a
  some_is e = cc

  by_list : (old : Option (List ℕ)) → index_of earlier ≡ old → IsShort old → job.list ≡ true → (fault : CindexFault) →
      list_fault old ≡ Some fault → Causes earlier job fault
  by_list None left short l fault e = none_there (no_index earlier left) (inl l) (some_is e)
  by_list (Some bytes) left short l fault e = absurd (none-some fault (sym (history_lists earlier bytes is left short) ∙ e))

  by_base : (old : Option (List ℕ)) → index_of earlier ≡ old → IsShort old → job.reset ≡ false → (fault : CindexFault) →
      base_fault job old ≡ Some fault → Causes earlier job fault
  by_base None left short r fault e =
      elim (cases_Bool (has_no_path job)) [
        | inl none ↦ none_there (no_index earlier left) (inr (r, none)) (some_is (sym (ap (λ b. cond b (Some NoIndex) None) none) ∙ e))
        | inr some ↦ absurd (none-some fault (sym (ap (λ b. cond b (Some NoIndex) None) some) ∙ e))
      ]
  by_base (Some bytes) left short r fault e = absurd (none-some fault (sym (history_base earlier bytes is left short) ∙ e))

  by_reset : (old : Option (List ℕ)) → index_of earlier ≡ old → IsShort old → (job.reset && has_no_path job) ≡ false →
      (fault : CindexFault) → base_fault job (base job old) ≡ Some fault → Causes earlier job fault
  by_reset old left short one fault e =
      elim (cases_Bool job.reset) [
        | inl r ↦
            let some : has_no_path job ≡ false = sym (ap (λ b. b && has_no_path job) r) ∙ one in
            absurd (none-some fault (sym (ap (λ b. base_fault job (cond b None old)) r ∙ ap (λ b. cond b (Some NoIndex) None) some) ∙ e))
        | inr r ↦ by_base old left short r fault (sym (ap (λ b. base_fault job (cond b None old)) r) ∙ e)
      ]

  by_walk : (old : Option (List ℕ)) → index_of earlier ≡ old → IsShort old → job.list ≡ false →
      (job.reset && has_no_path job) ≡ false → (fault : CindexFault) (bad : Option ℕ) →
      first_bad (string_bytes job.cwd) (given_texts job) ≡ bad →
      option_or (option_map (λ path_index. BadPath path_index) bad) (base_fault job (base job old)) ≡ Some fault →
      Causes earlier job fault
  by_walk old left short l one fault None b e = by_reset old left short one fault e
  by_walk old left short l one fault (Some path_index) b e = refused path_index l b (some_is e)

  pub causes : (old : Option (List ℕ)) → index_of earlier ≡ old → IsShort old → (fault : CindexFault) →
      early_fault job old ≡ Some fault → Causes earlier job fault
  causes old left short fault e =
      elim (cases_of job) [
        | listing l k ↦ by_list old left short l fault (sym (ap (λ kind. early_fault_of kind job old) k) ∙ e)
        | clearing l r p k ↦ absurd (none-some fault (sym (ap (λ kind. early_fault_of kind job old) k) ∙ e))
        | walking l one k ↦ by_walk old left short l one fault (first_bad (string_bytes job.cwd) (given_texts job)) refl
            (sym (ap (λ kind. early_fault_of kind job old) k) ∙ e)
      ]

-- a job that needs an index fails if there is none
pub needs_one : (job : IndexJob) → NeedsIndex job → early_fault job None ≡ Some NoIndex
needs_one job (inl l) = ap (λ b. early_fault_of (cond b lists (cond (job.reset && has_no_path job) clears walks)) job None) l
needs_one job (inr alone) =
    elim (cases_of job) [
      | listing l k ↦ ap (λ kind. early_fault_of kind job None) k
      | clearing l r p k ↦ absurd (true≢false (sym r ∙ alone.0))
      | walking l one k ↦
          ap (λ kind. early_fault_of kind job None) k
          ∙ ap (λ ts. option_or (option_map (λ path_index. BadPath path_index) (first_bad (string_bytes job.cwd) ts))
          (base_fault job (base job None))) (nil_from_length (given_texts job)
          (length-map job.paths.items string_bytes ∙ eqb-true (length job.paths.items) 0 alone.1))
          ∙ ap (λ b. base_fault job (cond b None None)) alone.0
          ∙ ap (λ b. cond b (Some NoIndex) None) alone.1
    ]

-- ---- replies

-- no late error is one of these
late_none : (kind : JobKind) (job : IndexJob) (tree : Option Snapshot) (old : Option (List ℕ)) → IsLateFault kind job tree old NoIndex → ⊥
late_none lists job tree old h = h
late_none _ job tree old h = h

late_path : (kind : JobKind) (job : IndexJob) (tree : Option Snapshot) (old : Option (List ℕ)) (path_index : ℕ) →
    IsLateFault kind job tree old (BadPath path_index) → ⊥
late_path lists job tree old path_index h = h
late_path _ job tree old path_index h = h

late_order : (kind : JobKind) (job : IndexJob) (tree : Option Snapshot) (old : Option (List ℕ)) → IsLateFault kind job tree old Unsorted → ⊥
late_order lists job tree old h = h
late_order _ job tree old h = h

damaged_none : (earlier : History) (old : Option (List ℕ)) → IsHistory earlier → index_of earlier ≡ old → IsShort old → IsDamaged old → ⊥
damaged_none earlier None is left short h = h
damaged_none earlier (Some bytes) is left short h = history_whole earlier bytes is left short h

late_bad : (earlier : History) (kind : JobKind) (job : IndexJob) (tree : Option Snapshot) (old : Option (List ℕ))
    (fault : IndexFault) → IsHistory earlier → index_of earlier ≡ old → IsShort old →
    IsLateFault kind job tree old (BadIndex fault) → ⊥
late_bad earlier lists job tree old fault is left short h = h
late_bad earlier clears job tree old fault is left short h = h
late_bad earlier walks job tree old fault is left short list =
    cond_both job.reset None old (λ o. IsDamaged o → ⊥) (λ _ damaged. damaged)
    (λ _ damaged. damaged_none earlier old is left short damaged) list.damaged

-- an early error is not `BadIndex`
no_bad : (earlier : History) (job : IndexJob) (fault : IndexFault) → Causes earlier job (BadIndex fault) → ⊥
no_bad earlier job fault (none_there e n is) = cc
no_bad earlier job fault (refused path_index l b is) = cc

no_order : (earlier : History) (job : IndexJob) → Causes earlier job Unsorted → ⊥
no_order earlier job (none_there e n is) = cc
no_order earlier job (refused path_index l b is) = cc

none_cause : (earlier : History) (job : IndexJob) → Causes earlier job NoIndex → (earlier ≡ nothing) × NeedsIndex job
none_cause earlier job (none_there e n is) = (e, n)
none_cause earlier job (refused path_index l b is) = cc

path_cause : (earlier : History) (job : IndexJob) (path_index : ℕ) → Causes earlier job (BadPath path_index) → IsFirstBad job path_index
path_cause earlier job path_index (none_there e n is) = cc
path_cause earlier job path_index (refused at l b is) = subst (IsFirstBad job) (same is) (record { unlisted = l; first = b })
  where
    same : BadPath path_index ≡ BadPath at → at ≡ path_index
    same h = cc

done_early : (job : IndexJob) (earlier : History) (old : Option (List ℕ)) → index_of earlier ≡ old → earlier ≡ nothing →
    NeedsIndex job → early_fault job old ≡ Some NoIndex
done_early job earlier old left e needs = ap (early_fault job) (sym left ∙ ap index_of e) ∙ needs_one job needs

is_reply : (fault other : CindexFault) → Refused fault ≡ Refused other → fault ≡ other
is_reply fault other e = cc

pub right_reply : (earlier : History) (job : IndexJob) (tree : Option Snapshot) (old : Option (List ℕ)) (reply : Reply)
    → IsModelled tree → IsHistory earlier → index_of earlier ≡ old → IsShort old → HasCause job tree old reply →
    (reply ≡ Refused TooLarge → IsTooLarge earlier job (modelled_snapshot tree)) →
    (reply ≡ Done → IsTooLarge earlier job (modelled_snapshot tree) → ⊥) →
    IsRightReply earlier job (modelled_snapshot tree) reply
right_reply earlier job tree old Done modelled is left short cause large fits = record {
  no_index = (λ e. absurd (never NoIndex e), λ h. absurd (none-some NoIndex (sym cause ∙ done_early job earlier old left h.0 h.1)));
  bad_path = λ path_index e. absurd (never (BadPath path_index) e);
  too_large = large;
  fits = fits;
  bad_index = λ fault e. never (BadIndex fault) e;
  unsorted = λ e. never Unsorted e;
}
  where
    never : (fault : CindexFault) → Done ≡ Refused fault → ⊥
    never fault e = cc
right_reply earlier job tree old (Refused fault) modelled is left short cause large fits = record {
  no_index = (
    λ e. none_cause earlier job (early NoIndex (λ h. cc) (late_none (job_kind job) job tree old) e),
    λ h.
        let moved : EarlyOr (Some NoIndex) (IsLateFault (job_kind job) job tree old fault) fault =
        subst (λ o. EarlyOr o (IsLateFault (job_kind job) job tree old fault) fault)
        (done_early job earlier old left h.0 h.1) cause in
        ap Refused moved,
  );
  bad_path = λ path_index e. path_cause earlier job path_index
      (early (BadPath path_index) (λ h. cc) (late_path (job_kind job) job tree old path_index) e);
  too_large = large;
  fits = fits;
  bad_index = λ bad e. no_bad earlier job bad
      (early (BadIndex bad) (λ h. cc) (late_bad earlier (job_kind job) job tree old bad is left short) e);
  unsorted = λ e. no_order earlier job (early Unsorted (λ h. cc) (late_order (job_kind job) job tree old) e);
}
  where
    early : (other : CindexFault) → (other ≡ Memory → ⊥) → (IsLateFault (job_kind job) job tree old other → ⊥) →
        Refused fault ≡ Refused other → Causes earlier job other
    early other no_memory none e =
        let at : fault ≡ other = is_reply fault other e in
        let moved : EarlyOr (early_fault job old) (IsLateFault (job_kind job) job tree old other) other =
        subst (λ f. EarlyOr (early_fault job old) (IsLateFault (job_kind job) job tree old f) f) at cause in
        causes earlier is job old left short other
        (is_early (early_fault job old) (IsLateFault (job_kind job) job tree old other) other no_memory none moved)
