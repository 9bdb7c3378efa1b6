-- The index after a job, and the causes of errors.
use Rattle.std.proofs.Common.{◌≡◌, ℕ, cond, List, [], ◌∷◌, refl, sym, ap, subst, ◌∙◌, ◌⊎◌, Option, Some, None, string_bytes, option_map}
use Rattle.cs_cindex.proofs.Common.{option_or, Snapshot, IndexJob, Reply, Done, Refused, CindexFault, TooLarge, BadPath, History, nothing, index_of, given_texts, AreCleanable, modelled_snapshot, Premises, Indexes, job_kind, Walks, IsLong, IsTooLarge, first_bad, IsNextLong, IsNext, base, base_fault, early_walk_fault, early_fault_of, early_fault, IsLateFault, EarlyOr, HasCause, RightAfter}
use Rattle.cs_cindex.proofs.JobPathLemmas.{all_accepted}
use Rattle.cs_cindex.proofs.NextIndexLemmas.{modelled_next, modelled_short, on_base, walks_on, next_is, large_is, fits_is}
use Rattle.cs_cindex.proofs.RefusedJobLemmas.{Causes, none_there, refused, causes, listing, clearing, walking, cases_of, is_early, right_reply}

none_bad_of : (o b : Option CindexFault) (bad : Option ℕ) →
    option_or (option_map (λ path_index. BadPath path_index) bad) b ≡ None → bad ≡ None
none_bad_of o b None e = refl
none_bad_of o b (Some path_index) e = cc

walk_accepted : (job : IndexJob) (old : Option (List ℕ)) → early_walk_fault job old ≡ None → AreCleanable job
walk_accepted job old e = all_accepted (string_bytes job.cwd) (given_texts job)
    (none_bad_of None (base_fault job old) (first_bad (string_bytes job.cwd) (given_texts job)) e)

-- ---- jobs that walk

-- a job without an early error has paths that can be cleaned
early_accepted : (job : IndexJob) (old : Option (List ℕ)) → Walks job → early_fault job old ≡ None → AreCleanable job
early_accepted job old w e = walk_accepted job (base job old) (sym (ap (λ kind. early_fault_of kind job old) w) ∙ e)

pub walk_indexes : (job : IndexJob) (tree : Option Snapshot) (old : Option (List ℕ)) (bytes : List ℕ) → Walks job →
    early_walk_fault job (base job old) ≡ None → IsNext job tree (base job old) (Some bytes) →
    Indexes (job ∷ []) (tree ∷ []) (Done ∷ []) old (Some bytes)
walk_indexes job tree old bytes w none next =
    let accepted = walk_accepted job (base job old) none in
    record {
      index = λ earlier p.
          let modelled = p.trees_modelled.0 in
          modelled_next job tree (base job old) (Some bytes) next modelled
          ∙ next_is job (modelled_snapshot tree) (base job old) (cond job.reset nothing earlier)
          (on_base job tree old earlier accepted p)
          (modelled_short job tree (base job old) next.own next.own_is modelled)
          ∙ ap index_of (sym (walks_on job (modelled_snapshot tree) earlier w));
      fitting = ((λ _. accepted), tt);
      short = λ _. next.short;
    }

-- ---- too large

-- no early error is `TooLarge`
never_large : (earlier : History) (job : IndexJob) → Causes earlier job TooLarge → ⊥
never_large earlier job (none_there e n is) = cc
never_large earlier job (refused path_index l b is) = cc

late_of : (early : Option CindexFault) (late : Type 0) → (early ≡ Some TooLarge → ⊥) → EarlyOr early late TooLarge → (early ≡ None) × late
late_of None late never h = (refl, h)
late_of (Some early) late never h = absurd (never (is_early (Some early) ⊥ TooLarge (λ e. cc) (λ e. e) h))

same_fault : (fault : CindexFault) → Refused fault ≡ Refused TooLarge → fault ≡ TooLarge
same_fault fault e = cc

large_late : (job : IndexJob) (tree : Option Snapshot) (old : Option (List ℕ)) (earlier : History) →
    Premises (tree ∷ []) old earlier → early_fault job old ≡ None → IsLateFault (job_kind job) job tree old TooLarge →
    IsTooLarge earlier job (modelled_snapshot tree)
large_late job tree old earlier p none late =
    elim (cases_of job) [
      | listing l k ↦ absurd (subst (λ kind. IsLateFault kind job tree old TooLarge) k late)
      | clearing l r n k ↦ absurd (subst (λ kind. IsLateFault kind job tree old TooLarge) k late)
      | walking l one k ↦
          let next : IsNextLong job tree (base job old) = subst (λ kind. IsLateFault kind job tree old TooLarge) k late in
          record {
            walks = k;
            long = subst (λ h. IsLong (Some (Rattle.cs_history.specs.Replies.own_index earlier job
                (modelled_snapshot tree))) ⊎ IsLong (index_of h))
                (sym (walks_on job (modelled_snapshot tree) earlier k))
                (large_is job tree (base job old) (cond job.reset nothing earlier) p.trees_modelled.0
                (on_base job tree old earlier (early_accepted job old k none) p) next);
          }
    ]

large_cause : (job : IndexJob) (tree : Option Snapshot) (old : Option (List ℕ)) (reply : Reply) (earlier : History) →
    Premises (tree ∷ []) old earlier → HasCause job tree old reply → reply ≡ Refused TooLarge →
    IsTooLarge earlier job (modelled_snapshot tree)
large_cause job tree old Done earlier p cause e = cc
large_cause job tree old (Refused fault) earlier p cause e =
    let moved : HasCause job tree old (Refused TooLarge) = subst (λ f. HasCause job tree old (Refused f)) (same_fault fault e) cause in
    let both = late_of (early_fault job old) (IsLateFault (job_kind job) job tree old TooLarge)
    (λ early. never_large earlier job (causes earlier p.is_history job old p.is_index p.short TooLarge early))
    moved in
    large_late job tree old earlier p both.0 both.1

done_fits : (job : IndexJob) (tree : Option Snapshot) (old new : Option (List ℕ)) (reply : Reply) (earlier : History) →
    Premises (tree ∷ []) old earlier → HasCause job tree old reply →
    (reply ≡ Done → Walks job → IsNext job tree (base job old) new) → reply ≡ Done →
    IsTooLarge earlier job (modelled_snapshot tree) → ⊥
done_fits job tree old new (Refused fault) earlier p cause next e large = cc
done_fits job tree old new Done earlier p cause next e large =
    let w = large.walks in
    let done = next refl w in
    let modelled = p.trees_modelled.0 in
    fits_is job (modelled_snapshot tree) (base job old) new (cond job.reset nothing earlier)
    (on_base job tree old earlier (early_accepted job old w cause) p)
    (modelled_next job tree (base job old) new done modelled)
    (modelled_short job tree (base job old) done.own done.own_is modelled) done.short
    (subst (λ h. IsLong (Some (Rattle.cs_history.specs.Replies.own_index earlier job (modelled_snapshot tree))) ⊎ IsLong
    (index_of h)) (walks_on job (modelled_snapshot tree) earlier w) large.long)

-- ---- the reply of a job

pub right_after : (job : IndexJob) (tree : Option Snapshot) (old new : Option (List ℕ)) (reply : Reply) →
    HasCause job tree old reply → (reply ≡ Done → Walks job → IsNext job tree (base job old) new) →
    RightAfter tree old job reply
right_after job tree old new reply cause next earlier p =
    right_reply earlier job tree old reply p.trees_modelled.0 p.is_history p.is_index p.short cause
    (large_cause job tree old reply earlier p cause) (done_fits job tree old new reply earlier p cause next)
