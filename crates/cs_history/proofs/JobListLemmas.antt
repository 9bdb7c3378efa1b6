-- Lists of jobs: one more job, and one call after another.
use Rattle.std.proofs.Common.{◌≡◌, ℕ, List, [], ◌∷◌, ◌++◌, length, refl, sym, arith, Option, Some, None, map}
use Rattle.cs_history.proofs.Common.{IsTree, IsModelled, AllByRecursion, AllZip, Snapshot, Parts, History, nothing, existing, IsStartIndex, after, history_after, IndexJob, Reply}
use Rattle.cs_history.specs.Premises.{modelled_snapshot, Premises}
use Rattle.cs_history.specs.Headline.{Indexes}
use Rattle.cs_history.proofs.JobLemmas.{followed_history}

pub followed-push : (before : History) (jobs : List IndexJob) (trees : List Snapshot) (replies : List Reply)
    (job : IndexJob) (tree : Snapshot) (reply : Reply) → length trees ≡ length jobs → length replies ≡ length jobs →
    history_after before (jobs ++ job ∷ []) (trees ++ tree ∷ []) (replies ++ reply ∷ [])
    ≡ after (history_after before jobs trees replies) job tree reply
followed-push before [] [] [] job tree reply e f = refl
followed-push before [] [] (r ∷ rs) job tree reply e f = absurd (omega (arith, f))
followed-push before [] (t ∷ ts) rs job tree reply e f = absurd (omega (arith, e))
followed-push before (j ∷ js) [] rs job tree reply e f = absurd (omega (arith, e))
followed-push before (j ∷ js) (t ∷ ts) [] job tree reply e f = absurd (omega (arith, f))
followed-push before (j ∷ js) (t ∷ ts) (r ∷ rs) job tree reply e f =
    followed-push (after before j t r) js ts rs job tree reply (omega (arith, e)) (omega (arith, f))

-- ---- from the jobs so far to one more

modelled_trees : (trees : List (Option Snapshot)) → AllByRecursion IsModelled trees → AllByRecursion IsTree (map modelled_snapshot trees)
modelled_trees [] all = tt
modelled_trees (None ∷ trees) all = absurd all.0
modelled_trees (Some tree ∷ trees) all = (all.0, modelled_trees trees all.1)

pub zip_push : {A B : Type 0} (R : A → B → Type 0) (xs : List A) (ys : List B) (x : A) (y : B) → AllZip R xs ys →
    R x y → AllZip R (xs ++ x ∷ []) (ys ++ y ∷ [])
zip_push R [] [] x y all h = (h, tt)
zip_push R [] (b ∷ ys) x y all h = absurd all
zip_push R (a ∷ xs) [] x y all h = absurd all
zip_push R (a ∷ xs) (b ∷ ys) x y all h = (all.0, zip_push R xs ys x y all.1 h)

-- ---- one call after another

pub later_premises : (jobs : List IndexJob) (trees later : List (Option Snapshot)) (replies : List Reply)
    (old new : Option (List ℕ)) (earlier : History) → Premises trees old earlier → Indexes jobs trees replies old new →
    AllByRecursion IsModelled later → Premises later new
    (history_after earlier jobs (map modelled_snapshot trees) replies)
later_premises jobs trees later replies old new earlier p h models = record {
  trees_modelled = models;
  is_history = followed_history earlier jobs (map modelled_snapshot trees) replies p.is_history
      (modelled_trees trees p.trees_modelled) h.fitting;
  is_index = sym (h.index earlier p);
  short = h.short p.short;
}

pub first_premises : (trees : List (Option Snapshot)) → AllByRecursion IsModelled trees → Premises trees None nothing
first_premises trees models = record { trees_modelled = models; is_history = tt; is_index = refl; short = tt }

pub existing_premises : (trees : List (Option Snapshot)) (bytes : List ℕ) (parts : Parts) →
    AllByRecursion IsModelled trees → IsStartIndex bytes parts → Premises trees (Some bytes) (existing bytes parts)
existing_premises trees bytes parts models is =
    record { trees_modelled = models; is_history = is; is_index = refl; short = is.decoded.is_layout.short }
