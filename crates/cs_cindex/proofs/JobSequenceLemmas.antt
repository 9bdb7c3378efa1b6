-- Jobs, one after another.
use Rattle.std.proofs.Common.{◌≡◌, ℕ, zero, suc, ◌+◌, ◌<◌, List, [], ◌∷◌, ◌++◌, length, map, take, set, get_or, refl, sym, ap, subst, ◌∙◌, arith, Option}
use Rattle.cs_cindex.proofs.Common.{IsModelled, take_more, take_more_set, length-take-le, get_or-map, length-map, map-append, AllByRecursion, AllZip, zip, Snapshot, IndexJob, Reply, History, index_of, history_after, IsFitting, modelled_snapshot, Premises, Indexes, RightAfter, JobTree, job_tree, RightAll, State, job_trees, IsWholeStep, Steps}
use Rattle.cs_history.proofs.JobListLemmas.{followed-push, later_premises, zip_push as fitting_push}
use Rattle.cs_history.proofs.ReplyLemmas.{right_more}
use Rattle.std.proofs.lemmas.Slice.Zip.{length-zip}

all_prefix : {A : Type 0} (P : A → Type 0) (xs ys : List A) → AllByRecursion P (xs ++ ys) → AllByRecursion P xs
all_prefix P [] ys all = tt
all_prefix P (x ∷ xs) ys all = (all.0, all_prefix P xs ys all.1)

all_suffix : {A : Type 0} (P : A → Type 0) (xs ys : List A) → AllByRecursion P (xs ++ ys) → AllByRecursion P ys
all_suffix P [] ys all = all
all_suffix P (x ∷ xs) ys all = all_suffix P xs ys all.1

module _ (jobs : List IndexJob) (trees : List (Option Snapshot)) (replies : List Reply) (job : IndexJob)
    (tree : Option Snapshot) (reply : Reply) (old mid : Option (List ℕ)) where
  -- the premises of the jobs, and of one more
  prefix_premises : (earlier : History) → Premises (trees ++ tree ∷ []) old earlier → Premises trees old earlier
  prefix_premises earlier p = record {
    trees_modelled = all_prefix IsModelled trees (tree ∷ []) p.trees_modelled;
    is_history = p.is_history;
    is_index = p.is_index;
    short = p.short;
  }

  last_premises : (earlier : History) → Premises (trees ++ tree ∷ []) old earlier → Indexes jobs trees replies old mid →
      Premises (tree ∷ []) mid (history_after earlier jobs (map modelled_snapshot trees) replies)
  last_premises earlier p so_far = later_premises jobs trees (tree ∷ []) replies old mid earlier
      (prefix_premises earlier p) so_far (all_suffix IsModelled trees (tree ∷ []) p.trees_modelled)

  models_length : length trees ≡ length jobs → length (map modelled_snapshot trees) ≡ length jobs
  models_length e = length-map trees modelled_snapshot ∙ e

  pub indexes_push : (new : Option (List ℕ)) → length trees ≡ length jobs → length replies ≡ length jobs →
      Indexes jobs trees replies old mid → Indexes (job ∷ []) (tree ∷ []) (reply ∷ []) mid new →
      Indexes (jobs ++ job ∷ []) (trees ++ tree ∷ []) (replies ++ reply ∷ []) old new
  indexes_push new e f so_far here = record {
    index = λ earlier p.
        here.index (history_after earlier jobs (map modelled_snapshot trees) replies) (last_premises earlier p so_far)
        ∙ ap index_of (sym (ap (λ ts. history_after earlier (jobs ++ job ∷ []) ts (replies ++ reply ∷ []))
        (map-append modelled_snapshot trees (tree ∷ []))
        ∙ followed-push earlier jobs (map modelled_snapshot trees) replies job (modelled_snapshot tree) reply (models_length e) f));
    fitting = fitting_push IsFitting jobs replies job reply so_far.fitting here.fitting.0;
    short = λ h. here.short (so_far.short h);
  }

  pub right_push : length trees ≡ length jobs → length replies ≡ length jobs → Indexes jobs trees replies old mid →
      RightAll trees old jobs replies → RightAfter tree mid job reply →
      RightAll (trees ++ tree ∷ []) old (jobs ++ job ∷ []) (replies ++ reply ∷ [])
  right_push e f so_far right here earlier p =
      subst (λ ts. Rattle.cs_history.specs.Replies.AreRightReplies earlier (jobs ++ job ∷ []) ts
      (replies ++ reply ∷ [])) (sym (map-append modelled_snapshot trees (tree ∷ [])))
      (right_more earlier jobs (map modelled_snapshot trees) replies job (modelled_snapshot tree) reply
      (models_length e) f (right earlier (prefix_premises earlier p))
      (here (history_after earlier jobs (map modelled_snapshot trees) replies) (last_premises earlier p so_far)))

-- ---- the step of a loop over the jobs: the job at i over the tree at i

-- the lists up to `i`, and one more
module _ {T : Type 0} (snapshot : T → Option Snapshot) (jobs : List IndexJob) (trees : List T) (replies : List Reply)
    (i : ℕ) (job : IndexJob) (tree : T) (reply : Reply) where
  -- what holds of the lists up to `i` with one more holds of those up to `i + 1`
  one_more : (P : List IndexJob → List (Option Snapshot) → List Reply → Type 0) → length trees ≡ length jobs →
      length replies ≡ length jobs → i < length jobs → job ≡ get_or jobs i job → tree ≡ get_or trees i tree →
      P (take i jobs ++ job ∷ []) (take i (map snapshot trees) ++ snapshot tree ∷ []) (take i replies ++ reply ∷ []) →
      P (take (i + 1) jobs) (take (i + 1) (map snapshot trees)) (take (i + 1) (set replies i reply))
  one_more P e f within is_job is_tree h =
      let l = length-map trees snapshot in
      let js : take (i + 1) jobs ≡ take i jobs ++ job ∷ [] = take_more jobs i job within ∙ ap (λ j. take i jobs ++ j ∷ []) (sym is_job) in
      let here : get_or (map snapshot trees) i (snapshot tree) ≡ snapshot tree =
      get_or-map snapshot trees i tree (snapshot tree) (omega (arith, e, within)) ∙ ap snapshot (sym is_tree) in
      let ts : take (i + 1) (map snapshot trees) ≡ take i (map snapshot trees) ++ snapshot tree ∷ [] =
      take_more (map snapshot trees) i (snapshot tree) (omega (arith, l, e, within))
      ∙ ap (λ t. take i (map snapshot trees) ++ t ∷ []) here in
      let rs : take (i + 1) (set replies i reply) ≡ take i replies ++ reply ∷ [] =
      take_more_set replies i reply (omega (arith, f, within)) in
      subst (λ xs. P xs (take (i + 1) (map snapshot trees)) (take (i + 1) (set replies i reply))) (sym js)
      (subst (λ xs. P (take i jobs ++ job ∷ []) xs (take (i + 1) (set replies i reply))) (sym ts)
      (subst (λ xs. P (take i jobs ++ job ∷ []) (take i (map snapshot trees) ++ snapshot tree ∷ []) xs) (sym rs) h))

  trees_length : length trees ≡ length jobs → i < length jobs → length (take i (map snapshot trees)) ≡ length (take i jobs)
  trees_length e within =
      let l = length-map trees snapshot in
      length-take-le i (map snapshot trees) (omega (arith, l, e, within)) ∙ sym (length-take-le i jobs (omega (arith, within)))

  replies_length : length replies ≡ length jobs → i < length jobs → length (take i replies) ≡ length (take i jobs)
  replies_length f within = length-take-le i replies (omega (arith, f, within)) ∙ sym (length-take-le i jobs (omega (arith, within)))

  pub indexes_more : (old mid new : Option (List ℕ)) → length trees ≡ length jobs → length replies ≡ length jobs →
      i < length jobs → job ≡ get_or jobs i job → tree ≡ get_or trees i tree →
      Indexes (take i jobs) (take i (map snapshot trees)) (take i replies) old mid →
      Indexes (job ∷ []) (snapshot tree ∷ []) (reply ∷ []) mid new →
      Indexes (take (i + 1) jobs) (take (i + 1) (map snapshot trees)) (take (i + 1) (set replies i reply)) old new
  indexes_more old mid new e f within is_job is_tree so_far here =
      one_more (λ js ts rs. Indexes js ts rs old new) e f within is_job is_tree
      (indexes_push (take i jobs) (take i (map snapshot trees)) (take i replies) job (snapshot tree) reply old mid new
      (trees_length e within) (replies_length f within) so_far here)

  pub right_all_more : (old mid : Option (List ℕ)) → length trees ≡ length jobs → length replies ≡ length jobs →
      i < length jobs → job ≡ get_or jobs i job → tree ≡ get_or trees i tree →
      Indexes (take i jobs) (take i (map snapshot trees)) (take i replies) old mid →
      RightAll (take i (map snapshot trees)) old (take i jobs) (take i replies) → RightAfter (snapshot tree) mid job
      reply → RightAll (take (i + 1) (map snapshot trees)) old (take (i + 1) jobs) (take (i + 1) (set replies i reply))
  right_all_more old mid e f within is_job is_tree so_far right here =
      one_more (λ js ts rs. RightAll ts old js rs) e f within is_job is_tree
      (right_push (take i jobs) (take i (map snapshot trees)) (take i replies) job (snapshot tree) reply old mid
      (trees_length e within) (replies_length f within) so_far right here)

pub indexes_none : (index : Option (List ℕ)) → Indexes [] [] [] index index
indexes_none index = record { index = λ earlier p. sym p.is_index; fitting = tt; short = λ h. h }

-- ---- one step after another

steps_push : (one : IndexJob × (JobTree × Reply)) (before : List (IndexJob × (JobTree × Reply))) (old mid new : State) →
    Steps before old mid → IsWholeStep one.0 one.1.0 one.1.1 mid new → Steps (before ++ one ∷ []) old new
steps_push one [] old mid new h step = (new, subst (λ (m : State). IsWholeStep one.0 one.1.0 one.1.1 m new) h step, refl)
steps_push one (first ∷ before) old mid new h step = (h.0, h.1, steps_push one before h.0 mid new h.2 step)

zip_push : {A B : Type 0} (xs : List A) (ys : List B) (x : A) (y : B) → length ys ≡ length xs →
    zip (xs ++ x ∷ []) (ys ++ y ∷ []) ≡ zip xs ys ++ (x, y) ∷ []
zip_push [] [] x y e = refl
zip_push [] (y' ∷ ys) x y e = absurd (omega (arith, e))
zip_push (x' ∷ xs) [] x y e = absurd (omega (arith, e))
zip_push (x' ∷ xs) (y' ∷ ys) x y e = ap (λ rest. (x', y') ∷ rest) (zip_push xs ys x y (omega (arith, e)))

module _ {T : Type 0} (snapshot : T → Option Snapshot) (failed : T → ℕ) where
  trees_push : (trees later : List T) (tree then : T) → length later ≡ length trees →
      job_trees snapshot failed (trees ++ tree ∷ []) (later ++ then ∷ []) ≡ job_trees snapshot failed trees later
      ++ job_tree snapshot failed tree then ∷ []
  trees_push trees later tree then e =
      ap (map (λ both. job_tree snapshot failed both.0 both.1)) (zip_push trees later tree then e)
      ∙ map-append (λ both. job_tree snapshot failed both.0 both.1) (zip trees later) ((tree, then) ∷ [])

  trees_long : (trees later : List T) → length later ≡ length trees → length (job_trees snapshot failed trees later) ≡ length trees
  trees_long [] [] e = refl
  trees_long [] (u ∷ us) e = absurd (omega (arith, e))
  trees_long (t ∷ ts) [] e = absurd (omega (arith, e))
  trees_long (t ∷ ts) (u ∷ us) e = omega (arith, trees_long ts us (omega (arith, e)))

  pub steps_more : (jobs : List IndexJob) (trees later : List T) (replies : List Reply) (i : ℕ) (job : IndexJob)
      (tree then : T) (reply : Reply) (old mid new : State) → length trees ≡ length jobs → length later ≡ length jobs →
      length replies ≡ length jobs → i < length jobs → job ≡ get_or jobs i job → tree ≡ get_or trees i tree →
      Steps (zip (take i jobs) (zip (job_trees snapshot failed (take i trees) (take i later)) (take i replies))) old mid
      → IsWholeStep job (job_tree snapshot failed tree then) reply mid new →
      Steps (zip (take (i + 1) jobs) (zip (job_trees snapshot failed (take (i + 1) trees)
      (take (i + 1) (set later i then))) (take (i + 1) (set replies i reply)))) old new
  steps_more jobs trees later replies i job tree then reply old mid new e g f within is_job is_tree so_far step =
      let one : JobTree = job_tree snapshot failed tree then in
      let js : take (i + 1) jobs ≡ take i jobs ++ job ∷ [] = take_more jobs i job within ∙ ap (λ j. take i jobs ++ j ∷ []) (sym is_job) in
      let ts : take (i + 1) trees ≡ take i trees ++ tree ∷ [] = take_more trees i tree (omega (arith, e, within))
      ∙ ap (λ t. take i trees ++ t ∷ []) (sym is_tree) in
      let us : take (i + 1) (set later i then) ≡ take i later ++ then ∷ [] = take_more_set later i then (omega (arith, g, within)) in
      let rs : take (i + 1) (set replies i reply) ≡ take i replies ++ reply ∷ [] =
      take_more_set replies i reply (omega (arith, f, within)) in
      let jobs_long : length (take i jobs) ≡ i = length-take-le i jobs (omega (arith, within)) in
      let trees_long' : length (take i trees) ≡ i = length-take-le i trees (omega (arith, e, within)) in
      let later_long : length (take i later) ≡ i = length-take-le i later (omega (arith, g, within)) in
      let replies_long : length (take i replies) ≡ i = length-take-le i replies (omega (arith, f, within)) in
      let old_trees : List JobTree = job_trees snapshot failed (take i trees) (take i later) in
      let old_long : length old_trees ≡ i = trees_long (take i trees) (take i later) (later_long ∙ sym trees_long') ∙ trees_long' in
      let ss : job_trees snapshot failed (take (i + 1) trees) (take (i + 1) (set later i then)) ≡ old_trees ++ one ∷ [] =
      ap (λ xs. job_trees snapshot failed xs (take (i + 1) (set later i then))) ts
      ∙ ap (λ xs. job_trees snapshot failed (take i trees ++ tree ∷ []) xs) us
      ∙ trees_push (take i trees) (take i later) tree then (later_long ∙ sym trees_long') in
      let both : zip (job_trees snapshot failed (take (i + 1) trees) (take (i + 1) (set later i then)))
      (take (i + 1) (set replies i reply)) ≡ zip old_trees (take i replies) ++ (one, reply) ∷ [] =
      ap (λ xs. zip xs (take (i + 1) (set replies i reply))) ss
      ∙ ap (zip (old_trees ++ one ∷ [])) rs
      ∙ zip_push old_trees (take i replies) one reply (replies_long ∙ sym old_long) in
      let both_long : length (zip old_trees (take i replies)) ≡ i = zip_long old_trees (take i replies)
      (replies_long ∙ sym old_long) ∙ old_long in
      let all : zip (take (i + 1) jobs) (zip (job_trees snapshot failed (take (i + 1) trees)
      (take (i + 1) (set later i then))) (take (i + 1) (set replies i reply)))
      ≡ zip (take i jobs) (zip old_trees (take i replies)) ++ (job, (one, reply)) ∷ [] =
      ap (λ xs. zip xs (zip (job_trees snapshot failed (take (i + 1) trees) (take (i + 1) (set later i then)))
      (take (i + 1) (set replies i reply)))) js
      ∙ ap (zip (take i jobs ++ job ∷ [])) both
      ∙ zip_push (take i jobs) (zip old_trees (take i replies)) job (one, reply) (both_long ∙ sym jobs_long) in
      subst (λ xs. Steps xs old new) (sym all)
      (steps_push (job, (one, reply)) (zip (take i jobs) (zip old_trees (take i replies))) old mid new so_far step)
    where
      zip_long : {A B : Type 0} (xs : List A) (ys : List B) → length ys ≡ length xs → length (zip xs ys) ≡ length xs
      zip_long xs ys e = omega (arith, length-zip xs ys, e)

-- ---- bounds on what is asked of each tree

module _ {T A : Type 0} (view : T → A) (Within : A → A → Type 0) where
  -- without a call
  pub all_none : ((a : A) → Within a a) → (trees : List T) → AllZip Within (map view trees) (map view trees)
  all_none none [] = tt
  all_none none (tree ∷ trees) = (none (view tree), all_none none trees)

  -- after one more call, of the tree at `i`
  pub all_more : ((a b c : A) → Within a b → Within b c → Within a c) → (before trees : List T) (i : ℕ) (tree then : T) →
      i < length trees → AllZip Within (map view before) (map view trees) →
      Within (view (get_or trees i tree)) (view then) → AllZip Within (map view before) (map view (set trees i then))
  all_more on before [] i tree then low all step = absurd (omega (arith, low))
  all_more on [] (t ∷ trees) i tree then low all step = absurd all
  all_more on (b ∷ before) (t ∷ trees) zero tree then low all step = (on (view b) (view t) (view then) all.0 step, all.1)
  all_more on (b ∷ before) (t ∷ trees) (suc i) tree then low all step =
      (all.0, all_more on before trees i tree then (omega (arith, low)) all.1 step)
