-- The sorted result of a walk is the specified one.
use Rattle.std.proofs.Common.{◌≡◌, ℕ, ◌+◌, ◌≤◌, Bool, true, false, ◌&&◌, ◌||◌, cond, List, [], ◌∷◌, refl, sym, ap, subst, ◌∙◌, inl, inr, arith, Option, Some, None}
use Rattle.cs_tree.specs.NamesAscending.{are_ascending}
use Rattle.std.proofs.lemmas.Bool.{true≢false, cases_Bool, ltb-false, or_left, or_right}
use Rattle.std.specs.Prelude.{is_some, Contains, IsPermutation, bytes_eq, nat_lt}
use Rattle.std.specs.Cmp.Lexicographic.{bytes_decides}
use Rattle.std.specs.List.{AllByRecursion}
use Rattle.cs_tree.specs.Failures.{count_if, most_failures}
use Rattle.cs_tree.specs.PathSet as set
use Rattle.cs_tree.specs.Cover.{is_covered}
use Rattle.cs_tree.specs.Snapshot.{Snapshot, item_at}
use Rattle.cs_tree.specs.Reachability.{is_reachable}
use Rattle.cs_tree.specs.Walks.{FaultEntry, path_fault, is_short_file, is_among, fault_among, fault_paths, names_walked, faults_walked, Finds, FindsIn, CountsFault, CountsFaults, are_alone, failures_walked, is_failed_call, AreWithinPathLimit}
use Rattle.cs_tree.specs.WalkSteps.{KeepsTo, has_fault, AreFaultsIn, Gathers, GathersIn, AreFaultsDistinct, KeepsCount, AddsFewFaults, fault_count, KeepsPathLimit}
use Rattle.cs_tree.specs.declared.walking.Walked.{Walked}
use Rattle.cs_tree.specs.declared.walking.WalkFault.{WalkFault}
use Rattle.cs_tree.specs.declared.walking.WalkFault.TheVariants as fault
use Rattle.cs_tree.proofs.SortLemmas.{all_kept}
use Rattle.cs_tree.proofs.FaultCountLemmas.{alone_once, failures_moved}

-- ---- sorted

fault_right : (tree : Snapshot) (faults : List FaultEntry) (q : List ℕ) → AreFaultsIn tree faults → fault_among faults q
    ≡ cond (is_among (fault_paths faults) q) (path_fault q (item_at tree q)) None
fault_right tree [] q h = refl
fault_right tree (left ∷ faults) q h =
    elim (cases_Bool (bytes_eq left.0 q)) [
      | inl here ↦
          ap (λ b. cond b (Some left.1) (fault_among faults q)) here
          ∙ sym h.0
          ∙ ap (λ p. path_fault p (item_at tree p)) ((bytes_decides left.0 q).0 here)
          ∙ ap (λ b. cond (b || is_among (fault_paths faults) q) (path_fault q (item_at tree q)) None) (sym here)
      | inr apart ↦
          ap (λ b. cond b (Some left.1) (fault_among faults q)) apart
          ∙ fault_right tree faults q h.1
          ∙ ap (λ b. cond (b || is_among (fault_paths faults) q) (path_fault q (item_at tree q)) None) (sym apart)
    ]

-- the result, before and after sorting
pub record InOrder (gathered : Walked) (names : List (List ℕ)) (faults : List FaultEntry) : Type 0 where
  pub names_ascend : are_ascending names ≡ true
  pub names_same : (q : List ℕ) → is_among names q ≡ is_among (names_walked gathered) q
  pub faults_ascend : are_ascending (fault_paths faults) ≡ true
  pub faults_same : (q : List ℕ) → is_among (fault_paths faults) q ≡ is_among (fault_paths (faults_walked gathered)) q
  pub kept : (left : FaultEntry) → Contains faults left → Contains (faults_walked gathered) left

finds : (tree : Snapshot) (ps : List (List ℕ)) (old gathered : Walked) (names : List (List ℕ))
    (faults : List FaultEntry) → names_walked old ≡ [] → faults_walked old ≡ [] →
    Gathers tree (is_reachable tree (set.from_list ps)) old gathered → InOrder gathered names faults →
    Finds tree (set.from_list ps) names faults
finds tree ps old gathered names faults no_names no_faults h order = record {
  names_ascend = order.names_ascend;
  names_are = λ q. order.names_same q ∙ h.names q
      ∙ ap (λ xs. is_among xs q || (is_reachable tree (set.from_list ps) q && is_short_file tree q)) no_names;
  faults_ascend = order.faults_ascend;
  faults_are = λ q.
      fault_right tree faults q right
      ∙ ap (λ b. cond b (path_fault q (item_at tree q)) None) (order.faults_same q ∙ h.paths q
      ∙ ap (λ xs. is_among (fault_paths xs) q || (is_reachable tree (set.from_list ps) q && has_fault tree q))
      no_faults)
      ∙ left_at (is_reachable tree (set.from_list ps) q) (path_fault q (item_at tree q));
}
  where
    right : AreFaultsIn tree faults
    right = all_kept _ (faults_walked gathered) faults order.kept (h.right (subst (AreFaultsIn tree) (sym no_faults) tt))

    left_at : (b : Bool) (o : Option WalkFault) → cond (b && is_some o) o None ≡ cond b o None
    left_at true (Some f) = refl
    left_at true None = refl
    left_at false o = refl

pub finds_in : (model : Option Snapshot) (ps : List (List ℕ)) (old gathered : Walked) (names : List (List ℕ))
    (faults : List FaultEntry) → names_walked old ≡ [] → faults_walked old ≡ [] →
    GathersIn model (λ tree. is_reachable tree (set.from_list ps)) old gathered → InOrder gathered names faults →
    FindsIn model (set.from_list ps) names faults
finds_in None ps old gathered names faults no_names no_faults h order = tt
finds_in (Some tree) ps old gathered names faults no_names no_faults h order = λ good. finds tree ps old gathered names
    faults no_names no_faults (h good) order

-- ---- what was counted

next_rises : (b : Bool) (n : ℕ) → n ≤ count_if b n
next_rises true n = elim (nat_lt n most_failures) as (λ b. n ≤ cond b (n + 1) n) [ true ↦ omega arith | false ↦ omega arith ]
next_rises false n = omega arith

failures_rise : (faults : List FaultEntry) (n : ℕ) → n ≤ failures_walked faults n
failures_rise [] n = omega arith
failures_rise (left ∷ faults) n = omega (
  arith,
  next_rises (is_failed_call left.1) n,
  failures_rise faults (count_if (is_failed_call left.1) n),
)

fault_counted : (fault : WalkFault) (start now later : ℕ) → start ≤ now → count_if (is_failed_call fault) now ≤ later →
    CountsFault fault start later
fault_counted (fault.Tree f) start now later up after =
    elim (cases_Bool (nat_lt now most_failures)) [
      | inl less ↦ inl (omega (arith, up, subst (λ b. cond b (now + 1) now ≤ later) less after))
      | inr end ↦ inr (omega (arith, ltb-false now most_failures end, subst (λ b. cond b (now + 1) now ≤ later) end after))
    ]
fault_counted fault.Unnamed start now later up after = tt
fault_counted fault.TooLong start now later up after = tt

faults_counted : (faults : List FaultEntry) (start now later : ℕ) → start ≤ now → failures_walked faults now ≤ later →
    CountsFaults faults start later
faults_counted [] start now later up after = tt
faults_counted (left ∷ faults) start now later up after =
    let next = count_if (is_failed_call left.1) now in (
      fault_counted left.1 start now later up (omega (arith, failures_rise faults next, after)),
      faults_counted faults start next later (omega (arith, up, next_rises (is_failed_call left.1) now)) after,
    )

-- the count after the whole walk
counted_from : (count later : ℕ) (old gathered : Walked) → faults_walked old ≡ [] → KeepsCount count later old gathered
    → later ≡ failures_walked (faults_walked gathered) count
counted_from count later old gathered no_faults h = h count (ap (λ fs. failures_walked fs count) (sym no_faults))

pub counts_in_order : (count later : ℕ) (old gathered : Walked) (names : List (List ℕ)) (faults : List FaultEntry) →
    faults_walked old ≡ [] → KeepsCount count later old gathered → InOrder gathered names faults →
    CountsFaults faults count later
counts_in_order count later old gathered names faults no_faults h order =
    let after = counted_from count later old gathered no_faults h in
    all_kept _ (faults_walked gathered) faults order.kept
    (faults_counted (faults_walked gathered) count count later (omega arith) (omega (arith, after)))

pub no_failure_in_order : (count later : ℕ) (old gathered : Walked) (names : List (List ℕ)) (faults : List FaultEntry) →
    faults_walked old ≡ [] → KeepsCount count later old gathered → InOrder gathered names faults → faults ≡ [] → later
    ≡ count
no_failure_in_order count later old gathered names faults no_faults h order none =
    counted_from count later old gathered no_faults h
    ∙ ap (λ fs. failures_walked fs count) (by_faults (faults_walked gathered) (λ path. sym (order.faults_same path)
    ∙ ap (λ fs. is_among (fault_paths fs) path) none))
  where
    among_first : (name : List ℕ) (names : List (List ℕ)) → is_among (name ∷ names) name ≡ true
    among_first name names = ap (λ b. b || is_among names name) ((bytes_decides name name).1 refl)

    by_faults : (fs : List FaultEntry) → ((path : List ℕ) → is_among (fault_paths fs) path ≡ false) → fs ≡ []
    by_faults [] h = refl
    by_faults (left ∷ fs) h = absurd (true≢false (sym (among_first left.0 (fault_paths fs)) ∙ h left.0))

-- if no path covers another one, each failure has a fault
pub counted_in_order : (ps : List (List ℕ)) (count later : ℕ) (old gathered : Walked) (faults : List FaultEntry) →
    faults_walked old ≡ [] → KeepsCount count later old gathered → AddsFewFaults ps old gathered →
    (AreFaultsDistinct (faults_walked gathered) → IsPermutation (faults_walked gathered) faults) → are_alone ps ≡ true →
    later ≡ failures_walked faults count
counted_in_order ps count later old gathered faults no_faults h leaves whole alone =
    counted_from count later old gathered no_faults h
    ∙ sym (failures_moved (faults_walked gathered) faults count
    (whole (λ path. omega (arith, leaves path, ap (λ fs. fault_count fs path) no_faults, alone_once ps path alone))))

-- ---- below the paths

-- what holds for all names before sorting holds after it
all_alike : (P : List ℕ → Type 0) (names gathered : List (List ℕ)) → AllByRecursion P gathered →
    ((q : List ℕ) → is_among names q ≡ is_among gathered q) → AllByRecursion P names
all_alike P names gathered all alike = each names (λ name member. at name gathered all (sym (alike name) ∙ member))
  where
    at : (name : List ℕ) (xs : List (List ℕ)) → AllByRecursion P xs → is_among xs name ≡ true → P name
    at name [] all h = absurd (true≢false (sym h))
    at name (x ∷ xs) all h =
        elim (cases_Bool (bytes_eq x name)) [
          | inl here ↦ subst P ((bytes_decides x name).0 here) all.0
          | inr apart ↦ at name xs all.1 (sym (ap (λ b. b || is_among xs name) apart) ∙ h)
        ]

    each : (ns : List (List ℕ)) → ((name : List ℕ) → is_among ns name ≡ true → P name) → AllByRecursion P ns
    each [] g = tt
    each (n ∷ ns) g = (
      g n (or_left (bytes_eq n n) _ ((bytes_decides n n).1 refl)),
      each ns (λ m member. g m (or_right (bytes_eq n m) _ member)),
    )

pub names_under : (ps : List (List ℕ)) (old gathered : Walked) (names : List (List ℕ)) → names_walked old ≡ [] →
    KeepsTo (is_covered (set.from_list ps)) old gathered →
    ((q : List ℕ) → is_among names q ≡ is_among (names_walked gathered) q) →
    AllByRecursion (λ name. is_covered (set.from_list ps) name ≡ true) names
names_under ps old gathered names no_names keeps alike =
    all_alike _ names (names_walked gathered)
    (keeps (λ name. is_covered (set.from_list ps) name) (λ name is. is)
    (subst (AllByRecursion (λ name. is_covered (set.from_list ps) name ≡ true)) (sym no_names) tt)) alike

pub names_within_path_limit : (old gathered : Walked) (names : List (List ℕ)) → names_walked old ≡ [] →
    KeepsPathLimit old gathered → ((q : List ℕ) → is_among names q ≡ is_among (names_walked gathered) q) →
    AreWithinPathLimit names
names_within_path_limit old gathered names no_names keeps alike = all_alike _ names (names_walked gathered)
    (keeps (subst AreWithinPathLimit (sym no_names) tt)) alike
