-- The loop of a walk with its stack of pending paths: its invariant, and its termination.
use Rattle.std.specs.Prelude.{bytes_eq}
use Rattle.std.proofs.Common.{◌≡◌, ℕ, ◌+◌, ◌-◌, ◌*◌, ◌^◌, ◌<◌, ◌≤◌, Bool, true, false, ◌||◌, List, [], ◌∷◌, ◌++◌, length, refl, sym, ap, subst, ◌∙◌, arith, Option, Some, None, pow_pos, pow_mono, pow-add}
use Rattle.std.proofs.Math.Nat.{mul-lt-mul_of_pos_right}
use Rattle.std.proofs.Math.Bool.{or-false}
use Rattle.std.proofs.lemmas.List.Folds.{list_any-append}
use Rattle.std.specs.List.{AllByRecursion}
use Rattle.cs_tree.specs.Cover.{covers}
use Rattle.cs_tree.specs.Folders.{IsTree}
use Rattle.cs_tree.specs.Snapshot.{Snapshot}
use Rattle.cs_tree.specs.Walks.{names_walked, faults_walked}
use Rattle.cs_tree.specs.WalkSteps.{descends_to, Gathers, GathersIn, KeepsTo, IsStatusIn, IsStatusOf, is_file_seen, fault_seen, names_seen, children, named_if, fault_if}
use Rattle.cs_tree.specs.declared.walking.Walked.{Walked}
use Rattle.cs_tree.specs.declared.walking.PathStatus.{PathStatus}
use Rattle.cs_tree.proofs.DescentLemmas.{descends_by, descends_unfolds}
use Rattle.cs_tree.proofs.CoverLemmas.{covers_trans}
use Rattle.cs_tree.proofs.GatherLemmas.{AreDeeper, gathers_same, gathers_trans, gathers_none, gathers_one}
use Rattle.cs_tree.proofs.UnderLemmas.{AreBelow, below_children, keeps_deeper, keeps_path}

-- ---- names and faults

-- Everything reachable from the start is found already, or is reachable from a pending path.
pub record Underway (tree : Snapshot) (start : List ℕ) (pending : List (List ℕ)) (old new : Walked) : Type 0 where
  pub seen : List ℕ → Bool
  pub gathered : Gathers tree seen old new
  pub rest : (q : List ℕ) → descends_to tree start q ≡ (seen q || descends_by tree pending q)

abbrev pub UnderwayIn : Option Snapshot → List ℕ → List (List ℕ) → Walked → Walked → Type 0
UnderwayIn None start pending old new = Unit {0}
UnderwayIn (Some tree) start pending old new = IsTree tree → Underway tree start pending old new

pub starts_in : (model : Option Snapshot) (start : List ℕ) (walked : Walked) → UnderwayIn model start (start ∷ []) walked walked
starts_in None start walked = tt
starts_in (Some tree) start walked = λ good. record {
  seen = λ q. false;
  gathered = gathers_none tree walked;
  rest = λ q. right_false (descends_to tree start q);
}
  where
    right_false : (b : Bool) → b ≡ (b || false)
    right_false true = refl
    right_false false = refl

-- one path is looked up, and its children become pending
goes_on : (tree : Snapshot) (start path : List ℕ) (status : PathStatus) (rest : List (List ℕ)) (old mid new : Walked) →
    IsTree tree → IsStatusOf tree path status → names_walked new ≡ names_walked mid ++ named_if (is_file_seen status)
    path → faults_walked new ≡ faults_walked mid ++ fault_if (fault_seen status) path →
    Underway tree start (rest ++ path ∷ []) old mid → Underway tree start (rest ++ children path (names_seen status))
    old new
goes_on tree start path status rest old mid new good shows names faults so_far = record {
  seen = λ q. so_far.seen q || bytes_eq path q;
  gathered = gathers_trans tree so_far.gathered (gathers_one tree path status mid new shows names faults);
  rest = λ q.
      so_far.rest q
      ∙ ap (λ b. so_far.seen q || b) (list_any-append (λ p. descends_to tree p q) rest (path ∷ []))
      ∙ ap (λ b. so_far.seen q || (descends_by tree rest q || (b || false))) (descends_unfolds tree path q good
      ∙ ap (λ names. bytes_eq path q || descends_by tree (children path names) q) (sym shows.names))
      ∙ turned (so_far.seen q) (descends_by tree rest q) (bytes_eq path q) (descends_by tree (children path (names_seen status)) q)
      ∙ ap (λ b. (so_far.seen q || bytes_eq path q) || b)
      (sym (list_any-append (λ p. descends_to tree p q) rest (children path (names_seen status))));
}
  where
    turned : (s r p c : Bool) → (s || (r || ((p || c) || false))) ≡ ((s || p) || (r || c))
    turned true r p c = refl
    turned false true true c = refl
    turned false true false c = refl
    turned false false true c = refl
    turned false false false true = refl
    turned false false false false = refl

pub goes_on_in : (model later : Option Snapshot) (start path : List ℕ) (status : PathStatus)
    (rest pending : List (List ℕ)) (old mid new : Walked) → later ≡ model → IsStatusIn later path status →
    names_walked new ≡ names_walked mid ++ named_if (is_file_seen status) path → faults_walked new ≡ faults_walked mid
    ++ fault_if (fault_seen status) path → pending ≡ rest ++ children path (names_seen status) →
    UnderwayIn model start (rest ++ path ∷ []) old mid → UnderwayIn model start pending old new
goes_on_in model later start path status rest pending old mid new e shows names faults waits so_far =
    subst (λ paths. UnderwayIn model start paths old new) (sym waits)
    (by_model model (subst (λ o. IsStatusIn o path status) e shows) so_far)
  where
    by_model : (o : Option Snapshot) → IsStatusIn o path status → UnderwayIn o start (rest ++ path ∷ []) old mid →
        UnderwayIn o start (rest ++ children path (names_seen status)) old new
    by_model None shows so_far = tt
    by_model (Some tree) shows so_far = λ good. goes_on tree start path status rest old mid new good shows names faults (so_far good)

pub ends_in : (model : Option Snapshot) (start : List ℕ) (old new : Walked) → UnderwayIn model start [] old new →
    GathersIn model (λ tree. descends_to tree start) old new
ends_in None start old new h = tt
ends_in (Some tree) start old new h = λ good. let all = h good in
    gathers_same tree (λ q. sym (all.rest q ∙ or-false (all.seen q))) all.gathered

-- ---- below the start

module _ (P : List ℕ → Type 0) where
  all_split : (xs ys : List (List ℕ)) → AllByRecursion P (xs ++ ys) → AllByRecursion P xs × AllByRecursion P ys
  all_split [] ys all = (tt, all)
  all_split (x ∷ xs) ys all = let rest = all_split xs ys all.1 in ((all.0, rest.0), rest.1)

  all_joined : (xs ys : List (List ℕ)) → AllByRecursion P xs → AllByRecursion P ys → AllByRecursion P (xs ++ ys)
  all_joined [] ys h k = k
  all_joined (x ∷ xs) ys h k = (h.0, all_joined xs ys h.1 k)

below_trans : (start path : List ℕ) (paths : List (List ℕ)) → covers start path ≡ true → AreBelow path paths → AreBelow start paths
below_trans start path [] below all = tt
below_trans start path (p ∷ paths) below all = (covers_trans start path p below all.0, below_trans start path paths below all.1)

pub last_below : (start path : List ℕ) (rest : List (List ℕ)) → AreBelow start (rest ++ path ∷ []) → covers start path ≡ true
last_below start path rest all = (all_split (λ below. covers start below ≡ true) rest (path ∷ []) all).1.0

pub pending_below : (start path : List ℕ) (names rest : List (List ℕ)) → AreBelow start (rest ++ path ∷ []) →
    AreBelow start (rest ++ children path names)
pending_below start path names rest all =
    all_joined (λ below. covers start below ≡ true) rest (children path names)
    (all_split (λ below. covers start below ≡ true) rest (path ∷ []) all).0
    (below_trans start path (children path names) (last_below start path rest all) (below_children path names))

pub keeps_on : (start path : List ℕ) (named : Bool) (old mid new : Walked) → covers start path ≡ true → names_walked new
    ≡ names_walked mid ++ named_if named path → KeepsTo (covers start) old mid → KeepsTo (covers start) old new
keeps_on start path named old mid new below names keeps = keeps_deeper start path old mid new below keeps
    (keeps_path path named mid new new names (λ test h all. all))

-- ---- termination

-- A path weighs more than all its children: there are fewer than 2^64 of them, and each is longer.
abbrev pub path_weight : List ℕ → ℕ
path_weight path = 2 ^ (64 * (4096 - length path))

abbrev pub weight : List (List ℕ) → ℕ
weight [] = 0
weight (path ∷ paths) = path_weight path + weight paths

weight-append : (xs ys : List (List ℕ)) → weight (xs ++ ys) ≡ weight xs + weight ys
weight-append [] ys = omega arith
weight-append (x ∷ xs) ys = omega (arith, weight-append xs ys)

-- the weight of a path that is one byte longer
deeper_weight : (path : List ℕ) (paths : List (List ℕ)) → AreDeeper path paths →
    weight paths ≤ length paths * 2 ^ (64 * (4095 - length path))
deeper_weight path [] deeper = omega arith
deeper_weight path (p ∷ paths) deeper =
    let room : 64 * (4096 - length p) ≤ 64 * (4095 - length path) = omega (arith, deeper.0.1) in
    omega (arith, pow_mono room, deeper_weight path paths deeper.1)

pub lighter : (path : List ℕ) (paths rest : List (List ℕ)) → AreDeeper path paths → length paths < 2 ^ 64 →
    weight (rest ++ paths) < weight (rest ++ path ∷ [])
lighter path paths rest deeper bound = omega (arith, weight-append rest paths, weight-append rest (path ∷ []), less paths deeper bound)
  where
    less : (paths : List (List ℕ)) → AreDeeper path paths → length paths < 2 ^ 64 → weight paths < path_weight path
    less [] deeper bound = pow_pos (64 * (4096 - length path))
    less (p ∷ paths) deeper bound =
        let wide : 2 ^ (64 * (4096 - length path)) ≡ 2 ^ 64 * 2 ^ (64 * (4095 - length path)) =
        ap (λ n. 2 ^ n) (omega (arith, deeper.0.0)) ∙ pow-add 2 64 (64 * (4095 - length path)) in
        let each = mul-lt-mul_of_pos_right bound (pow_pos (64 * (4095 - length path))) in
        omega (arith, wide, each, deeper_weight path (p ∷ paths) deeper)
