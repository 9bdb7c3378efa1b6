-- What a walk finds from path to path.
use Rattle.std.proofs.Common.{◌≡◌, ℕ, ◌<◌, ◌≤◌, Bool, true, false, not, ◌&&◌, ◌||◌, cond, List, [], ◌∷◌, ◌++◌, length, map, refl, sym, ap, subst, ◌∙◌, arith, Option, Some, None}
use Rattle.cs_tree.specs.Failures.{count_if}
use Rattle.cs_tree.specs.Folders.{child, last_element}
use Rattle.std.proofs.lemmas.Bool.{true≢false}
use Rattle.std.proofs.lemmas.List.{map-append}
use Rattle.std.proofs.lemmas.List.Folds.{list_any-append}
use Rattle.std.specs.Prelude.{string_bytes, is_some, filter, bytes_eq}
use Rattle.std.specs.Cmp.Lexicographic.{bytes_decides}
use Rattle.std.specs.List.{list_any, AllByRecursion}
use Rattle.cs_tree.specs.Cover.{covers}
use Rattle.cs_tree.specs.Clean.{longest_path}
use Rattle.cs_tree.specs.Snapshot.{Snapshot, item_at}
use Rattle.cs_tree.specs.Reachability.{is_excluded, reaches, descends, elements_under}
use Rattle.cs_tree.specs.Walks.{FaultEntry, path_fault, is_short_file, is_among, fault_paths, names_walked, faults_walked, failures_walked, is_failed_call, AreWithinPathLimit}
use Rattle.cs_tree.specs.WalkSteps.{descends_to, has_fault, Gains, AreFaultsIn, Gathers, GathersIn, KeepsCount, is_file_seen, fault_seen, names_seen, IsStatusOf, IsEntered, CountsStatus, children, is_walked, named_if, fault_if}
use Rattle.cs_tree.specs.declared.walking.Walked.{Walked}
use Rattle.cs_tree.specs.declared.walking.WalkFault.{WalkFault}
use Rattle.cs_tree.specs.declared.walking.WalkFault.TheVariants as fault
use Rattle.cs_tree.specs.declared.walking.PathStatus.{PathStatus}
use Rattle.cs_tree.specs.declared.walking.PathStatus.TheVariants as status
use Rattle.cs_tree.proofs.DescentLemmas.{child_longer}

-- ---- names

among-append : (xs ys : List (List ℕ)) (name : List ℕ) → is_among (xs ++ ys) name ≡ (is_among xs name || is_among ys name)
among-append xs ys name = list_any-append (λ one. bytes_eq one name) xs ys

gains_trans : (old mid new : List (List ℕ)) (a b keep : List ℕ → Bool) → Gains old mid (λ q. a q && keep q) →
    Gains mid new (λ q. b q && keep q) → Gains old new (λ q. (a q || b q) && keep q)
gains_trans old mid new a b keep first second = λ q. second q ∙ ap (λ x. x || (b q && keep q)) (first q)
    ∙ both (is_among old q) (a q) (b q) (keep q)
  where
    both : (x y z k : Bool) → ((x || (y && k)) || (z && k)) ≡ (x || ((y || z) && k))
    both true y z k = refl
    both false true true true = refl
    both false true true false = refl
    both false true false true = refl
    both false true false false = refl
    both false false z k = refl

gains_none : (names : List (List ℕ)) (keep : List ℕ → Bool) → Gains names names (λ q. false && keep q)
gains_none names keep = λ q. right_false (is_among names q)
  where
    right_false : (b : Bool) → b ≡ (b || false)
    right_false true = refl
    right_false false = refl

gains_same : (old new : List (List ℕ)) (a b keep : List ℕ → Bool) → ((q : List ℕ) → a q ≡ b q) →
    Gains old new (λ q. a q && keep q) → Gains old new (λ q. b q && keep q)
gains_same old new a b keep is h = λ q. h q ∙ ap (λ x. is_among old q || (x && keep q)) (is q)

-- one more path, if the test keeps it
gains_one : (old new : List (List ℕ)) (b : Bool) (path : List ℕ) (keep : List ℕ → Bool) → b ≡ keep path →
    new ≡ old ++ named_if b path → Gains old new (λ q. bytes_eq path q && keep q)
gains_one old new b path keep kept e = λ q.
    ap (λ xs. is_among xs q) e ∙ among-append old (named_if b path) q ∙ ap (λ x. is_among old q || x) (by_kept b kept q)
  where
    right_false : (x : Bool) → (x || false) ≡ (x && true)
    right_false true = refl
    right_false false = refl

    by_tied : (x : Bool) (q : List ℕ) → bytes_eq path q ≡ x → (b' : Bool) → b' ≡ keep path → is_among (named_if b' path) q ≡ (x && keep q)
    by_tied true q tied true kept = ap (λ x. x || false) tied ∙ kept ∙ ap keep ((bytes_decides path q).0 tied)
    by_tied true q tied false kept = kept ∙ ap keep ((bytes_decides path q).0 tied)
    by_tied false q tied true kept = ap (λ x. x || false) tied
    by_tied false q tied false kept = refl

    by_kept : (b' : Bool) → b' ≡ keep path → (q : List ℕ) → is_among (named_if b' path) q ≡ (bytes_eq path q && keep q)
    by_kept b' kept q = by_tied (bytes_eq path q) q refl b' kept

-- ---- names and faults

pub gathers_trans : (tree : Snapshot) {a b : List ℕ → Bool} {old mid new : Walked} → Gathers tree a old mid →
    Gathers tree b mid new → Gathers tree (λ q. a q || b q) old new
gathers_trans tree {a} {b} {old} {mid} {new} first second = record {
  names = gains_trans (names_walked old) (names_walked mid) (names_walked new) a b (is_short_file tree) first.names second.names;
  paths = gains_trans (fault_paths (faults_walked old)) (fault_paths (faults_walked mid))
      (fault_paths (faults_walked new)) a b (has_fault tree) first.paths second.paths;
  right = λ h. second.right (first.right h);
}

pub gathers_same : (tree : Snapshot) {a b : List ℕ → Bool} {old new : Walked} → ((q : List ℕ) → a q ≡ b q) →
    Gathers tree a old new → Gathers tree b old new
gathers_same tree {a} {b} {old} {new} is h = record {
  names = gains_same (names_walked old) (names_walked new) a b (is_short_file tree) is h.names;
  paths = gains_same (fault_paths (faults_walked old)) (fault_paths (faults_walked new)) a b (has_fault tree) is h.paths;
  right = h.right;
}

pub gathers_none : (tree : Snapshot) (walked : Walked) → Gathers tree (λ q. false) walked walked
gathers_none tree walked = record {
  names = gains_none (names_walked walked) (is_short_file tree);
  paths = gains_none (fault_paths (faults_walked walked)) (has_fault tree);
  right = λ h. h;
}

paths_of_faults : (faults : List FaultEntry) (o : Option WalkFault) (path : List ℕ) →
    fault_paths (faults ++ fault_if o path) ≡ fault_paths faults ++ named_if (is_some o) path
paths_of_faults faults None path = map-append (λ (left : FaultEntry). left.0) faults []
paths_of_faults faults (Some fault) path = map-append (λ (left : FaultEntry). left.0) faults ((path, fault) ∷ [])

pub all-append : {X : Type 0} (P : X → Type 0) (xs ys : List X) → AllByRecursion P xs → AllByRecursion P ys → AllByRecursion P (xs ++ ys)
all-append P [] ys h k = k
all-append P (x ∷ xs) ys h k = (h.0, all-append P xs ys h.1 k)

right_left : (tree : Snapshot) (o : Option WalkFault) (path : List ℕ) → o ≡ path_fault path (item_at tree path) →
    AreFaultsIn tree (fault_if o path)
right_left tree None path e = tt
right_left tree (Some fault) path e = (sym e, tt)

pub gathers_one : (tree : Snapshot) (path : List ℕ) (seen : PathStatus) (old new : Walked) → IsStatusOf tree path seen →
    names_walked new ≡ names_walked old ++ named_if (is_file_seen seen) path → faults_walked new ≡ faults_walked old
    ++ fault_if (fault_seen seen) path → Gathers tree (λ q. bytes_eq path q) old new
gathers_one tree path seen old new shows names faults = record {
  names = gains_one (names_walked old) (names_walked new) (is_file_seen seen) path (is_short_file tree) shows.file names;
  paths = gains_one (fault_paths (faults_walked old)) (fault_paths (faults_walked new)) (is_some (fault_seen seen)) path
      (has_fault tree) (ap is_some shows.fault)
      (ap fault_paths faults ∙ paths_of_faults (faults_walked old) (fault_seen seen) path);
  right = λ h. subst (AreFaultsIn tree) (sym faults)
      (all-append _ (faults_walked old) (fault_if (fault_seen seen) path) h
      (right_left tree (fault_seen seen) path shows.fault));
}

-- ---- a named path

reaches_kept : (tree : Snapshot) (p q : List ℕ) → is_excluded (last_element p) ≡ false → descends_to tree p q ≡ reaches tree p q
reaches_kept tree p q kept = ap (λ b. covers p q && (not b && descends tree p (elements_under p q))) (sym kept)

reaches_skipped : (tree : Snapshot) (p q : List ℕ) → is_excluded (last_element p) ≡ true → false ≡ reaches tree p q
reaches_skipped tree p q skipped =
    elim (covers p q) as (λ c. false ≡ (c && false)) [ true ↦ refl | false ↦ refl ]
    ∙ ap (λ b. covers p q && (not b && descends tree p (elements_under p q))) (sym skipped)

-- ---- a modelled tree

abbrev ReachTest : Type 0
ReachTest = Snapshot → List ℕ → Bool

abbrev pub either : ReachTest → ReachTest → ReachTest
either a b tree q = a tree q || b tree q

abbrev pub none : ReachTest
none tree q = false

abbrev pub only : List ℕ → ReachTest
only path tree q = bytes_eq path q

pub trans_in : (model later : Option Snapshot) (a b : ReachTest) (old mid new : Walked) → later ≡ model →
    GathersIn model a old mid → GathersIn later b mid new → GathersIn model (either a b) old new
trans_in model later a b old mid new e first second = by_model model first (subst (λ o. GathersIn o b mid new) e second)
  where
    by_model : (o : Option Snapshot) → GathersIn o a old mid → GathersIn o b mid new → GathersIn o (either a b) old new
    by_model None first second = tt
    by_model (Some tree) first second = λ good. gathers_trans tree (first good) (second good)

pub same_in : (model : Option Snapshot) (a b : ReachTest) (old new : Walked) →
    ((tree : Snapshot) → (q : List ℕ) → a tree q ≡ b tree q) → GathersIn model a old new → GathersIn model b old new
same_in None a b old new is h = tt
same_in (Some tree) a b old new is h = λ good. gathers_same tree (is tree) (h good)

pub none_in : (model : Option Snapshot) (walked : Walked) → GathersIn model none walked walked
none_in None walked = tt
none_in (Some tree) walked = λ good. gathers_none tree walked

-- one more path
module _ (reach : Snapshot → List ℕ → List ℕ → Bool) where
  abbrev pub reach_by : List (List ℕ) → ReachTest
  reach_by paths tree name = list_any (λ path. reach tree path name) paths

  reach_more : (paths : List (List ℕ)) (path : List ℕ) (tree : Snapshot) (q : List ℕ) →
      either (reach_by paths) (λ model. reach model path) tree q ≡ reach_by (paths ++ path ∷ []) tree q
  reach_more paths path tree q = ap (λ b. reach_by paths tree q || b) (right_false (reach tree path q))
      ∙ sym (list_any-append (λ p. reach tree p q) paths (path ∷ []))
    where
      right_false : (b : Bool) → b ≡ (b || false)
      right_false true = refl
      right_false false = refl

  pub more_in : (model later : Option Snapshot) (paths : List (List ℕ)) (path : List ℕ) (old mid new : Walked) → later
      ≡ model → GathersIn model (reach_by paths) old mid → GathersIn later (λ tree. reach tree path) mid new →
      GathersIn model (reach_by (paths ++ path ∷ [])) old new
  more_in model later paths path old mid new e first second =
      same_in model (either (reach_by paths) (λ tree. reach tree path)) (reach_by (paths ++ path ∷ [])) old new (reach_more paths path)
      (trans_in model later (reach_by paths) (λ tree. reach tree path) old mid new e first second)

-- nothing is found from an excluded path
pub skipped_in : (model : Option Snapshot) (path : List ℕ) (walked : Walked) → is_excluded (last_element path) ≡ true →
    GathersIn model (λ tree. reaches tree path) walked walked
skipped_in model path walked skipped = same_in model none (λ tree. reaches tree path) walked walked
    (λ tree q. reaches_skipped tree path q skipped) (none_in model walked)

pub kept_in : (model : Option Snapshot) (path : List ℕ) (old new : Walked) → is_excluded (last_element path) ≡ false →
    GathersIn model (λ tree. descends_to tree path) old new → GathersIn model (λ tree. reaches tree path) old new
kept_in model path old new kept h = same_in model (λ tree. descends_to tree path) (λ tree. reaches tree path) old new
    (λ tree q. reaches_kept tree path q kept) h

-- ---- counts

failures-append : (xs ys : List FaultEntry) (n : ℕ) → failures_walked (xs ++ ys) n ≡ failures_walked ys (failures_walked xs n)
failures-append [] ys n = refl
failures-append (left ∷ xs) ys n = failures-append xs ys (count_if (is_failed_call left.1) n)

counts_seen : (seen : PathStatus) (path : List ℕ) (count later : ℕ) → CountsStatus seen count later → later
    ≡ failures_walked (fault_if (fault_seen seen) path) count
counts_seen status.File path count later h = h
counts_seen (status.Folder listing) path count later h =
    h ∙ elim listing.unnamed as (λ b. count ≡ failures_walked (fault_if (cond b (Some fault.Unnamed) None) path) count)
    [ true ↦ refl | false ↦ refl ]
counts_seen status.Other path count later h = h
counts_seen (status.Unreadable f) path count later h = h

pub counts_one : (count later : ℕ) (path : List ℕ) (seen : PathStatus) (old new : Walked) →
    CountsStatus seen count later → faults_walked new ≡ faults_walked old ++ fault_if (fault_seen seen) path →
    KeepsCount count later old new
counts_one count later path seen old new h faults = λ start so_far.
    counts_seen seen path count later h
    ∙ ap (failures_walked (fault_if (fault_seen seen) path)) so_far
    ∙ sym (failures-append (faults_walked old) (fault_if (fault_seen seen) path) start)
    ∙ ap (λ fs. failures_walked fs start) (sym faults)

-- ---- children

-- each of the paths is longer than one within the limit
abbrev pub AreDeeper : List ℕ → List (List ℕ) → Type 0
AreDeeper path paths = AllByRecursion (λ deeper. (length path ≤ longest_path) × (length path < length deeper)) paths

children_deeper : (path : List ℕ) (names : List (List ℕ)) → length path ≤ longest_path → AreDeeper path (children path names)
children_deeper path [] short = tt
children_deeper path (name ∷ names) short = by_walked (is_walked name) refl (children_deeper path names short)
  where
    some : (text : List ℕ) → is_walked text ≡ true → 0 < length text
    some [] h = absurd (true≢false (sym h))
    some (b ∷ text) h = omega arith

    by_walked : (b : Bool) → is_walked name ≡ b → AreDeeper path (children path names) →
        AreDeeper path (map (child path) (cond b (name ∷ filter is_walked names) (filter is_walked names)))
    by_walked true good rest = ((short, child_longer path name (some name good)), rest)
    by_walked false good rest = rest

-- the path of a found file is within the limit
pub path_limit_one : (path : List ℕ) (seen : PathStatus) (old new : Walked) → IsEntered path seen → names_walked new
    ≡ names_walked old ++ named_if (is_file_seen seen) path → AreWithinPathLimit (names_walked old) →
    AreWithinPathLimit (names_walked new)
path_limit_one path seen old new entered names all = subst AreWithinPathLimit (sym names)
    (all-append _ (names_walked old) (named_if (is_file_seen seen) path) all (here seen entered))
  where
    here : (seen : PathStatus) → IsEntered path seen → AreWithinPathLimit (named_if (is_file_seen seen) path)
    here status.File entered = (entered, tt)
    here (status.Folder listing) entered = tt
    here status.Other entered = tt
    here (status.Unreadable fault) entered = tt

pub entered_deeper : (path : List ℕ) (seen : PathStatus) → IsEntered path seen → AreDeeper path (children path (names_seen seen))
entered_deeper path status.File h = tt
entered_deeper path (status.Folder listing) h = children_deeper path (map string_bytes listing.names.items) h
entered_deeper path status.Other h = tt
entered_deeper path (status.Unreadable fault) h = tt
