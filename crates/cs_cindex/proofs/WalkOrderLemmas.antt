-- Sorted lists: a walk finds one list of names and one of faults.
use Rattle.cs_cindex.proofs.Common.{Paths, bytes_cmp, are_ascending, and_from, bytes_decides, nat_list_cmp_total, is_lt, eq_by_cmp, below_all, Snapshot, FaultEntry, Finds, is_among, fault_among, alike, tied_is, tied_same, entries_in_order, Diagnostic, AreLines, lines_for, tail_up}
use Rattle.std.proofs.Common.{◌≡◌, ℕ, Bool, true, false, cond, ◌||◌, List, [], ◌∷◌, map, refl, sym, ap, subst, ◌∙◌, Option, Some, None, bytes_eq}
use Rattle.std.specs.Cmp.{both_ways}
use Rattle.std.specs.FinMap as map'
use Rattle.std.specs.FinMap.{find}
use Rattle.cs_tree.specs.PathSet as set
use Rattle.cs_index.proofs.encoding.FileMapEncoding.{true_T}
use Rattle.cs_cindex.proofs.IndexedFileLemmas.{AreAfter, ascend_after}

pub same_tied : (p q : List ℕ) → eq_by_cmp bytes_cmp q p ≡ bytes_eq p q
same_tied p q = both_ways (eq_by_cmp bytes_cmp q p) (bytes_eq p q)
    (λ tied. (bytes_decides p q).1 (sym (tied_is q p tied)))
    (λ here. subst (λ x. eq_by_cmp bytes_cmp q x ≡ true) (sym ((bytes_decides p q).0 here)) (tied_same q))

module _ {X : Type 0} where
  abbrev pub keys_of : List (List ℕ × X) → List (List ℕ)
  keys_of entries = map (λ (e : List ℕ × X). e.0) entries

  after_below : (name : List ℕ) (entries : List (List ℕ × X)) → AreAfter name (keys_of entries) → below_all bytes_cmp name entries ≡ true
  after_below name [] h = refl
  after_below name (e ∷ entries) h = and_from (is_lt (bytes_cmp name e.0)) (below_all bytes_cmp name entries) h.0
      (after_below name entries h.1)

  pub ascend_sorted : (entries : List (List ℕ × X)) → are_ascending (keys_of entries) ≡ true → map'.is_sorted bytes_cmp entries ≡ true
  ascend_sorted [] h = refl
  ascend_sorted (e ∷ entries) h =
      and_from (below_all bytes_cmp e.0 entries) (map'.is_sorted bytes_cmp entries)
      (after_below e.0 entries (ascend_after e.0 (keys_of entries) h))
      (ascend_sorted entries (tail_up e.0 (keys_of entries) h))

  -- sorted entries with equal look-ups are equal
  one_list : (a b : List (List ℕ × X)) → are_ascending (keys_of a) ≡ true → are_ascending (keys_of b) ≡ true →
      ((q : List ℕ) → find bytes_cmp q a ≡ find bytes_cmp q b) → a ≡ b
  one_list a b up up' is =
      sym (entries_in_order a (true_T _ (ascend_sorted a up)))
      ∙ ap map'.entries (map'.same_map nat_list_cmp_total alike (map'.from_entries a) (map'.from_entries b)
      (λ q. map'.get-from_entries nat_list_cmp_total a q ∙ is q
      ∙ sym (map'.get-from_entries nat_list_cmp_total b q)))
      ∙ entries_in_order b (true_T _ (ascend_sorted b up'))

find_fault : (faults : List FaultEntry) (q : List ℕ) → find bytes_cmp q faults ≡ fault_among faults q
find_fault [] q = refl
find_fault (left ∷ faults) q =
    ap (λ b. cond b (Some left.1) (find bytes_cmp q faults)) (same_tied left.0 q)
    ∙ ap (λ o. cond (bytes_eq left.0 q) (Some left.1) o) (find_fault faults q)

find_mark : (names : List (List ℕ)) (q : List ℕ) → find bytes_cmp q (set.unit_entries names) ≡ cond (is_among names q) (Some tt) None
find_mark [] q = refl
find_mark (name ∷ names) q =
    ap (λ b. cond b (Some tt) (find bytes_cmp q (set.unit_entries names))) (same_tied name q)
    ∙ ap (λ o. cond (bytes_eq name q) (Some tt) o) (find_mark names q) ∙ either (bytes_eq name q) (is_among names q)
  where
    either : (a b : Bool) → ◌≡◌ {A = Option (Unit {0})} (cond a (Some tt) (cond b (Some tt) None)) (cond (a || b) (Some tt) None)
    either true b = refl
    either false b = refl

firsts : (names : List (List ℕ)) → keys_of (set.unit_entries names) ≡ names
firsts [] = refl
firsts (name ∷ names) = ap (λ rest. name ∷ rest) (firsts names)

one_names : (a b : List (List ℕ)) → are_ascending a ≡ true → are_ascending b ≡ true →
    ((name : List ℕ) → is_among a name ≡ is_among b name) → a ≡ b
one_names a b up up' is =
    sym (firsts a)
    ∙ ap keys_of (one_list (set.unit_entries a) (set.unit_entries b) (ap are_ascending (firsts a) ∙ up)
    (ap are_ascending (firsts b) ∙ up') (λ q. find_mark a q ∙ ap (λ t. cond t (Some tt) None) (is q)
    ∙ sym (find_mark b q)))
    ∙ firsts b

-- what a walk finds determines the diagnostics of a job
pub lines_once : (log_skip : Bool) (tree : Snapshot) (paths : Paths) (names : List (List ℕ)) (faults : List FaultEntry)
    (lines : List Diagnostic) → Finds tree paths names faults → AreLines log_skip tree paths lines → lines
    ≡ lines_for log_skip tree names faults
lines_once log_skip tree paths names faults lines finds are =
    let same_names = one_names are.names names are.finds.names_ascend finds.names_ascend
    (λ name. are.finds.names_are name ∙ sym (finds.names_are name)) in
    let same_faults = one_list are.faults faults are.finds.faults_ascend finds.faults_ascend
    (λ q. find_fault are.faults q ∙ are.finds.faults_are q ∙ sym (finds.faults_are q)
    ∙ sym (find_fault faults q)) in
    are.are ∙ ap (λ ns. lines_for log_skip tree ns are.faults) same_names ∙ ap (lines_for log_skip tree names) same_faults
