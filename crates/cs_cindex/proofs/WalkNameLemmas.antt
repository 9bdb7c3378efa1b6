-- The names that a walk finds can be stored in an index.
use Rattle.std.proofs.Common.{◌≡◌, ℕ, Bool, true, false, cond, not, eqb, ltb, ◌&&◌, ◌||◌, List, [], ◌∷◌, ◌++◌, length, refl, sym, ap, subst, ◌∙◌, inl, inr, Some, arith, is_some, bytes_eq}
use Rattle.cs_tree.specs.Folders.{lists}
use Rattle.cs_cindex.proofs.Common.{stem_of, child, is_element, ListsElements, IsTree, bytes_cmp, true≢false, cases_Bool, and_parts, and_from, or_cases, or_parts, or_right, not-true, eqb-false, ne_eqb, lt-ltb, list_any, list_all, eq_by_cmp, bytes_decides, nat_list_cmp_total, Snapshot, Item, folder, item_at, is_reachable, Reaches, named, listed, FaultEntry, Finds, is_among, tied_is, is_storable, are_storable}
use Rattle.std.specs.Path.{slash}
use Rattle.std.specs.FinMap as map'
use Rattle.std.specs.FinMap.{find}
use Rattle.cs_tree.specs.PathSet as set
use Rattle.cs_tree.proofs.ReachabilityLemmas.{reachable_says}

-- no byte is NUL
abbrev is_free : List ℕ → Bool
is_free text = list_all (λ b. ltb 0 b) text

free_append : (a b : List ℕ) → is_free a ≡ true → is_free b ≡ true → is_free (a ++ b) ≡ true
free_append [] b h g = g
free_append (x ∷ a) b h g =
    let both = and_parts (ltb 0 x) (is_free a) h in
    and_from (ltb 0 x) (is_free (a ++ b)) both.0 (free_append a b both.1 g)

positive : (b : ℕ) → eqb b 0 ≡ false → ltb 0 b ≡ true
positive b h = let apart = eqb-false b 0 h in lt-ltb 0 b (omega (arith, apart))

free_name : (name : List ℕ) → list_any (λ b. eqb b 0) name ≡ false → is_free name ≡ true
free_name [] h = refl
free_name (b ∷ name) h =
    let parts = or_parts (eqb b 0) (list_any (λ c. eqb c 0) name) h in
    and_from (ltb 0 b) (is_free name) (positive b parts.0) (free_name name parts.1)

name_free : (name : List ℕ) → is_element name ≡ true → is_free name ≡ true
name_free name h =
    let parts = and_parts (not (bytes_eq name [])) (not (list_any (λ b. eqb b slash) name) && not (list_any (λ b. eqb b 0) name)) h in
    let more = and_parts (not (list_any (λ b. eqb b slash) name)) (not (list_any (λ b. eqb b 0) name)) parts.1 in
    free_name name (not-true _ more.1)

listed_free : (names : List (List ℕ)) (name : List ℕ) → list_all is_element names ≡ true →
    list_any (λ listed. bytes_eq listed name) names ≡ true → is_free name ≡ true
listed_free [] name h there = absurd (true≢false (sym there))
listed_free (x ∷ names) name h there =
    let parts = and_parts (is_element x) (list_all is_element names) h in
    elim (or_cases (bytes_eq x name) (list_any (λ listed. bytes_eq listed name) names) there) [
      | inl here ↦ subst (λ n. is_free n ≡ true) ((bytes_decides x name).0 here) (name_free x parts.0)
      | inr later ↦ listed_free names name parts.1 later
    ]

lists_free : (item : Item) (name : List ℕ) → ListsElements item → lists item name ≡ true → is_free name ≡ true
lists_free (folder names unnamed) name h there = listed_free names name (and_parts (list_all is_element names) _ h.0).0 there
lists_free _ name h there = absurd (true≢false (sym there))

stem_free : (path : List ℕ) → is_free path ≡ true → is_free (stem_of path) ≡ true
stem_free path h = elim (bytes_eq path (slash ∷ [])) as (λ b. is_free (cond b [] path) ≡ true) [ true ↦ refl | false ↦ h ]

filled : (b : ℕ) (text : List ℕ) → not (eqb (length (b ∷ text)) 0) ≡ true
filled b text = ap not (ne_eqb (length (b ∷ text)) 0 (λ e. omega (arith, e)))

longer : (prefix name : List ℕ) → is_free (prefix ++ slash ∷ name) ≡ true → is_storable (prefix ++ slash ∷ name) ≡ true
longer [] name h = and_from (not (eqb (length (slash ∷ name)) 0)) (is_free (slash ∷ name)) (filled slash name) h
longer (b ∷ prefix) name h = and_from (not (eqb (length (b ∷ prefix ++ slash ∷ name)) 0))
    (is_free (b ∷ prefix ++ slash ∷ name)) (filled b (prefix ++ slash ∷ name)) h

storable_free : (text : List ℕ) → is_storable text ≡ true → is_free text ≡ true
storable_free text h = (and_parts (not (eqb (length text) 0)) (is_free text) h).1

child_storable : (path name : List ℕ) → is_storable path ≡ true → is_free name ≡ true → is_storable (child path name) ≡ true
child_storable path name h free =
    longer (stem_of path) name (free_append (stem_of path) (slash ∷ name) (stem_free path (storable_free path h)) free)

-- a path of a list of storable paths is storable
marked_member : (paths : List (List ℕ)) (path : List ℕ) → are_storable paths ≡ true →
    is_some (find bytes_cmp path (set.unit_entries paths)) ≡ true → is_storable path ≡ true
marked_member [] path h there = absurd (true≢false (sym there))
marked_member (first ∷ paths) path h there =
    let parts = and_parts (is_storable first) (are_storable paths) h in
    elim (cases_Bool (eq_by_cmp bytes_cmp path first)) [
      | inl here ↦ subst (λ p. is_storable p ≡ true) (sym (tied_is path first here)) parts.0
      | inr apart ↦ marked_member paths path parts.1
          (sym (ap (λ b. is_some (cond b (Some tt) (find bytes_cmp path (set.unit_entries paths)))) apart) ∙ there)
    ]

member_storable : (paths : List (List ℕ)) (path : List ℕ) → are_storable paths ≡ true →
    set.contains (set.from_list paths) path ≡ true → is_storable path ≡ true
member_storable paths path h there = marked_member paths path h
    (sym (ap is_some (map'.get-from_entries nat_list_cmp_total (set.unit_entries paths) path)) ∙ there)

reached_storable : (tree : Snapshot) (paths : List (List ℕ)) (name : List ℕ) → IsTree tree → are_storable paths ≡ true →
    Reaches tree (set.from_list paths) name → is_storable name ≡ true
reached_storable tree paths name is h (named path member kept) = member_storable paths path h member
reached_storable tree paths name is h (listed path m reached short lists kept) =
    child_storable path m (reached_storable tree paths path is h reached)
    (lists_free (item_at tree path) m (is path) lists)

-- what holds of each member holds of all names
each_among : (names : List (List ℕ)) → ((name : List ℕ) → is_among names name ≡ true → is_storable name ≡ true) → are_storable names ≡ true
each_among [] h = refl
each_among (first ∷ names) h =
    and_from (is_storable first) (are_storable names)
    (h first (ap (λ b. b || is_among names first) ((bytes_decides first first).1 refl)))
    (each_among names (λ name there. h name (or_right (bytes_eq first name) (is_among names name) there)))

pub found_storable : (tree : Snapshot) (paths : List (List ℕ)) (names : List (List ℕ)) (faults : List FaultEntry) →
    IsTree tree → are_storable paths ≡ true → Finds tree (set.from_list paths) names faults → are_storable names ≡ true
found_storable tree paths names faults is h finds = each_among names (λ name there.
    let reached = (and_parts (is_reachable tree (set.from_list paths) name) _ (sym (finds.names_are name) ∙ there)).0 in
    reached_storable tree paths name is h ((reachable_says tree (set.from_list paths) name is).0 reached))
