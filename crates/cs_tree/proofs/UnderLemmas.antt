-- The paths of a walk cover the names that it finds.
use Rattle.std.proofs.Common.{◌≡◌, ℕ, Bool, true, false, cond, ◌||◌, List, [], ◌∷◌, ◌++◌, sym, ap, subst, ◌∙◌}
use Rattle.std.proofs.lemmas.Bool.{or_left, or_right}
use Rattle.std.proofs.lemmas.List.Folds.{list_any-append}
use Rattle.std.specs.Prelude.{filter, map}
use Rattle.std.specs.List.{AllByRecursion}
use Rattle.cs_tree.specs.Folders.{child}
use Rattle.cs_tree.specs.Cover.{covers, is_covered}
use Rattle.cs_tree.specs.PathSet as set
use Rattle.cs_tree.specs.Walks.{names_walked}
use Rattle.cs_tree.specs.WalkSteps.{KeepsTo, children, is_walked, named_if}
use Rattle.cs_tree.specs.declared.walking.Walked.{Walked}
use Rattle.cs_tree.proofs.CoverLemmas.{covers_refl, covers_trans}
use Rattle.cs_tree.proofs.ReduceLemmas.{any-from_list}
use Rattle.cs_tree.proofs.NameLemmas.{folder_covers_child}

keeps_wider : (p q : List ℕ → Bool) (old new : Walked) → ((name : List ℕ) → p name ≡ true → q name ≡ true) →
    KeepsTo p old new → KeepsTo q old new
keeps_wider p q old new wider keeps = λ test h all. keeps test (λ name is. h name (wider name is)) all

-- ---- below one path

-- each path is below the first one
abbrev pub AreBelow : List ℕ → List (List ℕ) → Type 0
AreBelow path paths = AllByRecursion (λ below. covers path below ≡ true) paths

pub below_children : (path : List ℕ) (names : List (List ℕ)) → AreBelow path (children path names)
below_children path [] = tt
below_children path (name ∷ names) =
    elim (is_walked name) as (λ b. AreBelow path (map (child path) (cond b (name ∷ filter is_walked names) (filter is_walked names)))) [
      | true ↦ (folder_covers_child path name, below_children path names)
      | false ↦ below_children path names
    ]

pub keeps_deeper : (path deeper : List ℕ) (old mid new : Walked) → covers path deeper ≡ true →
    KeepsTo (covers path) old mid → KeepsTo (covers deeper) mid new → KeepsTo (covers path) old new
keeps_deeper path deeper old mid new below first second = λ test h all.
    keeps_wider (covers deeper) (covers path) mid new (λ name is. covers_trans path deeper name below is) second test h (first test h all)

pub keeps_path : (path : List ℕ) (named : Bool) (old mid new : Walked) → names_walked mid ≡ names_walked old
    ++ named_if named path → KeepsTo (covers path) mid new → KeepsTo (covers path) old new
keeps_path path named old mid new e keeps = λ test h all.
    keeps test h (subst (AllByRecursion (λ name. test name ≡ true)) (sym e)
    (append test (names_walked old) (named_if named path) all (one test named h)))
  where
    append : (test : List ℕ → Bool) (xs ys : List (List ℕ)) → AllByRecursion (λ name. test name ≡ true) xs →
        AllByRecursion (λ name. test name ≡ true) ys → AllByRecursion (λ name. test name ≡ true) (xs ++ ys)
    append test [] ys h k = k
    append test (x ∷ xs) ys h k = (h.0, append test xs ys h.1 k)

    one : (test : List ℕ → Bool) (b : Bool) → ((name : List ℕ) → covers path name ≡ true → test name ≡ true) →
        AllByRecursion (λ name. test name ≡ true) (named_if b path)
    one test true h = (h path (covers_refl path), tt)
    one test false h = tt

-- ---- below one of the paths

-- with one more path, the names that it covers are covered too
covered_more : (paths : List (List ℕ)) (path name : List ℕ) → is_covered (set.from_list (paths ++ path ∷ [])) name
    ≡ (is_covered (set.from_list paths) name || (covers path name || false))
covered_more paths path name =
    sym (any-from_list (λ one. covers one name) (paths ++ path ∷ []))
    ∙ list_any-append (λ one. covers one name) paths (path ∷ [])
    ∙ ap (λ b. b || (covers path name || false)) (any-from_list (λ one. covers one name) paths)

pub keeps_more : (paths : List (List ℕ)) (path : List ℕ) (old mid new : Walked) →
    KeepsTo (is_covered (set.from_list paths)) old mid → KeepsTo (covers path) mid new →
    KeepsTo (is_covered (set.from_list (paths ++ path ∷ []))) old new
keeps_more paths path old mid new first second = λ test h all.
    let wide = λ (name : List ℕ) (is : is_covered (set.from_list paths) name ≡ true). h name
    (covered_more paths path name ∙ or_left (is_covered (set.from_list paths) name) _ is) in
    let last = λ (name : List ℕ) (is : covers path name ≡ true). h name
    (covered_more paths path name ∙ or_right (is_covered (set.from_list paths) name) _
    (or_left (covers path name) false is)) in
    second test last (first test wide all)
