-- Which names the paths of an index cover.
use Rattle.std.proofs.Common.{◌≡◌, ℕ, Bool, true, false, ◌&&◌, ◌||◌, List, [], ◌∷◌, ◌++◌, sym, ap, ◌∙◌, inl, inr}
use Rattle.cs_merge.proofs.Common.{Paths, bytes_cmp, true≢false, or_cases, or_left, or_right, AllByRecursion, list_all, list_any, eq_by_cmp, covers, is_covered, least, contains-from_list, some_member, member_satisfies, tied_same, same_set, contains-union, Parts, paths_in, merge_paths}
use Rattle.std.proofs.lemmas.List.Folds.{list_any-append}
use Rattle.std.specs.Cmp.{both_ways as same_tests}
use Rattle.cs_tree.specs.PathSet as set
use Rattle.cs_merge.proofs.DecodedContentLemmas.{from_list_all}

-- ---- sets made from lists

-- if some member of `ps` passes the test whenever one of `qs` does, it does so for each member of `qs`
each_counts : (test : List ℕ → Bool) (ps qs : List (List ℕ)) → (list_any test qs ≡ true → list_any test ps ≡ true) →
    AllByRecursion (λ q. test q ≡ true → list_any test ps ≡ true) qs
each_counts test ps [] up = tt
each_counts test ps (q ∷ qs) up = (
  (λ t. up (or_left (test q) (list_any test qs) t)),
  each_counts test ps qs
      (λ t. up (or_right (test q) (list_any test qs) t)),
)

-- a list whose members are all in the set
passes_on : (paths : Paths) (test : List ℕ → Bool) (qs : List (List ℕ)) →
    ((q : List ℕ) → list_any (eq_by_cmp bytes_cmp q) qs ≡ true → set.contains paths q ≡ true) → list_any test qs
    ≡ true → list_any test (set.items paths) ≡ true
passes_on paths test [] member h = absurd (true≢false (sym h))
passes_on paths test (q ∷ qs) member h =
    elim (or_cases (test q) (list_any test qs) h) [
      | inl here ↦ member_satisfies paths test q
          (member q (or_left (eq_by_cmp bytes_cmp q q) (list_any (eq_by_cmp bytes_cmp q) qs) (tied_same q))) here
      | inr there ↦ passes_on paths test qs (λ r m. member r
          (or_right (eq_by_cmp bytes_cmp r q) (list_any (eq_by_cmp bytes_cmp r) qs) m)) there
    ]

covered_list : (ps : List (List ℕ)) (name : List ℕ) → is_covered (set.from_list ps) name ≡ list_any (λ path. covers path name) ps
covered_list ps name = same_tests _ _ down up
  where
    down : is_covered (set.from_list ps) name ≡ true → list_any (λ path. covers path name) ps ≡ true
    down h =
        let found = some_member (set.from_list ps) (λ path. covers path name) h in
        from_list_all (λ q. covers q name ≡ true → list_any (λ path. covers path name) ps ≡ true) ps
        (each_counts (λ path. covers path name) ps ps (λ t. t)) found.path found.member found.accepts

    up : list_any (λ path. covers path name) ps ≡ true → is_covered (set.from_list ps) name ≡ true
    up h = passes_on (set.from_list ps) (λ path. covers path name) ps (λ q m. contains-from_list ps q ∙ m) h

pub covered_in : (parts : Parts) (name : List ℕ) → is_covered (paths_in parts) name ≡ list_any (λ path. covers path name) parts.paths
covered_in parts name = covered_list parts.paths name

-- ---- list tests, step by step

pub all_first : (test : List ℕ → Bool) (rest later : List (List ℕ)) (text : List ℕ) → rest ≡ text ∷ later → test text
    ≡ false → list_all test rest ≡ false
all_first test rest later text e t = ap (list_all test) e ∙ ap (λ b. b && list_all test later) t

-- ---- merged paths

listed_union : (ps qs : List (List ℕ)) → set.from_list (ps ++ qs) ≡ set.union (set.from_list ps) (set.from_list qs)
listed_union ps qs = same_set (set.from_list (ps ++ qs)) (set.union (set.from_list ps) (set.from_list qs)) (λ q.
    contains-from_list (ps ++ qs) q
    ∙ list_any-append (eq_by_cmp bytes_cmp q) ps qs
    ∙ (λ i. sym (contains-from_list ps q) i || sym (contains-from_list qs q) i)
    ∙ sym (contains-union (set.from_list ps) (set.from_list qs) q))

pub paths_merged : (old newer : List (List ℕ)) → least (set.from_list (old ++ newer)) ≡ merge_paths (set.from_list old)
    (set.from_list newer)
paths_merged old newer = ap least (listed_union old newer)
