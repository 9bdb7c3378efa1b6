-- When the merge is the newer index.
use Rattle.std.proofs.Common.{◌≡◌, ℕ, true, List, [], ◌∷◌, sym, ◌∙◌, inl, inr, refl, Some}
use Rattle.cs_merge.proofs.Common.{true≢false, and_parts, or_cases, AllByRecursion, list_all, list_any, nat_list_cmp_total, Paths, covers, is_covered, least, some_member, member_satisfies, Parts, files_in, files_read, lists_in, paths_in, merge_index}
use Rattle.std.specs.FinMap as map'
use Rattle.cs_tree.proofs.CoverLemmas.{covers_trans}
use Rattle.cs_index.specs.Encoding.{encoding}
use Rattle.cs_merge.specs.Replacing.{IsCoveredBy, is_replaced}
use Rattle.cs_merge.proofs.CoverLemmas.{covered_in}
use Rattle.cs_merge.proofs.DecodedContentLemmas.{all_files, find_all}
use Rattle.cs_merge.proofs.MergeLemmas.{files_replaced, paths_replaced}

-- a name that a covered path covers is covered
covered_below : (paths : Paths) (path name : List ℕ) → is_covered paths path ≡ true → covers path name ≡ true → is_covered paths name ≡ true
covered_below paths path name h below =
    let over = some_member paths (λ other. covers other path) h in
    member_satisfies paths (λ other. covers other name) over.path over.member (covers_trans over.path path name over.accepts below)

each_covered : (paths : Paths) (names : List (List ℕ)) → list_all (is_covered paths) names ≡ true →
    AllByRecursion (λ name. is_covered paths name ≡ true) names
each_covered paths [] all = tt
each_covered paths (name ∷ names) all =
    let both = and_parts (is_covered paths name) (list_all (is_covered paths) names) all in
    (both.0, each_covered paths names both.1)

any_covered : (paths : Paths) (name : List ℕ) (ps : List (List ℕ)) →
    AllByRecursion (λ path. is_covered paths path ≡ true) ps → list_any (λ path. covers path name) ps ≡ true →
    is_covered paths name ≡ true
any_covered paths name [] all h = absurd (true≢false (sym h))
any_covered paths name (p ∷ ps) all h =
    elim (or_cases (covers p name) (list_any (λ path. covers path name) ps) h) [
      | inl here ↦ covered_below paths p name all.0 here
      | inr later ↦ any_covered paths name ps all.1 later
    ]

module _ (old newer : Parts) (replaced : is_replaced (paths_in newer) old ≡ true) where
  both : (list_all (is_covered (paths_in newer)) old.paths ≡ true) × (list_all (is_covered (paths_in newer)) old.names ≡ true)
  both = and_parts (list_all (is_covered (paths_in newer)) old.paths) (list_all (is_covered (paths_in newer)) old.names) replaced

  paths_covered : IsCoveredBy (paths_in old) (paths_in newer)
  paths_covered name h = any_covered (paths_in newer) name old.paths (each_covered (paths_in newer) old.paths both.0)
      (sym (covered_in old name) ∙ h)

  files_covered : (name trigrams : List ℕ) → map'.get (files_in old) name ≡ Some trigrams → is_covered (paths_in newer) name ≡ true
  files_covered name trigrams there =
      (find_all (λ (n : List ℕ) (t : List ℕ). (is_covered (paths_in newer) n ≡ true) × (t ≡ t)) (files_read old) name trigrams
      (all_files (λ n. is_covered (paths_in newer) n ≡ true) (λ t. t ≡ t) 0 old.names (lists_in old)
      (each_covered (paths_in newer) old.names both.1) (λ id. refl))
      (sym (map'.get-from_entries nat_list_cmp_total (files_read old) name) ∙ there)).0

  pub index_replaced : merge_index old newer ≡ encoding (least (paths_in newer)) (files_in newer)
  index_replaced = λ i. encoding (paths_replaced (paths_in old) (paths_in newer) paths_covered i)
      (files_replaced (paths_in newer) (paths_in newer) (files_in old) (files_in newer) (λ name h. h) files_covered i)
