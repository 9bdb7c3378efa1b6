-- The index after one more job.
use Rattle.std.proofs.Common.{◌≡◌, ◌≢◌, ℕ, ◌<◌, ◌^◌, Bool, true, false, cond, eqb, List, [], ◌∷◌, length, map, refl, sym, ap, subst, ◌∙◌, Option, Some, None, Ok, string_bytes}
use Rattle.cs_history.proofs.Common.{Paths, true≢false, ne_eqb, eqb-false, length-map, nat_list_cmp_total, is_covered, least, Snapshot, reachable_files, clean_path, alike, found_under, Files, text_trigrams, limits, Parts, paths_in, files_in, merge_files, merge_paths, least-union, DecodesAsContent, content_decodes, History, nothing, existing, ◌⊳◌, Update, all_given_paths, paths_of, walked_paths, kept_at, files_of, index_of, files_found, IsBuiltByJobs, IsHistory, given_texts, given_paths, has_no_path, update_of, after_done, IndexJob}
use Rattle.std.specs.FinMap as map'
use Rattle.cs_tree.specs.PathSet as set
use Rattle.cs_index.specs.Encoding.{encoding}
use Rattle.cs_index.specs.Opening.{opening}
use Rattle.cs_merge.specs.Mergeable.{merge_index}
use Rattle.cs_merge.proofs.OpeningLemmas.{decoded_opens}
use Rattle.cs_history.specs.StartIndex.{HasStartIndex}
use Rattle.cs_history.proofs.MergedHistoryLemmas.{contains-empty, contains_first, merge_kept, merge_paths_of, kept_first, paths_first, get-kept, no_paths}
use Rattle.cs_history.proofs.HistoryLemmas.{history_lies, history_opens, reduced_walked, walk_content, index_decodes}
use Rattle.cs_history.proofs.JobLemmas.{reset_starts}

-- ---- a job on no index, and on an index

pub index_first : (update : Update) → Some (encoding (walked_paths update nothing) (files_found update nothing))
    ≡ index_of (update ⊳ nothing)
index_first update =
    ap (λ p. Some (encoding p (files_found update nothing))) (sym (paths_first update))
    ∙ ap (λ f. Some (encoding (paths_of (update ⊳ nothing)) f)) (sym (kept_first update))

pub index_merged : (before : History) (update : Update) →
    Some (encoding (merge_paths (paths_of before) (walked_paths update before))
    (merge_files (walked_paths update before) (files_of before) (files_found update before)))
    ≡ index_of (update ⊳ before)
index_merged before update = λ i. Some (encoding (merge_paths_of before update i) (merge_kept before update i))

-- the same for the parts that the index of the history and that of the job open as
pub merged_as : (before : History) (update : Update) (a b : Parts) → least (paths_in a) ≡ paths_of before → files_in a
    ≡ files_of before → paths_in b ≡ walked_paths update before → files_in b ≡ files_found update before →
    Some (merge_index a b) ≡ index_of (update ⊳ before)
merged_as before update a b old old_files own own_files =
    (λ i. Some (encoding (merge_paths (paths_in a) (own i)) (merge_files (own i) (old_files i) (own_files i))))
    ∙ ap (λ paths. Some (encoding paths (merge_files (walked_paths update before) (files_of before) (files_found update before))))
    (sym (least-union (paths_in a) (walked_paths update before)) ∙ (λ i. merge_paths (old i) (reduced_walked update before i)))
    ∙ index_merged before update

-- ---- a reset

-- a job that was given a path has one
pub given_some : (job : IndexJob) → length job.paths.items ≢ 0 → map'.len (given_paths job) ≢ 0
given_some job some = some_len (map (λ text. clean_path (string_bytes job.cwd) text) (given_texts job))
    (λ e. some (sym (length-map (given_texts job) (λ text. clean_path (string_bytes job.cwd) text)
    ∙ length-map job.paths.items string_bytes) ∙ e))
  where
    some_len : (paths : List (List ℕ)) → length paths ≢ 0 → map'.len (set.from_list paths) ≢ 0
    some_len [] h e = h refl
    some_len (p ∷ ps) h e = true≢false (sym (contains_first p ps)
        ∙ ap (λ s. set.contains s p) (map'.empty_of_len (set.from_list (p ∷ ps)) e) ∙ contains-empty p)

pub walked_own : (update : Update) (before : History) → map'.len update.given ≢ 0 → walked_paths update before ≡ least update.given
walked_own update before some = ap (λ b. cond b (paths_of before) (least update.given)) (ne_eqb (map'.len update.given) 0 some)

pub index_at_start : (before : History) (job : IndexJob) (tree : Snapshot) → job.list ≡ false → job.reset ≡ true →
    has_no_path job ≡ false → index_of (after_done before job tree)
    ≡ Some (encoding (least (given_paths job)) (reachable_files (text_trigrams limits) tree (least (given_paths job))))
index_at_start before job tree l r p =
    ap index_of (reset_starts before job tree l r)
    ∙ ap (λ b. index_of (cond b nothing (update_of job tree ⊳ nothing))) p
    ∙ sym (index_first (update_of job tree))
    ∙ ap (λ paths. Some (encoding paths (reachable_files (text_trigrams limits) tree paths)))
    (walked_own (update_of job tree) nothing (given_some job (eqb-false (length job.paths.items) 0 p)))

pub index_none : (before : History) (job : IndexJob) (tree : Snapshot) → job.list ≡ false → job.reset ≡ true →
    has_no_path job ≡ true → index_of (after_done before job tree) ≡ None
index_none before job tree l r p =
    ap index_of (reset_starts before job tree l r)
    ∙ ap (λ b. index_of (cond b nothing (update_of job tree ⊳ nothing))) p

-- ---- a job without paths

pub paths_again : (update : Update) (before : History) → map'.len update.given ≡ 0 → paths_of (update ⊳ before) ≡ paths_of before
paths_again update before none = ap least (no_paths update.given none (all_given_paths before))

pub walked_again : (update : Update) (before : History) → map'.len update.given ≡ 0 → walked_paths update before ≡ paths_of before
walked_again update before none = ap (λ n. cond (eqb n 0) (paths_of before) (least update.given)) none

-- the paths that are walked again cover all files
pub files_again : (update : Update) (before : History) → map'.len update.given ≡ 0 → HasStartIndex before →
    files_of (update ⊳ before) ≡ reachable_files (text_trigrams limits) update.tree (paths_of before)
files_again update before none start =
    map'.same_map nat_list_cmp_total alike (files_of (update ⊳ before)) _ (λ name. get-kept (update ⊳ before) name
    ∙ at name (is_covered (walked_paths update before) name) refl
    ∙ ap (λ paths. map'.get (reachable_files (text_trigrams limits) update.tree paths) name)
    (walked_again update before none))
  where
    kept_none : (name : List ℕ) → is_covered (walked_paths update before) name ≡ false → kept_at before name ≡ None
    kept_none name h = by_option (map'.get (files_of before) name) refl
      where
        by_option : (o : Option (List ℕ)) → map'.get (files_of before) name ≡ o → kept_at before name ≡ None
        by_option None e = sym (get-kept before name) ∙ e
        by_option (Some trigrams) e = absurd (true≢false (sym (history_lies before start name trigrams e)
            ∙ ap (λ paths. is_covered paths name) (sym (walked_again update before none)) ∙ h))

    at : (name : List ℕ) (b : Bool) → is_covered (walked_paths update before) name ≡ b →
        cond b (map'.get (files_found update before) name) (kept_at before name) ≡ map'.get (files_found update before)
        name
    at name true h = refl
    at name false h = kept_none name h ∙ sym (found_under (text_trigrams limits) update.tree (walked_paths update before) name h)

-- ---- no index

pub no_index : (history : History) → index_of history ≡ None → history ≡ nothing
no_index nothing e = refl
no_index (existing bytes parts) e = cc
no_index (update ⊳ before) e = cc

pub no_job : (history : History) → history ≡ nothing → index_of history ≡ None
no_job history e = ap index_of e

-- ---- the bytes after one more job

-- on no index: what the job found
pub first_index : (before : History) (update : Update) (bytes : List ℕ) → index_of before ≡ None → bytes
    ≡ encoding (walked_paths update before) (files_found update before) → Some bytes ≡ index_of (update ⊳ before)
first_index nothing update bytes none is = ap Some is ∙ index_first update
first_index (existing old parts) update bytes none is = cc
first_index (v ⊳ before) update bytes none is = cc

-- on an index: the merge with what the job found
module _ (before : History) (update : Update) (old newer bytes : List ℕ) (is : IsHistory (update ⊳ before))
    (there : index_of before ≡ Some old) (short : length old < 2 ^ 32)
    (found : newer ≡ encoding (walked_paths update before) (files_found update before)) (bound : length newer < 2 ^ 32)
  where
    own_decodes : DecodesAsContent newer (walked_paths update before) (files_found update before)
    own_decodes = subst (λ b. DecodesAsContent b (walked_paths update before) (files_found update before)) (sym found)
        (content_decodes (walked_paths update before) (files_found update before) (walk_content update before is)
        (subst (λ b. length b < 2 ^ 32) found bound))

    pub merged_index : IsBuiltByJobs before →
        ((p q : Paths) (f g : Files) → DecodesAsContent old p f → DecodesAsContent newer q g → bytes
        ≡ encoding (merge_paths p q) (merge_files q f g)) → Some bytes ≡ index_of (update ⊳ before)
    merged_index by merged =
        ap Some (merged (paths_of before) (walked_paths update before) (files_of before) (files_found update before)
        (index_decodes before old is.1 by there short) own_decodes)
        ∙ index_merged before update

    -- the same for the parts that both open as
    pub opened_index : ((a b : Parts) → opening old ≡ Ok a → opening newer ≡ Ok b → bytes ≡ merge_index a b) → Some bytes
        ≡ index_of (update ⊳ before)
    opened_index merged =
        let old_has = history_opens before old is.1 there short in
        let own_has = decoded_opens newer (walked_paths update before) (files_found update before) own_decodes in
        ap Some (merged old_has.parts own_has.parts old_has.opened own_has.opened)
        ∙ merged_as before update old_has.parts own_has.parts old_has.paths_are old_has.files_are own_has.has.paths_are own_has.has.files_are
