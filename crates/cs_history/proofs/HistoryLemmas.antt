-- The paths of histories are clean and reduced, and their files are valid content.
use Rattle.std.proofs.Common.{◌≡◌, ℕ, ◌<◌, ◌^◌, true, false, cond, eqb, List, length, get_or, refl, sym, ap, subst, ◌∙◌, inl, inr, Some, Ok}
use Rattle.cs_history.proofs.Common.{Paths, true≢false, or_cases, is_covered, least, Snapshot, found_under, contains-union, least_says, least_is_unique, covered-least, Files, IsString, text_trigrams, limits, merge_files, IsContent, LieUnder, DecodesAsContent, newer_at, old_at, content_decodes, decoded_once, decoded_names, decoded_set, Parts, are_whole, lists_in, paths_in, files_in, Update, History, nothing, existing, ◌⊳◌, all_given_paths, paths_of, walked_paths, files_of, index_of, files_found, IsBuiltByJobs, indexed_names, AreClean, IsHistory, none-some}
use Rattle.cs_index.specs.PostingLists.{set_at}
use Rattle.std.specs.FinMap as map
use Rattle.cs_tree.specs.PathSet as set
use Rattle.cs_index.specs.Encoding.{encoding}
use Rattle.cs_merge.proofs.OpeningLemmas.{decoded_opens}
use Rattle.cs_merge.proofs.ContentLemmas.{content_merged, under_merged}
use Rattle.cs_index.specs.Opening.{opening}
use Rattle.cs_history.specs.FileTrigrams.{file_trigrams, ReadAsIndexed}
use Rattle.cs_tree.proofs.NormalizedLemmas.{normalized_filled, normalized_no_nul, no_nul_bytes}
use Rattle.cs_history.specs.StartIndex.{HasStartIndex}
use Rattle.cs_history.proofs.PathElementLemmas.{IsClean}
use Rattle.cs_history.proofs.StartIndexLemmas.{find_all, decoded_content, start_clean, start_lies, start_opens}
use Rattle.cs_history.proofs.MergedHistoryLemmas.{contains-empty, merge_kept, merge_paths_of, kept_decoded, get-kept}
use Rattle.cs_history.proofs.WalkLemmas.{AreStrings, found_content, found_lies}
use Rattle.std.proofs.lemmas.Option.{same_Some}

-- ---- paths

pub least_twice : (paths : Paths) → least (least paths) ≡ least paths
least_twice paths = least_is_unique (least paths) paths (covered-least paths)

clean_least : (paths : Paths) → AreClean paths → AreClean (least paths)
clean_least paths h path member = h path (least_says paths path member).member

clean_union : (a b : Paths) → AreClean a → AreClean b → AreClean (set.union a b)
clean_union a b f g path member =
    elim (or_cases (set.contains a path) (set.contains b path) (sym (contains-union a b path) ∙ member))
    [ inl here ↦ f path here | inr there ↦ g path there ]

clean_given : (history : History) → IsHistory history → AreClean (all_given_paths history)
clean_given nothing is path member = absurd (true≢false (sym member ∙ contains-empty path))
clean_given (existing bytes parts) is path member = start_clean bytes parts is path member
clean_given (update ⊳ before) is path member = clean_union (all_given_paths before) update.given
    (clean_given before is.1) is.0.given_are path member

pub clean_paths : (history : History) → IsHistory history → AreClean (paths_of history)
clean_paths history is = clean_least (all_given_paths history) (clean_given history is)

-- what holds for the paths before and for the job's own paths holds for the walked paths
module _ (P : Paths → Type 0) (update : Update) (before : History) where
  by_walked : P (paths_of before) → P (least update.given) → P (walked_paths update before)
  by_walked old own = elim (eqb (map.len update.given) 0) as (λ b. P (cond b (paths_of before) (least update.given)))
      [ true ↦ old | false ↦ own ]

pub clean_walked : (update : Update) (before : History) → IsHistory (update ⊳ before) → AreClean (walked_paths update before)
clean_walked update before is = by_walked AreClean update before (clean_paths before is.1) (clean_least update.given is.0.given_are)

pub reduced_walked : (update : Update) (before : History) → least (walked_paths update before) ≡ walked_paths update before
reduced_walked update before = by_walked (λ paths. least paths ≡ paths) update before
    (least_twice (all_given_paths before)) (least_twice update.given)

pub clean_string : (path : List ℕ) → IsClean path → IsString path
clean_string path is = (normalized_filled path is.1, no_nul_bytes path (normalized_no_nul path is.1), is.0)

clean_strings : (paths : Paths) → AreClean paths → AreStrings paths
clean_strings paths h path member = clean_string path (h path member)

-- ---- files

pub walk_content : (update : Update) (before : History) → IsHistory (update ⊳ before) →
    IsContent (walked_paths update before) (files_found update before)
walk_content update before is = found_content limits update.tree (walked_paths update before) is.0.tree_is
    (clean_strings (walked_paths update before) (clean_walked update before is))

pub walk_lies : (update : Update) (before : History) → LieUnder (walked_paths update before) (files_found update before)
walk_lies update before name trigrams h = found_lies (text_trigrams limits) update.tree (walked_paths update before) name trigrams h

nothing_kept : (name trigrams : List ℕ) → map.get (files_of nothing) name ≡ Some trigrams → ⊥
nothing_kept name trigrams h = none-some trigrams (sym (get-kept nothing name) ∙ h)

pub has_start_index : (history : History) → IsHistory history → HasStartIndex history
has_start_index nothing is = tt
has_start_index (existing bytes parts) is = is
has_start_index (update ⊳ before) is = has_start_index before is.1

pub history_content : (history : History) → IsHistory history → IsContent (paths_of history) (files_of history)
history_content nothing is = record {
  paths_are = clean_strings (paths_of nothing) (clean_paths nothing is);
  names_are = λ name trigrams h. absurd (nothing_kept name trigrams h);
  sets_are = λ name trigrams h. absurd (nothing_kept name trigrams h);
}
history_content (existing bytes parts) is =
    let content = decoded_content bytes parts (start_opens bytes parts is) in
    subst (λ files. IsContent (paths_of (existing bytes parts)) files) (sym (kept_decoded bytes parts))
    (record {
      paths_are = clean_strings (paths_of (existing bytes parts)) (clean_paths (existing bytes parts) is);
      names_are = content.names_are;
      sets_are = content.sets_are;
    })
history_content (update ⊳ before) is =
    let merged = content_merged (paths_of before) (walked_paths update before) (files_of before)
    (files_found update before) (history_content before is.1) (walk_content update before is) in
    subst (λ files. IsContent (paths_of (update ⊳ before)) files) (merge_kept before update)
    (subst (λ paths. IsContent paths (merge_files (walked_paths update before) (files_of before)
    (files_found update before))) (merge_paths_of before update) merged)

pub history_lies : (history : History) → HasStartIndex history → LieUnder (paths_of history) (files_of history)
history_lies nothing is name trigrams h = absurd (nothing_kept name trigrams h)
history_lies (existing bytes parts) is name trigrams h =
    covered-least (set.from_list parts.paths) name ∙ start_lies bytes parts is name trigrams
    (subst (λ files. map.get files name ≡ Some trigrams) (kept_decoded bytes parts) h)
history_lies (update ⊳ before) is name trigrams h =
    let merged = under_merged (paths_of before) (walked_paths update before) (files_of before)
    (files_found update before) (history_lies before is) (walk_lies update before) in
    subst (λ paths. is_covered paths name ≡ true) (merge_paths_of before update)
    (merged name trigrams (subst (λ files. map.get files name ≡ Some trigrams) (sym (merge_kept before update)) h))

-- ---- the index

pub index_is : (history : History) (bytes : List ℕ) → IsBuiltByJobs history → index_of history ≡ Some bytes →
    encoding (paths_of history) (files_of history) ≡ bytes
index_is nothing bytes by h = cc
index_is (existing old parts) bytes by h = absurd by
index_is (update ⊳ before) bytes by h = cc

pub index_decodes : (history : History) (bytes : List ℕ) → IsHistory history → IsBuiltByJobs history → index_of history
    ≡ Some bytes → length bytes < 2 ^ 32 → DecodesAsContent bytes (paths_of history) (files_of history)
index_decodes history bytes is by h short =
    let same = index_is history bytes by h in
    subst (λ b. DecodesAsContent b (paths_of history) (files_of history)) same
    (content_decodes (paths_of history) (files_of history) (history_content history is) (subst (λ b. length b < 2 ^ 32) (sym same) short))

pub index_once : (history : History) (bytes : List ℕ) (paths : Paths) (files : Files) → IsHistory history →
    IsBuiltByJobs history → index_of history ≡ Some bytes → length bytes < 2 ^ 32 → DecodesAsContent bytes paths files →
    (paths_of history ≡ paths) × (files_of history ≡ files)
index_once history bytes paths files is by h short decoded = decoded_once bytes (paths_of history) paths
    (files_of history) files (index_decodes history bytes is by h short) decoded

-- The index of a history opens, even if it is an existing one. It has the paths of the history, possibly with some
-- that others cover, and its files, and no list is damaged.
pub record OpensAs (bytes : List ℕ) (history : History) : Type 0 where
  pub parts : Parts
  pub opened : opening bytes ≡ Ok parts
  pub paths_are : least (paths_in parts) ≡ paths_of history
  pub files_are : files_in parts ≡ files_of history
  pub whole : are_whole parts ≡ true

pub history_opens : (history : History) (bytes : List ℕ) → IsHistory history → index_of history ≡ Some bytes →
    length bytes < 2 ^ 32 → OpensAs bytes history
history_opens nothing bytes is h short = cc
history_opens (existing old parts) bytes is h short = subst (λ b. OpensAs b (existing old parts)) (same_Some old bytes h) (record {
  parts = parts;
  opened = start_opens old parts is;
  paths_are = refl;
  files_are = sym (kept_decoded old parts);
  whole = is.mergeable.whole;
})
history_opens (update ⊳ before) bytes is h short =
    let decodes = decoded_opens bytes (paths_of (update ⊳ before)) (files_of (update ⊳ before))
    (index_decodes (update ⊳ before) bytes is tt h short) in
    record {
      parts = decodes.parts;
      opened = decodes.opened;
      paths_are = ap least decodes.has.paths_are ∙ least_twice (all_given_paths (update ⊳ before));
      files_are = decodes.has.files_are;
      whole = decodes.has.whole;
    }

-- ---- the latest job that covers a name

pub newest_at : (update : Update) (before : History) (name : List ℕ) → is_covered (walked_paths update before) name
    ≡ true → map.get (files_of (update ⊳ before)) name ≡ map.get (files_found update before) name
newest_at update before name h =
    ap (λ files. map.get files name) (sym (merge_kept before update))
    ∙ newer_at (walked_paths update before) (files_of before) (files_found update before) name h

pub others_at : (update : Update) (before : History) (name : List ℕ) → is_covered (walked_paths update before) name
    ≡ false → map.get (files_of (update ⊳ before)) name ≡ map.get (files_of before) name
others_at update before name h =
    ap (λ files. map.get files name) (sym (merge_kept before update))
    ∙ old_at (walked_paths update before) (files_of before) (files_found update before) name
    (found_under (text_trigrams limits) update.tree (walked_paths update before) name h) h

-- ---- files that still read as they were indexed

pub names_decoded : (history : History) (bytes : List ℕ) (paths : Paths) (files : Files) → IsHistory history →
    IsBuiltByJobs history → index_of history ≡ Some bytes → length bytes < 2 ^ 32 →
    (decoded : DecodesAsContent bytes paths files) → indexed_names history ≡ decoded.parts.names
names_decoded history bytes paths files is by h short decoded =
    ap map.keys (index_once history bytes paths files is by h short decoded).1 ∙ decoded_names bytes paths files decoded

pub reads_agree : (history : History) (bytes : List ℕ) (paths : Paths) (files : Files) (tree : Snapshot) →
    IsHistory history → IsBuiltByJobs history → index_of history ≡ Some bytes → length bytes < 2 ^ 32 →
    ReadAsIndexed tree (map.entries (files_of history)) → (decoded : DecodesAsContent bytes paths files) (id : ℕ)
    (d : List ℕ) → id < length decoded.parts.names → file_trigrams tree (get_or decoded.parts.names id d)
    ≡ Some (set_at id (lists_in decoded.parts))
reads_agree history bytes paths files tree is by h short still decoded id d within =
    find_all (λ name (trigrams : List ℕ). file_trigrams tree name ≡ Some trigrams) (map.entries (files_of history))
    (get_or decoded.parts.names id d) (set_at id (lists_in decoded.parts)) still
    (sym (map.get-entries (files_of history) (get_or decoded.parts.names id d))
    ∙ ap (λ m. map.get m (get_or decoded.parts.names id d))
    (index_once history bytes paths files is by h short decoded).1 ∙ decoded_set bytes paths files decoded id d
    within)
