-- The paths that a job walks, and what the walk gives.
use Rattle.std.proofs.Common.{◌≡◌, ◌≢◌, ℕ, ◌<◌, ◌^◌, true, List, [], ◌∷◌, length, map, sym, ap, subst, ◌∙◌, Result, Ok, Err, String, string_bytes}
use Rattle.cs_cindex.proofs.Common.{Paths, Global, and_parts, AllByRecursion, list_all, is_storable, are_paths, is_normalized, length-map, least, clean_path, Files, Parts, IndexFault, from_list_all, IndexJob, given_texts, IsOkAnd, IsMergeable, IsIndex, AreCleaned, starts, set_of_items}
use Rattle.cs_tree.specs.PathSet as set
use Rattle.cs_index.specs.Opening.{opening}
use Rattle.cs_history.proofs.JobLemmas.{given_clean}
use Rattle.cs_cindex.proofs.JobPathLemmas.{all_accepted, normalized_storable, reduced_paths}
use Rattle.cs_cindex.proofs.OldIndexLemmas.{OpensWith, opened_encoding}

-- ---- the walked paths

-- the walked list, as a set
pub walk_as_set : (paths start_paths : List (List ℕ)) → paths ≡ set.items (least (set.from_list start_paths)) →
    set.from_list paths ≡ least (set.from_list start_paths)
walk_as_set paths start_paths e = ap set.from_list e ∙ sym (set_of_items (least (set.from_list start_paths)))

pub count_texts : (job : IndexJob) (ts : List (List ℕ)) → AreCleaned job ts → length ts ≡ length job.paths.items
count_texts job ts clean = ap length clean.are
    ∙ length-map (given_texts job) (λ text. clean_path (string_bytes job.cwd) text)
    ∙ length-map job.paths.items string_bytes

-- ---- an index can store the walked paths

given_storable : (job : IndexJob) (ts : List (List ℕ)) → AreCleaned job ts → (path : List ℕ) →
    set.contains (set.from_list ts) path ≡ true → is_storable path ≡ true
given_storable job ts clean path member =
    let is = given_clean job (all_accepted (string_bytes job.cwd) (given_texts job) clean.none_bad) path
    (subst (λ ps. set.contains (set.from_list ps) path ≡ true) clean.are member) in
    normalized_storable path is.1

pub own_paths : (job : IndexJob) (ts paths : List (List ℕ)) → AreCleaned job ts → paths
    ≡ set.items (least (set.from_list ts)) → are_paths paths ≡ true
own_paths job ts paths clean e = subst (λ ps. are_paths ps ≡ true) (sym e) (reduced_paths (set.from_list ts) (given_storable job ts clean))

each_normalized : (ps : List (List ℕ)) → list_all is_normalized ps ≡ true → AllByRecursion (λ p. is_storable p ≡ true) ps
each_normalized [] h = tt
each_normalized (p ∷ ps) h = let both = and_parts (is_normalized p) (list_all is_normalized ps) h in
    (normalized_storable p both.0, each_normalized ps both.1)

pub start_paths : (job : IndexJob) (recorded ts paths : List (List ℕ)) → AreCleaned job ts →
    list_all is_normalized recorded ≡ true → paths ≡ set.items (least (set.from_list (starts ts recorded))) →
    are_paths paths ≡ true
start_paths job recorded [] paths clean good e =
    subst (λ ps. are_paths ps ≡ true) (sym e)
    (reduced_paths (set.from_list recorded) (from_list_all (λ p. is_storable p ≡ true) recorded
    (each_normalized recorded good)))
start_paths job recorded (t ∷ ts) paths clean good e = own_paths job (t ∷ ts) paths clean e

-- ---- in terms of the calls

pub some_path : (job : IndexJob) (ts : List (String Global)) → AreCleaned job (map string_bytes ts) → length ts ≢ 0 →
    length job.paths.items ≢ 0
some_path job ts clean some none = some (sym (length-map ts string_bytes) ∙ count_texts job (map string_bytes ts) clean ∙ none)

-- ---- the index of a walk can be merged

sound_content : (opening : Result Parts IndexFault) (paths : Paths) (files : Files) → OpensWith opening paths files →
    IsOkAnd opening IsMergeable
sound_content (Ok parts) paths files h = h.sound
sound_content (Err fault) paths files h = h

pub sound_own : (paths : Paths) (bytes : List ℕ) → IsIndex paths bytes → length bytes < 2 ^ 32 → IsOkAnd (opening bytes) IsMergeable
sound_own paths bytes index short = sound_content (opening bytes) paths index.files
    (opened_encoding bytes paths index.files index.content index.under index.is short)
