-- The index after a job that walks.
use Rattle.std.proofs.Common.{◌≡◌, ℕ, ◌<◌, ◌≤◌, ◌^◌, ◌⊎◌, ◌&&◌, Bool, true, false, cond, List, [], ◌∷◌, length, map, refl, sym, ap, subst, ◌∙◌, inl, inr, arith, Option, Some, None, Result, Ok, Err, string_bytes, is_some}
use Rattle.cs_history.specs.JobIndex.{tree_index}
use Rattle.cs_cindex.proofs.Common.{IsModelled, Paths, bytes_cmp, nat_list_cmp_total, true≢false, and_parts, cases_Bool, eqb-true, eqb-false, length-map, least, clean_path, Snapshot, same_set, Parts, are_whole, IndexFault, IsIndexingFault, IndexJob, CindexFault, BadIndex, Unsorted, TooLarge, Write, Memory, History, nothing, ◌⊳◌, Update, walked_paths, paths_of, index_of, files_found, IsMergeable, IsHistory, given_texts, given_paths, has_no_path, AreCleanable, update_of, after_done, modelled_snapshot, IsShort, Premises, Walks, IsLong, walk_content, walk_lies, IsOkAnd, MergesTo, IsMergeRefusal, opening_paths, base_paths, paths_of_job, opening_merge, next_index, HasWholeLists, IsIndex, IsIndexOf, IsReducedIndex, IsTreeTooLarge, IsOwnIndex, IsNextLong, alone, merged, IsNext, base, IsWalkFault}
use Rattle.std.specs.FinMap as map'
use Rattle.cs_tree.specs.PathSet as set
use Rattle.cs_index.specs.Opening.{opening}
use Rattle.cs_index.specs.Tables.{TableParts, TablesIn}
use Rattle.cs_merge.specs.Mergeable.{merge_index, AreMergeable}
use Rattle.cs_merge.specs.Replacing.{is_replaced}
use Rattle.cs_cindex.specs.BaseReads.{ReplacesBase}
use Rattle.cs_history.proofs.JobLemmas.{cleanable_update}
use Rattle.cs_history.proofs.JobListLemmas.{first_premises}
use Rattle.cs_history.proofs.IndexLemmas.{merged_as, first_index, given_some, walked_own, walked_again, no_index}
use Rattle.cs_cindex.proofs.OldIndexLemmas.{OpensWith, OpensFor, history_opens, opened_encoding}
use Rattle.cs_cindex.proofs.RefusedJobLemmas.{walks_parts}
use Rattle.std.proofs.lemmas.List.{nil_from_length}

-- ---- the index of a walk, over any base index

-- the index of what the job finds, before the merge
abbrev index_alone : IndexJob → Snapshot → Option (List ℕ) → List ℕ
index_alone job tree old = tree_index tree (paths_of_job job old)

-- indexing gives the job's own index
pub own_index : (job : IndexJob) (tree : Option Snapshot) (old : Option (List ℕ)) (paths : Paths) (bytes : List ℕ) →
    paths ≡ paths_of_job job old → IsIndex paths bytes → IsIndexOf tree paths bytes → length bytes < 2 ^ 32 →
    IsOwnIndex job tree old bytes
own_index job tree old paths bytes e index built short = record {
  index = subst (λ ps. IsIndex ps bytes) e index;
  model = subst (λ ps. IsIndexOf tree ps bytes) e built;
  short = short;
}

-- it has reduced paths
pub reduced_index : (paths start : Paths) (bytes : List ℕ) → paths ≡ least start → IsIndex paths bytes →
    length bytes < 2 ^ 32 → IsReducedIndex bytes
reduced_index paths start bytes e index short = record { paths = start; index = subst (λ ps. IsIndex ps bytes) e index; short = short }

-- it replaces the base index if these cover it
pub replacing_index : (paths start : Paths) (bytes : List ℕ) (tables : TableParts) → paths ≡ least start → IsIndex paths bytes →
    length bytes < 2 ^ 32 → ((base : List ℕ) (parts : Parts) → TablesIn base tables parts → is_replaced paths parts ≡ true) →
    ReplacesBase bytes tables
replacing_index paths start bytes tables e index short covers = record {
  walk = record { paths = start; index = subst (λ ps. IsIndex ps bytes) e index; short = short };
  covers = λ base parts are. ap (λ ps. is_replaced ps parts) (sym e) ∙ covers base parts are;
}

pub next_new : (job : IndexJob) (tree : Option Snapshot) (bytes : List ℕ) → IsOwnIndex job tree None bytes →
    IsNext job tree None (Some bytes)
next_new job tree bytes own = record { own = bytes; own_is = own; whole = tt; is = refl; short = own.short }

merges_opening : (parts : Parts) (opening : Result Parts IndexFault) (bytes : List ℕ) → MergesTo parts opening bytes →
    Some bytes ≡ opening_merge (Ok parts) opening
merges_opening parts (Ok own) bytes merges = ap Some merges.1
merges_opening parts (Err fault) bytes merges = absurd merges

-- a mergeable index has whole lists
mergeable_whole : (parts own : Parts) → AreMergeable parts own → are_whole parts ≡ true
mergeable_whole parts own mergeable = (and_parts (are_whole parts) (are_whole own) mergeable.whole).0

whole_opening : (parts : Parts) (opening : Result Parts IndexFault) (bytes : List ℕ) → MergesTo parts opening bytes → are_whole parts ≡ true
whole_opening parts (Ok own) bytes merges = mergeable_whole parts own merges.0
whole_opening parts (Err fault) bytes merges = absurd merges

whole_old : (old : List ℕ) (parts : Parts) → opening old ≡ Ok parts → are_whole parts ≡ true → HasWholeLists (Some old)
whole_old old parts opens whole = subst (λ o. IsOkAnd o (λ parts. are_whole parts ≡ true)) (sym opens) whole

pub next_extended : (job : IndexJob) (tree : Option Snapshot) (old : List ℕ) (parts : Parts) (own bytes : List ℕ) →
    opening old ≡ Ok parts → IsOwnIndex job tree (Some old) own → MergesTo parts (opening own) bytes →
    length bytes < 2 ^ 32 → IsNext job tree (Some old) (Some bytes)
next_extended job tree old parts own bytes opens own_is merges short = record {
  own = own;
  own_is = own_is;
  whole = whole_old old parts opens (whole_opening parts (opening own) bytes merges);
  is = merges_opening parts (opening own) bytes merges ∙ ap (λ o. opening_merge o (opening own)) (sym opens);
  short = short;
}

-- over a tree with a snapshot
pub modelled_next : (job : IndexJob) (tree : Option Snapshot) (old new : Option (List ℕ)) → IsNext job tree old new →
    IsModelled tree → new ≡ next_index old (index_alone job (modelled_snapshot tree) old)
modelled_next job tree old new next modelled = next.is ∙ ap (next_index old) (next.own_is.model modelled)

pub modelled_short : (job : IndexJob) (tree : Option Snapshot) (old : Option (List ℕ)) (own : List ℕ) →
    IsOwnIndex job tree old own → IsModelled tree → length (index_alone job (modelled_snapshot tree) old) < 2 ^ 32
modelled_short job tree old own own_is modelled = subst (λ b. length b < 2 ^ 32) (own_is.model modelled) own_is.short

-- an error of indexing is an error of the job
pub index_refusal : (job : IndexJob) (tree : Option Snapshot) (old : Option (List ℕ)) (paths : Paths)
    (fault : CindexFault) → paths ≡ paths_of_job job old → IsIndexingFault fault →
    (fault ≡ TooLarge → IsTreeTooLarge tree paths) → IsWalkFault job tree old fault
index_refusal job tree old paths TooLarge e only large = alone (subst (IsTreeTooLarge tree) e (large refl))
index_refusal job tree old paths Write e only large = tt
index_refusal job tree old paths Memory e only large = tt
index_refusal job tree old paths _ e only large = absurd only

-- so is an error of the merge
long_opening : (parts : Parts) (opening : Result Parts IndexFault) →
    IsOkAnd opening (λ own. AreMergeable parts own × IsLong (Some (merge_index parts own))) →
    (are_whole parts ≡ true) × IsLong (opening_merge (Ok parts) opening)
long_opening parts (Ok own) long = (mergeable_whole parts own long.0, long.1)
long_opening parts (Err fault) long = absurd long

module _ (job : IndexJob) (tree : Option Snapshot) (old : List ℕ) (parts : Parts) (own : List ℕ)
    (opens : opening old ≡ Ok parts) (own_is : IsOwnIndex job tree (Some old) own)
    (sound : IsOkAnd (opening own) IsMergeable) where
  pub merge_refused : (fault : CindexFault) → IsMergeRefusal parts (opening own) fault → IsWalkFault job tree (Some old) fault
  merge_refused (BadIndex fault) h = record {
    is = (h sound).0;
    damaged = subst (λ o. IsOkAnd o (λ parts. are_whole parts ≡ false)) (sym opens) (h sound).1;
    own = own;
    own_is = own_is;
  }
  merge_refused Unsorted h = h sound
  merge_refused TooLarge h =
      let both = long_opening parts (opening own) h in
      merged own own_is (whole_old old parts opens both.0) (subst (λ o. IsLong (opening_merge o (opening own))) (sym opens) both.1)
  merge_refused Memory h = tt
  merge_refused _ h = absurd h

-- ---- over a base index that jobs left

-- what is known there
pub record AfterHistory (job : IndexJob) (tree : Snapshot) (old : Option (List ℕ)) (earlier : History) : Type 0 where
  pub history : IsHistory (update_of job tree ⊳ earlier)
  pub left : index_of earlier ≡ old
  pub bound : IsShort old

no_length : map'.len (set.from_list []) ≡ 0
no_length = ap map'.len (same_set (set.from_list []) map'.empty
    (λ q. ap is_some (map'.get-from_entries nat_list_cmp_total (set.unit_entries []) q
    ∙ sym (map'.get-empty bytes_cmp q)))) ∙ map'.len-empty bytes_cmp (Unit {0})

none_given : (job : IndexJob) → has_no_path job ≡ true → map'.len (given_paths job) ≡ 0
none_given job none = ap (λ ts. map'.len (set.from_list (map (λ text. clean_path (string_bytes job.cwd) text) ts)))
    (nil_from_length (given_texts job) (length-map job.paths.items string_bytes
    ∙ eqb-true (length job.paths.items) 0 none)) ∙ no_length

content_paths : (opening : Result Parts IndexFault) (earlier : History) → OpensFor earlier opening →
    least (opening_paths opening) ≡ paths_of earlier
content_paths (Ok parts) earlier h = h.paths_are
content_paths (Err fault) earlier h = absurd h

recorded_left : (old : Option (List ℕ)) (earlier : History) → IsHistory earlier → index_of earlier ≡ old → IsShort old →
    least (base_paths old) ≡ paths_of earlier
recorded_left None earlier is left bound = ap paths_of (sym (no_index earlier left))
recorded_left (Some bytes) earlier is left bound = content_paths (opening bytes) earlier (history_opens earlier bytes is left bound)

walked_is : (job : IndexJob) (tree : Snapshot) (old : Option (List ℕ)) (earlier : History) →
    AfterHistory job tree old earlier → paths_of_job job old ≡ walked_paths (update_of job tree) earlier
walked_is job tree old earlier on =
    elim (cases_Bool (has_no_path job)) [
      | inl none ↦
          ap (λ b. least (cond b (base_paths old) (given_paths job))) none
          ∙ recorded_left old earlier on.history.1 on.left on.bound
          ∙ sym (walked_again (update_of job tree) earlier (none_given job none))
      | inr some ↦
          ap (λ b. least (cond b (base_paths old) (given_paths job))) some
          ∙ sym (walked_own (update_of job tree) earlier (given_some job (eqb-false (length job.paths.items) 0 some)))
    ]

pub own_is : (job : IndexJob) (tree : Snapshot) (old : Option (List ℕ)) (earlier : History) →
    AfterHistory job tree old earlier → index_alone job tree old
    ≡ tree_index tree (walked_paths (update_of job tree) earlier)
own_is job tree old earlier on = ap (tree_index tree) (walked_is job tree old earlier on)

content_merged : (update : Update) (earlier : History) (old own : Result Parts IndexFault) → OpensFor earlier old →
    OpensWith own (walked_paths update earlier) (files_found update earlier) → opening_merge old own
    ≡ index_of (update ⊳ earlier)
content_merged update earlier (Ok old) (Ok own) h k = merged_as earlier update old own h.paths_are h.files_are k.paths_are k.files_are
content_merged update earlier (Ok old) (Err fault) h k = absurd k
content_merged update earlier (Err fault) own h k = absurd h

pub next_is : (job : IndexJob) (tree : Snapshot) (old : Option (List ℕ)) (earlier : History) →
    AfterHistory job tree old earlier → length (index_alone job tree old) < 2 ^ 32 →
    next_index old (index_alone job tree old) ≡ index_of (update_of job tree ⊳ earlier)
next_is job tree None earlier on short = first_index earlier (update_of job tree) (index_alone job tree None) on.left
    (own_is job tree None earlier on)
next_is job tree (Some bytes) earlier on short =
    let update = update_of job tree in
    let own = index_alone job tree (Some bytes) in
    content_merged update earlier (opening bytes) (opening own)
    (history_opens earlier bytes on.history.1 on.left on.bound)
    (opened_encoding own (walked_paths update earlier) (files_found update earlier)
    (walk_content update earlier on.history) (walk_lies update earlier) (own_is job tree (Some bytes) earlier on)
    short)

-- an index that is too large is too large in the history
pub large_is : (job : IndexJob) (tree : Option Snapshot) (old : Option (List ℕ)) (earlier : History) → IsModelled tree →
    AfterHistory job (modelled_snapshot tree) old earlier → IsNextLong job tree old →
    IsLong (Some (tree_index (modelled_snapshot tree) (walked_paths (update_of job (modelled_snapshot tree)) earlier)))
    ⊎ IsLong (index_of (update_of job (modelled_snapshot tree) ⊳ earlier))
large_is job tree old earlier modelled on (alone long) =
    inl (subst (λ b. 2 ^ 32 ≤ length b) (own_is job (modelled_snapshot tree) old earlier on) (long modelled))
large_is job tree old earlier modelled on (merged own is whole long) =
    inr (subst IsLong (ap (next_index old) (is.model modelled) ∙ next_is job (modelled_snapshot tree) old earlier on
    (modelled_short job tree old own is modelled)) long)

not_both : (index : Option (List ℕ)) → IsShort index → IsLong index → ⊥
not_both None short long = long
not_both (Some bytes) short long = omega (arith, short, long)

-- a job that succeeds has no such index
pub fits_is : (job : IndexJob) (tree : Snapshot) (old new : Option (List ℕ)) (earlier : History) →
    AfterHistory job tree old earlier → new ≡ next_index old (index_alone job tree old) →
    length (index_alone job tree old) < 2 ^ 32 → IsShort new →
    IsLong (Some (tree_index tree (walked_paths (update_of job tree) earlier))) ⊎ IsLong
    (index_of (update_of job tree ⊳ earlier)) → ⊥
fits_is job tree old new earlier on is own_short short (inl own) =
    not_both (Some (index_alone job tree old)) own_short (subst (λ b. 2 ^ 32 ≤ length b) (sym (own_is job tree old earlier on)) own)
fits_is job tree old new earlier on is own_short short (inr next) =
    not_both new short (subst IsLong (sym (is ∙ next_is job tree old earlier on own_short)) next)

-- ---- the history and the base index of a job that walks

pub base_premises : (job : IndexJob) (tree : Option Snapshot) (old : Option (List ℕ)) (earlier : History) →
    Premises (tree ∷ []) old earlier → Premises (tree ∷ []) (base job old) (cond job.reset nothing earlier)
base_premises job tree old earlier p = elim job.reset as
    (λ r. Premises (tree ∷ []) (cond r None old) (cond r nothing earlier))
    [ true ↦ first_premises (tree ∷ []) p.trees_modelled | false ↦ p ]

pub on_base : (job : IndexJob) (tree : Option Snapshot) (old : Option (List ℕ)) (earlier : History) → AreCleanable job →
    Premises (tree ∷ []) old earlier → AfterHistory job (modelled_snapshot tree) (base job old)
    (cond job.reset nothing earlier)
on_base job tree old earlier accepted p =
    let b = base_premises job tree old earlier p in
    record { history = (cleanable_update job tree p.trees_modelled.0 accepted, b.is_history); left = b.is_index; bound = b.short }

pub walks_on : (job : IndexJob) (tree : Snapshot) (earlier : History) → Walks job → after_done earlier job tree
    ≡ update_of job tree ⊳ cond job.reset nothing earlier
walks_on job tree earlier w =
    ap (λ b. cond b earlier (cond job.reset (cond (has_no_path job) nothing (update_of job tree ⊳ nothing))
    (update_of job tree ⊳ earlier))) (walks_parts job w).0
    ∙ by_reset job.reset (has_no_path job) (walks_parts job w).1
  where
    by_reset : (r none : Bool) → (r && none) ≡ false → cond r (cond none nothing (update_of job tree ⊳ nothing))
        (update_of job tree ⊳ earlier) ≡ update_of job tree ⊳ cond r nothing earlier
    by_reset true true e = absurd (true≢false e)
    by_reset true false e = refl
    by_reset false none e = refl
