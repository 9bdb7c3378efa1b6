-- The index that jobs left.
use Rattle.std.proofs.Common.{◌≡◌, ℕ, ◌<◌, ◌^◌, true, false, cond, not, List, [], ◌∷◌, length, refl, sym, ap, subst, ◌∙◌, Option, Some, None, Result, Ok, Err, is_some}
use Rattle.cs_cindex.proofs.Common.{Paths, bytes_cmp, are_ascending, is_lt, eq_by_cmp, below_all, true≢false, and_parts, and_from, or_left, or_right, AllByRecursion, list_any, list_all, is_covered, least, are_distinct, tied_same, Files, Entry, names_of, Parts, are_whole, paths_in, files_in, IndexFault, BadIndex, Unsorted, History, nothing, existing, ◌⊳◌, all_given_paths, paths_of, files_of, index_of, AreClean, IsMergeable, IsStartIndex, IsHistory, history_content, history_lies, has_start_index, kept_decoded, index_is, clean_paths, least_twice, is_normalized, IsOkAnd, opening_fault, unfit_parts_fault, IsDamaged, set_of_items, map_of_entries, none-some}
use Rattle.cs_index.specs.Roundtrip.{parts_written}
use Rattle.std.specs.FinMap as map'
use Rattle.cs_tree.specs.PathSet as set
use Rattle.cs_tree.proofs.ListingLemmas.{ascending_distinct}
use Rattle.cs_index.specs.Encoding.{encoding}
use Rattle.cs_index.specs.Indexable.{IsIndexable}
use Rattle.cs_index.proofs.encoding.EncodingOpens.{encoding_has, encoding_opens}
use Rattle.cs_index.specs.Opening.{opening}
use Rattle.cs_index.specs.OpenedParts.{are_covered}
use Rattle.cs_index.specs.declared.fault.IndexFault.TheVariants.{BadPaths}
use Rattle.cs_merge.specs.Content.{IsContent, LieUnder}
use Rattle.cs_merge.proofs.ContentLemmas.{content_indexable, ascending_sets}
use Rattle.cs_history.proofs.StartIndexLemmas.{start_opens}
use Rattle.cs_tree.proofs.ReduceLemmas.{contains-from_list, true_from_T}
use Rattle.cs_cindex.proofs.JobPathLemmas.{all_satisfy}
use Rattle.std.proofs.lemmas.Option.{same_Some}

-- ---- the content of an index that opens

pub record HasContent (parts : Parts) (paths : Paths) (files : Files) : Type 0 where
  pub paths_are : paths_in parts ≡ paths
  pub files_are : files_in parts ≡ files
  pub sound : IsMergeable parts

abbrev pub OpensWith : Result Parts IndexFault → Paths → Files → Type 0
OpensWith opening paths files = IsOkAnd opening (λ parts. HasContent parts paths files)

-- ---- encoded indexes open

ascend_names : (es : List Entry) → map'.is_sorted bytes_cmp es ≡ true → are_ascending (names_of es) ≡ true
ascend_names [] up = refl
ascend_names (e ∷ []) up = refl
ascend_names (e ∷ f ∷ es) up =
    let both = and_parts (below_all bytes_cmp e.0 (f ∷ es)) (map'.is_sorted bytes_cmp (f ∷ es)) up in
    and_from (is_lt (bytes_cmp e.0 f.0)) (are_ascending (names_of (f ∷ es)))
    (and_parts (is_lt (bytes_cmp e.0 f.0)) (below_all bytes_cmp e.0 es) both.0).0 (ascend_names (f ∷ es) both.1)

-- what holds for each member of a list
each_among : (P : List ℕ → Type 0) (names : List (List ℕ)) →
    ((name : List ℕ) → list_any (eq_by_cmp bytes_cmp name) names ≡ true → P name) → AllByRecursion P names
each_among P [] h = tt
each_among P (n ∷ names) h = (
  h n (or_left (eq_by_cmp bytes_cmp n n) _ (tied_same n)),
  each_among P names (λ name member. h name (or_right (eq_by_cmp bytes_cmp name n) _ member)),
)

-- the names of a map whose files lie under the paths
each_key : (P : List ℕ → Type 0) (files : Files) →
    ((name trigrams : List ℕ) → map'.get files name ≡ Some trigrams → P name) → AllByRecursion P (map'.keys files)
each_key P files h = each_among P (map'.keys files)
    (λ name member. by_option name (map'.get files name) refl (map'.contains_key-keys files name ∙ member))
  where
    by_option : (name : List ℕ) (o : Option (List ℕ)) → map'.get files name ≡ o → map'.contains_key files name ≡ true → P name
    by_option name (Some trigrams) e member = h name trigrams e
    by_option name None e member = absurd (true≢false (sym member ∙ ap is_some e))

covered_names : (parts : Parts) (paths : Paths) (files : Files) → set.from_list parts.paths ≡ paths → parts.names
    ≡ names_of (map'.entries files) → LieUnder paths files → are_covered parts ≡ true
unfolding are_covered
covered_names parts paths files p n under =
    ap (λ s. list_all (λ name. is_covered s name) parts.names) p
    ∙ ap (λ ns. list_all (λ name. is_covered paths name) ns) n
    ∙ all_satisfy (λ name. is_covered paths name) (map'.keys files) (each_key (λ name. is_covered paths name ≡ true) files under)

written_content : (paths : Paths) (files : Files) → IsContent paths files → LieUnder paths files →
    IsIndexable (set.items paths) (map'.entries files) →
    HasContent (parts_written (set.items paths) (map'.entries files)) paths files
written_content paths files content under indexable =
    let has = encoding_has (set.items paths) (map'.entries files) indexable in
    record {
      paths_are = ap set.from_list has.has_paths ∙ sym (set_of_items paths);
      files_are = ap (λ (es : List Entry). map'.from_entries es) (has.has_files (ascending_sets files content.sets_are))
          ∙ sym (map_of_entries files);
      sound = record {
        distinct = ascending_distinct (parts_written (set.items paths) (map'.entries files)).names
            (ap are_ascending has.has_names ∙ ascend_names (map'.entries files)
            (true_from_T _ (map'.entries_sorted files)));
        covered =
            covered_names (parts_written (set.items paths) (map'.entries files)) paths files
            (ap set.from_list has.has_paths ∙ sym (set_of_items paths)) has.has_names under;
        whole = has.whole;
      };
    }

pub encoding_content : (paths : Paths) (files : Files) → IsContent paths files → LieUnder paths files →
    length (encoding paths files) < 2 ^ 32 → OpensWith (opening (encoding paths files)) paths files
unfolding encoding
encoding_content paths files content under short =
    let indexable = content_indexable paths files content short in
    subst (λ o. OpensWith o paths files) (sym (encoding_opens (set.items paths) (map'.entries files) indexable))
    (written_content paths files content under indexable)

pub opened_encoding : (bytes : List ℕ) (paths : Paths) (files : Files) → IsContent paths files → LieUnder paths files →
    bytes ≡ encoding paths files → length bytes < 2 ^ 32 → OpensWith (opening bytes) paths files
opened_encoding bytes paths files content under is short = subst (λ b. OpensWith (opening b) paths files) (sym is)
    (encoding_content paths files content under (subst (λ b. length b < 2 ^ 32) is short))

-- what holds of the members of a set holds of the list that it was made of
pub each_listed : (P : List ℕ → Type 0) (ps : List (List ℕ)) →
    ((path : List ℕ) → set.contains (set.from_list ps) path ≡ true → P path) → AllByRecursion P ps
each_listed P ps h = each_among P ps (λ path member. h path (contains-from_list ps path ∙ member))

-- ---- the index of a history, possibly an existing one

-- the opened index has the paths of the history, up to paths that others cover, and its files; it can be a base
pub record IsBase (earlier : History) (parts : Parts) : Type 0 where
  pub paths_are : least (paths_in parts) ≡ paths_of earlier
  pub files_are : files_in parts ≡ files_of earlier
  pub normalized : list_all is_normalized parts.paths ≡ true
  pub sound : IsMergeable parts

abbrev pub OpensFor : History → Result Parts IndexFault → Type 0
OpensFor earlier opening = IsOkAnd opening (IsBase earlier)

content_base : (earlier : History) (opening : Result Parts IndexFault) → AreClean (paths_of earlier) →
    OpensWith opening (paths_of earlier) (files_of earlier) → OpensFor earlier opening
content_base earlier (Err fault) clean h = h
content_base earlier (Ok parts) clean h = record {
  paths_are = ap least h.paths_are ∙ least_twice (all_given_paths earlier);
  files_are = h.files_are;
  normalized = all_satisfy is_normalized parts.paths
      (each_listed (λ p. is_normalized p ≡ true) parts.paths
      (λ p member. (clean p (subst (λ s. set.contains s p ≡ true) h.paths_are member)).1));
  sound = h.sound;
}

begun_base : (bytes : List ℕ) (parts : Parts) → IsStartIndex bytes parts → IsBase (existing bytes parts) parts
begun_base bytes parts is = record {
  paths_are = refl;
  files_are = sym (kept_decoded bytes parts);
  normalized = is.normalized;
  sound = is.mergeable;
}

pub history_opens : (earlier : History) (bytes : List ℕ) → IsHistory earlier → index_of earlier ≡ Some bytes →
    length bytes < 2 ^ 32 → OpensFor earlier (opening bytes)
history_opens nothing bytes is e short = absurd (none-some bytes e)
history_opens (existing old parts) bytes is e short =
    subst (λ b. OpensFor (existing old parts) (opening b)) (same_Some old bytes e)
    (subst (OpensFor (existing old parts)) (sym (start_opens old parts is)) (begun_base old parts is))
history_opens (update ⊳ before) bytes is e short =
    let earlier : History = update ⊳ before in
    content_base earlier (opening bytes) (clean_paths earlier is)
    (opened_encoding bytes (paths_of earlier) (files_of earlier) (history_content earlier is)
    (history_lies earlier (has_start_index earlier is)) (sym (index_is earlier bytes tt e)) short)

content_fault : (earlier : History) (opening : Result Parts IndexFault) → OpensFor earlier opening →
    opening_fault unfit_parts_fault opening ≡ None
content_fault earlier (Err fault) h = absurd h
content_fault earlier (Ok parts) h =
    ap (λ b. cond (not b) (Some (BadIndex BadPaths)) (cond (not (are_distinct parts.names)) (Some Unsorted) None)) h.normalized
    ∙ ap (λ b. cond (not b) (Some Unsorted) None) h.sound.distinct

-- the base has no error for a job
pub history_base : (earlier : History) (bytes : List ℕ) → IsHistory earlier → index_of earlier ≡ Some bytes →
    length bytes < 2 ^ 32 → opening_fault unfit_parts_fault (opening bytes) ≡ None
history_base earlier bytes is e short = content_fault earlier (opening bytes) (history_opens earlier bytes is e short)

content_whole : (earlier : History) (opening : Result Parts IndexFault) → OpensFor earlier opening →
    IsOkAnd opening (λ parts. are_whole parts ≡ false) → ⊥
content_whole earlier (Err fault) h damaged = h
content_whole earlier (Ok parts) h damaged = true≢false (sym h.sound.whole ∙ damaged)

pub history_whole : (earlier : History) (bytes : List ℕ) → IsHistory earlier → index_of earlier ≡ Some bytes →
    length bytes < 2 ^ 32 → IsDamaged (Some bytes) → ⊥
history_whole earlier bytes is e short damaged = content_whole earlier (opening bytes) (history_opens earlier bytes is e short) damaged

-- and it opens
content_lists : (earlier : History) (opening : Result Parts IndexFault) → OpensFor earlier opening →
    opening_fault (λ _. None) opening ≡ None
content_lists earlier (Err fault) h = absurd h
content_lists earlier (Ok parts) h = refl

pub history_lists : (earlier : History) (bytes : List ℕ) → IsHistory earlier → index_of earlier ≡ Some bytes →
    length bytes < 2 ^ 32 → opening_fault (λ _. None) (opening bytes) ≡ None
history_lists earlier bytes is e short = content_lists earlier (opening bytes) (history_opens earlier bytes is e short)
