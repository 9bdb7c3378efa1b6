-- The index of the files that a walk finds.
use Rattle.std.proofs.Common.{◌≡◌, ℕ, ◌^◌, ◌≤◌, Bool, true, false, cond, ◌&&◌, ◌||◌, List, [], ◌∷◌, append-nil, length, refl, sym, ap, subst, ◌∙◌, Option, Some, None, inl, inr, nat_le, bytes_eq}
use Rattle.cs_history.specs.JobIndex.{tree_index}
use Rattle.cs_cindex.proofs.Common.{IsLong, IsTree, Paths, bytes_cmp, are_ascending, true≢false, and_parts, and_from, cases_Bool, list_any, list_all, cons_option, AllByRecursion, is_lt, eq_by_cmp, nat_list_cmp_total, bytes_decides, below_all, find, longest_path, is_covered, Snapshot, Item, file, folder, item_at, reachable_files, read_item, is_reachable, FaultEntry, Finds, FindsIn, is_among, is_file, alike, entries_in_order, from_list_all, Entry, IsString, encoding_of, names_of, Built, IsBuilt, are_paths, are_reduced, is_storable, tail_up, AreTooLarge, IsIndex, IsIndexOf, IsTreeTooLarge, texts_at, are_storable, AreTextsIn, AreTooLargeIn, HaveNamesOf}
use Rattle.cs_history.specs.FileTrigrams.{file_trigrams}
use Rattle.cs_history.proofs.StartIndexLemmas.{find_all}
use Rattle.std.specs.FinMap as map'
use Rattle.cs_tree.specs.PathSet as set
use Rattle.cs_tree.proofs.CollectLemmas.{get-collected}
use Rattle.cs_tree.proofs.FoundLemmas.{get-found}
use Rattle.cs_trigram.specs.Text.{limits, text_trigrams}
use Rattle.cs_trigram.specs.TrigramSets.{IsTrigramSet}
use Rattle.cs_merge.specs.Content.{IsContent, LieUnder}
use Rattle.cs_index.specs.Encoding.{encoding}
use Rattle.cs_index.proofs.encoding.FileMapEncoding.{encoding_in_order, sorted_named, true_T}
use Rattle.cs_cindex.proofs.IndexedFileLemmas.{AreAfter, ascend_after, at_least, with_name}
use Rattle.cs_cindex.proofs.WalkNameLemmas.{found_storable}
use Rattle.cs_cindex.proofs.WalkOrderLemmas.{same_tied}
use Rattle.cs_index.specs.LeastLength.{least_length}
use Rattle.cs_index.proofs.writer.LeastLength.{encoded_long}
use Rattle.cs_history.proofs.TextLemmas.{text_set}

-- ---- sorted texts

below_texts : (tree : Snapshot) (name : List ℕ) (rest : List (List ℕ)) → AreAfter name rest →
    below_all bytes_cmp name (texts_at tree rest) ≡ true
below_texts tree name [] h = refl
below_texts tree name (next ∷ rest) h =
    let later = below_texts tree name rest h.1 in
    elim (file_trigrams tree next) as (λ o. below_all bytes_cmp name (cons_option (with_name next o) (texts_at tree rest)) ≡ true) [
      | None ↦ later
      | Some trigrams ↦ and_from (is_lt (bytes_cmp name next)) (below_all bytes_cmp name (texts_at tree rest)) h.0 later
    ]

texts_sorted : (tree : Snapshot) (names : List (List ℕ)) → are_ascending names ≡ true →
    map'.is_sorted bytes_cmp (texts_at tree names) ≡ true
texts_sorted tree [] h = refl
texts_sorted tree (name ∷ rest) h =
    let later = texts_sorted tree rest (tail_up name rest h) in
    elim (file_trigrams tree name) as (λ o. map'.is_sorted bytes_cmp (cons_option (with_name name o) (texts_at tree rest)) ≡ true) [
      | None ↦ later
      | Some trigrams ↦ and_from (below_all bytes_cmp name (texts_at tree rest))
          (map'.is_sorted bytes_cmp (texts_at tree rest)) (below_texts tree name rest (ascend_after name rest h)) later
    ]

-- ---- the texts that a walk finds

tied_among : (names : List (List ℕ)) (q : List ℕ) → list_any (eq_by_cmp bytes_cmp q) names ≡ is_among names q
tied_among [] q = refl
tied_among (name ∷ names) q = ap (λ b. b || list_any (eq_by_cmp bytes_cmp q) names) (same_tied name q)
    ∙ ap (λ b. bytes_eq name q || b) (tied_among names q)

file_or_none : {X : Type 0} (read : List ℕ → Option X) (item : Item) → cond (is_file item) (read_item read item) None ≡ read_item read item
file_or_none read (folder names unnamed) = refl
file_or_none read _ = refl

by_tests : {X : Type 0} (a b c : Bool) (x : Option X) → cond c x None ≡ x → cond (a && (b && c)) x None ≡ cond (a && b) x None
by_tests true true c x h = h
by_tests true false c x h = refl
by_tests false b c x h = refl

texts_found : (tree : Snapshot) (paths : Paths) (names : List (List ℕ)) (faults : List FaultEntry) →
    Finds tree paths names faults → map'.from_entries (texts_at tree names) ≡ reachable_files (text_trigrams limits)
    tree paths
texts_found tree paths names faults finds = map'.same_map nat_list_cmp_total alike
    (map'.from_entries (texts_at tree names)) (reachable_files (text_trigrams limits) tree paths) (λ q.
    get-collected (file_trigrams tree) names q
    ∙ ap (λ b. cond b (file_trigrams tree q) None) (tied_among names q ∙ finds.names_are q)
    ∙ by_tests (is_reachable tree paths q) (nat_le (length q) longest_path) (is_file (item_at tree q))
    (read_item (text_trigrams limits) (item_at tree q)) (file_or_none (text_trigrams limits) (item_at tree q))
    ∙ sym (get-found (text_trigrams limits) tree paths q))

module _ (tree : Snapshot) (paths names : List (List ℕ)) (faults : List FaultEntry) (ok : are_paths paths ≡ true)
    (finds : Finds tree (set.from_list paths) names faults) where
  encoding_found : encoding_of paths (texts_at tree names) ≡ tree_index tree (set.from_list paths)
  encoding_found =
      encoding_in_order paths (texts_at tree names) ok (texts_sorted tree names finds.names_ascend)
      ∙ ap (encoding (set.from_list paths)) (texts_found tree (set.from_list paths) names faults finds)

  pub names_stored : IsTree tree → are_storable names ≡ true
  names_stored is = found_storable tree paths names faults is (and_parts (list_all is_storable paths) (are_reduced paths) ok).0 finds

-- the trigrams of a text file are a set of an index
item_set : (item : Item) (trigrams : List ℕ) → read_item (text_trigrams limits) item ≡ Some trigrams → IsTrigramSet trigrams
item_set (file bytes) trigrams h = text_set limits bytes trigrams h
item_set _ trigrams h = cc

texts_sets : (tree : Snapshot) (names : List (List ℕ)) → AllByRecursion (λ (e : Entry). IsTrigramSet e.1) (texts_at tree names)
texts_sets tree [] = tt
texts_sets tree (name ∷ names) =
    let later = texts_sets tree names in
    elim (file_trigrams tree name) as (λ o. file_trigrams tree name ≡ o →
    AllByRecursion (λ (e : Entry). IsTrigramSet e.1) (cons_option (with_name name o) (texts_at tree names))) [
      | None ↦ λ e. later
      | Some trigrams ↦ λ e. (item_set (item_at tree name) trigrams e, later)
    ] refl

least_encoded : (paths : List (List ℕ)) (entries : List Entry) → AllByRecursion (λ (e : Entry). IsTrigramSet e.1) entries →
    least_length entries ≤ length (encoding_of paths entries)
least_encoded paths entries sets =
    subst (λ es. least_length entries ≤ length (encoding_of paths es)) (append-nil entries) (encoded_long paths entries [] sets)

-- ---- what is built

module _ (model : Option Snapshot) (paths names : List (List ℕ)) (faults : List FaultEntry)
    (ok : are_paths paths ≡ true) (finds : FindsIn model (set.from_list paths) names faults) where
  pub index_is : (entries : List Entry) → AreTextsIn model names entries →
      IsIndexOf model (set.from_list paths) (encoding_of paths entries)
  index_is entries are = by_tree model finds are
    where
      by_tree : (model : Option Snapshot) → FindsIn model (set.from_list paths) names faults →
          AreTextsIn model names entries → IsIndexOf model (set.from_list paths) (encoding_of paths entries)
      by_tree None finds are = λ modelled. absurd modelled
      by_tree (Some tree) finds are = λ tree_is.
          ap (encoding_of paths) (are (names_stored tree paths names faults ok (finds tree_is) tree_is))
          ∙ encoding_found tree paths names faults ok (finds tree_is)

  -- an index of more files is no shorter
  pub too_large : AreTooLargeIn model names → IsTreeTooLarge model (set.from_list paths)
  too_large large = by_tree model finds large
    where
      by_tree : (model : Option Snapshot) → FindsIn model (set.from_list paths) names faults →
          AreTooLargeIn model names → IsTreeTooLarge model (set.from_list paths)
      by_tree None finds large = λ modelled. absurd modelled
      by_tree (Some tree) finds large = λ tree_is.
          let entries = texts_at tree names in
          subst (λ bytes. IsLong (Some bytes)) (encoding_found tree paths names faults ok (finds tree_is))
          (at_least (2 ^ 32) (least_length entries) (length (encoding_of paths entries))
          (large (names_stored tree paths names faults ok (finds tree_is) tree_is)) (least_encoded paths entries (texts_sets tree names)))

  -- so the text files of the walk are too large
  pub large_found : AreTooLargeIn model names → AreTooLarge model (set.from_list paths)
  large_found large = by_tree model finds large
    where
      by_tree : (model : Option Snapshot) → FindsIn model (set.from_list paths) names faults →
          AreTooLargeIn model names → AreTooLarge model (set.from_list paths)
      by_tree None finds large = tt
      by_tree (Some tree) finds large = λ tree_is.
          let found_here = finds tree_is in
          subst (λ (entries : List Entry). 2 ^ 32 ≤ least_length entries)
          (sym (ap map'.entries (sym (texts_found tree (set.from_list paths) names faults found_here))
          ∙ entries_in_order (texts_at tree names) (true_T _ (texts_sorted tree names found_here.names_ascend))))
          (large (names_stored tree paths names faults ok found_here tree_is))

-- ---- over any tree

each_string : (entries : List Entry) → AllByRecursion IsString (names_of entries) → AllByRecursion (λ (e : Entry). IsString e.0) entries
each_string [] all = tt
each_string (e ∷ entries) all = (all.0, each_string entries all.1)

built_content : (built : Built) → IsBuilt built → IsContent (set.from_list built.paths) (map'.from_entries built.entries)
built_content built is =
    let read : (name trigrams : List ℕ) → map'.get (map'.from_entries built.entries) name ≡ Some trigrams →
    find bytes_cmp name built.entries ≡ Some trigrams =
    λ name trigrams there. sym (map'.get-from_entries nat_list_cmp_total built.entries name) ∙ there in
    record {
      paths_are = from_list_all IsString built.paths is.each_path;
      names_are = λ name trigrams there. find_all (λ n (t : List ℕ). IsString n) built.entries name trigrams
          (each_string built.entries is.each_name) (read name trigrams there);
      sets_are = λ name trigrams there. find_all (λ (n : List ℕ) t. IsTrigramSet t) built.entries name trigrams is.sets
          (read name trigrams there);
    }

-- what holds of all names holds of those of the entries
member : (P : List ℕ → Type 0) (names : List (List ℕ)) (name : List ℕ) → AllByRecursion P names → is_among names name ≡ true → P name
member P [] name all h = absurd (true≢false (sym h))
member P (one ∷ names) name all h =
    elim (cases_Bool (bytes_eq one name)) [
      | inl here ↦ subst P ((bytes_decides one name).0 here) all.0
      | inr apart ↦ member P names name all.1 (sym (ap (λ b. b || is_among names name) apart) ∙ h)
    ]

pub lies_under : (paths : Paths) (names : List (List ℕ)) (entries : List Entry) →
    AllByRecursion (λ name. is_covered paths name ≡ true) names → HaveNamesOf names entries →
    LieUnder paths (map'.from_entries entries)
lies_under paths names entries covered have = λ name trigrams there.
    find_all (λ n (t : List ℕ). is_covered paths n ≡ true) entries name trigrams (each entries have)
    (sym (map'.get-from_entries nat_list_cmp_total entries name) ∙ there)
  where
    each : (es : List Entry) → HaveNamesOf names es → AllByRecursion (λ (e : Entry). is_covered paths e.0 ≡ true) es
    each [] all = tt
    each (e ∷ es) all = (member (λ n. is_covered paths n ≡ true) names e.0 covered all.0, each es all.1)

pub index_built : (paths : List (List ℕ)) (built : Built) (bytes : List ℕ) → built.paths ≡ paths → IsBuilt built →
    LieUnder (set.from_list paths) (map'.from_entries built.entries) → bytes ≡ encoding_of built.paths built.entries →
    IsIndex (set.from_list paths) bytes
index_built paths built bytes same is under bytes_are = record {
  files = map'.from_entries built.entries;
  content = subst (λ ps. IsContent (set.from_list ps) (map'.from_entries built.entries)) same (built_content built is);
  under = under;
  is = bytes_are ∙ encoding_in_order built.paths built.entries is.paths (sorted_named built.entries is.ascend)
      ∙ ap (λ ps. encoding (set.from_list ps) (map'.from_entries built.entries)) same;
}
