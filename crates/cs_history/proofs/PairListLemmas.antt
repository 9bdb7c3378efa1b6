-- Sets, maps and histories as lists of pairs, which worked examples evaluate.
use Rattle.std.proofs.Common.{◌≡◌, ℕ, Bool, true, false, not, cond, ◌&&◌, List, [], ◌∷◌, ◌++◌, length, map, filter, refl, sym, ap, ◌∙◌, Option, Some, None, nat_eq, nat_le, option_map, filter_map, unwrap_or, bytes_eq}
use Rattle.cs_history.proofs.Common.{nat_list_cmp_total, list_any, find, put, Paths, bytes_cmp, covers, least, is_covered, longest_path, child, lists, last_element, Snapshot, Item, bad, missing, item_at, is_excluded, elements_under, descends, reaches, read_item, found_at, reachable_files, alike, entries_in_order, text_trigrams, limits, Entry, encoding_of, merge_files, files_of_both, Parts, files_read, Update, History, nothing, existing, ◌⊳◌, all_given_paths, paths_of, walked_paths, files_found, kept_at, names_found, files_of, index_of}
use Rattle.std.specs.FinMap as map'
use Rattle.std.specs.FinMap.Entries.{is_sorted-where_key, find-where_key}
use Rattle.cs_tree.specs.PathSet as set
use Rattle.cs_index.specs.Encoding.{encoding}

-- ---- maps

module _ {X : Type 0} where
  -- the pairs in the order of their names
  abbrev pub sorted_pairs : List (List ℕ × X) → List (List ℕ × X)
  sorted_pairs [] = []
  sorted_pairs (e ∷ es) = put bytes_cmp e.0 e.1 (sorted_pairs es)

  pub entries-sorted_pairs : (es : List (List ℕ × X)) → map'.entries (map'.from_entries {R = bytes_cmp} es) ≡ sorted_pairs es
  entries-sorted_pairs [] = entries_in_order [] tt
  entries-sorted_pairs (e ∷ es) = map'.entries-insert nat_list_cmp_total (map'.from_entries es) e.0 e.1
      ∙ ap (put bytes_cmp e.0 e.1) (entries-sorted_pairs es)

  entries-retained : (m : map'.FinMap bytes_cmp X) (p : List ℕ → Bool) → map'.entries (map'.retain_keys m p)
      ≡ filter (λ e. p e.0) (map'.entries m)
  entries-retained m p =
      let kept : List (List ℕ × X) = filter (λ e. p e.0) (map'.entries m) in
      let up = is_sorted-where_key bytes_cmp p (map'.entries m) (map'.entries_sorted m) in
      ap map'.entries (map'.same_map nat_list_cmp_total alike (map'.retain_keys m p) (map'.from_sorted kept) (λ q.
      map'.get-retain_keys m p q (λ x e. ap p (sym (alike q x e)))
      ∙ ap (λ o. cond (p q) o None) (map'.get-entries m q)
      ∙ sym (find-where_key bytes_cmp p q (λ x e. ap p (sym (alike q x e))) (map'.entries m))
      ∙ sym (map'.get-from_sorted bytes_cmp kept q up)))
      ∙ map'.entries-from_sorted bytes_cmp kept up

-- ---- paths

abbrev PathPairs : Type 0
PathPairs = List (List ℕ × Unit {0})

abbrev TreePairs : Type 0
TreePairs = List (List ℕ × Item)

abbrev names_in : {X : Type 0} → List (List ℕ × X) → List (List ℕ)
names_in pairs = map (λ e. e.0) pairs

abbrev least_pairs : PathPairs → PathPairs
least_pairs pairs = filter (λ e. not (list_any (λ other. covers other e.0 && not (bytes_eq other e.0)) (names_in pairs))) pairs

entries-least : (paths : Paths) → map'.entries (least paths) ≡ least_pairs (map'.entries paths)
entries-least paths = entries-retained paths
    (λ path. not (list_any (λ other. covers other path && not (bytes_eq other path)) (set.items paths)))

-- ---- merges

pub entries_merged : (paths : List (List ℕ)) (old newer : List Entry) →
    map'.entries (merge_files (set.from_list paths) (map'.from_entries old) (map'.from_entries newer))
    ≡ sorted_pairs (sorted_pairs newer ++ filter
    (λ e. not (list_any (λ path. covers path e.0) (names_in (sorted_pairs (set.unit_entries paths)))))
    (sorted_pairs old))
entries_merged paths old newer =
    let given : Paths = set.from_list paths in
    let before : map'.FinMap bytes_cmp (List ℕ) = map'.from_entries old in
    let after : map'.FinMap bytes_cmp (List ℕ) = map'.from_entries newer in
    entries-sorted_pairs (map'.entries after ++ map'.entries (map'.retain_keys before (λ name. not (is_covered given name))))
    ∙ ap (λ es. sorted_pairs (map'.entries after ++ es)) (entries-retained before (λ name. not (is_covered given name)))
    ∙ (λ i. sorted_pairs (entries-sorted_pairs newer i
    ++ filter (λ e. not (list_any (λ path. covers path e.0)
    (names_in (entries-sorted_pairs (set.unit_entries paths) i)))) (entries-sorted_pairs old i)))

pub entries_of_both : (files others : List Entry) →
    map'.entries (files_of_both (map'.from_entries files) (map'.from_entries others))
    ≡ sorted_pairs (sorted_pairs files ++ sorted_pairs others)
entries_of_both files others =
    entries-sorted_pairs (map'.entries (map'.from_entries files) ++ map'.entries (map'.from_entries others))
    ∙ (λ i. sorted_pairs (entries-sorted_pairs files i ++ entries-sorted_pairs others i))

-- ---- walks

abbrev item_in : TreePairs → List ℕ → Item
item_in pairs path = unwrap_or (find bytes_cmp path pairs) (bad missing)

abbrev leads_in : TreePairs → List ℕ → List (List ℕ) → Bool
leads_in pairs at [] = true
leads_in pairs at (name ∷ names) =
    not (is_excluded name) && (nat_le (length at) longest_path && (lists (item_in pairs at) name && leads_in pairs (child at name) names))

abbrev reaches_in : TreePairs → List ℕ → List ℕ → Bool
reaches_in pairs path name = covers path name && (not (is_excluded (last_element path)) && leads_in pairs path (elements_under path name))

module _ (tree : Snapshot) where
  item-pairs : (path : List ℕ) → item_at tree path ≡ item_in (map'.entries tree) path
  item-pairs path = ap (λ o. unwrap_or o (bad missing)) (map'.get-entries tree path)

  descends-pairs : (at : List ℕ) (names : List (List ℕ)) → descends tree at names ≡ leads_in (map'.entries tree) at names
  descends-pairs at [] = refl
  descends-pairs at (name ∷ names) = λ i.
      not (is_excluded name) && (nat_le (length at) longest_path
      && (lists (item-pairs at i) name && descends-pairs (child at name) names i))

  reaches-pairs : (path name : List ℕ) → reaches tree path name ≡ reaches_in (map'.entries tree) path name
  reaches-pairs path name = ap (λ b. covers path name && (not (is_excluded (last_element path)) && b))
      (descends-pairs path (elements_under path name))

module _ {X : Type 0} (read : List ℕ → Option X) where
  abbrev found_in : TreePairs → PathPairs → List ℕ → Option X
  found_in pairs paths name =
      cond (list_any (λ path. reaches_in pairs path name) (names_in paths) && nat_le (length name) longest_path)
      (read_item read (item_in pairs name)) None

  abbrev reached_in : TreePairs → PathPairs → List (List ℕ × X)
  reached_in pairs paths = sorted_pairs (filter_map
      (λ name. option_map (λ (x : X). (name, x)) (found_in pairs paths name)) (names_in pairs))

  found-pairs : (tree : Snapshot) (paths : Paths) (name : List ℕ) → found_at read tree paths name
      ≡ found_in (map'.entries tree) (map'.entries paths) name
  found-pairs tree paths name = λ i.
      cond (list_any (λ path. reaches-pairs tree path name i) (set.items paths) && nat_le (length name) longest_path)
      (read_item read (item-pairs tree name i)) None

  reached-pairs : (tree : Snapshot) (paths : Paths) → map'.entries (reachable_files read tree paths)
      ≡ reached_in (map'.entries tree) (map'.entries paths)
  reached-pairs tree paths =
      entries-sorted_pairs (filter_map (λ name. option_map (λ (x : X). (name, x)) (found_at read tree paths name)) (map'.keys tree))
      ∙ (λ i. sorted_pairs (filter_map (λ name. option_map (λ (x : X). (name, x)) (found-pairs tree paths name i)) (map'.keys tree)))

-- ---- histories

-- a job, as pairs of its paths and of its tree
record JobPairs : Type 0 where
  given : PathPairs
  tree : TreePairs

-- the jobs, the newest first, and the parts of the index that they started from
abbrev jobs_of : History → List JobPairs
jobs_of nothing = []
jobs_of (existing bytes parts) = []
jobs_of (update ⊳ before) = record { given = map'.entries update.given; tree = map'.entries update.tree } ∷ jobs_of before

abbrev start_of : History → Option Parts
start_of nothing = None
start_of (existing bytes parts) = Some parts
start_of (update ⊳ before) = start_of before

abbrev given_first : Option Parts → PathPairs
given_first None = []
given_first (Some parts) = sorted_pairs (set.unit_entries parts.paths)

abbrev given_in : Option Parts → List JobPairs → PathPairs
given_in start [] = given_first start
given_in start (pairs ∷ before) = sorted_pairs (given_in start before ++ pairs.given)

abbrev walked_in : Option Parts → JobPairs → List JobPairs → PathPairs
walked_in start pairs before = cond (nat_eq (length pairs.given) 0) (least_pairs (given_in start before)) (least_pairs pairs.given)

given-pairs : (history : History) → map'.entries (all_given_paths history) ≡ given_in (start_of history) (jobs_of history)
given-pairs nothing = entries_in_order [] tt
given-pairs (existing bytes parts) = entries-sorted_pairs (set.unit_entries parts.paths)
given-pairs (update ⊳ before) =
    entries-sorted_pairs (map'.entries (all_given_paths before) ++ map'.entries update.given)
    ∙ ap (λ es. sorted_pairs (es ++ map'.entries update.given)) (given-pairs before)

paths-pairs : (history : History) → map'.entries (paths_of history) ≡ least_pairs (given_in (start_of history) (jobs_of history))
paths-pairs history = entries-least (all_given_paths history) ∙ ap least_pairs (given-pairs history)

walked-pairs : (update : Update) (before : History) → map'.entries (walked_paths update before)
    ≡ walked_in (start_of before) (record { given = map'.entries update.given; tree = map'.entries update.tree })
    (jobs_of before)
walked-pairs update before =
    let old : PathPairs = given_in (start_of before) (jobs_of before) in
    elim (nat_eq (map'.len update.given) 0) as (λ b. map'.entries (cond b (paths_of before) (least update.given))
    ≡ cond b (least_pairs old) (least_pairs (map'.entries update.given))) [
      | true ↦ paths-pairs before
      | false ↦ entries-least update.given
    ]
    ∙ ap (λ n. cond (nat_eq n 0) (least_pairs old) (least_pairs (map'.entries update.given))) (map'.len-entries update.given)

module _ {X : Type 0} (read : List ℕ → Option X) (listed : Parts → List (List ℕ × X)) where
  abbrev decoded : Parts → map'.FinMap bytes_cmp X
  decoded parts = map'.from_entries (listed parts)

  abbrev files_first : Option Parts → List (List ℕ × X)
  files_first None = []
  files_first (Some parts) = sorted_pairs (listed parts)

  abbrev kept_in : Option Parts → List JobPairs → List ℕ → Option X
  kept_in start [] name = find bytes_cmp name (files_first start)
  kept_in start (pairs ∷ before) name =
      cond (list_any (λ path. covers path name) (names_in (walked_in start pairs before)))
      (find bytes_cmp name (reached_in read pairs.tree (walked_in start pairs before))) (kept_in start before name)

  abbrev names_found_in : Option Parts → List JobPairs → List (List ℕ)
  names_found_in start [] = names_in (files_first start)
  names_found_in start (pairs ∷ before) = names_in (reached_in read pairs.tree (walked_in start pairs before))
      ++ names_found_in start before

  abbrev files_in : Option Parts → List JobPairs → List (List ℕ × X)
  files_in start pairs = sorted_pairs (filter_map (λ name. option_map (λ (x : X). (name, x)) (kept_in start pairs name))
      (names_found_in start pairs))

walk-pairs : (update : Update) (before : History) → map'.entries (files_found update before)
    ≡ reached_in (text_trigrams limits) (map'.entries update.tree)
    (walked_in (start_of before) (record { given = map'.entries update.given; tree = map'.entries update.tree })
    (jobs_of before))
walk-pairs update before = reached-pairs (text_trigrams limits) update.tree (walked_paths update before)
    ∙ ap (reached_in (text_trigrams limits) (map'.entries update.tree)) (walked-pairs update before)

kept-pairs : (history : History) (name : List ℕ) → kept_at history name ≡ kept_in (text_trigrams limits) files_read
    (start_of history) (jobs_of history) name
kept-pairs nothing name = refl
kept-pairs (existing bytes parts) name = map'.get-entries (decoded (text_trigrams limits) files_read parts) name
    ∙ ap (find bytes_cmp name) (entries-sorted_pairs (files_read parts))
kept-pairs (update ⊳ before) name =
    let paths : Paths = walked_paths update before in
    λ i. cond (list_any (λ path. covers path name) (names_in (walked-pairs update before i)))
    ((map'.get-entries (files_found update before) name ∙ ap (find bytes_cmp name) (walk-pairs update before)) i)
    (kept-pairs before name i)

names-pairs : (history : History) → names_found history ≡ names_found_in (text_trigrams limits) files_read
    (start_of history) (jobs_of history)
names-pairs nothing = refl
names-pairs (existing bytes parts) = ap names_in (entries-sorted_pairs (files_read parts))
names-pairs (update ⊳ before) = λ i. names_in (walk-pairs update before i) ++ names-pairs before i

files-pairs : (history : History) → map'.entries (files_of history) ≡ files_in (text_trigrams limits) files_read
    (start_of history) (jobs_of history)
files-pairs history =
    entries-sorted_pairs (filter_map (λ name. option_map (λ (x : List ℕ). (name, x)) (kept_at history name)) (names_found history))
    ∙ (λ i. sorted_pairs (filter_map (λ name. option_map (λ (x : List ℕ). (name, x)) (kept-pairs history name i)) (names-pairs history i)))

-- ---- histories from lists

-- a job: the paths that it was given, and the item at each path
pub record Job : Type 0 where
  pub paths : List (List ℕ)
  pub items : List (List ℕ × Item)

abbrev pub update_of : Job → Update
update_of job = record { given = set.from_list job.paths; tree = map'.from_entries job.items }

-- the history of jobs that started from no index, or from one with these parts
abbrev start_with : Option Parts → History
start_with None = nothing
start_with (Some parts) = existing [] parts

abbrev pub history_from : Option Parts → List Job → History
history_from start [] = start_with start
history_from start (job ∷ before) = update_of job ⊳ history_from start before

abbrev pub history_of : List Job → History
history_of jobs = history_from None jobs

abbrev pairs_made : List Job → List JobPairs
pairs_made [] = []
pairs_made (job ∷ before) = record { given = sorted_pairs (set.unit_entries job.paths); tree = sorted_pairs job.items } ∷ pairs_made before

made : (start : Option Parts) (jobs : List Job) → jobs_of (history_from start jobs) ≡ pairs_made jobs
made start [] = none_yet start
  where
    none_yet : (start : Option Parts) → jobs_of (start_with start) ≡ []
    none_yet None = refl
    none_yet (Some parts) = refl
made start (job ∷ before) = λ i. record {
  given = entries-sorted_pairs (set.unit_entries job.paths) i;
  tree =
      entries-sorted_pairs job.items i;
} ∷ made start before i

start_made : (start : Option Parts) (jobs : List Job) → start_of (history_from start jobs) ≡ start
start_made start [] = alone start
  where
    alone : (start : Option Parts) → start_of (start_with start) ≡ start
    alone None = refl
    alone (Some parts) = refl
start_made start (job ∷ before) = start_made start before

module _ (start : Option Parts) where
  -- the paths, the files and the bytes of the index after the jobs
  abbrev pub paths_after : List Job → List (List ℕ)
  paths_after jobs = names_in (least_pairs (given_in start (pairs_made jobs)))

  abbrev pub files_after : List Job → List Entry
  files_after jobs = files_in (text_trigrams limits) files_read start (pairs_made jobs)

  pub paths_computed : (jobs : List Job) → set.items (paths_of (history_from start jobs)) ≡ paths_after jobs
  paths_computed jobs = ap names_in (paths-pairs (history_from start jobs))
      ∙ (λ i. names_in (least_pairs (given_in (start_made start jobs i) (made start jobs i))))

  pub files_computed : (jobs : List Job) → map'.entries (files_of (history_from start jobs)) ≡ files_after jobs
  files_computed jobs = files-pairs (history_from start jobs)
      ∙ (λ i. files_in (text_trigrams limits) files_read (start_made start jobs i) (made start jobs i))

  pub index_computed : (job : Job) (before : List Job) → index_of (history_from start (job ∷ before))
      ≡ Some (encoding_of (paths_after (job ∷ before)) (files_after (job ∷ before)))
  unfolding encoding
  index_computed job before = λ i. Some (encoding_of (paths_computed (job ∷ before) i) (files_computed (job ∷ before) i))
