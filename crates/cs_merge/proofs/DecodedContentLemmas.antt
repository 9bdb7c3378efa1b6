-- What bytes decode as.
use Rattle.std.proofs.Common.{◌≡◌, ℕ, zero, suc, ◌+◌, ◌<◌, ◌^◌, Bool, true, false, cond, List, [], ◌∷◌, length, map, take, drop, get_or, refl, sym, ap, subst, ◌∙◌, inl, inr, ◌⊎◌, Some, arith, T, is_some, filter, bytes_eq}
use Rattle.cs_merge.proofs.Common.{Paths, bytes_cmp, damage, read_ids, set_at, entries_of, has, Ascends, IsTrigramSet, true≢false, cases_Bool, and_parts, AllByRecursion, list_all, nat_list_cmp_total, eq_by_cmp, is_sorted, find, tied_is, same_set, entries_in_order, Files, Entry, PostingList, ListEntry, three_bytes, IsString, names_tail, decoding_is_unique, Parts, ids_read, whole_ids, lists_in, files_read, paths_in, files_in, IsContent, DecodesAsContent, ascends_tail, names_entries, contains-from_list, true_from_T}
use Rattle.cs_index.specs.WholeLists.{IsList}
use Rattle.std.specs.FinMap as map'
use Rattle.cs_tree.specs.PathSet as set
use Rattle.cs_index.specs.Encoding.{encoding}
use Rattle.cs_index.specs.Decoding.{IsEntry}
use Rattle.cs_index.specs.Roundtrip.{parts_written}
use Rattle.cs_index.proofs.encoding.EncodingOpens.{encoding_has}
use Rattle.cs_index.proofs.encoding.EncodingDecodes.{encoding_decodes}
use Rattle.cs_merge.proofs.ReadIdsLemmas.{read_posting}
use Rattle.cs_merge.proofs.ContentLemmas.{each_of_map, content_indexable, ascending_sets}
use Rattle.cs_merge.proofs.FileOrderLemmas.{names_up, sorted_up, up_named, up_sorted}

-- ---- maps and sets made from lists

pub find_all : {X : Type 0} (P : List ℕ → X → Type 0) (es : List (List ℕ × X)) (name : List ℕ) (x : X) →
    AllByRecursion (λ (e : List ℕ × X). P e.0 e.1) es → find bytes_cmp name es ≡ Some x → P name x
find_all {X} P [] name x all h = cc
find_all {X} P (e ∷ es) name x all h =
    elim (cases_Bool (eq_by_cmp bytes_cmp name e.0)) [
      | inl here ↦
          let is : e.1 ≡ x = same_some e.1 x (sym (ap (λ t. cond t (Some e.1) (find bytes_cmp name es)) here) ∙ h) in
          subst (P name) is (subst (λ n. P n e.1) (sym (tied_is name e.0 here)) all.0)
      | inr apart ↦ find_all P es name x all.1 (sym (ap (λ t. cond t (Some e.1) (find bytes_cmp name es)) apart) ∙ h)
    ]
  where
    same_some : (y z : X) → Some y ≡ Some z → y ≡ z
    same_some y z e = cc

-- a member of a set made from a list is in the list
pub from_list_all : (P : List ℕ → Type 0) (paths : List (List ℕ)) → AllByRecursion P paths → (path : List ℕ) →
    set.contains (set.from_list paths) path ≡ true → P path
from_list_all P paths all path member = among paths all
    (ap is_some (sym (map'.get-from_entries nat_list_cmp_total (set.unit_entries paths) path)) ∙ member)
  where
    among : (ps : List (List ℕ)) → AllByRecursion P ps → is_some (find bytes_cmp path (set.unit_entries ps)) ≡ true → P path
    among [] all h = absurd (true≢false (sym h))
    among (p ∷ ps) all h =
        elim (cases_Bool (eq_by_cmp bytes_cmp path p)) [
          | inl here ↦ subst P (sym (tied_is path p here)) all.0
          | inr apart ↦ among ps all.1 (sym (ap (λ t. is_some (cond t (Some tt) (find bytes_cmp path (set.unit_entries ps)))) apart) ∙ h)
        ]

-- a set is made from its items, and a map from its entries
pub set_of_items : (paths : Paths) → paths ≡ set.from_list (set.items paths)
set_of_items paths = same_set paths (set.from_list (set.items paths)) (λ q.
    map'.contains_key-keys paths q
    ∙ sym (contains-from_list (set.items paths) q))

pub map_of_entries : (files : Files) → files ≡ map'.from_entries (map'.entries files)
map_of_entries files = map'.same_entries_map files (map'.from_entries (map'.entries files))
    (sym (entries_in_order (map'.entries files) (map'.entries_sorted files)))

-- ---- an encoding decodes as its content

pub content_decodes : (paths : Paths) (files : Files) → IsContent paths files → length (encoding paths files) < 2 ^ 32 →
    DecodesAsContent (encoding paths files) paths files
unfolding encoding
content_decodes paths files content short =
    let es : List Entry = map'.entries files in
    let parts : Parts = parts_written (set.items paths) es in
    let is = content_indexable paths files content short in
    let index = encoding_has (set.items paths) es is in
    let back : files_read parts ≡ es = index.has_files (ascending_sets files content.sets_are) in
    record {
      parts = parts;
      decodes = encoding_decodes (set.items paths) es is;
      has = record {
        paths_are = ap set.from_list index.has_paths ∙ sym (set_of_items paths);
        files_are = ap map'.from_entries back ∙ sym (map_of_entries files);
        ascend = names_up 0 parts.names (lists_in parts)
            (up_sorted (files_read parts) (ap (is_sorted bytes_cmp) back
            ∙ true_from_T (is_sorted bytes_cmp es) (map'.entries_sorted files)));
        whole = index.whole;
      };
    }

-- ---- bytes decode as one content

pub decoded_once : (bytes : List ℕ) (p q : Paths) (f g : Files) → DecodesAsContent bytes p f →
    DecodesAsContent bytes q g → (p ≡ q) × (f ≡ g)
decoded_once bytes p q f g a b =
    let once = decoding_is_unique bytes a.parts b.parts a.decodes b.decodes in
    (sym a.has.paths_are ∙ ap paths_in once ∙ b.has.paths_are, sym a.has.files_are ∙ ap files_in once ∙ b.has.files_are)

-- ---- what bytes decode as is valid content

-- a trigram that some file may have
abbrev pub Fits : PostingList → Type 0
Fits p = (p.0 < 16777215) ⊎ (p.1 ≡ [])

no_ids : (section ids : List ℕ) (name_count : ℕ) (e : ListEntry) → e.count ≡ 0 → IsList section name_count e ids → ids ≡ []
no_ids section ids name_count e none h = by_count e.count none (ap (λ r. r.ids) h)
  where
    by_count : (count : ℕ) → count ≡ 0 → (cond (bytes_eq (take 3 (drop e.offset section)) (three_bytes e.trigram))
        (read_ids name_count count 0 (drop (e.offset + 3) section)) damage).ids ≡ ids → ids ≡ []
    by_count zero z h = sym h ∙ elim (bytes_eq (take 3 (drop e.offset section)) (three_bytes e.trigram)) as
        (λ t. (cond t (read_ids name_count 0 0 (drop (e.offset + 3) section)) damage).ids ≡ [])
        [ true ↦ refl | false ↦ refl ]
    by_count (suc count) z h = absurd (omega (arith, z))

all_fit : (section : List ℕ) (parts : Parts) (es : List ListEntry) → AllByRecursion (IsEntry section) es →
    list_all (λ (e : ListEntry). (ids_read parts e).whole) es ≡ true → AllByRecursion Fits (map (read_posting parts) es)
all_fit section parts [] is all = tt
all_fit section parts (e ∷ es) is all =
    let both = and_parts ((ids_read parts e).whole) (list_all (λ (d : ListEntry). (ids_read parts d).whole) es) all in
    let ids : (ids_read parts e).ids ≡ whole_ids (ids_read parts e) = sym (ap (λ b. cond b (ids_read parts e).ids []) both.0) in (
      elim is.0.trigram [
        | inl below ↦ inl below
        | inr closing ↦ inr (no_ids parts.postings (whole_ids (ids_read parts e)) (length parts.names) e closing.1
            (λ i. record { ids = ids i; whole = both.0 i }))
      ],
      all_fit section parts es is.1 both.1,
    )

same_trigrams : (parts : Parts) (es : List ListEntry) → map (λ (e : ListEntry). e.trigram) es
    ≡ map (λ (p : PostingList). p.0) (map (read_posting parts) es)
same_trigrams parts [] = refl
same_trigrams parts (e ∷ es) = ap (λ rest. e.trigram ∷ rest) (same_trigrams parts es)

pub set_fits : (id : ℕ) (ps : List PostingList) → AllByRecursion Fits ps → AllByRecursion (λ g. g < 16777215) (set_at id ps)
set_fits id [] all = tt
set_fits id (p ∷ ps) all = by_test (has p.1 id) refl (set_fits id ps all.1)
  where
    by_test : (t : Bool) → has p.1 id ≡ t → AllByRecursion (λ g. g < 16777215) (set_at id ps) →
        AllByRecursion (λ g. g < 16777215) (map (λ (q : PostingList). q.0)
        (cond t (p ∷ filter (λ (q : PostingList). has q.1 id) ps) (filter (λ (q : PostingList). has q.1 id) ps)))
    by_test true e rest = (elim all.0 [ inl below ↦ below | inr none ↦ absurd (true≢false (sym e ∙ ap (λ ids. has ids id) none)) ], rest)
    by_test false e rest = rest

-- ---- ascending lists

ascends_from : (n : ℕ) (ms : List ℕ) → AllByRecursion (λ m. n < m) ms → Ascends ms → Ascends (n ∷ ms)
ascends_from n [] above up = tt
ascends_from n (m ∷ ms) above up = (above.0, up)

set_above : (n id : ℕ) (ps : List PostingList) → AllByRecursion (λ m. n < m) (map (λ (p : PostingList). p.0) ps) →
    AllByRecursion (λ m. n < m) (set_at id ps)
set_above n id [] above = tt
set_above n id (p ∷ ps) above =
    elim (has p.1 id) as (λ t. AllByRecursion (λ m. n < m)
    (map (λ (q : PostingList). q.0) (cond t (p ∷ filter (λ (q : PostingList). has q.1 id) ps)
    (filter (λ (q : PostingList). has q.1 id) ps)))) [
      | true ↦ (above.0, set_above n id ps above.1)
      | false ↦ set_above n id ps above.1
    ]

-- all numbers after the first of an ascending list are greater
all_above : (n : ℕ) (ms : List ℕ) → Ascends (n ∷ ms) → AllByRecursion (λ m. n < m) ms
all_above n [] up = tt
all_above n (m ∷ ms) up = (up.0, all_above n ms (skip ms up.0 up.1))
  where
    skip : (ks : List ℕ) → n < m → Ascends (m ∷ ks) → Ascends (n ∷ ks)
    skip [] h up = tt
    skip (k ∷ ks) h up = (let g = up.0 in omega (arith, h, g), up.1)

pub set_ascends : (id : ℕ) (ps : List PostingList) → Ascends (map (λ (p : PostingList). p.0) ps) → Ascends (set_at id ps)
set_ascends id [] up = tt
set_ascends id (p ∷ ps) up =
    let rest = set_ascends id ps (ascends_tail p.0 (map (λ (q : PostingList). q.0) ps) up) in
    elim (has p.1 id) as (λ t. Ascends (map (λ (q : PostingList). q.0)
    (cond t (p ∷ filter (λ (q : PostingList). has q.1 id) ps) (filter (λ (q : PostingList). has q.1 id) ps)))) [
      | true ↦ ascends_from p.0 (set_at id ps) (set_above p.0 id ps (all_above p.0 (map (λ (q : PostingList). q.0) ps) up)) rest
      | false ↦ rest
    ]

-- ---- files

pub all_files : (P : List ℕ → Type 0) (Q : List ℕ → Type 0) (first : ℕ) (names : List (List ℕ)) (ps : List PostingList)
    → AllByRecursion P names → ((id : ℕ) → Q (set_at id ps)) → AllByRecursion (λ (e : Entry). P e.0 × Q e.1)
    (entries_of first names ps)
all_files P Q first [] ps all sets = tt
all_files P Q first (name ∷ names) ps all sets = ((all.0, sets first), all_files P Q (first + 1) names ps all.1 sets)

pub decoded_content : (bytes : List ℕ) (paths : Paths) (files : Files) → DecodesAsContent bytes paths files → IsContent paths files
decoded_content bytes paths files h =
    let names : List (List ℕ) = h.parts.names in
    let lists : List PostingList = lists_in h.parts in
    let decodes = h.decodes in
    let fit = all_fit decodes.sections.postings h.parts h.parts.entries decodes.list_index_is.0 h.has.whole in
    let up : Ascends (map (λ (p : PostingList). p.0) lists) = subst Ascends (same_trigrams h.parts h.parts.entries)
    decodes.list_index_is.1 in
    let all = all_files IsString IsTrigramSet 0 names lists
    (names_tail decodes.sections.names names decodes.names_are).1.0
    (λ id. (set_ascends id lists up, set_fits id lists fit)) in
    let each : (name trigrams : List ℕ) → map'.get files name ≡ Some trigrams → IsString name × IsTrigramSet trigrams =
    λ name trigrams there. find_all (λ (n : List ℕ) (t : List ℕ). IsString n × IsTrigramSet t)
    (entries_of 0 names lists) name trigrams all
    (sym (map'.get-from_entries nat_list_cmp_total (entries_of 0 names lists) name)
    ∙ ap (λ m. map'.get m name) h.has.files_are ∙ there) in
    record {
      paths_are = λ path member. from_list_all IsString h.parts.paths decodes.paths_are.0 path
          (ap (λ s. set.contains s path) h.has.paths_are ∙ member);
      names_are = λ name trigrams there. (each name trigrams there).0;
      sets_are = λ name trigrams there. (each name trigrams there).1;
    }

decoded_entries : (bytes : List ℕ) (paths : Paths) (files : Files) (h : DecodesAsContent bytes paths files) →
    map'.entries files ≡ files_read h.parts
decoded_entries bytes paths files h = ap map'.entries (sym h.has.files_are)
    ∙ entries_in_order (files_read h.parts) (subst T
    (sym (sorted_up (files_read h.parts) (up_named 0 h.parts.names (lists_in h.parts) h.has.ascend))) tt)

pub decoded_names : (bytes : List ℕ) (paths : Paths) (files : Files) (h : DecodesAsContent bytes paths files) →
    map'.keys files ≡ h.parts.names
decoded_names bytes paths files h = ap (map (λ (e : Entry). e.0)) (decoded_entries bytes paths files h)
    ∙ names_entries 0 h.parts.names (lists_in h.parts)

-- what holds for each entry holds for the name and the set of an id
at_id : (P : List ℕ → List ℕ → Type 0) (first : ℕ) (names : List (List ℕ)) (ps : List PostingList) (k : ℕ) (d : List ℕ)
    → AllByRecursion (λ (e : Entry). P e.0 e.1) (entries_of first names ps) → k < length names →
    P (get_or names k d) (set_at (first + k) ps)
at_id P first [] ps k d all within = absurd (omega (arith, within))
at_id P first (name ∷ names) ps zero d all within = subst (λ n. P name (set_at n ps)) (let e : first ≡ first + 0 = omega arith in e) all.0
at_id P first (name ∷ names) ps (suc k) d all within = subst (λ n. P (get_or names k d) (set_at n ps))
    (let e : first + 1 + k ≡ first + suc k = omega arith in e)
    (at_id P (first + 1) names ps k d all.1 (omega (arith, within)))

pub decoded_set : (bytes : List ℕ) (paths : Paths) (files : Files) (h : DecodesAsContent bytes paths files) (id : ℕ)
    (d : List ℕ) → id < length h.parts.names → map'.get files (get_or h.parts.names id d)
    ≡ Some (set_at id (lists_in h.parts))
decoded_set bytes paths files h id d within =
    let P = λ (name : List ℕ) (trigrams : List ℕ). map'.get files name ≡ Some trigrams in
    let all = subst (AllByRecursion (λ (e : Entry). P e.0 e.1)) (decoded_entries bytes paths files h)
    (each_of_map P files (λ name trigrams there. there)) in
    subst (λ n. map'.get files (get_or h.parts.names id d) ≡ Some (set_at n (lists_in h.parts)))
    (let e : 0 + id ≡ id = omega arith in e) (at_id P 0 h.parts.names (lists_in h.parts) id d all within)
