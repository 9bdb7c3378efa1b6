-- The items of a tree in memory, and its snapshot.
use Rattle.std.proofs.Common.{◌≡◌, ℕ, zero, suc, ◌+◌, ◌<◌, ◌≤◌, Bool, true, false, not, cond, List, [], ◌∷◌, ◌++◌, length, map, set, take, drop, add-one, get_or, refl, sym, ap, subst, ◌∙◌, inl, inr, Option, Some, None, Ok, arith, length-take}
use Rattle.cs_tree.specs.Folders.{ListsElements, IsTree}
use Rattle.cs_tree.specs.NameOrder.{bytes_cmp}
use Rattle.cs_tree.specs.Transfers.{ReadGives}
use Rattle.std.proofs.lemmas.Bool.{true≢false, ltb-true, ltb-false, or_cases, or_left, or_right}
use Rattle.std.proofs.lemmas.List.{map-append, drop-drop, drop_at}
use Rattle.std.proofs.lemmas.Str.{IsUtf8-string_bytes}
use Rattle.std.specs.declared.alloc.Global.{Global}
use Rattle.std.specs.Path.{slash}
use Rattle.std.specs.Prelude.{string_bytes, nat_lt, slice_get, option_map, filter, unwrap_or, option_and_then, IsUtf8, IsSome, String, ◌↔◌, bytes_eq}
use Rattle.std.specs.Cmp.{both_ways as same_tests}
use Rattle.std.specs.Cmp.Lexicographic.{bytes_decides, nat_list_cmp_total}
use Rattle.std.specs.List.{position_or_len, list_any, AllByRecursion}
use Rattle.std.specs.Ordering.{eq_by_cmp}
use Rattle.std.specs.FinMap.{find, get, insert, from_entries, get-from_entries, get-insert, get-empty, empty, from_entries_push, same_map}
use Rattle.cs_tree.specs.Snapshot.{Snapshot, Item, item_at, folder, bad, missing}
use Rattle.cs_fakes.specs.Changes.{is_folder, without_listed_names, left_without, is_removed_with}
use Rattle.cs_fakes.specs.MemTrees.{snapshot_of, pair_of, item_of, left_of, left_at}
use Rattle.cs_fakes.specs.MemItems.{entry_index, unlisted_pair}
use Rattle.cs_tree.specs.StreamModels.{SourceModel, ends, fails}
use Rattle.cs_tree.specs.Trees.{TreeReadGives}
use Rattle.cs_fakes.specs.declared.types.Names.{Names}
use Rattle.cs_fakes.specs.declared.types.MemEntry.{MemEntry}
use Rattle.cs_fakes.specs.declared.types.MemItem.{MemItem}
use Rattle.cs_fakes.specs.declared.types.MemItem.TheVariants.{Folder, File, Cut, Other, Denied}
use Rattle.cs_tree.proofs.PathSetLemmas.{alike, tied_is, tied_same}

pub tied-same : (p q : List ℕ) → eq_by_cmp bytes_cmp p q ≡ bytes_eq q p
tied-same p q =
    same_tests _ _ (λ h. (bytes_decides q p).1 (sym (tied_is p q h)))
    (λ h. subst (λ x. eq_by_cmp bytes_cmp p x ≡ true) (sym ((bytes_decides q p).0 h)) (tied_same p))

pub get-snapshot_of : (items : List MemEntry) (path : List ℕ) → get (snapshot_of items) path ≡ find bytes_cmp path (map pair_of items)
unfolding snapshot_of
get-snapshot_of items path = get-from_entries nat_list_cmp_total (map pair_of items) path

-- ---- the index of a path

abbrev at_path : List ℕ → MemEntry → Bool
at_path path entry = bytes_eq (string_bytes entry.path) path

-- the number of items before that of the path
abbrev before : List ℕ → List MemEntry → ℕ
before path [] = 0
before path (x ∷ items) = cond (at_path path x) 0 (suc (before path items))

before_is : (path : List ℕ) (items : List MemEntry) → position_or_len (at_path path) items ≡ before path items
before_is path [] = refl
before_is path (x ∷ items) = by_test (at_path path x) (before_is path items)
  where
    by_test : (b : Bool) → position_or_len (at_path path) items ≡ before path items →
        cond (not b) (1 + position_or_len (at_path path) items) 0 ≡ cond b 0 (suc (before path items))
    by_test true e = refl
    by_test false e = omega (arith, e)

pub record FoundAt (path : List ℕ) (items : List MemEntry) (i : ℕ) : Type 0 where
  pub is : before path items ≡ i
  pub within : before path items < length items

pub found_some : (items : List MemEntry) (path : List ℕ) (i : ℕ) → entry_index items path ≡ Some i → FoundAt path items i
found_some items path i h = by_test (nat_lt (before path items) (length items)) refl
    (sym (ap (λ n. cond (nat_lt n (length items)) (Some n) None) (before_is path items)) ∙ h)
  where
    by_test : (b : Bool) → nat_lt (before path items) (length items) ≡ b → cond b (Some (before path items)) None
        ≡ Some i → FoundAt path items i
    by_test true e f = record { is = cc f; within = ltb-true (before path items) (length items) e }
    by_test false e f = cc f

find_past : (path : List ℕ) (items : List MemEntry) → length items ≤ before path items → find bytes_cmp path (map pair_of items) ≡ None
find_past path [] h = refl
find_past path (x ∷ items) h = by_test (at_path path x) refl (find_past path items) h
  where
    by_test : (b : Bool) → at_path path x ≡ b →
        (length items ≤ before path items → find bytes_cmp path (map pair_of items) ≡ None) → length (x ∷ items)
        ≤ cond b 0 (suc (before path items)) → cond (eq_by_cmp bytes_cmp path (string_bytes x.path))
        (Some (item_of x.item)) (find bytes_cmp path (map pair_of items)) ≡ None
    by_test true e rest l = absurd (omega (arith, l))
    by_test false e rest l = ap (λ b. cond b (Some (item_of x.item)) (find bytes_cmp path (map pair_of items)))
        (tied-same path (string_bytes x.path) ∙ e) ∙ rest (omega (arith, l))

pub found_none : (items : List MemEntry) (path : List ℕ) → entry_index items path ≡ None → find bytes_cmp path (map pair_of items) ≡ None
found_none items path h = by_test (nat_lt (before path items) (length items)) refl
    (sym (ap (λ n. cond (nat_lt n (length items)) (Some n) None) (before_is path items)) ∙ h)
  where
    by_test : (b : Bool) → nat_lt (before path items) (length items) ≡ b → cond b (Some (before path items)) None
        ≡ None → find bytes_cmp path (map pair_of items) ≡ None
    by_test true e f = cc f
    by_test false e f = find_past path items (ltb-false (before path items) (length items) e)

-- the item at a path is the first one with it
find_first : (path : List ℕ) (items : List MemEntry) (d : MemEntry) → before path items < length items →
    find bytes_cmp path (map pair_of items) ≡ Some (item_of (get_or items (before path items) d).item)
find_first path [] d h = absurd (omega (arith, h))
find_first path (x ∷ items) d h = by_test (at_path path x) refl (λ later. find_first path items d later) h
  where
    by_test : (b : Bool) → at_path path x ≡ b →
        (before path items < length items → find bytes_cmp path (map pair_of items)
        ≡ Some (item_of (get_or items (before path items) d).item)) → cond b 0 (suc (before path items))
        < length (x ∷ items) → cond (eq_by_cmp bytes_cmp path (string_bytes x.path)) (Some (item_of x.item))
        (find bytes_cmp path (map pair_of items))
        ≡ Some (item_of (get_or (x ∷ items) (cond b 0 (suc (before path items))) d).item)
    by_test true e rest l = ap (λ b. cond b (Some (item_of x.item)) (find bytes_cmp path (map pair_of items)))
        (tied-same path (string_bytes x.path) ∙ e)
    by_test false e rest l = ap (λ b. cond b (Some (item_of x.item)) (find bytes_cmp path (map pair_of items)))
        (tied-same path (string_bytes x.path) ∙ e) ∙ rest (omega (arith, l))

path_first : (path : List ℕ) (items : List MemEntry) (d : MemEntry) → before path items < length items →
    string_bytes (get_or items (before path items) d).path ≡ path
path_first path [] d h = absurd (omega (arith, h))
path_first path (x ∷ items) d h = by_test (at_path path x) refl (λ later. path_first path items d later) h
  where
    by_test : (b : Bool) → at_path path x ≡ b →
        (before path items < length items → string_bytes (get_or items (before path items) d).path ≡ path) →
        cond b 0 (suc (before path items)) < length (x ∷ items) →
        string_bytes (get_or (x ∷ items) (cond b 0 (suc (before path items))) d).path ≡ path
    by_test true e rest l = (bytes_decides (string_bytes x.path) path).0 e
    by_test false e rest l = rest (omega (arith, l))

pub get_found : (items : List MemEntry) (path : List ℕ) (i : ℕ) (d : MemEntry) → entry_index items path ≡ Some i →
    get (snapshot_of items) path ≡ Some (item_of (get_or items i d).item)
get_found items path i d h = let at = found_some items path i h in get-snapshot_of items path
    ∙ find_first path items d at.within ∙ ap (λ n. Some (item_of (get_or items n d).item)) at.is

pub item_found_at : (items : List MemEntry) (path : List ℕ) (i : ℕ) (d : MemEntry) → entry_index items path ≡ Some i →
    item_at (snapshot_of items) path ≡ item_of (get_or items i d).item
item_found_at items path i d h = ap (λ o. unwrap_or o (bad missing)) (get_found items path i d h)

pub path_found : (items : List MemEntry) (path : List ℕ) (i : ℕ) (d : MemEntry) → entry_index items path ≡ Some i →
    string_bytes (get_or items i d).path ≡ path
path_found items path i d h = let at = found_some items path i h in
    sym (ap (λ n. string_bytes (get_or items n d).path) at.is) ∙ path_first path items d at.within

pub get_missing : (items : List MemEntry) (path : List ℕ) → entry_index items path ≡ None → get (snapshot_of items) path ≡ None
get_missing items path h = get-snapshot_of items path ∙ found_none items path h

-- ---- changes

-- another item in place of the first one with a path
find_set : (path : List ℕ) (items : List MemEntry) (new : MemEntry) (q : List ℕ) → string_bytes new.path ≡ path →
    before path items < length items → find bytes_cmp q (map pair_of (set items (before path items) new))
    ≡ cond (eq_by_cmp bytes_cmp q path) (Some (item_of new.item)) (find bytes_cmp q (map pair_of items))
find_set path [] new q e h = absurd (omega (arith, h))
find_set path (x ∷ items) new q e h = by_test (at_path path x) refl (λ later. find_set path items new q e later) h
  where
    -- the tests of the path and of the item, for an item at another path
    apart : (s t : Bool) → eq_by_cmp bytes_cmp q path ≡ s → eq_by_cmp bytes_cmp q (string_bytes x.path) ≡ t →
        at_path path x ≡ false → cond t (Some (item_of x.item))
        (cond s (Some (item_of new.item)) (find bytes_cmp q (map pair_of items))) ≡ cond s (Some (item_of new.item))
        (cond t (Some (item_of x.item)) (find bytes_cmp q (map pair_of items)))
    apart true true f g other = absurd (true≢false
        (sym ((bytes_decides (string_bytes x.path) path).1 (sym (tied_is q (string_bytes x.path) g) ∙ tied_is q path f))
        ∙ other))
    apart true false f g other = refl
    apart false true f g other = refl
    apart false false f g other = refl

    at_it : (s : Bool) → cond s (Some (item_of new.item)) (find bytes_cmp q (map pair_of items))
        ≡ cond s (Some (item_of new.item)) (cond s (Some (item_of x.item)) (find bytes_cmp q (map pair_of items)))
    at_it true = refl
    at_it false = refl

    by_test : (b : Bool) → at_path path x ≡ b →
        (before path items < length items → find bytes_cmp q (map pair_of (set items (before path items) new))
        ≡ cond (eq_by_cmp bytes_cmp q path) (Some (item_of new.item)) (find bytes_cmp q (map pair_of items))) →
        cond b 0 (suc (before path items)) < length (x ∷ items) →
        find bytes_cmp q (map pair_of (set (x ∷ items) (cond b 0 (suc (before path items))) new))
        ≡ cond (eq_by_cmp bytes_cmp q path) (Some (item_of new.item))
        (cond (eq_by_cmp bytes_cmp q (string_bytes x.path)) (Some (item_of x.item))
        (find bytes_cmp q (map pair_of items)))
    by_test true f rest l =
        ap (λ p. cond (eq_by_cmp bytes_cmp q p) (Some (item_of new.item)) (find bytes_cmp q (map pair_of items))) e
        ∙ at_it (eq_by_cmp bytes_cmp q path)
        ∙ ap (λ p. cond (eq_by_cmp bytes_cmp q path) (Some (item_of new.item))
        (cond (eq_by_cmp bytes_cmp q p) (Some (item_of x.item)) (find bytes_cmp q (map pair_of items))))
        (sym ((bytes_decides (string_bytes x.path) path).0 f))
    by_test false f rest l =
        ap (λ o. cond (eq_by_cmp bytes_cmp q (string_bytes x.path)) (Some (item_of x.item)) o) (rest (omega (arith, l)))
        ∙ apart (eq_by_cmp bytes_cmp q path) (eq_by_cmp bytes_cmp q (string_bytes x.path)) refl refl f

pub set_found : (items : List MemEntry) (path : List ℕ) (i : ℕ) (new : MemEntry) → entry_index items path ≡ Some i →
    string_bytes new.path ≡ path → snapshot_of (set items i new) ≡ insert (snapshot_of items) path (item_of new.item)
set_found items path i new h e =
    let at = found_some items path i h in
    same_map nat_list_cmp_total alike _ _ (λ q.
    get-snapshot_of (set items i new) q
    ∙ ap (λ n. find bytes_cmp q (map pair_of (set items n new))) (sym at.is)
    ∙ find_set path items new q e at.within
    ∙ ap (λ o. cond (eq_by_cmp bytes_cmp q path) (Some (item_of new.item)) o) (sym (get-snapshot_of items q))
    ∙ sym (get-insert nat_list_cmp_total (snapshot_of items) path (item_of new.item) q))

-- the same item with other capacities
pub set_alike : (items : List MemEntry) (path : List ℕ) (i : ℕ) (new d : MemEntry) → entry_index items path ≡ Some i →
    string_bytes new.path ≡ path → item_of new.item ≡ item_of (get_or items i d).item → snapshot_of (set items i new)
    ≡ snapshot_of items
set_alike items path i new d h e is =
    set_found items path i new h e
    ∙ same_map nat_list_cmp_total alike _ _ (λ q.
    get-insert nat_list_cmp_total (snapshot_of items) path (item_of new.item) q ∙ by_test q (eq_by_cmp bytes_cmp q path) refl)
  where
    by_test : (q : List ℕ) (b : Bool) → eq_by_cmp bytes_cmp q path ≡ b →
        cond b (Some (item_of new.item)) (get (snapshot_of items) q) ≡ get (snapshot_of items) q
    by_test q true f = ap Some is ∙ sym (get_found items path i d h) ∙ ap (get (snapshot_of items)) (sym (tied_is q path f))
    by_test q false f = refl

pub push_missing : (items : List MemEntry) (new : MemEntry) → entry_index items (string_bytes new.path) ≡ None →
    snapshot_of (items ++ new ∷ []) ≡ insert (snapshot_of items) (string_bytes new.path) (item_of new.item)
unfolding snapshot_of
push_missing items new h =
    ap (λ es. from_entries {R = bytes_cmp} es) (map-append pair_of items (new ∷ []))
    ∙ from_entries_push nat_list_cmp_total alike (map pair_of items) (string_bytes new.path) (item_of new.item)
    (found_none items (string_bytes new.path) h)

-- ---- folders, and opened files

pub item_missing : (items : List MemEntry) (path : List ℕ) → entry_index items path ≡ None → item_at (snapshot_of items) path ≡ bad missing
item_missing items path h = ap (λ o. unwrap_or o (bad missing)) (get_missing items path h)

pub folder_item : (item : MemItem) → is_folder (item_of item) ≡ true → ((names : Names) → item ≡ Folder names → ⊥) → ⊥
folder_item (Folder names) h apart = apart names refl
folder_item (File bytes) h apart = true≢false (sym h)
folder_item (Cut bytes) h apart = true≢false (sym h)
folder_item Other h apart = true≢false (sym h)
folder_item Denied h apart = true≢false (sym h)

slice_get_is : (items : List MemEntry) (i : ℕ) (d : MemEntry) → i < length items → slice_get items i ≡ Some (get_or items i d)
slice_get_is [] i d h = absurd (omega (arith, h))
slice_get_is (x ∷ xs) zero d h = refl
slice_get_is (x ∷ xs) (suc i) d h = slice_get_is xs i d (omega (arith, h))

pub left_found : (items : List MemEntry) (path : List ℕ) (i consumed : ℕ) (d : MemEntry) → entry_index items path
    ≡ Some i → left_at items consumed (Some i) ≡ left_of consumed (get_or items i d).item
left_found items path i consumed d h =
    let at = found_some items path i h in
    ap (option_and_then (λ (s : MemEntry). left_of consumed s.item))
    (slice_get_is items i d (subst (λ n. n < length items) at.is at.within))

-- ---- each item is changed in turn

step_by : {E : Type 0} (view : MemEntry → E) (f : E → E) (es : List E) (items : List MemEntry) (i : ℕ)
    (new d : MemEntry) → i < length items → map view items ≡ map f (take i es) ++ drop i es → view new
    ≡ f (view (get_or items i d)) → map view (set items i new) ≡ map f (take (suc i) es) ++ drop (suc i) es
step_by view f es [] i new d h e is = absurd (omega (arith, h))
step_by view f [] (x ∷ items) zero new d h e is = absurd (let l : length (map view (x ∷ items)) ≡ 0 = ap length e in omega (arith, l))
step_by view f [] (x ∷ items) (suc i) new d h e is = absurd (let l : length (map view (x ∷ items)) ≡ 0 = ap length e in omega (arith, l))
step_by view f (a ∷ es) (x ∷ items) zero new d h e is =
    let heads : view x ≡ a = cc e in
    let tails : map view items ≡ es = cc e in
    ap (λ b. b ∷ map view items) (is ∙ ap f heads) ∙ ap (λ bs. f a ∷ bs) tails
step_by view f (a ∷ es) (x ∷ items) (suc i) new d h e is =
    let heads : view x ≡ f a = cc e in
    let tails : map view items ≡ map f (take i es) ++ drop i es = cc e in
    ap (λ b. b ∷ map view (set items i new)) heads ∙ ap (λ bs. f a ∷ bs) (step_by view f es items i new d (omega (arith, h)) tails is)

pub changed_more : {E : Type 0} (view : MemEntry → E) (f : E → E) (es : List E) (items : List MemEntry) (i : ℕ)
    (new d : MemEntry) → i < length items → map view items ≡ map f (take i es) ++ drop i es → view new
    ≡ f (view (get_or items i d)) → map view (set items i new) ≡ map f (take (i + 1) es) ++ drop (i + 1) es
changed_more view f es items i new d h e is =
    subst (λ n. map view (set items i new) ≡ map f (take n es) ++ drop n es) (sym (add-one i)) (step_by view f es items i new d h e is)

-- a changed folder does not affect files
slice_left : (items : List MemEntry) (i j consumed : ℕ) (new d : MemEntry) → left_of consumed new.item
    ≡ left_of consumed (get_or items i d).item → option_and_then (λ (s : MemEntry). left_of consumed s.item)
    (slice_get (set items i new) j) ≡ option_and_then (λ (s : MemEntry). left_of consumed s.item) (slice_get items j)
slice_left [] i j consumed new d e = refl
slice_left (x ∷ items) zero zero consumed new d e = e
slice_left (x ∷ items) zero (suc j) consumed new d e = refl
slice_left (x ∷ items) (suc i) zero consumed new d e = refl
slice_left (x ∷ items) (suc i) (suc j) consumed new d e = slice_left items i j consumed new d e

pub files_stay : (items : List MemEntry) (i consumed : ℕ) (opened : Option ℕ) (new d : MemEntry) →
    left_of consumed new.item ≡ left_of consumed (get_or items i d).item → left_at (set items i new) consumed opened
    ≡ left_at items consumed opened
files_stay items i consumed None new d e = refl
files_stay items i consumed (Some j) new d e = slice_left items i j consumed new d e

-- ---- each folder's names

all_text : (names : List (String Global)) → AllByRecursion IsUtf8 (map string_bytes names)
all_text [] = tt
all_text (name ∷ names) = (IsUtf8-string_bytes name, all_text names)

item_names : (item : MemItem) → ListsElements (item_of item)
item_names (Folder names) = (names.named, all_text names.list.items)
item_names (File bytes) = tt
item_names (Cut bytes) = tt
item_names Other = tt
item_names Denied = tt

found_names : (items : List MemEntry) (path : List ℕ) → ListsElements (unwrap_or (find bytes_cmp path (map pair_of items)) (bad missing))
found_names [] path = tt
found_names (x ∷ items) path = by_test (eq_by_cmp bytes_cmp path (string_bytes x.path)) (found_names items path)
  where
    by_test : (b : Bool) → ListsElements (unwrap_or (find bytes_cmp path (map pair_of items)) (bad missing)) →
        ListsElements (unwrap_or (cond b (Some (item_of x.item)) (find bytes_cmp path (map pair_of items)))
        (bad missing))
    by_test true rest = item_names x.item
    by_test false rest = rest

pub items_are_modelled : (items : List MemEntry) → IsTree (snapshot_of items)
items_are_modelled items path = subst (λ o. ListsElements (unwrap_or o (bad missing)))
    (sym (get-snapshot_of items path)) (found_names items path)

-- ---- a tree with the root alone

pub root_alone : (items : List MemEntry) (root : MemEntry) → items ≡ root ∷ [] → string_bytes root.path ≡ slash ∷ [] →
    item_of root.item ≡ folder [] false → snapshot_of items ≡ insert empty (slash ∷ []) (folder [] false)
root_alone items root e path item =
    same_map nat_list_cmp_total alike _ _ (λ q.
    get-snapshot_of items q
    ∙ ap (λ xs. find bytes_cmp q (map pair_of xs)) e
    ∙ ap (λ p. cond (eq_by_cmp bytes_cmp q p) (Some (item_of root.item)) None) path
    ∙ ap (λ it. cond (eq_by_cmp bytes_cmp q (slash ∷ [])) (Some it) None) item
    ∙ ap (λ o. cond (eq_by_cmp bytes_cmp q (slash ∷ [])) (Some (folder [] false)) o) (sym (get-empty bytes_cmp q))
    ∙ sym (get-insert nat_list_cmp_total empty (slash ∷ []) (folder [] false) q))

pub root_pushed : (items old : List MemEntry) (root : MemEntry) → items ≡ old ++ root ∷ [] → old ≡ [] →
    string_bytes root.path ≡ slash ∷ [] → item_of root.item ≡ folder [] false → snapshot_of items
    ≡ insert empty (slash ∷ []) (folder [] false)
root_pushed items old root e none path item = root_alone items root (e ∙ ap (λ xs. xs ++ root ∷ []) none) path item

-- ---- the rest of a file after a read

-- the bytes after those that were read
bytes_on : (bytes prefix rest : List ℕ) (consumed n : ℕ) → drop consumed bytes ≡ prefix ++ rest → length prefix ≡ n →
    drop (consumed + n) bytes ≡ rest
bytes_on bytes prefix rest consumed n e l = sym (drop-drop n consumed bytes) ∙ ap (drop n) e ∙ drop_at prefix rest n l

item_on : (item : MemItem) (prefix : List ℕ) (model rest : SourceModel) (consumed n : ℕ) → left_of consumed item
    ≡ Some model → model.bytes ≡ prefix ++ rest.bytes → model.ending ≡ rest.ending → length prefix ≡ n →
    left_of (consumed + n) item ≡ Some rest
item_on (Folder names) prefix model rest consumed n e bytes ending l = cc e
item_on (File content) prefix model rest consumed n e bytes ending l =
    let was : record { bytes = drop consumed content.items; ending = ends } ≡ model = cc e in
    let left = bytes_on content.items prefix rest.bytes consumed n (ap (λ (t : SourceModel). t.bytes) was ∙ bytes) l in
    let still : ends ≡ rest.ending = ap (λ (t : SourceModel). t.ending) was ∙ ending in
    ap (λ bs. Some (record { bytes = bs; ending = ends })) left ∙ ap (λ x. Some (record { bytes = rest.bytes; ending = x })) still
item_on (Cut content) prefix model rest consumed n e bytes ending l =
    let was : record { bytes = drop consumed content.items; ending = fails } ≡ model = cc e in
    let left = bytes_on content.items prefix rest.bytes consumed n (ap (λ (t : SourceModel). t.bytes) was ∙ bytes) l in
    let still : fails ≡ rest.ending = ap (λ (t : SourceModel). t.ending) was ∙ ending in
    ap (λ bs. Some (record { bytes = bs; ending = fails })) left ∙ ap (λ x. Some (record { bytes = rest.bytes; ending = x })) still
item_on Other prefix model rest consumed n e bytes ending l = cc e
item_on Denied prefix model rest consumed n e bytes ending l = cc e

left_on : (items : List MemEntry) (opened : Option ℕ) (prefix : List ℕ) (model rest : SourceModel) (consumed n : ℕ) →
    left_at items consumed opened ≡ Some model → model.bytes ≡ prefix ++ rest.bytes → model.ending ≡ rest.ending →
    length prefix ≡ n → left_at items (consumed + n) opened ≡ Some rest
left_on items None prefix model rest consumed n e bytes ending l = cc e
left_on items (Some i) prefix model rest consumed n e bytes ending l = by_item (slice_get items i) e
  where
    by_item : (o : Option MemEntry) → option_and_then (λ (s : MemEntry). left_of consumed s.item) o ≡ Some model →
        option_and_then (λ (s : MemEntry). left_of (consumed + n) s.item) o ≡ Some rest
    by_item None f = cc f
    by_item (Some s) f = item_on s.item prefix model rest consumed n f bytes ending l

-- a read of the open file
pub reads_on : (tree : Snapshot) (items : List MemEntry) (opened : Option ℕ) (model rest : SourceModel) (consumed n : ℕ)
    (buf : List ℕ) → left_at items consumed opened ≡ Some model → n ≤ length buf → ReadGives (Some model) (Some rest)
    (Ok n) buf → TreeReadGives (Some tree) (left_at items consumed opened) (left_at items (consumed + n) opened) (Ok n)
    buf
reads_on tree items opened model rest consumed n buf e bound h =
    let later = left_on items opened (take n buf) model rest consumed n e h.0.0 h.0.1 (omega (arith, length-take n buf)) in
    subst (λ o. TreeReadGives (Some tree) o (left_at items (consumed + n) opened) (Ok n) buf) (sym e)
    (subst (λ o. TreeReadGives (Some tree) (Some model) o (Ok n) buf) (sym later) h)

-- ---- what is removed with a path

module _ (test : List ℕ → Bool) where
  -- items removed by their paths
  find-dropped : (items : List MemEntry) (q : List ℕ) →
      find bytes_cmp q (map pair_of (filter (λ s. not (test (string_bytes s.path))) items))
      ≡ cond (test q) None (find bytes_cmp q (map pair_of items))
  find-dropped [] q = none_either (test q)
    where
      none_either : (b : Bool) → find bytes_cmp q (map pair_of []) ≡ cond b None (find bytes_cmp q (map pair_of []))
      none_either true = refl
      none_either false = refl
  find-dropped (x ∷ items) q = by_tests (test (string_bytes x.path)) (eq_by_cmp bytes_cmp q (string_bytes x.path)) refl
      refl (find-dropped items q)
    where
      rest : List MemEntry
      rest = filter (λ s. not (test (string_bytes s.path))) items

      at_it : (b : Bool) → test (string_bytes x.path) ≡ b → q ≡ string_bytes x.path → test q ≡ b
      at_it b e f = ap test f ∙ e

      by_tests : (b t : Bool) → test (string_bytes x.path) ≡ b → eq_by_cmp bytes_cmp q (string_bytes x.path) ≡ t →
          find bytes_cmp q (map pair_of rest) ≡ cond (test q) None (find bytes_cmp q (map pair_of items)) →
          find bytes_cmp q (map pair_of (cond (not b) (x ∷ rest) rest))
          ≡ cond (test q) None (cond t (Some (item_of x.item)) (find bytes_cmp q (map pair_of items)))
      by_tests true true e f later = later ∙ ap (λ c. cond c None (find bytes_cmp q (map pair_of items)))
          (at_it true e (tied_is q (string_bytes x.path) f)) ∙ ap (λ c. cond c None (Some (item_of x.item)))
          (sym (at_it true e (tied_is q (string_bytes x.path) f)))
      by_tests true false e f later = later
      by_tests false true e f later = ap (λ c. cond c (Some (item_of x.item)) (find bytes_cmp q (map pair_of rest))) f
          ∙ ap (λ c. cond c None (Some (item_of x.item))) (sym (at_it false e (tied_is q (string_bytes x.path) f)))
      by_tests false false e f later = ap (λ c. cond c (Some (item_of x.item)) (find bytes_cmp q (map pair_of rest))) f ∙ later

  -- some item is removed exactly if some item of the snapshot satisfies the test
  pub any_found : (items : List MemEntry) → (list_any (λ s. test (string_bytes s.path)) items ≡ true) ↔
      ((q : List ℕ) × (test q ≡ true) × IsSome (find bytes_cmp q (map pair_of items)))
  any_found items = (some_item items, item_found items)
    where
      some_found : (o : Option Item) → (x : Item) → o ≡ Some x → IsSome o
      some_found o x e = subst IsSome (sym e) refl

      onward : (x : MemEntry) (items : List MemEntry) (q : List ℕ) → IsSome (find bytes_cmp q (map pair_of items)) →
          (b : Bool) → IsSome (cond b (Some (item_of x.item)) (find bytes_cmp q (map pair_of items)))
      onward x items q h true = refl
      onward x items q h false = h

      some_item : (items : List MemEntry) → list_any (λ s. test (string_bytes s.path)) items ≡ true →
          (q : List ℕ) × (test q ≡ true) × IsSome (find bytes_cmp q (map pair_of items))
      some_item [] h = absurd (true≢false (sym h))
      some_item (x ∷ items) h = elim (or_cases (test (string_bytes x.path)) _ h) [
        | inl here ↦ (
          string_bytes x.path,
          here,
          some_found (find bytes_cmp (string_bytes x.path) (map pair_of (x ∷ items))) (item_of x.item)
              (ap (λ b. cond b (Some (item_of x.item)) (find bytes_cmp (string_bytes x.path) (map pair_of items)))
              (tied_same (string_bytes x.path))),
        )
        | inr later ↦ let found = some_item items later in
            (found.0, found.1, onward x items found.0 found.2 (eq_by_cmp bytes_cmp found.0 (string_bytes x.path)))
      ]

      item_found : (items : List MemEntry) → (q : List ℕ) × (test q ≡ true) × IsSome
          (find bytes_cmp q (map pair_of items)) → list_any (λ s. test (string_bytes s.path)) items ≡ true
      item_found [] h = absurd (true≢false (sym h.2))
      item_found (x ∷ items) h = by_test (eq_by_cmp bytes_cmp h.0 (string_bytes x.path)) refl h.2
          (λ later. item_found items (h.0, h.1, later))
        where
          by_test : (b : Bool) → eq_by_cmp bytes_cmp h.0 (string_bytes x.path) ≡ b →
              IsSome (cond b (Some (item_of x.item)) (find bytes_cmp h.0 (map pair_of items))) →
              (IsSome (find bytes_cmp h.0 (map pair_of items)) → list_any (λ s. test (string_bytes s.path)) items
              ≡ true) → list_any (λ s. test (string_bytes s.path)) (x ∷ items) ≡ true
          by_test true e some rest = or_left (test (string_bytes x.path)) _ (ap test (sym (tied_is h.0 (string_bytes x.path) e)) ∙ h.1)
          by_test false e some rest = or_right (test (string_bytes x.path)) _ (rest some)

-- items changed by their paths
find-changed : (f : List ℕ → Item → Item) (es : List (List ℕ × Item)) (q : List ℕ) →
    find bytes_cmp q (map (λ (e : List ℕ × Item). (e.0, f e.0 e.1)) es) ≡ option_map (f q) (find bytes_cmp q es)
find-changed f [] q = refl
find-changed f (e ∷ es) q = by_test (eq_by_cmp bytes_cmp q e.0) refl (find-changed f es q)
  where
    by_test : (b : Bool) → eq_by_cmp bytes_cmp q e.0 ≡ b →
        find bytes_cmp q (map (λ (e' : List ℕ × Item). (e'.0, f e'.0 e'.1)) es) ≡ option_map (f q) (find bytes_cmp q es)
        → cond b (Some (f e.0 e.1)) (find bytes_cmp q (map (λ (e' : List ℕ × Item). (e'.0, f e'.0 e'.1)) es))
        ≡ option_map (f q) (cond b (Some e.1) (find bytes_cmp q es))
    by_test true h rest = ap (λ p. Some (f p e.1)) (sym (tied_is q e.0 h))
    by_test false h rest = rest

pub left_items : (path : List ℕ) (items kept later : List MemEntry) (q : List ℕ) →
    kept ≡ filter (λ s. not (is_removed_with path (string_bytes s.path))) items → map pair_of later
    ≡ map (unlisted_pair path) (map pair_of kept) → get (snapshot_of later) q ≡ left_without (snapshot_of items) path q
left_items path items kept later q e f =
    get-snapshot_of later q ∙ ap (find bytes_cmp q) f
    ∙ find-changed (without_listed_names path) (map pair_of kept) q
    ∙ ap (λ xs. option_map (without_listed_names path q) (find bytes_cmp q (map pair_of xs))) e
    ∙ ap (option_map (without_listed_names path q)) (find-dropped (is_removed_with path) items q)
    ∙ none_or_some (is_removed_with path q)
    ∙ ap (λ o. cond (is_removed_with path q) None (option_map (without_listed_names path q) o)) (sym (get-snapshot_of items q))
  where
    none_or_some : (b : Bool) → option_map (without_listed_names path q)
        (cond b None (find bytes_cmp q (map pair_of items)))
        ≡ cond b None (option_map (without_listed_names path q) (find bytes_cmp q (map pair_of items)))
    none_or_some true = refl
    none_or_some false = refl
