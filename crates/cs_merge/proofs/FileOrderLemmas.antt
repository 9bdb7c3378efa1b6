-- The order of names and files.
use Rattle.std.proofs.Common.{◌≡◌, ℕ, ◌+◌, true, false, List, [], ◌∷◌, refl, ap, ◌∙◌}
use Rattle.cs_merge.proofs.Common.{bytes_cmp, are_ascending, entries_of, true≢false, and_parts, and_from, nat_list_cmp_total, below_all, is_sorted, AllByRecursion, is_lt, ordering_reverse, Ordering, Less, Equal, Greater, alike, Entry, PostingList, before_trans}
use Rattle.cs_index.proofs.names.ReducedPaths.{tail_up}

-- the name of the file is above a name
abbrev pub Above : List ℕ → Entry → Type 0
Above name file = is_lt (bytes_cmp name file.0) ≡ true

-- each file is above the files before it
abbrev pub Up : List Entry → Type 0
Up [] = Unit {0}
Up (file ∷ files) = AllByRecursion (Above file.0) files × Up files

-- ---- the order of files as that of map entries

above_below : (name : List ℕ) (files : List Entry) → below_all bytes_cmp name files ≡ true → AllByRecursion (Above name) files
above_below name [] h = tt
above_below name (file ∷ files) h =
    let both = and_parts (is_lt (bytes_cmp name file.0)) (below_all bytes_cmp name files) h in
    (both.0, above_below name files both.1)

below_above : (name : List ℕ) (files : List Entry) → AllByRecursion (Above name) files → below_all bytes_cmp name files ≡ true
below_above name [] all = refl
below_above name (file ∷ files) all = and_from (is_lt (bytes_cmp name file.0)) (below_all bytes_cmp name files) all.0
    (below_above name files all.1)

pub up_sorted : (files : List Entry) → is_sorted bytes_cmp files ≡ true → Up files
up_sorted [] h = tt
up_sorted (file ∷ files) h =
    let both = and_parts (below_all bytes_cmp file.0 files) (is_sorted bytes_cmp files) h in
    (above_below file.0 files both.0, up_sorted files both.1)

pub sorted_up : (files : List Entry) → Up files → is_sorted bytes_cmp files ≡ true
sorted_up [] up = refl
sorted_up (file ∷ files) up = and_from (below_all bytes_cmp file.0 files) (is_sorted bytes_cmp files)
    (below_above file.0 files up.0) (sorted_up files up.1)

-- ---- order

-- of two different names one is below the other
pub turned : (a b : List ℕ) → is_lt (bytes_cmp a b) ≡ false → (a ≡ b → ⊥) → is_lt (bytes_cmp b a) ≡ true
turned a b h apart = by_order (bytes_cmp a b) refl h
  where
    by_order : (o : Ordering) → bytes_cmp a b ≡ o → is_lt o ≡ false → is_lt (bytes_cmp b a) ≡ true
    by_order Less e g = absurd (true≢false g)
    by_order Equal e g = absurd (apart (alike a b e))
    by_order Greater e g = ap is_lt (nat_list_cmp_total.antisymm b a ∙ ap ordering_reverse e)

-- ---- ascending names

names_above : (name : List ℕ) (names : List (List ℕ)) → are_ascending (name ∷ names) ≡ true →
    AllByRecursion (λ other. is_lt (bytes_cmp name other) ≡ true) names
names_above name [] h = tt
names_above name (next ∷ names) h =
    let both = and_parts (is_lt (bytes_cmp name next)) (are_ascending (next ∷ names)) h in
    (both.0, over names (names_above next names both.1) both.0)
  where
    over : (others : List (List ℕ)) → AllByRecursion (λ other. is_lt (bytes_cmp next other) ≡ true) others →
        is_lt (bytes_cmp name next) ≡ true → AllByRecursion (λ other. is_lt (bytes_cmp name other) ≡ true) others
    over [] all g = tt
    over (other ∷ others) all g = (before_trans name next other g all.0, over others all.1 g)

pub each_named : (P : List ℕ → Type 0) (first : ℕ) (names : List (List ℕ)) (lists : List PostingList) →
    AllByRecursion P names → AllByRecursion (λ (file : Entry). P file.0) (entries_of first names lists)
each_named P first [] lists all = tt
each_named P first (name ∷ names) lists all = (all.0, each_named P (first + 1) names lists all.1)

pub up_named : (first : ℕ) (names : List (List ℕ)) (lists : List PostingList) → are_ascending names ≡ true →
    Up (entries_of first names lists)
up_named first [] lists h = tt
up_named first (name ∷ names) lists h = (
  each_named (λ other. is_lt (bytes_cmp name other) ≡ true) (first + 1) names
      lists (names_above name names h),
  up_named (first + 1) names lists (tail_up name names h),
)

-- names in order ascend
pub names_up : (first : ℕ) (names : List (List ℕ)) (lists : List PostingList) → Up (entries_of first names lists) →
    are_ascending names ≡ true
names_up first [] lists up = refl
names_up first (name ∷ []) lists up = refl
names_up first (name ∷ next ∷ names) lists up = and_from (is_lt (bytes_cmp name next)) (are_ascending (next ∷ names))
    up.0.0 (names_up (first + 1) (next ∷ names) lists up.1)
