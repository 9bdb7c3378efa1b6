-- The entries that are taken of a folder are those that a search of it lists or enters.
use Rattle.std.specs.Prelude.{bytes_eq, Option, Some, None, option_map, filter_map, nat_le}
use Rattle.std.specs.List.{AllByRecursion, list_all, cons_option}
use Rattle.std.proofs.Common.{◌≡◌, refl, ℕ, Bool, true, false, not, ◌&&◌, ◌||◌, if◌then◌else◌, List, [], ◌∷◌, ◌++◌, reverse, length, sym, ap, subst, ◌∙◌, inl, inr}
use Rattle.std.proofs.lemmas.Bool.{true≢false, false_from_ne_true, and_parts, or_cases, or_left, or_right, leb-true}
use Rattle.std.specs.Cmp.Lexicographic.{bytes_decides}
use Rattle.cs_tree.specs.Snapshot.{Item, folder, file, cut, other, bad}
use Rattle.cs_tree.specs.Elements.{is_among, is_element}
use Rattle.cs_tree.specs.Folders.{lists, names_listed}
use Rattle.cs_tree.specs.Clean.{path_of, with_slashes, longest_path}
use Rattle.cs_tree.specs.Walks.{is_file}
use Rattle.cs_tree.specs.declared.tree.Kind.{Kind}
use Rattle.cs_tree.specs.declared.tree.Kind.TheVariants as kind
use Rattle.cs_listing.specs.Layers.{is_left_out}
use Rattle.cs_listing.specs.Models.{folders_in, names_in, settings_of}
use Rattle.cs_listing.specs.Listing.{Settings, TreeItems, has_more, is_listed, is_reached, is_taken, leaves_out, folders_to, down}
use Rattle.cs_listing.specs.FolderReads.{key_of, kind_of_item, kind_at, taken_as, out_by, keys_taken}
use Rattle.cs_listing.specs.Entries.{AreKeysOf}
use Rattle.cs_listing.specs.Unreadable.{is_folder}
use Rattle.cs_listing.specs.Walk.{IsKeyOf, comes_by}
use Rattle.cs_listing.specs.declared.layers.Layers.{Layers}
use Rattle.cs_listing.proofs.KeyLemmas.{same_eq, apart_eq, keys_apart, key_is_none, folder_key}
use Rattle.cs_listing.proofs.WalkLemmas.{AreAll, reverse_cons}

-- ---- lists

pub all_from : (P : List ℕ → Type 0) (names : List (List ℕ)) → ((name : List ℕ) → is_among names name ≡ true → P name) →
    AllByRecursion P names
all_from P [] each = tt
all_from P (x ∷ names) each =
    (each x (or_left (bytes_eq x x) _ (same_eq x)), all_from P names (λ name there. each name (or_right (bytes_eq x name) _ there)))

pub one_of : (test : List ℕ → Bool) (names : List (List ℕ)) (name : List ℕ) → list_all test names ≡ true →
    is_among names name ≡ true → test name ≡ true
one_of test [] name all there = absurd (true≢false (sym there))
one_of test (x ∷ names) name all there =
    let parts = and_parts (test x) (list_all test names) all in
    elim (or_cases (bytes_eq x name) _ there) [
      | inl here ↦ subst (λ n. test n ≡ true) ((bytes_decides x name).0 here) parts.0
      | inr more ↦ one_of test names name parts.1 more
    ]

-- what a mapping gives comes from one of the names
given_by : (give : List ℕ → Option (List ℕ)) (names : List (List ℕ)) (key : List ℕ) → is_among (filter_map give names) key ≡ true →
    (name : List ℕ) × (is_among names name ≡ true) × (give name ≡ Some key)
given_by give [] key there = absurd (true≢false (sym there))
given_by give (x ∷ names) key there =
    by_first (λ rest. let found = given_by give names key rest in (found.0, or_right (bytes_eq x found.0) _ found.1, found.2)) (give x) refl there
  where
    by_first : (is_among (filter_map give names) key ≡ true → (name : List ℕ) × (is_among (x ∷ names) name ≡ true) × (give name ≡ Some key)) →
        (o : Option (List ℕ)) → give x ≡ o → is_among (cons_option o (filter_map give names)) key ≡ true →
        (name : List ℕ) × (is_among (x ∷ names) name ≡ true) × (give name ≡ Some key)
    by_first more None is rest = more rest
    by_first more (Some y) is rest = elim (or_cases (bytes_eq y key) _ rest) [
      | inl here ↦ (x, or_left (bytes_eq x x) _ (same_eq x), is ∙ ap (λ k. Some k) ((bytes_decides y key).0 here))
      | inr later ↦ more later
    ]

-- ---- the keys of the entries that are taken

-- whether an entry is taken as a folder, or as a file
abbrev is_as : Bool → Option Bool → Bool
is_as is_folder None = false
is_as true (Some taken) = taken
is_as false (Some taken) = not taken

abbrev keyed : (List ℕ → Option Bool) → List ℕ → Option (List ℕ)
keyed how name = option_map (λ is_folder. key_of is_folder name) (how name)

and_false : (a : Bool) → (a && false) ≡ false
and_false true = refl
and_false false = refl

-- the key of an entry that is taken as a folder, or as a file
by_kind : (is_folder taken : Bool) (name : List ℕ) (there others : Bool) → is_element name ≡ true →
    others ≡ (there && is_as is_folder (Some taken)) →
    (bytes_eq (key_of taken name) (key_of is_folder name) || others) ≡ is_as is_folder (Some taken)
by_kind true true name there others good is = ap (λ b. b || others) (same_eq (key_of true name))
by_kind false false name there others good is = ap (λ b. b || others) (same_eq name)
by_kind true false name there others good is =
    ap (λ b. b || others) (apart_eq name (key_of true name) (λ same. key_is_none name (sym same))) ∙ is ∙ and_false there
by_kind false true name there others good is =
    ap (λ b. b || others) (apart_eq (key_of true name) name (key_is_none name)) ∙ is ∙ and_false there

key_there : (how : List ℕ → Option Bool) (names : List (List ℕ)) (is_folder : Bool) (name : List ℕ) → list_all is_element names ≡ true →
    is_element name ≡ true → is_among (filter_map (keyed how) names) (key_of is_folder name) ≡ (is_among names name && is_as is_folder (how name))
key_there how [] is_folder name all good = refl
key_there how (x ∷ names) is_folder name all good =
    let parts = and_parts (is_element x) (list_all is_element names) all in
    let rest = key_there how names is_folder name parts.1 good in
    by_name rest (bytes_eq x name) refl (how x) refl
  where
    by_name : is_among (filter_map (keyed how) names) (key_of is_folder name) ≡ (is_among names name && is_as is_folder (how name)) →
        (same : Bool) → bytes_eq x name ≡ same → (o : Option Bool) → how x ≡ o →
        is_among (cons_option (keyed how x) (filter_map (keyed how) names)) (key_of is_folder name)
        ≡ ((bytes_eq x name || is_among names name) && is_as is_folder (how name))
    by_name rest true is None at =
        ap (λ o. is_among (cons_option (option_map (λ f. key_of f x) o) (filter_map (keyed how) names)) (key_of is_folder name)) at
        ∙ rest
        ∙ ap (λ o. is_among names name && is_as is_folder o) (ap how (sym ((bytes_decides x name).0 is)) ∙ at)
        ∙ and_false (is_among names name)
        ∙ sym (ap (λ o. (bytes_eq x name || is_among names name) && is_as is_folder o) (ap how (sym ((bytes_decides x name).0 is)) ∙ at)
        ∙ and_false (bytes_eq x name || is_among names name))
    by_name rest false is None at =
        ap (λ o. is_among (cons_option (option_map (λ f. key_of f x) o) (filter_map (keyed how) names)) (key_of is_folder name)) at
        ∙ rest ∙ sym (ap (λ b. (b || is_among names name) && is_as is_folder (how name)) is)
    by_name rest true is (Some taken) at =
        ap (λ o. is_among (cons_option (option_map (λ f. key_of f x) o) (filter_map (keyed how) names)) (key_of is_folder name)) at
        ∙ ap (λ n. bytes_eq (key_of taken n) (key_of is_folder name) || is_among (filter_map (keyed how) names) (key_of is_folder name))
        ((bytes_decides x name).0 is)
        ∙ by_kind is_folder taken name (is_among names name) (is_among (filter_map (keyed how) names) (key_of is_folder name)) good
        (rest ∙ ap (λ o. is_among names name && is_as is_folder o) (ap how (sym ((bytes_decides x name).0 is)) ∙ at))
        ∙ sym (ap (λ o. (bytes_eq x name || is_among names name) && is_as is_folder o) (ap how (sym ((bytes_decides x name).0 is)) ∙ at)
        ∙ ap (λ b. (b || is_among names name) && is_as is_folder (Some taken)) is)
    by_name rest false is (Some taken) at =
        ap (λ o. is_among (cons_option (option_map (λ f. key_of f x) o) (filter_map (keyed how) names)) (key_of is_folder name)) at
        ∙ ap (λ b. b || is_among (filter_map (keyed how) names) (key_of is_folder name))
        (apart_eq (key_of taken x) (key_of is_folder name) (λ same.
        true≢false (sym (subst (λ n. bytes_eq x n ≡ true)
        (keys_apart taken is_folder x name (and_parts (is_element x) (list_all is_element names) all).0 good same).0 (same_eq x)) ∙ is)))
        ∙ rest ∙ sym (ap (λ b. (b || is_among names name) && is_as is_folder (how name)) is)

-- ---- a folder that is listed

-- whether what is at a path is a folder, or a file
abbrev kind_is : Bool → Option Kind → Bool
kind_is is_folder None = false
kind_is true (Some kind.Folder) = true
kind_is false (Some kind.File) = true
kind_is is_folder (Some seen) = false

taken_is : (out : Bool → Bool) (is_folder : Bool) (seen : Option Kind) →
    is_as is_folder (taken_as out seen) ≡ (kind_is is_folder seen && not (out is_folder))
taken_is out is_folder None = refl
taken_is out true (Some kind.Folder) = elim (out true) as (λ b. is_as true (if b then None else Some true) ≡ not b) [ true ↦ refl | false ↦ refl ]
taken_is out false (Some kind.Folder) = elim (out true) as (λ b. is_as false (if b then None else Some true) ≡ false) [ true ↦ refl | false ↦ refl ]
taken_is out true (Some kind.File) = elim (out false) as (λ b. is_as true (if b then None else Some false) ≡ false) [ true ↦ refl | false ↦ refl ]
taken_is out false (Some kind.File) = elim (out false) as (λ b. is_as false (if b then None else Some false) ≡ not b) [ true ↦ refl | false ↦ refl ]
taken_is out true (Some kind.Other) = refl
taken_is out false (Some kind.Other) = refl

kind_within : (items : TreeItems) (path : List ℕ) (is_folder : Bool) →
    kind_is is_folder (kind_at items path) ≡ (nat_le (length path) longest_path && kind_is is_folder (kind_of_item (items path)))
kind_within items path is_folder = elim (nat_le (length path) longest_path) as (λ b. kind_is is_folder (if b then kind_of_item (items path) else None)
    ≡ (b && kind_is is_folder (kind_of_item (items path)))) [ true ↦ refl | false ↦ refl ]

kind_file : (item : Item) → kind_is false (kind_of_item item) ≡ is_file item
kind_file (folder names unnamed) = refl
kind_file (file bytes) = refl
kind_file (cut bytes) = refl
kind_file other = refl
kind_file (bad fault) = refl

kind_folder : (item : Item) (name : List ℕ) → lists item name ≡ true → kind_is true (kind_of_item item) ≡ true
kind_folder (folder names unnamed) name there = refl
kind_folder (file bytes) name there = absurd (true≢false (sym there))
kind_folder (cut bytes) name there = absurd (true≢false (sym there))
kind_folder other name there = absurd (true≢false (sym there))
kind_folder (bad fault) name there = absurd (true≢false (sym there))

is_kind : (item : Item) → kind_is true (kind_of_item item) ≡ is_folder item
is_kind (folder names unnamed) = refl
is_kind (file bytes) = refl
is_kind (cut bytes) = refl
is_kind other = refl
is_kind (bad fault) = refl

moved : (there short kind kept : Bool) → (there && ((short && kind) && kept)) ≡ (((there && short) && kept) && kind)
moved false short kind kept = refl
moved true false kind kept = refl
moved true true true true = refl
moved true true true false = refl
moved true true false true = refl
moved true true false false = refl

turned : (there short kind kept reached found : Bool) → (reached ≡ true → found ≡ true → kind ≡ true) →
    ((there && ((short && kind) && kept)) && (reached && found)) ≡ ((((there && short) && kept) && reached) && found)
turned false short kind kept reached found is = refl
turned true false kind kept reached found is = refl
turned true true true true reached found is = refl
turned true true true false reached found is = refl
turned true true false false reached found is = refl
turned true true false true false found is = refl
turned true true false true true false is = refl
turned true true false true true true is = absurd (true≢false (sym (is refl refl)))

-- what is reached below an entry is below a folder, and the entry itself is a file if it is found
entered : (settings : Settings) (items : TreeItems) (above : List (List ℕ)) (name : List ℕ) (path : List (List ℕ)) →
    is_reached settings items (name ∷ above) path ≡ true → is_file (items (path_of (down (name ∷ above) path))) ≡ true →
    kind_is (has_more path) (kind_of_item (items (path_of (name ∷ above)))) ≡ true
entered settings items above name [] reached found = kind_file (items (path_of (name ∷ above))) ∙ found
entered settings items above name (first ∷ path) reached found =
    let at = items (path_of (name ∷ above)) in
    let short = nat_le (length (path_of (first ∷ (name ∷ above)))) longest_path in
    let out = leaves_out settings items (has_more path) (name ∷ above) first in
    kind_folder at first
    (and_parts (lists at first) short
    (and_parts (lists at first && short) (not out)
    (and_parts (is_taken settings items (has_more path) (name ∷ above) first) (is_reached settings items (first ∷ (name ∷ above)) path) reached).0).0).0

module _ (layers : Layers) (items : TreeItems) (above names : List (List ℕ))
    (rules : folders_in layers ≡ folders_to (settings_of layers).takes_ignored items above) (place : names_in layers ≡ reverse above)
    (listed : names ≡ names_listed (items (path_of above))) (good : list_all is_element names ≡ true) where
  abbrev how : List ℕ → Option Bool
  how name = taken_as (out_by layers name) (kind_at items (path_of (name ∷ above)))

  pub out_is : (is_folder : Bool) (name : List ℕ) → out_by layers name is_folder ≡ leaves_out (settings_of layers) items is_folder above name
  out_is is_folder name =
      ap (λ folders. is_left_out (settings_of layers) is_folder folders (names_in layers ++ name ∷ [])) rules
      ∙ ap (λ path. is_left_out (settings_of layers) is_folder (folders_to (settings_of layers).takes_ignored items above) path)
      (ap (λ path. path ++ name ∷ []) place ∙ sym (reverse_cons name above))

  how_is : (is_folder : Bool) (name : List ℕ) → is_as is_folder (how name)
      ≡ ((nat_le (length (path_of (name ∷ above))) longest_path && kind_is is_folder (kind_of_item (items (path_of (name ∷ above)))))
      && not (leaves_out (settings_of layers) items is_folder above name))
  how_is is_folder name =
      taken_is (out_by layers name) is_folder (kind_at items (path_of (name ∷ above)))
      ∙ ap (λ b. b && not (out_by layers name is_folder)) (kind_within items (path_of (name ∷ above)) is_folder)
      ∙ ap (λ b. (nat_le (length (path_of (name ∷ above))) longest_path && kind_is is_folder (kind_of_item (items (path_of (name ∷ above))))) && not b)
      (out_is is_folder name)

  module _ (keys : List (List ℕ)) (same : AreKeysOf keys (keys_taken layers items (with_slashes above) names)) where
    pub all_taken : AreAll (settings_of layers) items above keys
    all_taken name path = by_element (is_element name) refl
      where
        by_element : (fine : Bool) → is_element name ≡ fine →
            comes_by (settings_of layers) items above keys (name ∷ path) ≡ is_listed (settings_of layers) items above (name ∷ path)
        by_element false is =
            let short = nat_le (length (path_of (name ∷ above))) longest_path in
            let out = leaves_out (settings_of layers) items (has_more path) above name in
            let reached = is_reached (settings_of layers) items (name ∷ above) path in
            let found = is_file (items (path_of (down (name ∷ above) path))) in
            ap (λ b. b && (is_among keys (key_of (has_more path) name) && (reached && found))) is
            ∙ sym (ap (λ b. (((b && short) && not out) && reached) && found)
            (sym (ap (λ ns. is_among ns name) listed)
            ∙ false_from_ne_true _ (λ there. true≢false (sym (one_of is_element names name good there) ∙ is))))
        by_element true is =
            let at = kind_is (has_more path) (kind_of_item (items (path_of (name ∷ above)))) in
            let short = nat_le (length (path_of (name ∷ above))) longest_path in
            let out = leaves_out (settings_of layers) items (has_more path) above name in
            let reached = is_reached (settings_of layers) items (name ∷ above) path in
            let found = is_file (items (path_of (down (name ∷ above) path))) in
            ap (λ b. b && (is_among keys (key_of (has_more path) name) && (reached && found))) is
            ∙ ap (λ b. b && (reached && found))
            (same (key_of (has_more path) name)
            ∙ key_there how names (has_more path) name good is
            ∙ ap (λ b. is_among names name && b) (how_is (has_more path) name))
            ∙ turned (is_among names name) short at (not out) reached found (entered (settings_of layers) items above name path)
            ∙ ap (λ b. (((b && short) && not out) && reached) && found) (ap (λ ns. is_among ns name) listed)

    taken_key : (key name : List ℕ) (taken : Option Bool) → how name ≡ taken → is_among names name ≡ true →
        option_map (λ is_folder. key_of is_folder name) taken ≡ Some key → IsKeyOf items above key
    taken_key key name None is there gives = cc
    taken_key key name (Some is_folder) is there gives =
        let at = kind_is is_folder (kind_of_item (items (path_of (name ∷ above)))) in
        let short = nat_le (length (path_of (name ∷ above))) longest_path in
        let out = leaves_out (settings_of layers) items is_folder above name in
        let whole : ((short && at) && not out) ≡ true = sym (how_is is_folder name) ∙ ap (is_as is_folder) is ∙ as_itself is_folder in
        let parts = and_parts short at (and_parts (short && at) (not out) whole).0 in (
          name,
          is_folder,
          same_key gives,
          one_of is_element names name good there,
          leb-true (length (path_of (name ∷ above))) longest_path parts.0,
          λ file. sym (kind_file (items (path_of (name ∷ above)))) ∙ subst (λ f. kind_is f (kind_of_item (items (path_of (name ∷ above)))) ≡ true) file parts.1,
        )
      where
        as_itself : (is_folder : Bool) → is_as is_folder (Some is_folder) ≡ true
        as_itself true = refl
        as_itself false = refl

        same_key : Some (key_of is_folder name) ≡ Some key → key ≡ key_of is_folder name
        same_key e = cc

    pub taken_keys : AllByRecursion (IsKeyOf items above) keys
    taken_keys = all_from (IsKeyOf items above) keys (λ key there.
        let found = given_by (keyed how) names key (sym (same key) ∙ there) in
        taken_key key found.0 (how found.0) refl found.1 found.2)

    -- the folders among them are those that a search opens
    pub folder_taken : (name : List ℕ) → is_among keys (key_of true name)
        ≡ (is_taken (settings_of layers) items true above name && is_folder (items (path_of (name ∷ above))))
    folder_taken name = by_element (is_element name) refl
      where
        none_there : is_element name ≡ false → (one : List ℕ) → is_among names one ≡ true → (taken : Option Bool) → how one ≡ taken →
            option_map (λ is_folder. key_of is_folder one) taken ≡ Some (key_of true name) → ⊥
        none_there is one there None at gives = cc
        none_there is one there (Some f) at gives =
            let same : key_of f one ≡ key_of true name = cc in
            true≢false (sym (subst (λ n. is_element n ≡ true)
            (folder_key f one name (one_of is_element names one good there) same) (one_of is_element names one good there)) ∙ is)

        by_element : (fine : Bool) → is_element name ≡ fine → is_among keys (key_of true name)
            ≡ (is_taken (settings_of layers) items true above name && is_folder (items (path_of (name ∷ above))))
        by_element true is =
            same (key_of true name)
            ∙ key_there how names true name good is
            ∙ ap (λ b. is_among names name && b) (how_is true name)
            ∙ moved (is_among names name) (nat_le (length (path_of (name ∷ above))) longest_path)
            (kind_is true (kind_of_item (items (path_of (name ∷ above))))) (not (leaves_out (settings_of layers) items true above name))
            ∙ ap (λ b. ((is_among names name && nat_le (length (path_of (name ∷ above))) longest_path)
            && not (leaves_out (settings_of layers) items true above name)) && b) (is_kind (items (path_of (name ∷ above))))
            ∙ ap (λ b. ((b && nat_le (length (path_of (name ∷ above))) longest_path)
            && not (leaves_out (settings_of layers) items true above name)) && is_folder (items (path_of (name ∷ above))))
            (ap (λ ns. is_among ns name) listed)
        by_element false is =
            false_from_ne_true _ (λ there.
            let found = given_by (keyed how) names (key_of true name) (sym (same (key_of true name)) ∙ there) in
            none_there is found.0 found.1 (how found.0) refl found.2)
            ∙ sym (ap (λ b. ((b && nat_le (length (path_of (name ∷ above))) longest_path)
            && not (leaves_out (settings_of layers) items true above name)) && is_folder (items (path_of (name ∷ above))))
            (sym (ap (λ ns. is_among ns name) listed)
            ∙ false_from_ne_true _ (λ there. true≢false (sym (one_of is_element names name good there) ∙ is))))
