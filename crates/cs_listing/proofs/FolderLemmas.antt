-- Reading a folder: its rule files, and one entry after the other.
use Rattle.std.specs.Prelude.{Option, Some, None, option_map, String, string_bytes, codes}
use Rattle.std.specs.Path.{slash}
use Rattle.std.specs.List.{cons_option}
use Rattle.std.specs.Option.{option_to_list}
use Rattle.std.specs.declared.alloc.Global.{Global}
use Rattle.std.proofs.Common.{◌≡◌, refl, ℕ, Bool, ◌+◌, ◌-◌, ◌<◌, ◌≤◌, List, [], ◌∷◌, ◌++◌, length, take, map, get_or, sym, ap, subst, ◌∙◌}
use Rattle.std.proofs.lemmas.List.{map-append, take_all}
use Rattle.std.proofs.lemmas.List.Elements.{filter_map-append}
use Rattle.cs_tree.specs.Snapshot.{Snapshot, item_at}
use Rattle.cs_tree.specs.Elements.{is_among}
use Rattle.cs_tree.specs.Folders.{names_listed}
use Rattle.cs_tree.specs.Clean.{path_of, with_slashes}
use Rattle.cs_tree.proofs.NameLemmas.{mapped_more}
use Rattle.cs_listing.specs.Listing.{TreeItems, bytes_of_item, name_there, names_there, rule_names, rule_names_at, exclude_bytes, bytes_within, left_after, folder_with, folder_at}
use Rattle.cs_listing.specs.FolderReads.{InTree, entry_path, folder_path, bytes_among, rule_files_read, folder_read, key_taken, keys_taken}
use Rattle.cs_listing.specs.declared.git_folders.GitFolders.{GitFolders}
use Rattle.cs_listing.specs.Entries.{repository_folders, entry_key, entry_keys, AreKeysOf}
use Rattle.cs_listing.specs.declared.entries.Entry.{Entry}
use Rattle.cs_listing.specs.declared.layers.Layers.{Layers}

-- ---- rule files

-- what is left after each file
module _ (room rest last : ℕ) (i g whole more : List ℕ) (a : rest ≡ room - length i) (b : last ≡ rest - length g)
    (of_i : i ≡ bytes_within room whole) (of_g : g ≡ bytes_within rest more) where
  pub rest_is : rest ≡ left_after room whole
  rest_is = a ∙ ap (λ (bytes : List ℕ). room - length bytes) of_i

  pub last_is : last ≡ left_after (left_after room whole) more
  last_is = b ∙ ap (λ (bytes : List ℕ). rest - length bytes) of_g ∙ ap (λ n. left_after n more) rest_is

pub texts_read : (s first second : Option Snapshot) (stem : List ℕ) (names : List (List ℕ)) (folders : Option (List ℕ × List ℕ))
    (room rest last : ℕ) (i g : List ℕ) (e : Option (List ℕ)) → first ≡ s → second ≡ first → rest ≡ room - length i → last ≡ rest - length g →
    InTree s (λ items. i ≡ bytes_within room (bytes_among items stem names (codes ".ignore"))) →
    InTree first (λ items. g ≡ bytes_within rest (bytes_among items stem names (codes ".gitignore"))) →
    InTree second (λ items. e ≡ option_map (bytes_within last) (option_map (exclude_bytes items) folders)) →
    InTree s (λ items. folder_with i g e ≡ rule_files_read room items stem names folders)
texts_read s first second stem names folders room rest last i g e same later a b of_i of_g of_e =
    by_model s of_i
    (subst (λ o. InTree o (λ items. g ≡ bytes_within rest (bytes_among items stem names (codes ".gitignore")))) same of_g)
    (subst (λ o. InTree o (λ items. e ≡ option_map (bytes_within last) (option_map (exclude_bytes items) folders))) (later ∙ same) of_e)
  where
    by_model : (o : Option Snapshot) → InTree o (λ items. i ≡ bytes_within room (bytes_among items stem names (codes ".ignore"))) →
        InTree o (λ items. g ≡ bytes_within rest (bytes_among items stem names (codes ".gitignore"))) →
        InTree o (λ items. e ≡ option_map (bytes_within last) (option_map (exclude_bytes items) folders)) →
        InTree o (λ items. folder_with i g e ≡ rule_files_read room items stem names folders)
    by_model None of_i of_g of_e = tt
    by_model (Some tree) of_i of_g of_e =
        let whole = bytes_among (item_at tree) stem names (codes ".ignore") in
        let more = bytes_among (item_at tree) stem names (codes ".gitignore") in
        let own = option_map (exclude_bytes (item_at tree)) folders in
        ap (λ x. folder_with x g e) of_i
        ∙ ap (λ x. folder_with (bytes_within room whole) x e)
        (of_g ∙ ap (λ n. bytes_within n more) (rest_is room rest last i g whole more a b of_i of_g))
        ∙ ap (folder_with (bytes_within room whole) (bytes_within (left_after room whole) more))
        (of_e ∙ ap (λ n. option_map (bytes_within n) own) (last_is room rest last i g whole more a b of_i of_g))

-- the bytes of the rules that a repository has for itself
pub exclude_is : (s : Option Snapshot) (own : Option GitFolders) (folders : GitFolders) (text : List ℕ) (room : ℕ) (bytes : List ℕ) →
    own ≡ Some folders → text ≡ string_bytes folders.shared →
    InTree s (λ items. bytes ≡ bytes_within room (bytes_of_item (items (entry_path text (codes "info/exclude"))))) →
    InTree s (λ items. Some bytes ≡ option_map (bytes_within room) (option_map (exclude_bytes items) (option_map repository_folders own)))
exclude_is None own folders text room bytes is at read = tt
exclude_is (Some tree) own folders text room bytes is at read =
    ap (λ bs. Some bs) (read ∙ ap (λ t. bytes_within room (bytes_of_item (item_at tree (entry_path t (codes "info/exclude"))))) at)
    ∙ sym (ap (λ o. option_map (bytes_within room) (option_map (exclude_bytes (item_at tree)) (option_map repository_folders o))) is)

-- the files for rules that are there
pub all_there : (s first second : Option Snapshot) (stem : List ℕ) (none one two three : List (List ℕ)) → first ≡ s → second ≡ first →
    none ≡ [] → InTree s (λ items. one ≡ none ++ name_there items stem (codes ".ignore")) →
    InTree first (λ items. two ≡ one ++ name_there items stem (codes ".gitignore")) →
    InTree second (λ items. three ≡ two ++ name_there items stem (codes ".git")) → InTree s (λ items. three ≡ names_there items stem)
all_there s first second stem none one two three same later empty a b c =
    by_model s a (subst (λ o. InTree o (λ items. two ≡ one ++ name_there items stem (codes ".gitignore"))) same b)
    (subst (λ o. InTree o (λ items. three ≡ two ++ name_there items stem (codes ".git"))) (later ∙ same) c)
  where
    by_model : (o : Option Snapshot) → InTree o (λ items. one ≡ none ++ name_there items stem (codes ".ignore")) →
        InTree o (λ items. two ≡ one ++ name_there items stem (codes ".gitignore")) →
        InTree o (λ items. three ≡ two ++ name_there items stem (codes ".git")) → InTree o (λ items. three ≡ names_there items stem)
    by_model None a b c = tt
    by_model (Some tree) a b c =
        let items = item_at tree in
        c
        ∙ ap (λ ns. ns ++ name_there items stem (codes ".git")) (b
        ∙ ap (λ ns. ns ++ name_there items stem (codes ".gitignore")) (a
        ∙ ap (λ ns. ns ++ name_there items stem (codes ".ignore")) empty))

-- the path of a folder
pub path_is : (above : List (List ℕ)) → folder_path (with_slashes above) ≡ path_of above
path_is [] = refl
path_is (name ∷ above) = not_empty (with_slashes above)
  where
    not_empty : (text : List ℕ) → folder_path (text ++ slash ∷ name) ≡ text ++ slash ∷ name
    not_empty [] = refl
    not_empty (b ∷ text) = refl

-- what is read of a folder is what the tree has
read_at : (room : Option ℕ) (items : TreeItems) (above : List (List ℕ)) →
    folder_read room items (with_slashes above) (rule_names_at items above) ≡ folder_at room items above
read_at None items above = refl
read_at (Some room) items above = refl

pub folder_is : (room : Option ℕ) (items : TreeItems) (above : List (List ℕ)) (names : List (List ℕ)) →
    names ≡ names_listed (items (folder_path (with_slashes above))) →
    (names ≡ names_listed (items (path_of above)))
    × (folder_read room items (with_slashes above) (rule_names items (with_slashes above) (items (folder_path (with_slashes above)))) ≡ folder_at room items above)
folder_is room items above names listed = (
  listed ∙ ap (λ path. names_listed (items path)) (path_is above),
  ap (λ path. folder_read room items (with_slashes above) (rule_names items (with_slashes above) (items path))) (path_is above)
      ∙ read_at room items above,
)

-- ---- entries

pub more_read : (s now : Option Snapshot) (layers : Layers) (stem : List ℕ) (names : List (String Global)) (i : ℕ) (name : String Global)
    (before later : List Entry) (entry : Option Entry) → now ≡ s → i < length names → name ≡ get_or names i name →
    later ≡ before ++ option_to_list entry →
    InTree s (λ items. map entry_key before ≡ keys_taken layers items stem (map string_bytes (take i names))) →
    InTree now (λ items. option_map entry_key entry ≡ key_taken layers items stem (string_bytes name)) →
    InTree s (λ items. map entry_key later ≡ keys_taken layers items stem (map string_bytes (take (i + 1) names)))
more_read s now layers stem names i name before later entry same low is added so_far one =
    by_model s so_far (subst (λ o. InTree o (λ items. option_map entry_key entry ≡ key_taken layers items stem (string_bytes name))) same one)
  where
    last_is : (o : Option Entry) (key : Option (List ℕ)) → option_map entry_key o ≡ key →
        map entry_key (option_to_list o) ≡ option_to_list key
    last_is None key e = ap option_to_list e
    last_is (Some x) key e = ap option_to_list e

    one_key : (key : Option (List ℕ)) → option_to_list key ≡ cons_option key []
    one_key None = refl
    one_key (Some k) = refl

    by_model : (o : Option Snapshot) → InTree o (λ items. map entry_key before ≡ keys_taken layers items stem (map string_bytes (take i names))) →
        InTree o (λ items. option_map entry_key entry ≡ key_taken layers items stem (string_bytes name)) →
        InTree o (λ items. map entry_key later ≡ keys_taken layers items stem (map string_bytes (take (i + 1) names)))
    by_model None so_far one = tt
    by_model (Some tree) so_far one =
        let items = item_at tree in
        ap (map entry_key) added
        ∙ map-append entry_key before (option_to_list entry)
        ∙ ap (λ ks. ks ++ map entry_key (option_to_list entry)) so_far
        ∙ ap (λ ks. keys_taken layers items stem (map string_bytes (take i names)) ++ ks) (last_is entry (key_taken layers items stem (string_bytes name)) one)
        ∙ ap (λ ks. keys_taken layers items stem (map string_bytes (take i names)) ++ ks) (one_key (key_taken layers items stem (string_bytes name)))
        ∙ sym (filter_map-append (λ n. key_taken layers items stem n) (map string_bytes (take i names)) (string_bytes name ∷ []))
        ∙ ap (keys_taken layers items stem) (sym (mapped_more string_bytes names i name low is))

pub all_read : (s : Option Snapshot) (layers : Layers) (stem : List ℕ) (names : List (String Global)) (i : ℕ) (entries ordered : List Entry) →
    length names ≤ i →
    InTree s (λ items. map entry_key entries ≡ keys_taken layers items stem (map string_bytes (take i names))) →
    AreKeysOf (entry_keys ordered) (map entry_key entries) →
    InTree s (λ items. AreKeysOf (entry_keys ordered) (keys_taken layers items stem (map string_bytes names)))
all_read None layers stem names i entries ordered past so_far same = tt
all_read (Some tree) layers stem names i entries ordered past so_far same = λ key.
    same key ∙ ap (λ ks. is_among ks key) (so_far ∙ ap (λ ns. keys_taken layers (item_at tree) stem (map string_bytes ns)) (take_all i names past))
