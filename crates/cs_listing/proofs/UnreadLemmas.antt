-- Each path that cannot be read is noted, or is to come: what is read of a folder, and how a walk goes on.
use Rattle.std.specs.Prelude.{Option, Some, None, option_map, bytes_eq, codes, String, string_bytes}
use Rattle.std.specs.Path.{slash}
use Rattle.std.specs.declared.alloc.Global.{Global}
use Rattle.std.specs.Cmp.Lexicographic.{bytes_decides}
use Rattle.std.proofs.Common.{◌≡◌, ◌≢◌, ◌↔◌, ◌⊎◌, inl, inr, refl, ℕ, Bool, true, false, ◌&&◌, ◌||◌, if◌then◌else◌, List, [], ◌∷◌, ◌++◌, drop, take, map, length, get_or, ◌+◌, ◌-◌, ◌<◌, ◌≤◌, sym, ap, subst, ◌∙◌, append_assoc}
use Rattle.std.proofs.lemmas.Bool.{true≢false, and_parts, and_from, or_cases, or_left, or_right}
use Rattle.std.proofs.lemmas.List.{append-nil, append_cancel_right, take_all}
use Rattle.std.proofs.lemmas.Grind.{flat_map-append}
use Rattle.std.proofs.lemmas.List.Folds.{list_any-append}
use Rattle.cs_tree.specs.Snapshot.{Snapshot, item_at}
use Rattle.cs_tree.specs.Elements.{is_among, is_element}
use Rattle.cs_tree.specs.Clean.{path_of}
use Rattle.cs_tree.proofs.NameLemmas.{mapped_more}
use Rattle.cs_listing.specs.Listing.{Settings, TreeItems, bytes_within, left_after, is_taken, down}
use Rattle.cs_listing.specs.GitFolders.{root_at}
use Rattle.cs_listing.specs.FolderReads.{InTree, entry_path, bytes_among, key_of}
use Rattle.cs_listing.specs.Unreadable.{IsUnreadFrom, unread_within, unread_among, unread_exclude, unread_root, unread_files, unread_rules, unread_rules_at, unread_folder, unseen, unseen_entry, unseen_entries, is_folder, opens}
use Rattle.cs_listing.specs.ReportsAll.{paths_noted, Notes, ComesUnread}
use Rattle.cs_listing.specs.Walk.{with_key}
use Rattle.cs_listing.specs.Entries.{repository_folders}
use Rattle.cs_listing.specs.declared.git_folders.GitFolders.{GitFolders}
use Rattle.cs_listing.specs.declared.entries.FolderReader.{FolderReader}
use Rattle.cs_listing.proofs.FolderLemmas.{rest_is, last_is}
use Rattle.cs_listing.proofs.KeyLemmas.{same_eq, apart_eq, file_key}

-- ---- facts of a tree

pub moved_to : (s t : Option Snapshot) (P : TreeItems → Type 0) → t ≡ s → InTree t P → InTree s P
moved_to s t P same is = subst (λ o. InTree o P) same is

pub from_one : (s : Option Snapshot) (P Q : TreeItems → Type 0) → ((items : TreeItems) → P items → Q items) → InTree s P → InTree s Q
from_one None P Q f p = tt
from_one (Some tree) P Q f p = f (item_at tree) p

pub from_two : (s : Option Snapshot) (P Q R : TreeItems → Type 0) → ((items : TreeItems) → P items → Q items → R items) →
    InTree s P → InTree s Q → InTree s R
from_two None P Q R f p q = tt
from_two (Some tree) P Q R f p q = f (item_at tree) p q

-- ---- what is noted

pub notes_as : (s : Option Snapshot) (a b : FolderReader) (p q : TreeItems → List (List ℕ)) → ((items : TreeItems) → p items ≡ q items) →
    Notes s a b p → Notes s a b q
notes_as s a b p q same = from_one s (λ items. paths_noted b ≡ paths_noted a ++ p items) (λ items. paths_noted b ≡ paths_noted a ++ q items)
    (λ items is. is ∙ ap (λ ps. paths_noted a ++ ps) (same items))

pub notes_then : (s t : Option Snapshot) (a b c : FolderReader) (p q : TreeItems → List (List ℕ)) → t ≡ s → Notes s a b p → Notes t b c q →
    Notes s a c (λ items. p items ++ q items)
notes_then s t a b c p q same first second =
    from_two s (λ items. paths_noted b ≡ paths_noted a ++ p items) (λ items. paths_noted c ≡ paths_noted b ++ q items)
    (λ items. paths_noted c ≡ paths_noted a ++ (p items ++ q items))
    (λ items one two. two ∙ ap (λ ps. ps ++ q items) one ∙ append_assoc (paths_noted a) (p items) (q items))
    first (moved_to s t (λ items. paths_noted c ≡ paths_noted b ++ q items) same second)

pub notes_after : (s : Option Snapshot) (a b c : FolderReader) (more : List (List ℕ)) (q : TreeItems → List (List ℕ)) →
    paths_noted b ≡ paths_noted a ++ more → Notes s b c q → Notes s a c (λ items. more ++ q items)
notes_after s a b c more q one =
    from_one s (λ items. paths_noted c ≡ paths_noted b ++ q items) (λ items. paths_noted c ≡ paths_noted a ++ (more ++ q items))
    (λ items two. two ∙ ap (λ ps. ps ++ q items) one ∙ append_assoc (paths_noted a) more (q items))

-- the rules that a repository has for itself
pub exclude_noted : (s : Option Snapshot) (a b : FolderReader) (own : Option GitFolders) (folders : GitFolders) (text : List ℕ)
    (room : ℕ) → own ≡ Some folders → text ≡ string_bytes folders.shared →
    Notes s a b (λ items. unread_within room items (entry_path text (codes "info/exclude"))) →
    Notes s a b (λ items. unread_exclude room items (option_map repository_folders own))
exclude_noted s a b own folders text room is at =
    notes_as s a b (λ items. unread_within room items (entry_path text (codes "info/exclude")))
    (λ items. unread_exclude room items (option_map repository_folders own))
    (λ items. ap (λ t. unread_within room items (entry_path t (codes "info/exclude"))) at
    ∙ sym (ap (λ o. unread_exclude room items (option_map repository_folders o)) is))

-- the rule files of a folder, each within what is left for it
pub texts_noted : (s first second : Option Snapshot) (a b c d : FolderReader) (stem : List ℕ) (names : List (List ℕ))
    (folders : Option (List ℕ × List ℕ)) (room rest last : ℕ) (i g : List ℕ) → first ≡ s → second ≡ first →
    rest ≡ room - length i → last ≡ rest - length g →
    InTree s (λ items. i ≡ bytes_within room (bytes_among items stem names (codes ".ignore"))) →
    InTree first (λ items. g ≡ bytes_within rest (bytes_among items stem names (codes ".gitignore"))) →
    Notes s a b (λ items. unread_among room items stem names (codes ".ignore")) →
    Notes first b c (λ items. unread_among rest items stem names (codes ".gitignore")) →
    Notes second c d (λ items. unread_exclude last items folders) → Notes s a d (λ items. unread_files room items stem names folders)
texts_noted s first second a b c d stem names folders room rest last i g same later of_rest of_last of_i of_g one two three =
    by_model s of_i (moved_to s first (λ items. g ≡ bytes_within rest (bytes_among items stem names (codes ".gitignore"))) same of_g)
    (notes_then s first a b d (λ items. unread_among room items stem names (codes ".ignore"))
    (λ items. unread_among rest items stem names (codes ".gitignore") ++ unread_exclude last items folders) same one
    (notes_then first second b c d (λ items. unread_among rest items stem names (codes ".gitignore"))
    (λ items. unread_exclude last items folders) later two three))
  where
    by_model : (o : Option Snapshot) → InTree o (λ items. i ≡ bytes_within room (bytes_among items stem names (codes ".ignore"))) →
        InTree o (λ items. g ≡ bytes_within rest (bytes_among items stem names (codes ".gitignore"))) →
        Notes o a d (λ items. unread_among room items stem names (codes ".ignore")
        ++ (unread_among rest items stem names (codes ".gitignore") ++ unread_exclude last items folders)) →
        Notes o a d (λ items. unread_files room items stem names folders)
    by_model None of_i of_g noted = tt
    by_model (Some tree) of_i of_g noted =
        let items = item_at tree in
        let whole = bytes_among items stem names (codes ".ignore") in
        let more = bytes_among items stem names (codes ".gitignore") in
        let before = unread_among room items stem names (codes ".ignore") in
        noted
        ∙ ap (λ n. paths_noted a ++ (before ++ (unread_among n items stem names (codes ".gitignore") ++ unread_exclude last items folders)))
        (rest_is room rest last i g whole more of_rest of_last of_i of_g)
        ∙ ap (λ n. paths_noted a ++ (before
        ++ (unread_among (left_after room whole) items stem names (codes ".gitignore") ++ unread_exclude n items folders)))
        (last_is room rest last i g whole more of_rest of_last of_i of_g)

-- what the rules of a folder come from
pub folder_noted : (s next : Option Snapshot) (a b c : FolderReader) (stem : List ℕ) (names : List (List ℕ)) (given : Option ℕ) (room : ℕ)
    (own : Option GitFolders) → given ≡ Some room → next ≡ s →
    InTree s (λ items. option_map repository_folders own ≡ root_at items stem names) →
    Notes s a b (λ items. unread_root items stem names) →
    Notes next b c (λ items. unread_files room items stem names (option_map repository_folders own)) →
    Notes s a c (λ items. unread_rules given items stem names)
folder_noted s next a b c stem names given room own is same root one two =
    let folders = option_map repository_folders own in
    from_two s (λ items. folders ≡ root_at items stem names)
    (λ items. paths_noted c ≡ paths_noted a ++ (unread_root items stem names ++ unread_files room items stem names folders))
    (λ items. paths_noted c ≡ paths_noted a ++ unread_rules given items stem names)
    (λ items begun noted. noted
    ∙ ap (λ f. paths_noted a ++ (unread_root items stem names ++ unread_files room items stem names f)) begun
    ∙ sym (ap (λ r. paths_noted a ++ unread_rules r items stem names) is))
    root (notes_then s next a b c (λ items. unread_root items stem names) (λ items. unread_files room items stem names folders) same one two)

-- one more entry
pub more_noted : (s now : Option Snapshot) (a b c : FolderReader) (out : List ℕ → Bool → Bool) (stem : List ℕ)
    (names : List (String Global)) (i : ℕ) (name : String Global) → now ≡ s → i < length names → name ≡ get_or names i name →
    Notes s a b (λ items. unseen_entries out items stem (map string_bytes (take i names))) →
    Notes now b c (λ items. unseen_entry out items stem (string_bytes name)) →
    Notes s a c (λ items. unseen_entries out items stem (map string_bytes (take (i + 1) names)))
more_noted s now a b c out stem names i name same low is so_far one =
    let before : List (List ℕ) = map string_bytes (take i names) in
    notes_as s a c (λ items. unseen_entries out items stem before ++ unseen_entry out items stem (string_bytes name))
    (λ items. unseen_entries out items stem (map string_bytes (take (i + 1) names)))
    (λ items.
    ap (λ ps. unseen_entries out items stem before ++ ps) (sym (append-nil (unseen_entry out items stem (string_bytes name))))
    ∙ sym (flat_map-append (unseen_entry out items stem) before (string_bytes name ∷ []))
    ∙ ap (unseen_entries out items stem) (sym (mapped_more string_bytes names i name low is)))
    (notes_then s now a b c (λ items. unseen_entries out items stem before) (λ items. unseen_entry out items stem (string_bytes name))
    same so_far one)

pub all_noted : (s : Option Snapshot) (a b : FolderReader) (out : List ℕ → Bool → Bool) (stem : List ℕ) (names : List (String Global))
    (i : ℕ) → length names ≤ i → Notes s a b (λ items. unseen_entries out items stem (map string_bytes (take i names))) →
    Notes s a b (λ items. unseen_entries out items stem (map string_bytes names))
all_noted s a b out stem names i past =
    notes_as s a b (λ items. unseen_entries out items stem (map string_bytes (take i names)))
    (λ items. unseen_entries out items stem (map string_bytes names))
    (λ items. ap (λ ns. unseen_entries out items stem (map string_bytes ns)) (take_all i names past))

-- the same entries are not seen
pub same_unseen : (f g : List ℕ → Bool → Bool) (items : TreeItems) (stem : List ℕ) (names : List (List ℕ)) →
    ((name : List ℕ) (is_folder : Bool) → f name is_folder ≡ g name is_folder) → unseen_entries f items stem names ≡ unseen_entries g items stem names
same_unseen f g items stem [] same = refl
same_unseen f g items stem (name ∷ names) same =
    let path = entry_path stem name in
    let one : unseen_entry f items stem name ≡ unseen_entry g items stem name =
    ap (λ b. if b && f name true then [] else unseen items path) (same name false)
    ∙ ap (λ b. if g name false && b then [] else unseen items path) (same name true) in
    ap (λ ps. ps ++ unseen_entries f items stem names) one
    ∙ ap (λ ps. unseen_entry g items stem name ++ ps) (same_unseen f g items stem names same)

-- ---- paths among lists

pub among_both : (xs ys : List (List ℕ)) (text : List ℕ) → (is_among (xs ++ ys) text ≡ true) ↔ ((is_among xs text ≡ true) ⊎ (is_among ys text ≡ true))
among_both xs ys text =
    let same = list_any-append (λ (one : List ℕ). bytes_eq one text) xs ys in (
      λ there. or_cases (is_among xs text) (is_among ys text) (sym same ∙ there),
      λ there. same ∙ one_of there,
    )
  where
    one_of : (is_among xs text ≡ true) ⊎ (is_among ys text ≡ true) → (is_among xs text || is_among ys text) ≡ true
    one_of (inl here) = or_left (is_among xs text) (is_among ys text) here
    one_of (inr there) = or_right (is_among xs text) (is_among ys text) there

-- ---- a folder that is opened

-- the path cannot be read below one of these entries
abbrev pub IsUnreadBelow : Settings → TreeItems → List (List ℕ) → List (List ℕ) → List ℕ → Type 0
IsUnreadBelow settings items above keys text =
    (name : List ℕ) × (is_among keys (key_of true name) ≡ true) × IsUnreadFrom settings items (name ∷ above) text

module _ (settings : Settings) (items : TreeItems) (above keys : List (List ℕ)) (text : List ℕ)
    (each : (name : List ℕ) → is_among keys (key_of true name)
    ≡ (is_taken settings items true above name && is_folder (items (path_of (name ∷ above))))) where
  -- what cannot be read of the folder is noted, and the rest cannot be read below its entries
  pub opened : IsUnreadFrom settings items above text ↔
      ((is_among (unread_rules_at settings.takes_ignored items above ++ unread_folder settings items above) text ≡ true)
      ⊎ IsUnreadBelow settings items above keys text)
  opened = (λ from. there from.0 from.1 from.2, back)
    where
      there : (path : List (List ℕ)) → opens settings items above path ≡ true →
          is_among (unread_rules_at settings.takes_ignored items (down above path) ++ unread_folder settings items (down above path)) text ≡ true →
          (is_among (unread_rules_at settings.takes_ignored items above ++ unread_folder settings items above) text ≡ true)
          ⊎ IsUnreadBelow settings items above keys text
      there [] leads among = inl among
      there (name ∷ path) leads among =
          let parts = and_parts (is_taken settings items true above name && is_folder (items (path_of (name ∷ above))))
          (opens settings items (name ∷ above) path) leads in
          inr (name, each name ∙ parts.0, (path, parts.1, among))

      back : (is_among (unread_rules_at settings.takes_ignored items above ++ unread_folder settings items above) text ≡ true)
          ⊎ IsUnreadBelow settings items above keys text → IsUnreadFrom settings items above text
      back (inl among) = ([], refl, among)
      back (inr below) = (
        below.0 ∷ below.2.0,
        and_from (is_taken settings items true above below.0 && is_folder (items (path_of (below.0 ∷ above))))
            (opens settings items (below.0 ∷ above) below.2.0) (sym (each below.0) ∙ below.1) below.2.1,
        below.2.2,
      )

-- ---- the entries to come

-- one more entry, which is a folder
pub with_folder : (settings : Settings) (items : TreeItems) (above : List (List ℕ)) (frames : List (List (List ℕ))) (name text : List ℕ) →
    frames ≢ [] → ComesUnread settings items above (with_key (key_of true name) frames) text ↔
    (IsUnreadFrom settings items (name ∷ above) text ⊎ ComesUnread settings items above frames text)
with_folder settings items above [] name text some = absurd (some refl)
with_folder settings items above (keys ∷ frames) name text some = (there, back)
  where
    one : (other : List ℕ) → (bytes_eq (key_of true name) (key_of true other) ≡ true) ⊎ (is_among keys (key_of true other) ≡ true) →
        IsUnreadFrom settings items (other ∷ above) text →
        IsUnreadFrom settings items (name ∷ above) text ⊎ ComesUnread settings items above (keys ∷ frames) text
    one other (inl same) unread =
        inl (subst (λ n. IsUnreadFrom settings items (n ∷ above) text)
        (sym (append_cancel_right name other (slash ∷ []) ((bytes_decides (key_of true name) (key_of true other)).0 same))) unread)
    one other (inr more) unread = inr (inl (other, more, unread))

    there : ComesUnread settings items above (with_key (key_of true name) (keys ∷ frames)) text →
        IsUnreadFrom settings items (name ∷ above) text ⊎ ComesUnread settings items above (keys ∷ frames) text
    there (inl below) = one below.0 (or_cases (bytes_eq (key_of true name) (key_of true below.0)) (is_among keys (key_of true below.0)) below.1) below.2
    there (inr later) = inr (inr later)

    back : IsUnreadFrom settings items (name ∷ above) text ⊎ ComesUnread settings items above (keys ∷ frames) text →
        ComesUnread settings items above (with_key (key_of true name) (keys ∷ frames)) text
    back (inl unread) = inl (name, or_left (bytes_eq (key_of true name) (key_of true name)) _ (same_eq (key_of true name)), unread)
    back (inr (inl below)) = inl (below.0, or_right (bytes_eq (key_of true name) (key_of true below.0)) _ below.1, below.2)
    back (inr (inr later)) = inr later

-- one more entry, which is a file
pub with_file : (settings : Settings) (items : TreeItems) (above keys : List (List ℕ)) (frames : List (List (List ℕ))) (name text : List ℕ) →
    is_element name ≡ true →
    ComesUnread settings items above (keys ∷ frames) text ↔ ComesUnread settings items above ((name ∷ keys) ∷ frames) text
with_file settings items above keys frames name text good = (there, back)
  where
    apart : (other : List ℕ) → is_among (name ∷ keys) (key_of true other) ≡ is_among keys (key_of true other)
    apart other = ap (λ b. b || is_among keys (key_of true other))
        (apart_eq name (key_of true other) (file_key name other good))

    there : ComesUnread settings items above (keys ∷ frames) text → ComesUnread settings items above ((name ∷ keys) ∷ frames) text
    there (inl below) = inl (below.0, apart below.0 ∙ below.1, below.2)
    there (inr later) = inr later

    back : ComesUnread settings items above ((name ∷ keys) ∷ frames) text → ComesUnread settings items above (keys ∷ frames) text
    back (inl below) = inl (below.0, sym (apart below.0) ∙ below.1, below.2)
    back (inr later) = inr later

-- a folder without entries
pub without_entries : (settings : Settings) (items : TreeItems) (above : List (List ℕ)) (frames : List (List (List ℕ))) (text : List ℕ) →
    ComesUnread settings items (drop 1 above) frames text ↔ ComesUnread settings items above ([] ∷ frames) text
without_entries settings items above frames text = (λ later. inr later, back)
  where
    back : ComesUnread settings items above ([] ∷ frames) text → ComesUnread settings items (drop 1 above) frames text
    back (inl below) = absurd (true≢false (sym below.1))
    back (inr later) = later
