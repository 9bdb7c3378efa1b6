-- A walk gives each path that a search of its folder cannot read: its steps, and whole walks.
use Rattle.std.specs.Prelude.{Option, Some, None, Result, Ok, Err, OnOk, is_some, bytes_eq, String, string_bytes}
use Rattle.std.specs.BTreeSet.{BTreeSet, contains_text}
use Rattle.std.specs.Cmp.Lexicographic.{bytes_decides}
use Rattle.std.specs.Option.{option_to_list}
use Rattle.std.specs.List.{list_all}
use Rattle.std.specs.declared.alloc.Global.{Global}
use Rattle.std.proofs.Common.{◌≡◌, ◌≢◌, ◌↔◌, ◌⊎◌, inl, inr, refl, ℕ, ◌<◌, Bool, true, false, ◌||◌, List, [], ◌∷◌, ◌++◌, map, drop, reverse, length, sym, ap, subst, ◌∙◌, arith, append_assoc}
use Rattle.std.proofs.lemmas.Bool.{true≢false, and_parts, or_cases, or_left, or_right}
use Rattle.std.proofs.lemmas.List.{map-append, reverse-reverse}
use Rattle.std.proofs.lemmas.List.Folds.{list_any-append}
use Rattle.cs_tree.specs.Snapshot.{Snapshot, item_at}
use Rattle.cs_tree.specs.Elements.{is_among, is_element, are_elements, are_distinct}
use Rattle.cs_tree.specs.Folders.{names_listed}
use Rattle.cs_tree.specs.Clean.{path_of, with_slashes, longest_path}
use Rattle.cs_listing.specs.Layers.{FolderRules, room_after}
use Rattle.cs_listing.specs.Models.{all_names, folders_in, names_in, settings_of}
use Rattle.cs_listing.specs.Listing.{Settings, TreeItems, rule_names, leaves_out, folders_to}
use Rattle.cs_listing.specs.FolderReads.{InTree, folder_path, entry_path, key_of, keys_taken, out_by}
use Rattle.cs_listing.specs.Entries.{AreKeysOf, IsNameOf, entry_key}
use Rattle.cs_listing.specs.Unreadable.{IsUnreadFrom, IsUnreadable, folders_above, unread_rules, unread_rules_at, unread_rules_to, unread_folder, unseen_entries, is_unlisted, is_folder, only_if}
use Rattle.cs_listing.specs.ReportsAll.{unread_paths, paths_noted, unlisted_path, is_noted, ComesUnread, IsToReport, KeepsToReport, BeginsToReport, ReportsAll, unread_rules_of, EntersNoting, OpensNoting, VisitsNoting, KeepsNoted}
use Rattle.cs_listing.specs.Walk.{settings_in, room_in, StepGives, above_in, frames_in, keys_in, keys_of_all, with_key, unread_in, IsOf, IsVisit, IsWalkIn, AreAround, Enters, Opens, WereReported, TakesUnread, KeepsReports, HasReportedNone}
use Rattle.cs_listing.specs.WholeWalks.{GivesToEnd, paths_reported, WalksReportAll}
use Rattle.cs_listing.specs.declared.entries.Entry.{Entry}
use Rattle.cs_listing.specs.declared.entries.FolderNames.{FolderNames}
use Rattle.cs_listing.specs.declared.fault.Unread.{Unread}
use Rattle.cs_listing.specs.declared.layers.Layers.{Layers}
use Rattle.cs_listing.specs.declared.layers.FolderRules.{FolderRules as OwnFolder}
use Rattle.cs_listing.specs.declared.walk.Frame.{Frame}
use Rattle.cs_listing.specs.declared.walk.Walk.{Walk}
use Rattle.cs_listing.specs.declared.walk.Step.TheVariants as step
use Rattle.cs_listing.specs.declared.walk.Found.{Found}
use Rattle.cs_listing.specs.declared.walk.Found.TheVariants as found
use Rattle.cs_listing.proofs.FolderLemmas.{path_is}
use Rattle.cs_listing.proofs.TakenLemmas.{out_is, folder_taken}
use Rattle.cs_listing.proofs.VisitLemmas.{last_first, entered_at, opens_frames, visits_within, some_folders}
use Rattle.cs_listing.proofs.StepLemmas.{next_keys, good, file_here, visit_of, outer_layers, on_ok_always, in_tree}
use Rattle.cs_listing.proofs.BeginLemmas.{IsAt, HasEntered}
use Rattle.cs_listing.proofs.UnreadLemmas.{IsUnreadBelow, moved_to, from_one, among_both, opened, with_folder, with_file, without_entries, same_unseen}

-- ---- equivalences

pub iff_refl : {A : Type 0} → A ↔ A
iff_refl = (λ a. a, λ a. a)

pub iff_then : {A B C : Type 0} → A ↔ B → B ↔ C → A ↔ C
iff_then f g = (λ a. g.0 (f.0 a), λ c. f.1 (g.1 c))

-- both parts alike
pub iff_or : {A B C D : Type 0} → A ↔ B → C ↔ D → (A ⊎ C) ↔ (B ⊎ D)
iff_or {A} {B} {C} {D} f g = (there, back)
  where
    there : A ⊎ C → B ⊎ D
    there (inl a) = inl (f.0 a)
    there (inr c) = inr (g.0 c)

    back : B ⊎ D → A ⊎ C
    back (inl b) = inl (f.1 b)
    back (inr d) = inr (g.1 d)

iff_is : (a b : Bool) → a ≡ b → (a ≡ true) ↔ (b ≡ true)
iff_is a b same = (λ is. sym same ∙ is, λ is. same ∙ is)

-- what was noted stays, and more is noted or comes
regroup : {N M L K O U W : Type 0} → N ↔ (M ⊎ L) → U ↔ (L ⊎ K) → W ↔ (U ⊎ O) → (N ⊎ (K ⊎ O)) ↔ (M ⊎ W)
regroup {N} {M} {L} {K} {O} {U} {W} noted opens with = (there, back)
  where
    of_noted : M ⊎ L → M ⊎ W
    of_noted (inl m) = inl m
    of_noted (inr l) = inr (with.1 (inl (opens.1 (inl l))))

    there : N ⊎ (K ⊎ O) → M ⊎ W
    there (inl n) = of_noted (noted.0 n)
    there (inr (inl k)) = inr (with.1 (inl (opens.1 (inr k))))
    there (inr (inr o)) = inr (with.1 (inr o))

    of_opened : L ⊎ K → N ⊎ (K ⊎ O)
    of_opened (inl l) = inl (noted.1 (inr l))
    of_opened (inr k) = inr (inl k)

    of_with : U ⊎ O → N ⊎ (K ⊎ O)
    of_with (inl u) = of_opened (opens.0 u)
    of_with (inr o) = inr (inr o)

    back : M ⊎ W → N ⊎ (K ⊎ O)
    back (inl m) = inl (noted.1 (inl m))
    back (inr w) = of_with (with.0 w)

or_iff : (a b : Bool) → ((a || b) ≡ true) ↔ ((a ≡ true) ⊎ (b ≡ true))
or_iff a b = (or_cases a b, by_part)
  where
    by_part : (a ≡ true) ⊎ (b ≡ true) → (a || b) ≡ true
    by_part (inl is) = or_left a b is
    by_part (inr is) = or_right a b is

-- ---- a folder that is opened

module _ (items : TreeItems) (layers : Layers) (above names : List (List ℕ)) (place : above_in layers ≡ above)
    (rules : folders_in layers ≡ folders_to (settings_of layers).takes_ignored items above)
    (listed : names ≡ names_listed (items (path_of above))) (fine : are_elements names ≡ true) where
  names_are : names_in layers ≡ reverse above
  names_are = sym (reverse-reverse (names_in layers)) ∙ ap reverse place

  elements_are : list_all is_element names ≡ true
  elements_are = (and_parts (list_all is_element names) (are_distinct names) fine).0

  abbrev out_of : List ℕ → Bool → Bool
  out_of name is_folder = leaves_out (settings_of layers) items is_folder above name

  -- what is noted of it
  pub folder_noted : (whole : FolderNames) → is_some whole.fault ≡ is_unlisted (items (folder_path (with_slashes above))) →
      unlisted_path (with_slashes above) whole ++ unseen_entries (out_by layers) items (with_slashes above) names
      ≡ unread_folder (settings_of layers) items above
  folder_noted whole fault =
      ap (λ b. only_if b (folder_path (with_slashes above)) ++ unseen_entries (out_by layers) items (with_slashes above) names) fault
      ∙ ap (λ path. only_if (is_unlisted (items path)) path ++ unseen_entries (out_by layers) items (with_slashes above) names) (path_is above)
      ∙ ap (λ seen. only_if (is_unlisted (items (path_of above))) (path_of above) ++ seen)
      (same_unseen (out_by layers) out_of items (with_slashes above) names
      (λ name is_folder. out_is layers items above names rules names_are listed elements_are is_folder name)
      ∙ ap (unseen_entries out_of items (with_slashes above)) listed)

  -- the rest cannot be read below its entries
  pub folder_opened : (frame : Frame) → AreKeysOf (keys_in frame) (keys_taken layers items (with_slashes above) names) → (text : List ℕ) →
      IsUnreadFrom (settings_of layers) items above text ↔ ((is_among (unread_rules_at (settings_of layers).takes_ignored items above
      ++ unread_folder (settings_of layers) items above) text ≡ true) ⊎ IsUnreadBelow (settings_of layers) items above (keys_in frame) text)
  folder_opened frame keys text = opened (settings_of layers) items above (keys_in frame) text
      (folder_taken layers items above names rules names_are listed elements_are (keys_in frame) keys)

-- more is noted
noted_more : (old new : Walk) (more : List (List ℕ)) (text : List ℕ) → new.reported ≡ old.reported →
    paths_noted new.reader ≡ paths_noted old.reader ++ more →
    (is_noted new text ≡ true) ↔ ((is_noted old text ≡ true) ⊎ (is_among more text ≡ true))
noted_more old new more text reported noted =
    iff_then (iff_is (is_noted new text) (is_noted old text || is_among more text)
    (ap (λ (set : BTreeSet (String Global)). contains_text set text || is_among (paths_noted new.reader) text) reported
    ∙ ap (λ (paths : List (List ℕ)). contains_text old.reported text || is_among paths text) noted
    ∙ ap (λ b. contains_text old.reported text || b) (list_any-append (λ (one : List ℕ). bytes_eq one text) (paths_noted old.reader) more)
    ∙ or_assoc (contains_text old.reported text) (is_among (paths_noted old.reader) text) (is_among more text)))
    (or_iff (is_noted old text) (is_among more text))
  where
    or_assoc : (x y z : Bool) → (x || (y || z)) ≡ ((x || y) || z)
    or_assoc true y z = refl
    or_assoc false y z = refl

some_keys : (frames : List Frame) → frames ≢ [] → keys_of_all frames ≢ []
some_keys [] some = absurd (some refl)
some_keys (frame ∷ frames) some = λ none. cons_not_nil (keys_in frame) (keys_of_all frames) none
  where
    cons_not_nil : (keys : List (List ℕ)) (rest : List (List (List ℕ))) → keys ∷ rest ≡ [] → ⊥
    cons_not_nil keys rest e = cc

-- ---- a folder is visited

-- the rules of a folder by its text
rules_are : (ti : Bool) (items : TreeItems) (above : List (List ℕ)) →
    unread_rules_of (room_after ti (folders_above ti items above)) items (with_slashes above) ≡ unread_rules_at ti items above
rules_are ti items above = ap (λ path. unread_rules (room_after ti (folders_above ti items above)) items (with_slashes above) (rule_names items (with_slashes above) (items path))) (path_is above)

visited_noting : (items : TreeItems) (name : List ℕ) (stem : String Global) (names : List (List ℕ)) (listed : FolderNames) (frame : Frame)
    (old mid new : Walk) → Enters items (string_bytes stem) names old mid → all_names mid.layers ≡ all_names old.layers ++ name ∷ [] →
    mid.frames ≡ old.frames → settings_in mid ≡ settings_in old → new.frames.items ≡ mid.frames.items ++ frame ∷ [] →
    AreKeysOf (keys_in frame) (keys_taken mid.layers items (string_bytes stem) names) → new.layers ≡ mid.layers →
    new.reported ≡ old.reported →
    paths_noted mid.reader ≡ paths_noted old.reader ++ unread_rules_of (room_in old) items (string_bytes stem) →
    is_some listed.fault ≡ is_unlisted (items (folder_path (string_bytes stem))) →
    paths_noted new.reader ≡ paths_noted mid.reader
    ++ (unlisted_path (string_bytes stem) listed ++ unseen_entries (out_by mid.layers) items (string_bytes stem) names) →
    IsVisit items name stem old → VisitsNoting items name old new
visited_noting items name stem names listed frame old mid new enters more same settings opens keys layers reported first whole second visit text =
    let outer = above_in old.layers in
    let s = settings_in mid in
    let at = entered_at items name stem names old mid enters more settings visit in
    let taken = subst (λ t. AreKeysOf (keys_in frame) (keys_taken mid.layers items t names)) visit.3 keys in
    let fault = subst (λ t. is_some listed.fault ≡ is_unlisted (items (folder_path t))) visit.3 whole in
    let rules : unread_rules_of (room_in old) items (string_bytes stem)
    ≡ unread_rules_at s.takes_ignored items (name ∷ outer) =
    ap (λ (fs : List FolderRules). unread_rules_of (room_after (settings_in old).takes_ignored fs) items (string_bytes stem)) visit.1
    ∙ ap (λ (o : Settings). unread_rules_of (room_after o.takes_ignored (folders_to o.takes_ignored items outer)) items (string_bytes stem))
    (sym settings)
    ∙ ap (unread_rules_of (room_after s.takes_ignored (folders_to s.takes_ignored items outer)) items) visit.3
    ∙ rules_are s.takes_ignored items (name ∷ outer) in
    let noted : paths_noted new.reader ≡ paths_noted old.reader
    ++ (unread_rules_at s.takes_ignored items (name ∷ outer) ++ unread_folder s items (name ∷ outer)) =
    second
    ∙ ap (λ ps. ps ++ (unlisted_path (string_bytes stem) listed ++ unseen_entries (out_by mid.layers) items (string_bytes stem) names)) first
    ∙ append_assoc (paths_noted old.reader) (unread_rules_of (room_in old) items (string_bytes stem))
    (unlisted_path (string_bytes stem) listed ++ unseen_entries (out_by mid.layers) items (string_bytes stem) names)
    ∙ ap (λ ps. paths_noted old.reader ++ (ps
    ++ (unlisted_path (string_bytes stem) listed ++ unseen_entries (out_by mid.layers) items (string_bytes stem) names))) rules
    ∙ ap (λ t. paths_noted old.reader ++ (unread_rules_at s.takes_ignored items (name ∷ outer)
    ++ (unlisted_path t listed ++ unseen_entries (out_by mid.layers) items t names))) visit.3
    ∙ ap (λ ps. paths_noted old.reader ++ (unread_rules_at s.takes_ignored items (name ∷ outer) ++ ps))
    (folder_noted items mid.layers (name ∷ outer) names at.0 at.1 at.2 enters.1 listed fault) in
    subst (λ o. ((is_noted new text ≡ true) ⊎ ComesUnread (settings_in new) items (above_in new.layers) (keys_of_all (frames_in new)) text)
    ↔ ((is_noted old text ≡ true) ⊎ ComesUnread o items outer (with_key (key_of true name) (keys_of_all (frames_in old))) text)) settings
    (subst (λ l. ((is_noted new text ≡ true) ⊎ ComesUnread (settings_of l) items (above_in l) (keys_of_all (frames_in new)) text)
    ↔ ((is_noted old text ≡ true) ⊎ ComesUnread s items outer (with_key (key_of true name) (keys_of_all (frames_in old))) text)) (sym layers)
    (subst (λ a. ((is_noted new text ≡ true) ⊎ ComesUnread s items a (keys_of_all (frames_in new)) text)
    ↔ ((is_noted old text ≡ true) ⊎ ComesUnread s items outer (with_key (key_of true name) (keys_of_all (frames_in old))) text)) (sym at.0)
    (subst (λ fs. ((is_noted new text ≡ true) ⊎ ComesUnread s items (name ∷ outer) (keys_of_all fs) text)
    ↔ ((is_noted old text ≡ true) ⊎ ComesUnread s items outer (with_key (key_of true name) (keys_of_all (frames_in old))) text))
    (sym (opens_frames frame old mid new same opens))
    (regroup
    (noted_more old new (unread_rules_at s.takes_ignored items (name ∷ outer) ++ unread_folder s items (name ∷ outer)) text reported noted)
    (folder_opened items mid.layers (name ∷ outer) names at.0 at.1 at.2 enters.1 frame taken text)
    (with_folder s items outer (keys_of_all (frames_in old)) name text (some_keys (frames_in old) visit.0))))))

pub visited_noting_in : {A E : Type 0} (s next : Option Snapshot) (name : List ℕ) (stem : String Global) (names : List (List ℕ))
    (listed : FolderNames) (old mid new : Walk) (r : Result A E) → next ≡ s → InTree s (λ items. Enters items (string_bytes stem) names old mid) →
    all_names mid.layers ≡ all_names old.layers ++ name ∷ [] → mid.frames ≡ old.frames → settings_in mid ≡ settings_in old →
    new.layers ≡ mid.layers → new.reported ≡ old.reported → EntersNoting s (string_bytes stem) listed old mid →
    OnOk r (Opens next stem names mid new) → OnOk r (OpensNoting next (string_bytes stem) names listed mid new) →
    OnOk r (InTree s (λ items. IsVisit items name stem old → VisitsNoting items name old new))
visited_noting_in s next name stem names listed old mid new (Err e) same enters more frames settings layers reported noting opens notes = tt
visited_noting_in s next name stem names listed old mid new (Ok x) same enters more frames settings layers reported noting opens notes =
    by_model s enters noting.0 noting.1
    (subst (λ o. InTree o (λ items. AreKeysOf (keys_in opens.0) (keys_taken mid.layers items (string_bytes stem) names))) same opens.4)
    (subst (λ o. InTree o (λ items. paths_noted new.reader ≡ paths_noted mid.reader
    ++ (unlisted_path (string_bytes stem) listed ++ unseen_entries (out_by mid.layers) items (string_bytes stem) names))) same notes)
  where
    by_model : (o : Option Snapshot) → InTree o (λ items. Enters items (string_bytes stem) names old mid) →
        InTree o (λ items. paths_noted mid.reader ≡ paths_noted old.reader
        ++ unread_rules_of (room_in old) items (string_bytes stem)) →
        InTree o (λ items. is_some listed.fault ≡ is_unlisted (items (folder_path (string_bytes stem)))) →
        InTree o (λ items. AreKeysOf (keys_in opens.0) (keys_taken mid.layers items (string_bytes stem) names)) →
        InTree o (λ items. paths_noted new.reader ≡ paths_noted mid.reader
        ++ (unlisted_path (string_bytes stem) listed ++ unseen_entries (out_by mid.layers) items (string_bytes stem) names)) →
        InTree o (λ items. IsVisit items name stem old → VisitsNoting items name old new)
    by_model None enters first whole keys second = tt
    by_model (Some tree) enters first whole keys second = λ visit.
        visited_noting (item_at tree) name stem names listed opens.0 old mid new enters more frames settings opens.1 keys layers reported
        first whole second visit

pub refused_noting : {A E : Type 0} (s : Option Snapshot) (name : List ℕ) (stem : String Global) (old new : Walk) (r : Result A E) →
    longest_path < length old.frames.items → OnOk r (InTree s (λ items. IsVisit items name stem old → VisitsNoting items name old new))
refused_noting s name stem old new r many =
    on_ok_always (InTree s (λ items. IsVisit items name stem old → VisitsNoting items name old new)) r
    (in_tree s (λ items. IsVisit items name stem old → VisitsNoting items name old new)
    (λ items visit. absurd (omega (arith, many, visits_within items name stem old visit))))

-- ---- the next one of those that are noted

regrouped : (e b n o : Bool) → (o ≡ true → b ≡ true) → ((e || b) || n) ≡ (b || (n || (e || o)))
regrouped true true n o past = refl
regrouped false true n o past = refl
regrouped true false true o past = refl
regrouped true false false o past = refl
regrouped false false true o past = refl
regrouped false false false false past = refl
regrouped false false false true past = absurd (true≢false (sym (past refl)))

were_reported : (reported : BTreeSet (String Global)) (unread : List Unread) (text : List ℕ) → WereReported reported unread →
    is_among (unread_paths unread) text ≡ true → contains_text reported text ≡ true
were_reported reported [] text were among = absurd (true≢false (sym among))
were_reported reported (one ∷ unread) text were among =
    by_first (were_reported reported unread text were.1)
    (or_cases (bytes_eq (string_bytes one.path) text) (is_among (unread_paths unread) text) among)
  where
    by_first : (is_among (unread_paths unread) text ≡ true → contains_text reported text ≡ true) →
        (bytes_eq (string_bytes one.path) text ≡ true) ⊎ (is_among (unread_paths unread) text ≡ true) → contains_text reported text ≡ true
    by_first others (inl is) = subst (λ t. contains_text reported t ≡ true) ((bytes_decides (string_bytes one.path) text).0 is) were.0
    by_first others (inr more) = others more

pub kept_noted : (old new : List Unread) (before after : BTreeSet (String Global)) (given : Option Unread) →
    TakesUnread old new before after given → KeepsNoted before after old new
kept_noted old new before after None takes text =
    ap (λ us. contains_text after text || is_among (unread_paths us) text) takes.1
    ∙ ap (λ b. b || false) (takes.0 text)
    ∙ none_left (contains_text before text) (is_among (unread_paths old) text) (were_reported before old text takes.2)
  where
    none_left : (b o : Bool) → (o ≡ true → b ≡ true) → (b || false) ≡ (b || o)
    none_left true o past = refl
    none_left false true past = absurd (true≢false (sym (past refl)))
    none_left false false past = refl
kept_noted old new before after (Some unread) takes text =
    ap (λ b. b || is_among (unread_paths new) text) (takes.1.1 text)
    ∙ regrouped (bytes_eq (string_bytes unread.path) text) (contains_text before text) (is_among (unread_paths new) text)
    (is_among (unread_paths takes.0.0) text) (were_reported before takes.0.0 text takes.0.2)
    ∙ ap (λ b. contains_text before text || b)
    (sym (ap (λ us. is_among (unread_paths us) text) takes.0.1
    ∙ ap (λ ps. is_among ps text) (map-append (λ (one : Unread). string_bytes one.path) new (unread ∷ takes.0.0))
    ∙ list_any-append (λ (one : List ℕ). bytes_eq one text) (unread_paths new) (unread_paths (unread ∷ takes.0.0))))

-- ---- steps

-- The entries that are to come are alike, and so is what is noted or was reported.
keeps_alike : (items : TreeItems) (old new : Walk) →
    ((text : List ℕ) → is_noted new text ≡ is_noted old text) →
    ((text : List ℕ) → ComesUnread (settings_in new) items (above_in new.layers) (keys_of_all (frames_in new)) text
    ↔ ComesUnread (settings_in old) items (above_in old.layers) (keys_of_all (frames_in old)) text) → KeepsToReport items old new
keeps_alike items old new noted comes text = iff_or (iff_is (is_noted new text) (is_noted old text) (noted text)) (comes text)

-- a path is given
pub gives_unread : (s : Option Snapshot) (old new : Walk) (unread : Unread) → new.layers ≡ old.layers → new.frames ≡ old.frames →
    KeepsNoted old.reported new.reported (unread_in old) (unread_in new) →
    InTree s (λ items. IsWalkIn items old → ReportsAll items old new (Some (found.Unread unread)))
gives_unread s old new unread layers frames noted =
    in_tree s (λ items. IsWalkIn items old → ReportsAll items old new (Some (found.Unread unread))) (λ items is.
    keeps_alike items old new noted (λ text.
    subst (λ l. ComesUnread (settings_of l) items (above_in l) (keys_of_all (frames_in new)) text
    ↔ ComesUnread (settings_in old) items (above_in old.layers) (keys_of_all (frames_in old)) text) (sym layers)
    (subst (λ fs. ComesUnread (settings_in old) items (above_in old.layers) (keys_of_all (reverse fs)) text
    ↔ ComesUnread (settings_in old) items (above_in old.layers) (keys_of_all (frames_in old)) text) (sym (ap (λ v. v.items) frames)) iff_refl)))

-- none is left
pub gives_none : (s : Option Snapshot) (old new : Walk) → old.frames.items ≡ [] → WereReported old.reported (unread_in old) →
    InTree s (λ items. IsWalkIn items old → ReportsAll items old new None)
gives_none s old new none were =
    in_tree s (λ items. IsWalkIn items old → ReportsAll items old new None) (λ items is text left.
    by_part items text (subst (λ fs. (is_noted old text ≡ true) ⊎ ComesUnread (settings_in old) items (above_in old.layers) (keys_of_all (reverse fs)) text)
    none left))
  where
    by_part : (items : TreeItems) (text : List ℕ) → (is_noted old text ≡ true) ⊎ ⊥ → contains_text old.reported text ≡ true
    by_part items text (inr never) = absurd never
    by_part items text (inl noted) = by_set (or_cases (contains_text old.reported text) (is_among (unread_paths (unread_in old)) text) noted)
      where
        by_set : (contains_text old.reported text ≡ true) ⊎ (is_among (unread_paths (unread_in old)) text ≡ true) → contains_text old.reported text ≡ true
        by_set (inl is) = is
        by_set (inr among) = were_reported old.reported (unread_in old) text were among

-- a folder is left
left_comes : (items : TreeItems) (old new : Layers) (left : Option OwnFolder) (frame : Frame) (frames : List Frame) (text : List ℕ) →
    old.folders.items ≡ new.folders.items ++ option_to_list left → (0 < length (folders_in old) → is_some left ≡ true) →
    settings_of new ≡ settings_of old → keys_in frame ≡ [] → IsOf items old (frame ∷ frames) →
    ComesUnread (settings_of new) items (above_in new) (keys_of_all frames) text
    ↔ ComesUnread (settings_of old) items (above_in old) (keys_of_all (frame ∷ frames)) text
left_comes items old new left frame frames text all some settings empty are =
    subst (λ ks. ComesUnread (settings_of new) items (above_in new) (keys_of_all frames) text
    ↔ ComesUnread (settings_of old) items (above_in old) (ks ∷ keys_of_all frames) text) (sym empty)
    (iff_then (by_frames frames (above_in old) refl are.2) (without_entries (settings_of old) items (above_in old) (keys_of_all frames) text))
  where
    by_frames : (fs : List Frame) (above : List (List ℕ)) → above_in old ≡ above → AreAround items (above_in old) fs →
        ComesUnread (settings_of new) items (above_in new) (keys_of_all fs) text
        ↔ ComesUnread (settings_of old) items (drop 1 (above_in old)) (keys_of_all fs) text
    by_frames [] above place around = iff_refl
    by_frames (next ∷ fs) [] place around = absurd (subst (λ a. AreAround items a (next ∷ fs)) place around)
    by_frames (next ∷ fs) (name ∷ above) place around =
        let ti = (settings_of old).takes_ignored in
        let outer = outer_layers ti items old new left name above all (some (omega (arith, ap length are.0, some_folders ti items (above_in old)))) place
        (are.0 ∙ ap (folders_to ti items) place) in
        subst (λ o. ComesUnread o items (above_in new) (keys_of_all (next ∷ fs)) text
        ↔ ComesUnread (settings_of old) items (drop 1 (above_in old)) (keys_of_all (next ∷ fs)) text) (sym settings)
        (subst (λ a. ComesUnread (settings_of old) items a (keys_of_all (next ∷ fs)) text
        ↔ ComesUnread (settings_of old) items (drop 1 (above_in old)) (keys_of_all (next ∷ fs)) text)
        (ap (drop 1) place ∙ sym outer.1) iff_refl)

pub leaves_unread : (s : Option Snapshot) (old new : Walk) (left : Option OwnFolder) (frame : Frame) →
    old.frames.items ≡ new.frames.items ++ frame ∷ [] → frame.entries.items ≡ [] →
    old.layers.folders.items ≡ new.layers.folders.items ++ option_to_list left →
    (0 < length (folders_in old.layers) → is_some left ≡ true) → settings_in new ≡ settings_in old →
    KeepsNoted old.reported new.reported (unread_in old) (unread_in new) →
    InTree s (λ items. IsWalkIn items old → KeepsToReport items old new)
leaves_unread s old new left frame frames empty all some settings noted =
    in_tree s (λ items. IsWalkIn items old → KeepsToReport items old new) (λ items is.
    let at : frames_in old ≡ frame ∷ frames_in new = ap reverse frames ∙ last_first new.frames.items frame in
    keeps_alike items old new noted (λ text.
    subst (λ fs. ComesUnread (settings_in new) items (above_in new.layers) (keys_of_all (frames_in new)) text
    ↔ ComesUnread (settings_in old) items (above_in old.layers) (keys_of_all fs) text) (sym at)
    (left_comes items old.layers new.layers left frame (frames_in new) text all some settings
    (ap (λ es. map entry_key (reverse es)) empty) (subst (IsOf items old.layers) at is))))

-- a file is given
pub takes_unread : (s : Option Snapshot) (old new : Walk) (rest : List Frame) (frame next : Frame) (entry : Entry) (name : List ℕ)
    (given : Found) → old.frames.items ≡ rest ++ frame ∷ [] → new.frames.items ≡ rest ++ next ∷ [] → new.layers ≡ old.layers →
    next.stem ≡ frame.stem → frame.entries.items ≡ next.entries.items ++ entry ∷ [] → IsNameOf (entry_key entry) name →
    length name ≡ length (entry_key entry) → KeepsNoted old.reported new.reported (unread_in old) (unread_in new) →
    InTree s (λ items. IsWalkIn items old → ReportsAll items old new (Some given))
takes_unread s old new rest frame next entry name given frames later layers stem popped named whole noted =
    in_tree s (λ items. IsWalkIn items old → ReportsAll items old new (Some given)) (λ items is.
    let above = above_in old.layers in
    let before : frames_in old ≡ frame ∷ reverse rest = ap reverse frames ∙ last_first rest frame in
    let after : frames_in new ≡ next ∷ reverse rest = ap reverse later ∙ last_first rest next in
    let at = subst (IsOf items old.layers) before is in
    let keys = next_keys frame next entry popped in
    let fine = good items old.layers frame next (reverse rest) (entry_key entry) name keys stem named at in
    let here = file_here items old.layers frame next (reverse rest) (entry_key entry) name keys stem named at whole _ refl in
    keeps_alike items old new noted (λ text.
    subst (λ l. ComesUnread (settings_of l) items (above_in l) (keys_of_all (frames_in new)) text
    ↔ ComesUnread (settings_in old) items above (keys_of_all (frames_in old)) text) (sym layers)
    (subst (λ fs. ComesUnread (settings_in old) items above (keys_of_all fs) text
    ↔ ComesUnread (settings_in old) items above (keys_of_all (frames_in old)) text) (sym after)
    (subst (λ fs. ComesUnread (settings_in old) items above (keys_of_all (next ∷ reverse rest)) text
    ↔ ComesUnread (settings_in old) items above (keys_of_all fs) text) (sym before)
    (subst (λ ks. ComesUnread (settings_in old) items above (keys_of_all (next ∷ reverse rest)) text
    ↔ ComesUnread (settings_in old) items above (ks ∷ keys_of_all (reverse rest)) text)
    (sym (keys ∙ ap (λ k. k ∷ keys_in next) here.0))
    (with_file (settings_in old) items above (keys_in next) (keys_of_all (reverse rest)) name text fine))))))

-- a folder is visited
pub visits_unread : (s : Option Snapshot) (old mid new : Walk) (rest : List Frame) (frame next : Frame) (entry : Entry) (name : List ℕ)
    (path : String Global) → old.frames.items ≡ rest ++ frame ∷ [] → mid.frames.items ≡ rest ++ next ∷ [] → mid.layers ≡ old.layers →
    next.stem ≡ frame.stem → frame.entries.items ≡ next.entries.items ++ entry ∷ [] → IsNameOf (entry_key entry) name →
    length name ≢ length (entry_key entry) → string_bytes path ≡ entry_path (string_bytes frame.stem) name →
    KeepsNoted old.reported mid.reported (unread_in old) (unread_in mid) →
    InTree s (λ items. IsVisit items name path mid → VisitsNoting items name mid new) →
    InTree s (λ items. IsWalkIn items old → KeepsToReport items old new)
visits_unread None old mid new rest frame next entry name path frames later layers stem popped named longer text noted visit = tt
visits_unread (Some tree) old mid new rest frame next entry name path frames later layers stem popped named longer text noted visit = λ is q.
    let items = item_at tree in
    let above = above_in old.layers in
    let before : frames_in old ≡ frame ∷ reverse rest = ap reverse frames ∙ last_first rest frame in
    let after : frames_in mid ≡ next ∷ reverse rest = ap reverse later ∙ last_first rest next in
    let at = visit_of items old mid rest frame next entry name path frames later layers stem popped named longer text is in
    iff_then (visit at.0 q)
    (iff_or (iff_is (is_noted mid q) (is_noted old q) (noted q))
    (subst (λ l. ComesUnread (settings_of l) items (above_in l) (with_key (key_of true name) (keys_of_all (frames_in mid))) q
    ↔ ComesUnread (settings_in old) items above (keys_of_all (frames_in old)) q) (sym layers)
    (subst (λ fs. ComesUnread (settings_in old) items above (with_key (key_of true name) (keys_of_all fs)) q
    ↔ ComesUnread (settings_in old) items above (keys_of_all (frames_in old)) q) (sym after)
    (subst (λ fs. ComesUnread (settings_in old) items above ((key_of true name ∷ keys_in next) ∷ keys_of_all (reverse rest)) q
    ↔ ComesUnread (settings_in old) items above (keys_of_all fs) q) (sym before)
    (subst (λ ks. ComesUnread (settings_in old) items above ((key_of true name ∷ keys_in next) ∷ keys_of_all (reverse rest)) q
    ↔ ComesUnread (settings_in old) items above (ks ∷ keys_of_all (reverse rest)) q) (sym at.1) iff_refl)))))

-- ---- calls of `next`

pub all_from : (items : TreeItems) (first old new : Walk) (given : Option Found) → KeepsToReport items first old →
    KeepsReports first.reported old.reported → ReportsAll items old new given → ReportsAll items first new given
all_from items first old new None keeps kept all = λ text left. sym (kept text) ∙ all text ((keeps text).1 left)
all_from items first old new (Some given) keeps kept all = λ text. iff_then (all text) (keeps text)

-- one more call, of a walk that has found no answer so far
pub all_done : (s now : Option Snapshot) (first old new : Walk) (given : Option Found) → now ≡ s →
    InTree s (λ items. IsWalkIn items first → StepGives items first old step.More) →
    InTree s (λ items. IsWalkIn items first → KeepsToReport items first old) → KeepsReports first.reported old.reported →
    InTree now (λ items. IsWalkIn items old → ReportsAll items old new given) →
    InTree s (λ items. IsWalkIn items first → ReportsAll items first new given)
all_done s now first old new given same steps keeps kept all =
    by_model s steps keeps (moved_to s now (λ items. IsWalkIn items old → ReportsAll items old new given) same all)
  where
    by_model : (o : Option Snapshot) → InTree o (λ items. IsWalkIn items first → StepGives items first old step.More) →
        InTree o (λ items. IsWalkIn items first → KeepsToReport items first old) →
        InTree o (λ items. IsWalkIn items old → ReportsAll items old new given) →
        InTree o (λ items. IsWalkIn items first → ReportsAll items first new given)
    by_model None steps keeps all = tt
    by_model (Some tree) steps keeps all = λ is. all_from (item_at tree) first old new given (keeps is) kept (all (steps is).0)

pub more_steps : (s now : Option Snapshot) (first old new : Walk) → now ≡ s →
    InTree s (λ items. IsWalkIn items first → StepGives items first old step.More) →
    InTree s (λ items. IsWalkIn items first → KeepsToReport items first old) →
    InTree now (λ items. IsWalkIn items old → KeepsToReport items old new) →
    InTree s (λ items. IsWalkIn items first → KeepsToReport items first new)
more_steps s now first old new same steps keeps all =
    by_model s steps keeps (moved_to s now (λ items. IsWalkIn items old → KeepsToReport items old new) same all)
  where
    by_model : (o : Option Snapshot) → InTree o (λ items. IsWalkIn items first → StepGives items first old step.More) →
        InTree o (λ items. IsWalkIn items first → KeepsToReport items first old) →
        InTree o (λ items. IsWalkIn items old → KeepsToReport items old new) →
        InTree o (λ items. IsWalkIn items first → KeepsToReport items first new)
    by_model None steps keeps all = tt
    by_model (Some tree) steps keeps all = λ is text. iff_then (all (steps is).0 text) (keeps is text)

-- ---- the beginning

-- what is noted of the rules of one more folder
pub begin_noted : (s next : Option Snapshot) (start : List (List ℕ)) (stem : List ℕ) (names : List (List ℕ)) (listed : FolderNames)
    (old new : Walk) (before : TreeItems → List (List ℕ)) → next ≡ s → HasEntered s start new stem names →
    settings_in new ≡ settings_in old → EntersNoting next stem listed old new →
    InTree s (λ items. folders_in old.layers ≡ folders_above (settings_in old).takes_ignored items (reverse start)) →
    InTree s (λ items. paths_noted old.reader ≡ before items) →
    InTree s (λ items. paths_noted new.reader ≡ before items ++ unread_rules_at (settings_in new).takes_ignored items (reverse start))
    × InTree s (λ items. is_some listed.fault ≡ is_unlisted (items (folder_path stem)))
begin_noted s next start stem names listed old new before same has settings enters outer so_far = (
  by_model s outer so_far (moved_to s next (λ items. paths_noted new.reader ≡ paths_noted old.reader
      ++ unread_rules_of (room_in old) items stem) same enters.0),
  moved_to s next (λ items. is_some listed.fault ≡ is_unlisted (items (folder_path stem))) same enters.1,
)
  where
    by_model : (o : Option Snapshot) →
        InTree o (λ items. folders_in old.layers ≡ folders_above (settings_in old).takes_ignored items (reverse start)) →
        InTree o (λ items. paths_noted old.reader ≡ before items) →
        InTree o (λ items. paths_noted new.reader ≡ paths_noted old.reader ++ unread_rules_of (room_in old) items stem) →
        InTree o (λ items. paths_noted new.reader ≡ before items ++ unread_rules_at (settings_in new).takes_ignored items (reverse start))
    by_model None at so_far one = tt
    by_model (Some tree) at so_far one =
        one
        ∙ ap (λ ps. ps ++ unread_rules_of (room_in old) (item_at tree) stem) so_far
        ∙ ap (λ (fs : List FolderRules). before (item_at tree)
        ++ unread_rules_of (room_after (settings_in old).takes_ignored fs) (item_at tree) stem) at
        ∙ ap (λ (o : Settings). before (item_at tree)
        ++ unread_rules_of (room_after o.takes_ignored (folders_above o.takes_ignored (item_at tree) (reverse start))) (item_at tree) stem)
        (sym settings)
        ∙ ap (λ t. before (item_at tree) ++ unread_rules_of (room_after (settings_in new).takes_ignored
        (folders_above (settings_in new).takes_ignored (item_at tree) (reverse start))) (item_at tree) t) has.text
        ∙ ap (λ ps. before (item_at tree) ++ ps) (rules_are (settings_in new).takes_ignored (item_at tree) (reverse start))

-- the same after the rules of the folders before
pub begin_more : (s next : Option Snapshot) (start : List (List ℕ)) (name stem : List ℕ) (names : List (List ℕ)) (listed : FolderNames)
    (old new : Walk) → next ≡ s → HasEntered s (start ++ name ∷ []) new stem names → settings_in new ≡ settings_in old →
    EntersNoting next stem listed old new →
    InTree s (λ items. folders_in old.layers ≡ folders_to (settings_in old).takes_ignored items (reverse start)) →
    InTree s (λ items. paths_noted old.reader ≡ unread_rules_to (settings_in old).takes_ignored items (reverse start)) →
    InTree s (λ items. paths_noted new.reader ≡ unread_rules_to (settings_in new).takes_ignored items (reverse (start ++ name ∷ [])))
    × InTree s (λ items. is_some listed.fault ≡ is_unlisted (items (folder_path stem)))
begin_more s next start name stem names listed old new same has settings enters outer so_far =
    let ti = (settings_in new).takes_ignored in
    let all : List (List ℕ) = start ++ name ∷ [] in
    let above : reverse all ≡ name ∷ reverse start = last_first start name in
    let before : TreeItems → List (List ℕ) = λ items. unread_rules_to (settings_in old).takes_ignored items (reverse start) in
    let entered = begin_noted s next all stem names listed old new before same has settings enters
    (from_one s (λ items. folders_in old.layers ≡ folders_to (settings_in old).takes_ignored items (reverse start))
    (λ items. folders_in old.layers ≡ folders_above (settings_in old).takes_ignored items (reverse all))
    (λ items is. is ∙ sym (ap (folders_above (settings_in old).takes_ignored items) above)) outer) so_far in (
      from_one s (λ items. paths_noted new.reader ≡ before items ++ unread_rules_at ti items (reverse all))
          (λ items. paths_noted new.reader ≡ unread_rules_to ti items (reverse all))
          (λ items is.
          is
          ∙ ap (λ (o : Settings). unread_rules_to o.takes_ignored items (reverse start) ++ unread_rules_at ti items (reverse all)) (sym settings)
          ∙ ap (λ a. unread_rules_to ti items (reverse start) ++ unread_rules_at ti items a) above
          ∙ sym (ap (unread_rules_to ti items) above)) entered.0,
      entered.1,
    )

-- the rules of the last folder are among those of all
last_rules : (ti : Bool) (items : TreeItems) (above : List (List ℕ)) (text : List ℕ) →
    is_among (unread_rules_at ti items above) text ≡ true → is_among (unread_rules_to ti items above) text ≡ true
last_rules ti items [] text among = among
last_rules ti items (name ∷ above) text among =
    (among_both (unread_rules_to ti items above) (unread_rules_at ti items (name ∷ above)) text).1 (inr among)

-- of what is noted at the beginning, and what cannot be read below the entries of the folder
first_group : {N R A F K U : Type 0} → N ↔ (R ⊎ F) → (A → R) → U ↔ ((A ⊎ F) ⊎ K) → (N ⊎ (K ⊎ ⊥)) ↔ (R ⊎ U)
first_group {N} {R} {A} {F} {K} {U} noted rules opens = (there, back)
  where
    of_noted : R ⊎ F → R ⊎ U
    of_noted (inl r) = inl r
    of_noted (inr f) = inr (opens.1 (inl (inr f)))

    there : N ⊎ (K ⊎ ⊥) → R ⊎ U
    there (inl n) = of_noted (noted.0 n)
    there (inr (inl k)) = inr (opens.1 (inr k))
    there (inr (inr never)) = absurd never

    of_opened : (A ⊎ F) ⊎ K → N ⊎ (K ⊎ ⊥)
    of_opened (inl (inl a)) = inl (noted.1 (inl (rules a)))
    of_opened (inl (inr f)) = inl (noted.1 (inr f))
    of_opened (inr k) = inr (inl k)

    back : R ⊎ U → N ⊎ (K ⊎ ⊥)
    back (inl r) = inl (noted.1 (inl r))
    back (inr u) = of_opened (opens.0 u)

pub begins_noting : (s next : Option Snapshot) (start : List (List ℕ)) (stem : String Global) (names : List (List ℕ)) (listed : FolderNames)
    (old new : Walk) → next ≡ s → HasEntered s start old (string_bytes stem) names → Opens next stem names old new → new.layers ≡ old.layers →
    new.reported ≡ old.reported → HasReportedNone old →
    InTree s (λ items. paths_noted old.reader ≡ unread_rules_to (settings_in old).takes_ignored items (reverse start)) →
    InTree s (λ items. is_some listed.fault ≡ is_unlisted (items (folder_path (string_bytes stem)))) →
    OpensNoting next (string_bytes stem) names listed old new → InTree s (λ items. BeginsToReport items start new)
begins_noting s next start stem names listed old new same has opens layers reported none first whole second =
    by_model s has.at (subst (λ o. InTree o (λ items. AreKeysOf (keys_in opens.0) (keys_taken old.layers items (string_bytes stem) names))) same opens.4)
    first whole (moved_to s next (λ items. paths_noted new.reader ≡ paths_noted old.reader
    ++ (unlisted_path (string_bytes stem) listed ++ unseen_entries (out_by old.layers) items (string_bytes stem) names)) same second)
  where
    place : above_in old.layers ≡ reverse start
    place = ap (λ (all : List (List ℕ)). reverse (drop 1 all)) has.all

    frames : frames_in new ≡ opens.0 ∷ []
    frames = ap reverse (opens.1 ∙ ap (λ fs. fs ++ opens.0 ∷ []) has.none_open)

    by_model : (o : Option Snapshot) → InTree o (λ items. IsAt items (reverse start) old names) →
        InTree o (λ items. AreKeysOf (keys_in opens.0) (keys_taken old.layers items (string_bytes stem) names)) →
        InTree o (λ items. paths_noted old.reader ≡ unread_rules_to (settings_in old).takes_ignored items (reverse start)) →
        InTree o (λ items. is_some listed.fault ≡ is_unlisted (items (folder_path (string_bytes stem)))) →
        InTree o (λ items. paths_noted new.reader ≡ paths_noted old.reader
        ++ (unlisted_path (string_bytes stem) listed ++ unseen_entries (out_by old.layers) items (string_bytes stem) names)) →
        InTree o (λ items. BeginsToReport items start new)
    by_model None at keys first whole second = tt
    by_model (Some tree) at keys first whole second = λ text.
        let items = item_at tree in
        let s = settings_in old in
        let above = reverse start in
        let taken = subst (λ t. AreKeysOf (keys_in opens.0) (keys_taken old.layers items t names)) has.text keys in
        let fault = subst (λ t. is_some listed.fault ≡ is_unlisted (items (folder_path t))) has.text whole in
        let noted : paths_noted new.reader ≡ unread_rules_to s.takes_ignored items above ++ unread_folder s items above =
        second
        ∙ ap (λ ps. ps ++ (unlisted_path (string_bytes stem) listed ++ unseen_entries (out_by old.layers) items (string_bytes stem) names)) first
        ∙ ap (λ t. unread_rules_to s.takes_ignored items above ++ (unlisted_path t listed ++ unseen_entries (out_by old.layers) items t names)) has.text
        ∙ ap (λ ps. unread_rules_to s.takes_ignored items above ++ ps)
        (folder_noted items old.layers above names place at.0 at.1 at.2 listed fault) in
        let all : (is_noted new text ≡ true) ↔ ((is_among (unread_rules_to s.takes_ignored items above) text ≡ true)
        ⊎ (is_among (unread_folder s items above) text ≡ true)) =
        iff_then (iff_is (is_noted new text) (is_among (unread_rules_to s.takes_ignored items above ++ unread_folder s items above) text)
        (ap (λ (set : BTreeSet (String Global)). contains_text set text || is_among (paths_noted new.reader) text) reported
        ∙ ap (λ b. b || is_among (paths_noted new.reader) text) (none text)
        ∙ ap (λ ps. is_among ps text) noted))
        (among_both (unread_rules_to s.takes_ignored items above) (unread_folder s items above) text) in
        subst (λ l. ((is_noted new text ≡ true) ⊎ ComesUnread (settings_of l) items (above_in l) (keys_of_all (frames_in new)) text)
        ↔ IsUnreadable (settings_of l) items start text) (sym layers)
        (subst (λ fs. ((is_noted new text ≡ true) ⊎ ComesUnread s items (above_in old.layers) (keys_of_all fs) text)
        ↔ IsUnreadable s items start text) (sym frames)
        (subst (λ a. ((is_noted new text ≡ true) ⊎ ComesUnread s items a (keys_in opens.0 ∷ []) text) ↔ IsUnreadable s items start text) (sym place)
        (first_group all (last_rules s.takes_ignored items above text)
        (iff_then (folder_opened items old.layers above names place at.0 at.1 at.2 opens.0 taken text)
        (iff_or (among_both (unread_rules_at s.takes_ignored items above) (unread_folder s items above) text) iff_refl)))))

-- ---- whole walks

-- what is given was to be reported
given_was : (items : TreeItems) (walk : Walk) (given : List Found) → GivesToEnd items walk given → (text : List ℕ) →
    is_among (paths_reported given) text ≡ true → IsToReport items walk text
given_was items walk [] to_end text among = absurd (true≢false (sym among))
given_was items walk (found.File file ∷ others) to_end text among = (to_end.4 text).0 (given_was items to_end.0 others to_end.3 text among)
given_was items walk (found.Unread unread ∷ others) to_end text among =
    (to_end.4 text).0 (by_first (given_was items to_end.0 others to_end.3 text)
    (or_cases (bytes_eq (string_bytes unread.path) text) (is_among (paths_reported others) text) among))
  where
    by_first : (is_among (paths_reported others) text ≡ true → IsToReport items to_end.0 text) →
        (bytes_eq (string_bytes unread.path) text ≡ true) ⊎ (is_among (paths_reported others) text ≡ true) → IsToReport items to_end.0 text
    by_first later (inl is) = inl (or_left (contains_text to_end.0.reported text) (is_among (unread_paths (unread_in to_end.0)) text)
        (to_end.2.1 text ∙ or_left (bytes_eq (string_bytes unread.path) text) (contains_text walk.reported text) is))
    by_first later (inr more) = later more

-- what is to be reported was reported, or is given
was_given : (items : TreeItems) (walk : Walk) (given : List Found) → GivesToEnd items walk given → (text : List ℕ) →
    IsToReport items walk text → (contains_text walk.reported text ≡ true) ⊎ (is_among (paths_reported given) text ≡ true)
was_given items walk [] to_end text left = inl (to_end.2 text left)
was_given items walk (found.File file ∷ others) to_end text left =
    by_part (was_given items to_end.0 others to_end.3 text ((to_end.4 text).1 left))
  where
    by_part : (contains_text to_end.0.reported text ≡ true) ⊎ (is_among (paths_reported others) text ≡ true) →
        (contains_text walk.reported text ≡ true) ⊎ (is_among (paths_reported others) text ≡ true)
    by_part (inl is) = inl (sym (to_end.2 text) ∙ is)
    by_part (inr among) = inr among
was_given items walk (found.Unread unread ∷ others) to_end text left =
    by_part (was_given items to_end.0 others to_end.3 text ((to_end.4 text).1 left))
  where
    first_or_before : (bytes_eq (string_bytes unread.path) text ≡ true) ⊎ (contains_text walk.reported text ≡ true) →
        (contains_text walk.reported text ≡ true) ⊎ (is_among (string_bytes unread.path ∷ paths_reported others) text ≡ true)
    first_or_before (inl is) = inr (or_left (bytes_eq (string_bytes unread.path) text) (is_among (paths_reported others) text) is)
    first_or_before (inr is) = inl is

    by_part : (contains_text to_end.0.reported text ≡ true) ⊎ (is_among (paths_reported others) text ≡ true) →
        (contains_text walk.reported text ≡ true) ⊎ (is_among (string_bytes unread.path ∷ paths_reported others) text ≡ true)
    by_part (inl is) =
        first_or_before (or_cases (bytes_eq (string_bytes unread.path) text) (contains_text walk.reported text) (sym (to_end.2.1 text) ∙ is))
    by_part (inr among) = inr (or_right (bytes_eq (string_bytes unread.path) text) (is_among (paths_reported others) text) among)

pub reports_all : WalksReportAll
reports_all items start walk given begins none to_end text = (
  λ among. (begins text).0 (given_was items walk given to_end text among),
  λ unreadable. by_part (was_given items walk given to_end text ((begins text).1 unreadable)),
)
  where
    by_part : (contains_text walk.reported text ≡ true) ⊎ (is_among (paths_reported given) text ≡ true) → is_among (paths_reported given) text ≡ true
    by_part (inl is) = absurd (true≢false (sym is ∙ none text))
    by_part (inr among) = among
