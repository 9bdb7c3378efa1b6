-- The same of a tree that may have no model, and of calls that may fail.
use denote.Ref.{Bor}
use Rattle.std.specs.Prelude.{Option, Some, None, Result, Ok, Err, OnOk, is_some, IsSome, String, string_bytes}
use Rattle.std.specs.Path.{slash}
use Rattle.std.specs.List.{AllByRecursion}
use Rattle.std.specs.declared.alloc.Global.{Global}
use Rattle.std.proofs.Common.{◌≡◌, ◌≢◌, refl, ℕ, ◌+◌, ◌<◌, ◌≤◌, Bool, true, false, List, [], ◌∷◌, ◌++◌, length, map, drop, reverse, sym, ap, subst, ◌∙◌, arith, inr}
use Rattle.cs_tree.specs.Snapshot.{Snapshot, item_at}
use Rattle.cs_tree.specs.NamesAscending.{are_ascending}
use Rattle.cs_tree.specs.Elements.{is_element}
use Rattle.cs_tree.specs.Walks.{is_file}
use Rattle.cs_tree.specs.Clean.{path_of, with_slashes, longest_path}
use Rattle.std.specs.Option.{option_to_list}
use Rattle.std.proofs.lemmas.List.{reverse-reverse, map-append, length-append}
use Rattle.cs_listing.specs.Models.{all_names, folder_of, folder_name, folders_of, folders_in, chosen_in, settings_of, KeepsChoices}
use Rattle.cs_listing.specs.Layers.{room_after}
use Rattle.cs_listing.specs.Listing.{Settings, TreeItems, folders_to, folder_at}
use Rattle.cs_listing.specs.FolderReads.{InTree, entry_path, keys_taken, key_of}
use Rattle.cs_listing.specs.Entries.{entry_key, AreKeysOf, IsNameOf}
use Rattle.cs_listing.specs.Walk.{settings_in, above_in, keys_in, keys_of_all, is_to_come, with_key, frames_in, is_left, TakesFirst, IsKeyOf, IsOpen, AreAround, IsOf, IsWalkIn, StepGives, IsVisit, Visits, Enters, Opens, OpensAtMostOne}
use Rattle.cs_listing.specs.declared.layers.Layers.{Layers}
use Rattle.cs_listing.specs.declared.choices.Choices.{Choices}
use Rattle.cs_listing.specs.declared.layers.FolderRules.{FolderRules as OwnFolder}
use Rattle.cs_listing.specs.declared.walk.Frame.{Frame}
use Rattle.cs_listing.specs.declared.walk.Walk.{Walk}
use Rattle.cs_listing.specs.declared.walk.File.{File}
use Rattle.cs_listing.specs.declared.entries.Entry.{Entry}
use Rattle.cs_listing.specs.declared.walk.Step.TheVariants as step
use Rattle.cs_listing.specs.declared.walk.Found.TheVariants as found
use Rattle.cs_listing.proofs.KeyLemmas.{rest_ascend}
use Rattle.cs_listing.proofs.WalkLemmas.{leaves}
use Rattle.cs_listing.proofs.OrderLemmas.{takes_file, file_text}
use Rattle.cs_listing.proofs.VisitLemmas.{visited, visits_within, last_first, above_more, some_folders, names_count}

-- ---- results

pub on_ok : {A E : Type 0} (P Q : Type 0) (r : Result A E) → (P → Q) → OnOk r P → OnOk r Q
on_ok P Q (Ok x) f h = f h
on_ok P Q (Err e) f h = tt

pub on_ok_always : {A E : Type 0} (Q : Type 0) (r : Result A E) → Q → OnOk r Q
on_ok_always Q (Ok x) h = h
on_ok_always Q (Err e) h = tt

pub in_tree : (s : Option Snapshot) (P : TreeItems → Type 0) → ((items : TreeItems) → P items) → InTree s P
in_tree None P f = tt
in_tree (Some tree) P f = f (item_at tree)

-- ---- a folder is visited

pub visited_in : {A E : Type 0} (s next : Option Snapshot) (name : List ℕ) (stem : String Global) (names : List (List ℕ)) (old mid new : Walk)
    (r : Result A E) → next ≡ s → InTree s (λ items. Enters items (string_bytes stem) names old mid) →
    all_names mid.layers ≡ all_names old.layers ++ name ∷ [] → mid.frames ≡ old.frames → settings_in mid ≡ settings_in old →
    new.layers ≡ mid.layers → OnOk r (Opens next stem names mid new) →
    OnOk r (InTree s (λ items. IsVisit items name stem old → Visits items name old new))
visited_in s next name stem names old mid new r same enters more frames settings layers opens =
    on_ok (Opens next stem names mid new) (InTree s (λ items. IsVisit items name stem old → Visits items name old new)) r
    (λ opened. by_model s enters opened.0 opened.1 opened.2 opened.3
    (subst (λ o. InTree o (λ items. AreKeysOf (keys_in opened.0) (keys_taken mid.layers items (string_bytes stem) names))) same opened.4)) opens
  where
    by_model : (o : Option Snapshot) → InTree o (λ items. Enters items (string_bytes stem) names old mid) → (frame : Frame) →
        new.frames.items ≡ mid.frames.items ++ frame ∷ [] → frame.stem ≡ stem → are_ascending (keys_in frame) ≡ true →
        InTree o (λ items. AreKeysOf (keys_in frame) (keys_taken mid.layers items (string_bytes stem) names)) →
        InTree o (λ items. IsVisit items name stem old → Visits items name old new)
    by_model None enters frame added at ascend keys = tt
    by_model (Some tree) enters frame added at ascend keys = λ visit.
        visited (item_at tree) name stem names frame old mid new enters more frames settings added at ascend keys layers visit

pub refused : {A E : Type 0} (s : Option Snapshot) (name : List ℕ) (stem : String Global) (old new : Walk) (r : Result A E) →
    longest_path < length old.frames.items → OnOk r (InTree s (λ items. IsVisit items name stem old → Visits items name old new))
refused s name stem old new r many =
    on_ok_always (InTree s (λ items. IsVisit items name stem old → Visits items name old new)) r
    (in_tree s (λ items. IsVisit items name stem old → Visits items name old new)
    (λ items visit. absurd (omega (arith, many, visits_within items name stem old visit))))

pub opens_one : {A E : Type 0} (s : Option Snapshot) (stem : String Global) (names : List (List ℕ)) (old mid new : Walk) (r : Result A E) →
    mid.frames ≡ old.frames → length old.frames.items ≤ longest_path → OnOk r (Opens s stem names mid new) →
    OnOk r (OpensAtMostOne old new)
opens_one s stem names old mid new r frames few opens =
    on_ok (Opens s stem names mid new) (OpensAtMostOne old new) r
    (λ opened. inr (few, (opened.0, opened.1 ∙ ap (λ v. v.items ++ opened.0 ∷ []) frames))) opens

-- ---- a folder is left

append_last : {A : Type 0} (xs ys : List A) (x y : A) → xs ++ x ∷ [] ≡ ys ++ y ∷ [] → xs ≡ ys
append_last xs ys x y same =
    sym (reverse-reverse xs) ∙ ap reverse (tails (sym (last_first xs x) ∙ ap reverse same ∙ last_first ys y)) ∙ reverse-reverse ys
  where
    tails : x ∷ reverse xs ≡ y ∷ reverse ys → reverse xs ≡ reverse ys
    tails e = cc

-- the layers around the deepest folder
module _ (ti : Bool) (items : TreeItems) (old new : Layers) (left : Option OwnFolder) (name : List ℕ) (above : List (List ℕ))
    (all : old.folders.items ≡ new.folders.items ++ option_to_list left) (some : is_some left ≡ true)
    (place : above_in old ≡ name ∷ above) (rules : folders_in old ≡ folders_to ti items (name ∷ above)) where
  by_last : (o : Option OwnFolder) → is_some o ≡ true → old.folders.items ≡ new.folders.items ++ option_to_list o →
      (folders_in new ≡ folders_to ti items above) × (above_in new ≡ above)
  by_last None is all = cc
  by_last (Some last) is all =
      let outer : folders_in new ≡ folders_to ti items above =
      append_last (folders_in new) (folders_to ti items above) (folder_of last)
      (folder_at (room_after ti (folders_to ti items above)) items (name ∷ above))
      (sym (ap folders_of all ∙ map-append folder_of new.folders.items (last ∷ [])) ∙ rules) in
      let names : all_names old ≡ all_names new ++ folder_name last ∷ [] =
      ap (map folder_name) all ∙ map-append folder_name new.folders.items (last ∷ []) in
      let count : 0 < length (all_names new) = omega (arith, names_count new, ap length outer, some_folders ti items above) in
      (outer, tails (sym (above_more (all_names new) (folder_name last) count) ∙ sym (ap (λ (ns : List (List ℕ)). reverse (drop 1 ns)) names) ∙ place))
    where
      tails : folder_name last ∷ above_in new ≡ name ∷ above → above_in new ≡ above
      tails e = cc

  pub outer_layers : (folders_in new ≡ folders_to ti items above) × (above_in new ≡ above)
  outer_layers = by_last left some all

-- what is to come after the deepest folder, which has no entries
pub left_is : (items : TreeItems) (old new : Layers) (left : Option OwnFolder) (frame : Frame) (frames : List Frame) →
    old.folders.items ≡ new.folders.items ++ option_to_list left → (0 < length (folders_in old) → IsSome left) → settings_of new ≡ settings_of old →
    keys_in frame ≡ [] → IsOf items old (frame ∷ frames) →
    IsOf items new frames × ((path : List (List ℕ)) → is_to_come (settings_of new) items (above_in new) (keys_of_all frames) path
    ≡ is_to_come (settings_of old) items (above_in old) (keys_of_all (frame ∷ frames)) path)
left_is items old new left frame frames all some settings empty are = by_frames frames (above_in old) refl are.2
  where
    by_frames : (fs : List Frame) (above : List (List ℕ)) → above_in old ≡ above → AreAround items (above_in old) fs →
        IsOf items new fs × ((path : List (List ℕ)) → is_to_come (settings_of new) items (above_in new) (keys_of_all fs) path
        ≡ is_to_come (settings_of old) items (above_in old) (keys_in frame ∷ keys_of_all fs) path)
    by_frames [] above place around = (
      tt,
      λ path.
          sym (ap (λ ks. is_to_come (settings_of old) items (above_in old) (ks ∷ []) path) empty ∙ leaves (settings_of old) items (above_in old) [] path),
    )
    by_frames (next ∷ fs) [] place around = absurd (subst (λ a. AreAround items a (next ∷ fs)) place around)
    by_frames (next ∷ fs) (name ∷ above) place around =
        let ti = (settings_of old).takes_ignored in
        let outer = outer_layers ti items old new left name above all (some (omega (arith, ap length are.0, some_folders ti items (above_in old)))) place
        (are.0 ∙ ap (folders_to ti items) place) in
        let at = subst (λ a. AreAround items a (next ∷ fs)) place around in (
          (
            outer.0 ∙ ap (folders_to ti items) (sym outer.1)
                ∙ sym (ap (λ (s : Settings). folders_to s.takes_ignored items (above_in new)) settings),
            subst (λ a. IsOpen items [] a next) (sym outer.1) (record {
              stem = at.1.stem;
              ascend = rest_ascend (key_of true name) (keys_in next) at.1.ascend;
              keys = at.1.keys;
            }),
            subst (λ a. AreAround items a fs) (sym outer.1) at.2,
          ),
          λ path.
              ap (λ s. is_to_come s items (above_in new) (keys_of_all (next ∷ fs)) path) settings
              ∙ ap (λ a. is_to_come (settings_of old) items a (keys_of_all (next ∷ fs)) path) outer.1
              ∙ sym (ap (λ ks. is_to_come (settings_of old) items (above_in old) (ks ∷ keys_of_all (next ∷ fs)) path) empty
              ∙ leaves (settings_of old) items (above_in old) (keys_of_all (next ∷ fs)) path
              ∙ ap (λ (a : List (List ℕ)). is_to_come (settings_of old) items (drop 1 a) (keys_of_all (next ∷ fs)) path) place),
        )

pub leaves_in : (s : Option Snapshot) (old new : Walk) (left : Option OwnFolder) (frame : Frame) →
    old.frames.items ≡ new.frames.items ++ frame ∷ [] → frame.entries.items ≡ [] →
    old.layers.folders.items ≡ new.layers.folders.items ++ option_to_list left →
    (0 < length (folders_in old.layers) → IsSome left) → settings_in new ≡ settings_in old →
    InTree s (λ items. IsWalkIn items old → StepGives items old new step.More)
leaves_in s old new left frame frames empty all some settings =
    in_tree s (λ items. IsWalkIn items old → StepGives items old new step.More) (λ items is.
    let at : frames_in old ≡ frame ∷ frames_in new = ap reverse frames ∙ last_first new.frames.items frame in
    let after = left_is items old.layers new.layers left frame (frames_in new) all some settings
    (ap (λ es. map entry_key (reverse es)) empty) (subst (IsOf items old.layers) at is) in
    (after.0, λ path. after.1 path ∙ ap (λ fs. is_to_come (settings_in old) items (above_in old.layers) (keys_of_all fs) path) (sym at)))

-- ---- an entry is taken

-- what is known of the next entry
module _ (items : TreeItems) (layers : Layers) (frame next : Frame) (rest : List Frame) (key name : List ℕ)
    (keys : keys_in frame ≡ key ∷ keys_in next) (stem : next.stem ≡ frame.stem) (named : IsNameOf key name)
    (is : IsOf items layers (frame ∷ rest)) where
  ascends : are_ascending (key ∷ keys_in next) ≡ true
  ascends = ap are_ascending (sym keys) ∙ is.1.ascend

  pub own : AllByRecursion (IsKeyOf items (above_in layers)) (key ∷ keys_in next)
  own = subst (AllByRecursion (IsKeyOf items (above_in layers))) keys is.1.keys

  name_is : name ≡ own.0.0
  name_is = named own.0.1 own.0.0 own.0.2 own.0.3

  pub good : is_element name ≡ true
  good = ap is_element name_is ∙ own.0.3

  short : length (path_of (name ∷ above_in layers)) ≤ longest_path
  short = subst (λ n. length (path_of (n ∷ above_in layers)) ≤ longest_path) (sym name_is) own.0.4

  open_next : (before : List (List ℕ)) → are_ascending (before ++ keys_in next) ≡ true → IsOpen items before (above_in layers) next
  open_next before up = record { stem = ap string_bytes stem ∙ is.1.stem; ascend = up; keys = own.1 }

  kind_of_key : (is_folder : Bool) → own.0.1 ≡ is_folder → key ≡ key_of is_folder name
  kind_of_key is_folder e = own.0.2 ∙ ap (λ f. key_of f own.0.0) e ∙ ap (key_of is_folder) (sym name_is)

  longer : key ≡ key_of true name → length key ≡ length name + 1
  longer e = omega (arith, ap length e, length-append name (slash ∷ []))

  module _ (whole : length name ≡ length key) where
    pub file_here : (is_folder : Bool) → own.0.1 ≡ is_folder → (key ≡ name) × (is_file (items (path_of (name ∷ above_in layers))) ≡ true)
    file_here true e = absurd (omega (arith, whole, longer (kind_of_key true e)))
    file_here false e = (kind_of_key false e, ap (λ n. is_file (items (path_of (n ∷ above_in layers)))) name_is ∙ own.0.5 e)

    pub file_taken : IsOf items layers (next ∷ rest)
        × TakesFirst (is_to_come (settings_of layers) items (above_in layers) (keys_of_all (frame ∷ rest)))
        (is_to_come (settings_of layers) items (above_in layers) (keys_of_all (next ∷ rest))) (reverse (above_in layers) ++ name ∷ [])
    file_taken =
        let here = file_here own.0.1 refl in (
          (is.0, open_next [] (rest_ascend key (keys_in next) ascends), is.2),
          subst (λ ks. TakesFirst (is_to_come (settings_of layers) items (above_in layers) (ks ∷ keys_of_all rest))
              (is_to_come (settings_of layers) items (above_in layers) (keys_of_all (next ∷ rest))) (reverse (above_in layers) ++ name ∷ []))
              (sym (keys ∙ ap (λ k. k ∷ keys_in next) here.0))
              (takes_file (settings_of layers) items (above_in layers) name (keys_in next) rest good here.1
              (ap (λ k. are_ascending (k ∷ keys_in next)) (sym here.0) ∙ ascends) is.2),
        )

  module _ (longer_key : length name ≢ length key) where
    folder_key : (is_folder : Bool) → own.0.1 ≡ is_folder → key ≡ key_of true name
    folder_key true e = kind_of_key true e
    folder_key false e = absurd (longer_key (sym (ap length (kind_of_key false e))))

    pub key_is : key ≡ key_of true name
    key_is = folder_key own.0.1 refl

    pub around_next : AreAround items (name ∷ above_in layers) (next ∷ rest)
    around_next = (good, open_next (key_of true name ∷ []) (ap (λ k. are_ascending (k ∷ keys_in next)) (sym key_is) ∙ ascends), is.2)

    pub short_path : length (with_slashes (name ∷ above_in layers)) ≤ longest_path
    short_path = short

-- the entries of a folder whose next entry is taken
pub next_keys : (frame next : Frame) (entry : Entry) → frame.entries.items ≡ next.entries.items ++ entry ∷ [] →
    keys_in frame ≡ entry_key entry ∷ keys_in next
next_keys frame next entry is = ap (λ es. map entry_key (reverse es)) is ∙ ap (map entry_key) (last_first next.entries.items entry)

pub takes_in : (s : Option Snapshot) (old new : Walk) (rest : List Frame) (frame next : Frame) (entry : Entry) (name : List ℕ) (file : File) →
    old.frames.items ≡ rest ++ frame ∷ [] → new.frames.items ≡ rest ++ next ∷ [] → new.layers ≡ old.layers → next.stem ≡ frame.stem →
    frame.entries.items ≡ next.entries.items ++ entry ∷ [] → IsNameOf (entry_key entry) name → length name ≡ length (entry_key entry) →
    string_bytes file.path ≡ entry_path (string_bytes frame.stem) name →
    InTree s (λ items. IsWalkIn items old → StepGives items old new (step.Done (Some (found.File file))))
takes_in s old new rest frame next entry name file frames later layers stem popped named whole path =
    in_tree s (λ items. IsWalkIn items old → StepGives items old new (step.Done (Some (found.File file)))) (λ items is.
    let above = above_in old.layers in
    let before : frames_in old ≡ frame ∷ reverse rest = ap reverse frames ∙ last_first rest frame in
    let after : frames_in new ≡ next ∷ reverse rest = ap reverse later ∙ last_first rest next in
    let at = subst (IsOf items old.layers) before is in
    let taken = file_taken items old.layers frame next (reverse rest) (entry_key entry) name (next_keys frame next entry popped) stem named at whole in (
      subst (λ l. IsOf items l (frames_in new)) (sym layers) (subst (IsOf items old.layers) (sym after) taken.0),
      (
        reverse above ++ name ∷ [],
        path ∙ ap (λ t. entry_path t name) at.1.stem ∙ sym (file_text above name),
        subst (λ l. TakesFirst (is_left old items) (is_to_come (settings_of l) items (above_in l) (keys_of_all (frames_in new))) (reverse above ++ name ∷ []))
            (sym layers)
            (subst (λ fs. TakesFirst (is_left old items) (is_to_come (settings_in old) items above (keys_of_all fs)) (reverse above ++ name ∷ [])) (sym after)
            (subst (λ fs. TakesFirst (is_to_come (settings_in old) items above (keys_of_all fs))
            (is_to_come (settings_in old) items above (keys_of_all (next ∷ reverse rest))) (reverse above ++ name ∷ [])) (sym before) taken.1)),
      ),
    ))

-- the folder that is the next entry is to be visited
pub visit_of : (items : TreeItems) (old mid : Walk) (rest : List Frame) (frame next : Frame) (entry : Entry) (name : List ℕ)
    (path : String Global) → old.frames.items ≡ rest ++ frame ∷ [] → mid.frames.items ≡ rest ++ next ∷ [] → mid.layers ≡ old.layers →
    next.stem ≡ frame.stem → frame.entries.items ≡ next.entries.items ++ entry ∷ [] → IsNameOf (entry_key entry) name →
    length name ≢ length (entry_key entry) → string_bytes path ≡ entry_path (string_bytes frame.stem) name → IsWalkIn items old →
    IsVisit items name path mid × (keys_in frame ≡ key_of true name ∷ keys_in next)
visit_of items old mid rest frame next entry name path frames later layers stem popped named longer text is =
    let above = above_in old.layers in
    let before : frames_in old ≡ frame ∷ reverse rest = ap reverse frames ∙ last_first rest frame in
    let after : frames_in mid ≡ next ∷ reverse rest = ap reverse later ∙ last_first rest next in
    let at = subst (IsOf items old.layers) before is in
    let keys = next_keys frame next entry popped in
    let around = around_next items old.layers frame next (reverse rest) (entry_key entry) name keys stem named at longer in
    let place : above_in mid.layers ≡ above = ap above_in layers in
    let where_is : string_bytes path ≡ with_slashes (name ∷ above_in mid.layers) =
    text ∙ ap (λ t. entry_path t name) at.1.stem ∙ ap (λ a. with_slashes (name ∷ a)) (sym place) in (
      (
        λ none. not_none (sym after ∙ none),
        ap folders_in layers ∙ at.0 ∙ sym (ap (λ l. folders_to (settings_of l).takes_ignored items (above_in l)) layers),
        subst (λ a. AreAround items (name ∷ a) (frames_in mid)) (sym place) (subst (AreAround items (name ∷ above)) (sym after) around),
        where_is,
        omega (
          arith,
          ap length where_is,
          ap (λ a. length (with_slashes (name ∷ a))) place,
          short_path items old.layers frame next (reverse rest) (entry_key entry) name keys stem named at longer,
        ),
      ),
      keys ∙ ap (λ k. k ∷ keys_in next) (key_is items old.layers frame next (reverse rest) (entry_key entry) name keys stem named at longer),
    )
  where
    not_none : next ∷ reverse rest ≡ [] → ⊥
    not_none e = cc

pub visits_in : (s : Option Snapshot) (old mid new : Walk) (rest : List Frame) (frame next : Frame) (entry : Entry) (name : List ℕ)
    (path : String Global) → old.frames.items ≡ rest ++ frame ∷ [] → mid.frames.items ≡ rest ++ next ∷ [] → mid.layers ≡ old.layers →
    next.stem ≡ frame.stem → frame.entries.items ≡ next.entries.items ++ entry ∷ [] → IsNameOf (entry_key entry) name →
    length name ≢ length (entry_key entry) → string_bytes path ≡ entry_path (string_bytes frame.stem) name →
    InTree s (λ items. IsVisit items name path mid → Visits items name mid new) →
    InTree s (λ items. IsWalkIn items old → StepGives items old new step.More)
visits_in None old mid new rest frame next entry name path frames later layers stem popped named longer text visit = tt
visits_in (Some tree) old mid new rest frame next entry name path frames later layers stem popped named longer text visit = λ is.
    let items = item_at tree in
    let above = above_in old.layers in
    let before : frames_in old ≡ frame ∷ reverse rest = ap reverse frames ∙ last_first rest frame in
    let after : frames_in mid ≡ next ∷ reverse rest = ap reverse later ∙ last_first rest next in
    let at = visit_of items old mid rest frame next entry name path frames later layers stem popped named longer text is in
    let visited_now = visit at.0 in (
      visited_now.0,
      λ q. visited_now.1 q
          ∙ ap (λ l. is_to_come (settings_of l) items (above_in l) (with_key (key_of true name) (keys_of_all (frames_in mid))) q) layers
          ∙ ap (λ fs. is_to_come (settings_in old) items above (with_key (key_of true name) (keys_of_all fs)) q) after
          ∙ ap (λ ks. is_to_come (settings_in old) items above (ks ∷ keys_of_all (reverse rest)) q) (sym at.1)
          ∙ ap (λ fs. is_to_come (settings_in old) items above (keys_of_all fs) q) (sym before),
    )

pub same_settings : (old new : Layers) → KeepsChoices old new → settings_of new ≡ settings_of old
same_settings old new keeps =
    ap (λ (choices : Bor Choices). let s : Settings = record (chosen_in choices.now) { most_names = new.most_names } in s) keeps.0
    ∙ ap (λ (most : ℕ). let s : Settings = record (chosen_in old.choices.now) { most_names = most } in s) keeps.1
