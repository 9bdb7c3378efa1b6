-- What a walk comes to when a folder is entered and its entries are opened, when an entry is taken, and when a folder is left.
use Rattle.std.specs.Prelude.{String, string_bytes}
use Rattle.std.specs.Path.{slash}
use Rattle.std.specs.List.{list_all}
use Rattle.std.specs.declared.alloc.Global.{Global}
use Rattle.std.proofs.Common.{◌≡◌, ◌≢◌, refl, ℕ, Bool, ◌<◌, ◌≤◌, true, List, [], ◌∷◌, ◌++◌, length, drop, reverse, sym, ap, subst, ◌∙◌, arith}
use Rattle.std.proofs.lemmas.List.{reverse-append, reverse-reverse, length-reverse, length-append, length-map}
use Rattle.std.proofs.lemmas.Bool.{and_parts}
use Rattle.cs_tree.specs.NamesAscending.{are_ascending}
use Rattle.cs_tree.specs.Elements.{is_element, are_elements, are_distinct}
use Rattle.cs_tree.specs.Folders.{names_listed}
use Rattle.cs_tree.specs.Clean.{path_of, with_slashes, longest_path}
use Rattle.cs_listing.specs.Models.{folder_of, folder_name, folders_in, names_in, all_names, settings_of}
use Rattle.cs_listing.specs.Layers.{FolderRules, room_after}
use Rattle.cs_listing.specs.Listing.{Settings, TreeItems, rule_names, folders_to, folder_at}
use Rattle.cs_listing.specs.FolderReads.{key_of, keys_taken, folder_path, folder_read}
use Rattle.cs_listing.specs.Entries.{AreKeysOf}
use Rattle.cs_listing.specs.Walk.{is_to_come, settings_in, above_in, keys_in, keys_of_all, frames_in, IsOpen, AreAround, IsOf, IsVisit, Visits, Enters, with_key}
use Rattle.cs_listing.specs.declared.layers.Layers.{Layers}
use Rattle.cs_listing.specs.declared.walk.Frame.{Frame}
use Rattle.cs_listing.specs.declared.walk.Walk.{Walk}
use Rattle.cs_listing.proofs.WalkLemmas.{AreAll, visits}
use Rattle.cs_listing.proofs.TakenLemmas.{all_taken, taken_keys}
use Rattle.cs_listing.proofs.FolderLemmas.{folder_is}

-- ---- layers

-- one more item, of the first to be popped
pub last_first : {A : Type 0} (xs : List A) (x : A) → reverse (xs ++ x ∷ []) ≡ x ∷ reverse xs
last_first xs x = reverse-append xs (x ∷ [])

pub above_more : (all : List (List ℕ)) (name : List ℕ) → 0 < length all →
    reverse (drop 1 (all ++ name ∷ [])) ≡ name ∷ reverse (drop 1 all)
above_more [] name some = absurd (omega (arith, some))
above_more (x ∷ all) name some = last_first all name

pub some_folders : (ti : Bool) (items : TreeItems) (above : List (List ℕ)) → 0 < length (folders_to ti items above)
some_folders ti items [] = omega arith
some_folders ti items (name ∷ above) =
    omega (arith, length-append (folders_to ti items above) (folder_at (room_after ti (folders_to ti items above)) items (name ∷ above) ∷ []))

pub names_count : (layers : Layers) → length (all_names layers) ≡ length (folders_in layers)
names_count layers = length-map layers.folders.items folder_name ∙ sym (length-map layers.folders.items folder_of)

pub some_names : (ti : Bool) (items : TreeItems) (layers : Layers) → folders_in layers ≡ folders_to ti items (above_in layers) →
    0 < length (all_names layers)
some_names ti items layers is = omega (arith, names_count layers, ap length is, some_folders ti items (above_in layers))

-- ---- the entries of a folder are opened

module _ (items : TreeItems) (layers : Layers) (above names : List (List ℕ)) (frame : Frame)
    (place : above_in layers ≡ above) (rules : folders_in layers ≡ folders_to (settings_of layers).takes_ignored items above)
    (stem : string_bytes frame.stem ≡ with_slashes above) (ascend : are_ascending (keys_in frame) ≡ true)
    (keys : AreKeysOf (keys_in frame) (keys_taken layers items (with_slashes above) names))
    (listed : names ≡ names_listed (items (path_of above))) (good : are_elements names ≡ true) where
  names_are : names_in layers ≡ reverse above
  names_are = sym (reverse-reverse (names_in layers)) ∙ ap reverse place

  elements_are : list_all is_element names ≡ true
  elements_are = (and_parts (list_all is_element names) (are_distinct names) good).0

  pub is_open : IsOpen items [] above frame
  is_open = record {
    stem = stem;
    ascend = ascend;
    keys = taken_keys layers items above names rules names_are listed elements_are (keys_in frame) keys;
  }

  pub has_all : AreAll (settings_of layers) items above (keys_in frame)
  has_all = all_taken layers items above names rules names_are listed elements_are (keys_in frame) keys

  pub is_of : (frames : List Frame) → AreAround items above frames → IsOf items layers (frame ∷ frames)
  is_of frames are = (
    rules ∙ ap (folders_to (settings_of layers).takes_ignored items) (sym place),
    subst (λ a. IsOpen items [] a frame) (sym place) is_open,
    subst (λ a. AreAround items a frames) (sym place) are,
  )

  -- in place of the key of the folder, if it is in another one
  pub comes_alike : (name : List ℕ) (outer : List (List ℕ)) (frames : List Frame) → above ≡ name ∷ outer → frames ≢ [] →
      AreAround items (name ∷ outer) frames → (path : List (List ℕ)) →
      is_to_come (settings_of layers) items (name ∷ outer) (keys_in frame ∷ keys_of_all frames) path
      ≡ is_to_come (settings_of layers) items outer (with_key (key_of true name) (keys_of_all frames)) path
  comes_alike name outer [] is some are path = absurd (some refl)
  comes_alike name outer (next ∷ frames) is some are path =
      visits (settings_of layers) items outer name (keys_in frame) (keys_in next) are.0
      (subst (λ a. AreAll (settings_of layers) items a (keys_in frame)) is has_all) (keys_of_all frames) path

-- a folder of the deepest one is entered
pub entered_at : (items : TreeItems) (name : List ℕ) (stem : String Global) (names : List (List ℕ)) (old mid : Walk) →
    Enters items (string_bytes stem) names old mid → all_names mid.layers ≡ all_names old.layers ++ name ∷ [] →
    settings_in mid ≡ settings_in old → IsVisit items name stem old →
    (above_in mid.layers ≡ name ∷ above_in old.layers)
    × (folders_in mid.layers ≡ folders_to (settings_in mid).takes_ignored items (name ∷ above_in old.layers))
    × (names ≡ names_listed (items (path_of (name ∷ above_in old.layers))))
entered_at items name stem names old mid enters more settings visit =
    let outer = above_in old.layers in
    let ti = (settings_in old).takes_ignored in
    let read = folder_is (room_after ti (folders_to ti items outer)) items (name ∷ outer) names (enters.0 ∙ ap (λ t. names_listed (items (folder_path t))) visit.3) in (
      ap (λ (all : List (List ℕ)). reverse (drop 1 all)) more
          ∙ above_more (all_names old.layers) name (some_names ti items old.layers visit.1),
      enters.2 ∙ ap (λ (fs : List FolderRules). fs ++ folder_read (room_after ti fs) items (string_bytes stem) (rule_names items (string_bytes stem) (items (folder_path (string_bytes stem)))) ∷ []) visit.1
          ∙ ap (λ t. folders_to ti items outer ++ folder_read (room_after ti (folders_to ti items outer)) items t (rule_names items t (items (folder_path t))) ∷ []) visit.3
          ∙ ap (λ f. folders_to ti items outer ++ f ∷ []) read.1
          ∙ sym (ap (λ (s : Settings). folders_to s.takes_ignored items (name ∷ outer)) settings),
      read.0,
    )

pub opens_frames : (frame : Frame) (old mid new : Walk) → mid.frames ≡ old.frames → new.frames.items ≡ mid.frames.items ++ frame ∷ [] →
    frames_in new ≡ frame ∷ frames_in old
opens_frames frame old mid new same opens =
    ap reverse opens ∙ last_first mid.frames.items frame ∙ ap (λ fs. frame ∷ reverse fs) (ap (λ v. v.items) same)

pub visited : (items : TreeItems) (name : List ℕ) (stem : String Global) (names : List (List ℕ)) (frame : Frame) (old mid new : Walk) →
    Enters items (string_bytes stem) names old mid → all_names mid.layers ≡ all_names old.layers ++ name ∷ [] →
    mid.frames ≡ old.frames → settings_in mid ≡ settings_in old →
    new.frames.items ≡ mid.frames.items ++ frame ∷ [] → frame.stem ≡ stem → are_ascending (keys_in frame) ≡ true →
    AreKeysOf (keys_in frame) (keys_taken mid.layers items (string_bytes stem) names) → new.layers ≡ mid.layers →
    IsVisit items name stem old → Visits items name old new
visited items name stem names frame old mid new enters more same settings opens at ascend keys layers visit =
    let outer = above_in old.layers in
    let entered = entered_at items name stem names old mid enters more settings visit in
    let place = entered.0 in
    let rules = entered.1 in
    let text = ap string_bytes at ∙ visit.3 in
    let taken = subst (λ t. AreKeysOf (keys_in frame) (keys_taken mid.layers items t names)) visit.3 keys in
    let frames = opens_frames frame old mid new same opens in (
      subst (λ l. IsOf items l (frames_in new)) (sym layers) (subst (IsOf items mid.layers) (sym frames)
          (is_of items mid.layers (name ∷ outer) names frame place rules text ascend taken entered.2 enters.1 (frames_in old) visit.2)),
      λ path.
          ap (λ l. is_to_come (settings_of l) items (above_in l) (keys_of_all (frames_in new)) path) layers
          ∙ ap (λ fs. is_to_come (settings_of mid.layers) items (above_in mid.layers) (keys_of_all fs) path) frames
          ∙ ap (λ a. is_to_come (settings_of mid.layers) items a (keys_in frame ∷ keys_of_all (frames_in old)) path) place
          ∙ comes_alike items mid.layers (name ∷ outer) names frame place rules text ascend taken entered.2 enters.1 name outer (frames_in old) refl
          visit.0 visit.2 path
          ∙ ap (λ s. is_to_come s items outer (with_key (key_of true name) (keys_of_all (frames_in old))) path) settings,
    )

-- as many folders are open as the path has elements, at most
pub few_open : (items : TreeItems) (above : List (List ℕ)) (frames : List Frame) → AreAround items above frames →
    length frames ≤ length above
few_open items above [] are = omega arith
few_open items [] (frame ∷ frames) are = absurd are
few_open items (name ∷ above) (frame ∷ frames) are = omega (arith, few_open items above frames are.2)

long_path : (above : List (List ℕ)) → length above ≤ length (with_slashes above)
long_path [] = omega arith
long_path (name ∷ above) = omega (arith, long_path above, length-append (with_slashes above) (slash ∷ name))

-- no more folders are open than a path has bytes
pub visits_within : (items : TreeItems) (name : List ℕ) (stem : String Global) (walk : Walk) → IsVisit items name stem walk →
    length walk.frames.items ≤ longest_path
visits_within items name stem walk visit =
    omega (
      arith,
      sym (length-reverse walk.frames.items),
      few_open items (name ∷ above_in walk.layers) (frames_in walk) visit.2,
      long_path (name ∷ above_in walk.layers),
      ap length visit.3,
      visit.4,
    )
