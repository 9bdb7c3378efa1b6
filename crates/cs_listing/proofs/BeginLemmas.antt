-- How a walk begins: the folders from `/` down are entered, and the last one is opened.
use Rattle.std.specs.Prelude.{Option, Some, None, String, string_bytes}
use Rattle.std.specs.declared.alloc.Global.{Global}
use Rattle.std.proofs.Common.{◌≡◌, refl, ℕ, true, List, [], ◌∷◌, ◌++◌, map, drop, reverse, sym, ap, subst, ◌∙◌}
use Rattle.cs_tree.specs.Elements.{are_elements}
use Rattle.cs_tree.specs.Snapshot.{Snapshot, item_at}
use Rattle.cs_tree.specs.Folders.{names_listed}
use Rattle.cs_tree.specs.Clean.{path_of, with_slashes}
use Rattle.cs_listing.specs.Layers.{FolderRules, room_after}
use Rattle.cs_listing.specs.Models.{folder_of, folder_name, folders_in, all_names, settings_of}
use Rattle.cs_listing.specs.Listing.{Settings, TreeItems, rule_names, folders_to, is_found}
use Rattle.cs_listing.specs.FolderReads.{InTree, entry_path, folder_path, folder_read, keys_taken}
use Rattle.cs_listing.specs.Entries.{AreKeysOf}
use Rattle.cs_listing.specs.Walk.{settings_in, above_in, keys_in, keys_of_all, frames_in, is_to_come, IsOf, Begins, Enters, Opens}
use Rattle.cs_listing.specs.declared.layers.Layers.{Layers}
use Rattle.cs_listing.specs.declared.layers.FolderRules.{FolderRules as OwnFolder}
use Rattle.cs_listing.specs.declared.walk.Walk.{Walk}
use Rattle.cs_listing.proofs.WalkLemmas.{all_found}
use Rattle.cs_listing.proofs.FolderLemmas.{folder_is}
use Rattle.cs_listing.proofs.VisitLemmas.{last_first, is_of, has_all}

-- the folder of the layers is that of the tree with these elements, last one first, and lists these names
abbrev pub IsAt : TreeItems → List (List ℕ) → Walk → List (List ℕ) → Type 0
IsAt items above walk names =
    (folders_in walk.layers ≡ folders_to (settings_in walk).takes_ignored items above) × (names ≡ names_listed (items (path_of above))) × (are_elements names ≡ true)

-- the folders with these names have been entered, each in the one before, and none is open
pub record HasEntered (s : Option Snapshot) (start : List (List ℕ)) (walk : Walk) (stem : List ℕ) (names : List (List ℕ)) : Type 0 where
  pub all : all_names walk.layers ≡ [] ∷ start
  pub none_open : walk.frames.items ≡ []
  pub text : stem ≡ with_slashes (reverse start)
  pub at : InTree s (λ items. IsAt items (reverse start) walk names)

pub enters_root : (s : Option Snapshot) (names : List (List ℕ)) (stem : List ℕ) (old new : Walk) →
    all_names old.layers ≡ [] → folders_in old.layers ≡ [] → old.frames.items ≡ [] → stem ≡ [] → settings_in new ≡ settings_in old →
    InTree s (λ items. Enters items stem names old new) → all_names new.layers ≡ all_names old.layers ++ [] ∷ [] →
    new.frames ≡ old.frames → HasEntered s [] new stem names
enters_root s names stem old new none no_folders no_frames empty settings enters more frames = record {
  all = more ∙ ap (λ (all : List (List ℕ)). all ++ [] ∷ []) none;
  none_open = ap (λ v. v.items) frames ∙ no_frames;
  text = empty;
  at = by_model s (subst (λ t. InTree s (λ items. Enters items t names old new)) empty enters);
}
  where
    by_model : (o : Option Snapshot) → InTree o (λ items. Enters items [] names old new) → InTree o (λ items. IsAt items [] new names)
    by_model None enters = tt
    by_model (Some tree) enters =
        let read = folder_is (room_after (settings_in old).takes_ignored []) (item_at tree) [] names enters.0 in (
          enters.2
              ∙ ap (λ (fs : List FolderRules). fs ++ folder_read (room_after (settings_in old).takes_ignored fs) (item_at tree) [] (rule_names (item_at tree) [] (item_at tree (folder_path []))) ∷ []) no_folders
              ∙ ap (λ f. f ∷ []) read.1
              ∙ sym (ap (λ (s : Settings). folders_to s.takes_ignored (item_at tree) []) settings),
          read.0,
          enters.1,
        )

pub enters_more : (s next : Option Snapshot) (start : List (List ℕ)) (name : List ℕ) (stem later : List ℕ) (names listed : List (List ℕ))
    (old new : Walk) → next ≡ s → HasEntered s start old stem names → later ≡ entry_path stem name → settings_in new ≡ settings_in old →
    InTree next (λ items. Enters items later listed old new) → all_names new.layers ≡ all_names old.layers ++ name ∷ [] →
    new.frames ≡ old.frames → HasEntered s (start ++ name ∷ []) new later listed
enters_more s next start name stem later names listed old new same has text settings enters more frames =
    let above : reverse (start ++ name ∷ []) ≡ name ∷ reverse start = last_first start name in
    let at : later ≡ with_slashes (name ∷ reverse start) = text ∙ ap (λ t. entry_path t name) has.text in
    record {
      all = more ∙ ap (λ (all : List (List ℕ)). all ++ name ∷ []) has.all;
      none_open = ap (λ v. v.items) frames ∙ has.none_open;
      text = at ∙ ap with_slashes (sym above);
      at = subst (λ a. InTree s (λ items. IsAt items a new listed)) (sym above)
          (by_model s has.at (subst (λ t. InTree s (λ items. Enters items t listed old new)) at
          (subst (λ o. InTree o (λ items. Enters items later listed old new)) same enters)));
    }
  where
    by_model : (o : Option Snapshot) → InTree o (λ items. IsAt items (reverse start) old names) →
        InTree o (λ items. Enters items (with_slashes (name ∷ reverse start)) listed old new) →
        InTree o (λ items. IsAt items (name ∷ reverse start) new listed)
    by_model None at enters = tt
    by_model (Some tree) at enters =
        let ti = (settings_in old).takes_ignored in
        let read = folder_is (room_after ti (folders_to ti (item_at tree) (reverse start))) (item_at tree) (name ∷ reverse start) listed enters.0 in (
          enters.2
              ∙ ap (λ (fs : List FolderRules). fs ++ folder_read (room_after ti fs) (item_at tree) (with_slashes (name ∷ reverse start))
              (rule_names (item_at tree) (with_slashes (name ∷ reverse start)) (item_at tree (folder_path (with_slashes (name ∷ reverse start))))) ∷ []) at.0
              ∙ ap (λ f. folders_to ti (item_at tree) (reverse start) ++ f ∷ []) read.1
              ∙ sym (ap (λ (s : Settings). folders_to s.takes_ignored (item_at tree) (name ∷ reverse start)) settings),
          read.0,
          enters.1,
        )

pub begins : (s next : Option Snapshot) (start : List (List ℕ)) (stem : String Global) (names : List (List ℕ)) (old new : Walk) →
    next ≡ s → HasEntered s start old (string_bytes stem) names → Opens next stem names old new → new.layers ≡ old.layers →
    InTree s (λ items. Begins items start new)
begins s next start stem names old new same has opens layers =
    by_model s has.at (subst (λ o. InTree o (λ items. AreKeysOf (keys_in opens.0) (keys_taken old.layers items (string_bytes stem) names))) same opens.4)
  where
    place : above_in old.layers ≡ reverse start
    place = ap (λ (all : List (List ℕ)). reverse (drop 1 all)) has.all

    frames : frames_in new ≡ opens.0 ∷ []
    frames = ap reverse (opens.1 ∙ ap (λ fs. fs ++ opens.0 ∷ []) has.none_open)

    text : string_bytes opens.0.stem ≡ with_slashes (reverse start)
    text = ap string_bytes opens.2 ∙ has.text

    by_model : (o : Option Snapshot) → InTree o (λ items. IsAt items (reverse start) old names) →
        InTree o (λ items. AreKeysOf (keys_in opens.0) (keys_taken old.layers items (string_bytes stem) names)) →
        InTree o (λ items. Begins items start new)
    by_model None at keys = tt
    by_model (Some tree) at keys =
        let items = item_at tree in
        let taken = subst (λ t. AreKeysOf (keys_in opens.0) (keys_taken old.layers items t names)) has.text keys in (
          subst (λ l. IsOf items l (frames_in new)) (sym layers) (subst (IsOf items old.layers) (sym frames)
              (is_of items old.layers (reverse start) names opens.0 place at.0 text opens.3 taken at.1 at.2 [] tt)),
          λ path.
              ap (λ l. is_to_come (settings_of l) items (above_in l) (keys_of_all (frames_in new)) path) layers
              ∙ ap (λ fs. is_to_come (settings_of old.layers) items (above_in old.layers) (keys_of_all fs) path) frames
              ∙ ap (λ a. is_to_come (settings_of old.layers) items a (keys_in opens.0 ∷ []) path) place
              ∙ all_found (settings_of old.layers) items start (keys_in opens.0)
              (has_all items old.layers (reverse start) names opens.0 place at.0 text opens.3 taken at.1 at.2) path
              ∙ ap (λ l. is_found (settings_of l) items start path) (sym layers),
        )

no_items : (folders : List OwnFolder) → map folder_of folders ≡ [] → map folder_name folders ≡ []
no_items [] none = refl
no_items (folder ∷ folders) none = cc

-- no folder has been entered
pub no_names : (layers : Layers) → folders_in layers ≡ [] → all_names layers ≡ []
no_names layers none = no_items layers.folders.items none
