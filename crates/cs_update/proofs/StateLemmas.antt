-- The state that a run leaves.
use Rattle.std.proofs.Common.{◌≡◌, ◌∙◌, ℕ, Bool, true, false, List, [], ◌∷◌, ◌++◌, map, refl, sym, ap, subst, Option, Some, None, cond, not}
use Rattle.std.specs.FinMap as map'
use Rattle.std.specs.List.{AllByRecursion, list_any}
use Rattle.std.specs.Option.{option_or}
use Rattle.std.specs.Path.{slash}
use Rattle.std.specs.Cmp.Lexicographic.{nat_list_cmp_total}
use Rattle.std.proofs.lemmas.Bool.{or_left, or_right, true≢false}
use Rattle.cs_tree.specs.Cover.{covers, is_absolute, is_covered}
use Rattle.cs_tree.specs.PathSet.{Paths}
use Rattle.cs_tree.proofs.PathSetLemmas.{alike, items_in_order}
use Rattle.cs_index.specs.Built.{Built, file_map, path_set}
use Rattle.cs_index.specs.Encoding.{Entry, Files, encoding_of, names_of}
use Rattle.cs_index.specs.OpenedParts.{Parts, files_in}
use Rattle.cs_known.specs.Learned.{Run}
use Rattle.cs_merge.specs.Content.{DecodesAsContent, LieUnder}
use Rattle.cs_merge.specs.Merge.{merge_files}
use Rattle.cs_merge.proofs.DecodedContentLemmas.{find_all}
use Rattle.cs_merge.proofs.MergeLemmas.{get-merge_files}
use Rattle.cs_state.specs.Known.{HasNumbers, Known}
use Rattle.cs_state.specs.StampedNames.{IsLearnable, stamped}
use Rattle.cs_state.specs.declared.state_key.StateSeal.{StateSeal}
use Rattle.cs_update.specs.Learning.{HasLearned, LearnedFile, Seen, all_learned, entry_in, known_in}
use Rattle.cs_update.specs.Updating.{IsFirstState, IsUpdateOf, no_state, own_files, root_paths}
use Rattle.cs_update.specs.Written.{AreStateBytes, IsMergedState, IsWritten}
use Rattle.cs_update.proofs.AnewLemmas.{all_anew}
use Rattle.cs_update.proofs.IndexLemmas.{built_decodes}

-- ---- no old state

merge_nothing : (paths : Paths) (own : Files) → own ≡ merge_files paths (files_in no_state) own
merge_nothing paths own = map'.same_map nat_list_cmp_total alike own (merge_files paths (files_in no_state) own)
    (λ name. by_value name (map'.get own name) (not (is_covered paths name))
    ∙ ap (λ o. option_or (map'.get own name) (cond (not (is_covered paths name)) o None))
    (sym (map'.get-from_entries nat_list_cmp_total [] name))
    ∙ sym (get-merge_files paths (files_in no_state) own name))
  where
    by_value : (name : List ℕ) (value : Option (List ℕ)) (b : Bool) → value ≡ option_or value (cond b None None)
    by_value name None true = refl
    by_value name None false = refl
    by_value name (Some x) b = refl

-- ---- paths that cover the names

root_covers : (name : List ℕ) → is_absolute name ≡ true → is_covered root_paths name ≡ true
root_covers name absolute =
    ap (list_any (λ path. covers path name)) (items_in_order ((slash ∷ []) ∷ []) tt)
    ∙ or_left _ _ (or_right _ _ (or_right _ _ absolute))

stays_absolute : (name rest : List ℕ) → is_absolute name ≡ true → is_absolute (name ++ rest) ≡ true
stays_absolute [] rest absolute = absurd (true≢false (sym absolute))
stays_absolute (b ∷ name) rest absolute = absolute

under_root : (files : List LearnedFile) → AllByRecursion (λ (file : LearnedFile). IsLearnable file.name) files →
    AllByRecursion (λ name. is_covered root_paths name ≡ true) (names_of (map entry_in files))
under_root [] all = tt
under_root (file ∷ files) all =
    (root_covers (stamped (known_in file)) (stays_absolute file.name _ all.0.absolute), under_root files all.1)

-- paths that cover each entry cover the files
entries_under : (paths : Paths) (entries : List Entry) → AllByRecursion (λ name. is_covered paths name ≡ true) (names_of entries) →
    LieUnder paths (map'.from_entries entries)
entries_under paths entries all name trigrams there =
    find_all (λ n (t : List ℕ). is_covered paths n ≡ true) entries name trigrams (by_entry entries all)
    (sym (map'.get-from_entries nat_list_cmp_total entries name) ∙ there)
  where
    by_entry : (es : List Entry) → AllByRecursion (λ name. is_covered paths name ≡ true) (names_of es) →
        AllByRecursion (λ (e : Entry). is_covered paths e.0 ≡ true) es
    by_entry [] all = tt
    by_entry (e ∷ es) all = (all.0, by_entry es all.1)

-- ---- the state

-- no two files that can be learned have one stamped name
abbrev pub AreUnique : Type 0
AreUnique = (a b : Known) → IsLearnable a.name → IsLearnable b.name → HasNumbers a.stamp → HasNumbers b.stamp → stamped a ≡ stamped b → a ≡ b

module _ (unique : AreUnique) (run : Run) (seen : List Seen) (own : Built) (has : HasLearned own (all_learned run seen)) where
  abbrev mine : Files
  mine = own_files run seen

  same : file_map own ≡ mine
  same = ap map'.from_entries has.entries

  update_by : (seal : StateSeal) (paths all_paths : Paths) (old : Parts) (index bytes : List ℕ) → LieUnder paths mine →
      DecodesAsContent index all_paths (merge_files paths (files_in old) mine) → AreStateBytes seal index bytes →
      IsUpdateOf seal.key run seen paths old bytes
  update_by seal paths all_paths old index bytes under decoding state = record {
    new = decoding.parts;
    state = record {
      moment = seal.moment;
      index = index;
      decodes = decoding.decodes;
      bytes_are = state.are;
      short = state.short;
    };
    updates = record {
      under = under;
      files = decoding.has.files_are;
      anew = all_anew run unique seen has.names has.numbers;
    };
  }

  pub first_of : (seal : StateSeal) (bytes : List ℕ) → IsWritten seal own bytes → IsFirstState seal.key run seen bytes
  first_of seal bytes is =
      let index = encoding_of own.paths own.entries in
      update_by seal root_paths (path_set own) no_state index bytes
      (entries_under root_paths (map entry_in (all_learned run seen)) (under_root (all_learned run seen) has.names))
      (subst (DecodesAsContent index (path_set own)) (same ∙ merge_nothing root_paths mine) (built_decodes own is.built is.short)) is.state

  pub update_of : (seal : StateSeal) (old : Parts) (bytes : List ℕ) → IsMergedState seal own old bytes →
      IsUpdateOf seal.key run seen (path_set own) old bytes
  update_of seal old bytes is =
      update_by seal (path_set own) is.all_paths old is.index bytes
      (entries_under (path_set own) (map entry_in (all_learned run seen))
      (subst (λ es. AllByRecursion (λ name. is_covered (path_set own) name ≡ true) (names_of es)) has.entries is.covered))
      (subst (λ files. DecodesAsContent is.index is.all_paths (merge_files (path_set own) (files_in old) files)) same is.decoding) is.state
