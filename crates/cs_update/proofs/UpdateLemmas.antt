-- An update keeps what was learned.
use Rattle.std.proofs.Common.{◌≡◌, ℕ, List, [], ◌∷◌, refl, sym, ap, subst, ◌∙◌, Option, Some, None, inl, inr, Bool, true, false, not, cond, arith}
use Rattle.std.specs.Prelude.{Contains, IsSome}
use Rattle.std.specs.FinMap as map'
use Rattle.std.specs.Option.{option_or}
use Rattle.cs_tree.specs.Cover.{is_covered}
use Rattle.cs_index.specs.Encoding.{Files}
use Rattle.cs_index.specs.OpenedParts.{Parts, files_in}
use Rattle.cs_merge.proofs.MergeLemmas.{get-merge_files}
use Rattle.cs_state.specs.Known.{Known}
use Rattle.cs_state.specs.StampedNames.{Knows, stamped}
use Rattle.cs_known.specs.Learned.{Run, ReadsAs, IsLearnedIn}
use Rattle.cs_update.specs.Updates.{UpdatesKeepLearned, LeftStatesAreLearned}
use Rattle.cs_update.proofs.NameLemmas.{file_of_name, name_of_file}

-- the index has the same of the file after the update
moved : (runs : List Run) (old new : Parts) (one : Known) →
    map'.get (files_in old) (stamped one) ≡ map'.get (files_in new) (stamped one) → IsLearnedIn runs old one → IsLearnedIn runs new one
moved [] old new one same learned = absurd learned
moved (run ∷ runs) old new one same (inl here) = inl (record {
  stamp = here.stamp;
  old = here.old;
  read = subst (λ (t : Option (List ℕ)). ReadsAs one.kept t (run.view.item one.name)) same here.read;
})
moved (run ∷ runs) old new one same (inr later) = inr (moved runs old new one same later)

-- a file whose stamped name is in the new index was read anew, or was known before
pub updates_keep_learned : UpdatesKeepLearned
updates_keep_learned now paths own old new updates runs learned one fits knows =
    by_side (map'.get own name) (not (is_covered paths name)) (map'.get (files_in old) name) refl refl
    (ap (λ (files : Files). map'.get files name) updates.files ∙ get-merge_files paths (files_in old) own name)
    (file_of_name new name knows.1)
  where
    name : List ℕ
    name = stamped one

    by_side : (mine : Option (List ℕ)) (stays : Bool) (was : Option (List ℕ)) → map'.get own name ≡ mine →
        map'.get (files_in old) name ≡ was → map'.get (files_in new) name ≡ option_or mine (cond stays was None) →
        IsSome (map'.get (files_in new) name) → IsLearnedIn (now ∷ runs) new one
    by_side (Some trigrams) stays was m w is some =
        let anew = updates.anew one knows.0 fits (subst IsSome (sym m) refl) in
        inl (record {
          stamp = anew.stamp;
          old = anew.old;
          read = subst (λ (t : Option (List ℕ)). ReadsAs one.kept t (now.view.item one.name)) (m ∙ sym is) anew.read;
        })
    by_side None true was m w is some =
        inr (moved runs old new one (w ∙ sym is) (learned one fits (knows.0, name_of_file old name (subst IsSome (is ∙ sym w) some))))
    by_side None false was m w is some = absurd (lost (subst IsSome is some))
      where
        lost : IsSome {T = List ℕ} None → ⊥
        lost e = cc

-- ---- all runs

knows_nothing : (parts : Parts) (one : Known) → parts.names ≡ [] → Knows parts one → ⊥
knows_nothing parts one none knows = empty (subst (λ names. Contains names (stamped one)) none knows.1)
  where
    empty : Contains [] (stamped one) → ⊥
    empty (k, low, is) = omega (arith, low)

pub left_states_are_learned : LeftStatesAreLearned
left_states_are_learned [] state is one fits knows = absurd (knows_nothing state one is knows)
left_states_are_learned (run ∷ runs) state (inl same) one fits knows = inr (left_states_are_learned runs state same one fits knows)
left_states_are_learned (run ∷ runs) state (inr new) one fits knows =
    updates_keep_learned run new.1 new.2 new.0 state new.4 runs (left_states_are_learned runs new.0 new.3) one fits knows
