-- One step of the iterator of a posting list.
use Rattle.std.proofs.Common.{◌≡◌, ℕ, false, Bool, List, [], ◌∷◌, ◌++◌, drop, Ok, refl, sym, ap, ◌∙◌, inr}
use Rattle.std.proofs.lemmas.List.{append-nil}
use Rattle.cs_index.specs.ListDecoding.{IsNextId, IsStep, after_id, ids_ahead}
use Rattle.cs_index.specs.PostingLists.{Ids, onto}
use Rattle.cs_index.specs.Postings.{ids_given}
use Rattle.cs_index.specs.PostingsInvariant.{remaining_ids}
use Rattle.cs_index.specs.declared.reading.postings.ListDecoder.{ListDecoder}
use Rattle.cs_index.specs.declared.reading.postings.Step.TheVariants.{End}

module _ (ended : Bool) (d : ListDecoder) (bytes : List ℕ) (now : Ids) (going : ended ≡ false)
    (is : remaining_ids ended d bytes ≡ now) where
  all_read : now ≡ ids_ahead d (bytes ++ [])
  all_read = sym is ∙ ap (λ e. remaining_ids e d bytes) going ∙ ap (ids_ahead d) (sym (append-nil bytes))

  pub step_ok : (id len : ℕ) (rest : List ℕ) → rest ≡ drop len bytes → IsNextId d bytes id len →
      ids_given now ≡ Ok id ∷ ids_given (remaining_ids ended (after_id d id) rest)
  step_ok id len rest same step =
      ap ids_given (all_read ∙ step.ids [] (inr refl)
      ∙ ap (λ b. onto id (ids_ahead (after_id d id) b)) (append-nil (drop len bytes) ∙ sym same))
      ∙ ap (λ r. Ok id ∷ ids_given r) (ap (λ e. remaining_ids e (after_id d id) rest) (sym going))

  pub step_end : (whole : Bool) → IsStep d bytes (End whole) → ids_given now ≡ ids_given (record { ids = []; whole = whole })
  step_end whole step = ap ids_given (all_read ∙ step [] (inr refl))
