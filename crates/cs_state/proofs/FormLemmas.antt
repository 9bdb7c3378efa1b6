-- A sealed index has the form of a state file.
use Rattle.std.proofs.Common.{◌≡◌, ◌∙◌, ℕ, ◌+◌, ◌*◌, ◌<◌, List, ◌++◌, length, take, drop, append_assoc, sym, ap, subst, refl, arith, length-append, length-drop, Option, Some}
use Rattle.std.proofs.lemmas.List.{drop_at, take_at}
use Rattle.cs_index.specs.OpenedParts.{Parts}
use Rattle.cs_index.specs.Stored.{StoredParts}
use Rattle.cs_state.specs.OpenedStates.{HasIndex}
use Rattle.cs_state.specs.StateFile.{IsState, eight_bytes, end_of, sealed}
use Rattle.cs_state.specs.StateForm.{HasForm}
use Rattle.cs_state.specs.Sums.{piece_count, seal_of, sum_of, sums_of}
use Rattle.cs_state.specs.declared.state_key.StateKey.{StateKey}
use Rattle.cs_state.specs.declared.state_key.StateSeal.{StateSeal}
use Rattle.cs_state.proofs.SumLemmas.{all_sums_len}

pub end_len : (seal : StateSeal) (index_len : ℕ) → length (end_of seal index_len) ≡ 41
unfolding eight_bytes sum_of
end_len seal index_len = refl

module _ (seal : StateSeal) (index : List ℕ) where
  before_len : length (index ++ sums_of seal index) ≡ length index + 8 * piece_count (length index)
  before_len =
      let a = length-append index (sums_of seal index) in
      let s = all_sums_len seal index in
      omega (arith, a, s)

  pub sealed_len : length (sealed seal index) ≡ length index + 8 * piece_count (length index) + 41
  unfolding sealed
  sealed_len =
      let a = length-append (index ++ sums_of seal index) (end_of seal (length index)) in
      let b = before_len in
      let e = end_len seal (length index) in
      omega (arith, a, b, e)

  pub sealed_form : length (sealed seal index) < 4294967296 → HasForm seal (sealed seal index) (length index)
  unfolding sealed
  sealed_form short = record {
    short = short;
    end_is = drop_at (index ++ sums_of seal index) (end_of seal (length index)) (length index + 8 * piece_count (length index)) before_len;
  }

  sealed_index : take (length index) (sealed seal index) ≡ index
  unfolding sealed
  sealed_index =
      ap (take (length index)) (append_assoc index (sums_of seal index) (end_of seal (length index)))
      ∙ take_at index (sums_of seal index ++ end_of seal (length index)) (length index) refl

-- the length of the bytes says that of the index
form_len : (seal : StateSeal) (bytes : List ℕ) (index_len : ℕ) → HasForm seal bytes index_len →
    index_len + 8 * piece_count index_len + 41 ≡ length bytes
form_len seal bytes index_len form =
    let d = length-drop (index_len + 8 * piece_count index_len) bytes in
    let e = ap length form.end_is ∙ end_len seal index_len in
    omega (arith, d, e)

pub one_form : (bytes : List ℕ) (seal same : StateSeal) (one other : ℕ) → HasForm seal bytes one → HasForm same bytes other → one ≡ other
one_form bytes seal same one other a b =
    let s = form_len seal bytes one a in
    let t = form_len same bytes other b in
    omega (arith, s, t)

pub opened_index : (key : StateKey) (bytes : List ℕ) (parts : Parts) (model : Option (List ℕ)) (stored : StoredParts) →
    HasIndex bytes model stored → (state : IsState key bytes parts) → model ≡ Some state.index
opened_index key bytes parts model stored opened state =
    let seal = seal_of key state.moment in
    let index = state.index in
    let form : HasForm seal bytes (length index) =
    subst (λ (b : List ℕ). HasForm seal b (length index)) (sym state.bytes_are)
    (sealed_form seal index (subst (λ (b : List ℕ). length b < 4294967296) state.bytes_are state.short)) in
    let same : opened.index_len ≡ length index = one_form bytes opened.seal seal opened.index_len (length index) opened.form form in
    opened.model_is ∙ ap (λ (b : List ℕ). Some b) ((λ i. take (same i) (state.bytes_are i)) ∙ sealed_index seal index)
