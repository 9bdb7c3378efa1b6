-- The index of a state that is open.
use Rattle.std.proofs.Common.{◌≡◌, ◌∙◌, List, ℕ, Option, Some, subst, sym, take}
use Rattle.cs_index.specs.OpenedParts.{Parts}
use Rattle.cs_index.specs.Stored.{StandsIn, StoredParts}
use Rattle.cs_index.proofs.decoding.DecodingIsUnique.{decoding_is_unique}
use Rattle.cs_state.specs.OpenedStates.{HasIndex}
use Rattle.cs_state.specs.StateFile.{IsState}
use Rattle.cs_state.specs.declared.state_key.StateKey.{StateKey}

same_some : {X : Type 0} (a b : X) → Some a ≡ Some b → a ≡ b
same_some a b e = cc

-- the index has the parts of the state
pub stands : {key : StateKey} (bytes : List ℕ) (parts : Parts) (is : IsState key bytes parts) (model : Option (List ℕ)) (stored : StoredParts)
    (has : HasIndex bytes model stored) → model ≡ Some is.index → StandsIn is.index stored parts
stands bytes parts is model stored has model_is =
    let index_is = same_some (take has.index_len bytes) is.index (sym has.model_is ∙ model_is) in
    let at_index = subst (λ b. StandsIn b stored has.parts) index_is has.stands in
    subst (StandsIn is.index stored) (decoding_is_unique is.index has.parts parts at_index.decodes is.decodes) at_index
