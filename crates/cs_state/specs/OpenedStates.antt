-- The index in a state file that is open.
use Rattle.std.specs.Prelude.{◌≡◌, ℕ, List, Option, Some, take}
use Rattle.cs_index.specs.OpenedParts.{Parts}
use Rattle.cs_index.specs.Stored.{StandsIn, StoredParts}
use Rattle.cs_state.specs.StateForm.{HasForm}
use Rattle.cs_state.specs.declared.state_key.StateSeal.{StateSeal}

-- The bytes have the form of a state file with some seal. The store has the index of it, which decodes as some parts, with its
-- sections at these offsets.
pub record HasIndex (bytes : List ℕ) (model : Option (List ℕ)) (stored : StoredParts) : Type 0 where
  pub seal : StateSeal
  pub index_len : ℕ
  pub form : HasForm seal bytes index_len
  pub model_is : model ≡ Some (take index_len bytes)
  pub parts : Parts
  pub stands : StandsIn (take index_len bytes) stored parts
