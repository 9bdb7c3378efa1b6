-- What the output of a new index is given. docs/PROMISES.md, "Jobs of cindex".
use Rattle.std.specs.Prelude.{◌≡◌, ◌++◌, ℕ, List, IfOk, Result}
use Rattle.cs_tree.specs.declared.fault.IoFault.{IoFault}
use Rattle.cs_tree.specs.declared.output.Sent.{Sent}
use Rattle.cs_storage.specs.FileAfter.{IsGiven}
use Rattle.cs_storage.specs.declared.update.IndexUpdate.{IndexUpdate}

module _ {W E : Type 0} (given : W → List ℕ) (Keeps : W → W → Type 0) (old new : W) where
  -- An index was sent: the output was given its bytes. In any case it preserves what appends preserve.
  abbrev pub Sends : Result Sent E → Type 0
  Sends result = IfOk result (λ sent. given new ≡ given old ++ sent.bytes) × Keeps old new

  -- the same, unless a store cannot be read
  abbrev pub SendsOver : Result (Result Sent E) IoFault → Type 0
  SendsOver result = IfOk result (λ answer. IfOk answer (λ sent. given new ≡ given old ++ sent.bytes)) × Keeps old new

  -- the same of the bytes of an update, if it has some
  abbrev pub SendsUpdate : Result (Result IndexUpdate E) IoFault → Type 0
  SendsUpdate result = IfOk result (λ answer. IfOk answer (λ update. IsGiven update (given old) (given new))) × Keeps old new
