-- An output whose bytes are summed piece by piece.
use Rattle.std.specs.Prelude.{◌≡◌, ◌*◌, true, ℕ, List, ◌++◌, length, min}
use Rattle.cs_state.specs.Sums.{piece_len, sums_within}
use Rattle.cs_state.specs.declared.summed_output.SummedOutput.{SummedOutput}

-- all bytes that it was given: those that were sent on, and those of the piece that is not full
abbrev pub bytes_given : {O : Type 0} → (O → List ℕ) → SummedOutput O → List ℕ
bytes_given given output = given output.out ++ output.piece.items

-- It sent on whole pieces, has their sums, and has counted its bytes.
pub record IsSummed {O : Type 0} (given : O → List ℕ) (output : SummedOutput O) : Type 0 where
  pub count : ℕ
  pub sent : length (given output.out) ≡ piece_len * count
  pub sums : output.sums.items ≡ sums_within output.seal (given output.out) count
  pub len : output.len ≡ min (length (bytes_given given output)) 18446744073709551615

-- summed, unless an append has failed
abbrev pub IsSummedIfWhole : {O : Type 0} → (O → List ℕ) → SummedOutput O → Type 0
IsSummedIfWhole given output = output.whole ≡ true → IsSummed given output

-- the seal, the count of bytes and the note of a failed append stay
abbrev pub KeepsSeal : {O : Type 0} → SummedOutput O → SummedOutput O → Type 0
KeepsSeal old new = (new.seal ≡ old.seal) × (new.len ≡ old.len) × (new.whole ≡ old.whole)
