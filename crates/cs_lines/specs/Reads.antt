-- Reads of a source into a buffer.
use Rattle.std.specs.Prelude.{ℕ, ◌≡◌, ◌≤◌, ◌+◌, Bool, true, false, List, [], ◌∷◌, ◌++◌, length, Option, Result, Ok, Err, MatchResult, IfSome}
use Rattle.cs_tree.specs.StreamModels.{SourceModel, ends, fails}
use Rattle.cs_tree.specs.Transfers.{Consumes, IsAt}
use Rattle.cs_lines.specs.Shown.{is_binary}
use Rattle.cs_lines.specs.declared.buffer.FillFault.{FillFault}
use Rattle.cs_lines.specs.declared.buffer.FillFault.TheVariants.{Failed, TooLong, Memory}

-- some bytes were read, and none only at the end of the source
pub record BytesRead (model later : Option SourceModel) (old new : List ℕ) (count : ℕ) : Type 0 where
  pub bytes : List ℕ
  pub size : length bytes ≡ count
  pub text : new ≡ old ++ bytes
  pub consumed : Consumes model later bytes
  pub end : count ≡ 0 → IsAt ends later

-- A byte follows the limit. It was read.
abbrev pub GoesOn : Option SourceModel → Option SourceModel → Type 0
GoesOn model later = (byte : ℕ) × Consumes model later (byte ∷ [])

-- why no bytes were read, where `left` bytes might be read
abbrev pub IsRefused : ℕ → Option SourceModel → Option SourceModel → FillFault → Type 0
IsRefused left model later Failed = Consumes model later [] × IsAt fails later
IsRefused left model later TooLong = (left ≡ 0) × GoesOn model later
IsRefused left model later Memory = Consumes model later []

-- Bytes were read behind those of a buffer, or none.
abbrev pub ReadsBehind : ℕ → Option SourceModel → Option SourceModel → Result ℕ FillFault → List ℕ → List ℕ → Type 0
ReadsBehind left model later answer old new = MatchResult answer (BytesRead model later old new)
    (λ fault. (new ≡ old) × IsRefused left model later fault)

-- Some bytes were read, and perhaps one behind the limit.
pub record ReadsAtMost (limit : ℕ) (model later : Option SourceModel) (first : List ℕ) : Type 0 where
  pub more : List ℕ
  pub consumed : Consumes model later (first ++ more)
  pub size : length first + length more ≤ limit + 1

abbrev pub is_failure : FillFault → Bool
is_failure Failed = true
is_failure TooLong = false
is_failure Memory = false

-- whether a read failed
abbrev pub has_failed : {A : Type 0} → Result A FillFault → Bool
has_failed (Ok answer) = false
has_failed (Err fault) = is_failure fault

-- The first bytes of a source were read: so many that they are binary if and only if all are.
abbrev pub ReadsFirst : {A : Type 0} → Option SourceModel → Option SourceModel → Result A FillFault → List ℕ → Type 0
ReadsFirst model later answer first = MatchResult answer
    (λ _. Consumes model later first × IfSome model (λ source. is_binary first ≡ is_binary source.bytes))
    (λ fault. fault ≡ Failed → Consumes model later first × IsAt fails later)

-- A source that ends, and has at most so many bytes, is refused only where memory is short.
abbrev pub IsCutBy : ℕ → Option SourceModel → FillFault → Type 0
IsCutBy limit model fault = IfSome model (λ source. source.ending ≡ ends → length source.bytes ≤ limit → fault ≡ Memory)
