-- What the calls answer that scan a text and build an index. docs/FORMAT.md.
use Rattle.std.specs.Prelude.{◌≡◌, ◌≢◌, ◌≤◌, ◌+◌, ◌^◌, nat_eq, if◌then◌else◌, ℕ, ℤ, false, List, [], ◌∷◌, length, take, drop, Option, Some, None}
use Rattle.std.specs.List.{onto_first}
use Rattle.std.specs.Str.{IsUtf8}
use Rattle.cs_trigram.specs.Trigram.{tri}
use Rattle.cs_trigram.specs.Text.{limits, skip}
use Rattle.cs_trigram.specs.declared.scan.Reason.{Reason}
use Rattle.cs_index.specs.Built.{Built, with_entry, are_paths, is_storable, IsOutOfOrder, IsFull}
use Rattle.cs_index.specs.MaxNames.{max_names}
use Rattle.cs_index.specs.Encoding.{encoding_of}
use Rattle.cs_index.specs.declared.fault.BuildFault.{BuildFault}
use Rattle.cs_index.specs.declared.fault.BuildFault.TheVariants as build
use Rattle.codesearch_c.specs.declared.slot.Held.{Held}
use Rattle.codesearch_c.specs.Codes.{done, memory, not_utf8, no_entry, build_code, reason_code}
use Rattle.codesearch_c.specs.Slots.{OnBuilder, OnBytes}

-- 0 for a text that an index takes, or the number of the reason to leave it out
abbrev pub skip_code : Option Reason → ℤ
skip_code None = done
skip_code (Some reason) = reason_code reason

abbrev pub IsScanCode : List ℕ → ℤ → Type 0
IsScanCode text code = code ≢ memory → code ≡ skip_code (skip limits text)

-- the parts of a text that a NUL or the end of the text ends, except an empty part at the end
abbrev pub nul_parts : List ℕ → List (List ℕ)
nul_parts [] = []
nul_parts (b ∷ text) = if nat_eq b 0 then [] ∷ nul_parts text else onto_first b (nul_parts text)

-- why there is no builder: the paths are not UTF-8, an index cannot have them, or memory is refused
pub data IsPathsRefusal (paths : List ℕ) (code : ℤ) : Type 0 where
  foreign : ¬ (IsUtf8 paths) → code ≡ not_utf8 → IsPathsRefusal paths code
  rejected : are_paths (nul_parts paths) ≡ false → code ≡ build_code build.BadPaths → IsPathsRefusal paths code
  refused : code ≡ memory → IsPathsRefusal paths code

-- an empty slot is filled with a builder of an index over the paths, without names; or it stays empty
abbrev pub IsNewBuilder : List ℕ → Option Held → ℤ → Type 0
IsNewBuilder paths slot code =
    OnBuilder slot ((slot ≡ None) × IsPathsRefusal paths code)
    (λ built. (built.paths ≡ nul_parts paths) × (built.entries ≡ []) × (code ≡ done))

-- why a builder does not take a name
abbrev pub IsNameFault : Built → List ℕ → BuildFault → Type 0
IsNameFault built name build.BadName = is_storable name ≡ false
IsNameFault built name build.OutOfOrder = IsOutOfOrder built name
IsNameFault built name build.TooLarge = IsFull max_names built name
IsNameFault built name fault = ⊥

-- a name with the trigrams of its text is added; or nothing changes, as the name is not UTF-8, an index leaves the text
-- out, the builder does not take the name, or memory is refused
pub data IsAddition (name text : List ℕ) (old new : Built) (code : ℤ) : Type 0 where
  added : IsUtf8 name → skip limits text ≡ None → ((fault : BuildFault) → ¬ (IsNameFault old name fault)) →
      new ≡ with_entry old name (tri text) → code ≡ done → IsAddition name text old new code
  foreign_name : ¬ (IsUtf8 name) → code ≡ not_utf8 → new ≡ old → IsAddition name text old new code
  skipped : (reason : Reason) → skip limits text ≡ Some reason → code ≡ reason_code reason → new ≡ old → IsAddition name text old new code
  rejected_name : (fault : BuildFault) → IsNameFault old name fault → code ≡ build_code fault → new ≡ old →
      IsAddition name text old new code
  no_memory : code ≡ memory → new ≡ old → IsAddition name text old new code

-- an empty slot is filled with the encoding of the paths and entries; or it stays empty, as the index is too long or
-- memory is refused
pub data IsRefusedIndex (built : Built) (code : ℤ) : Type 0 where
  too_large : 2 ^ 32 ≤ length (encoding_of built.paths built.entries) → code ≡ build_code build.TooLarge → IsRefusedIndex built code
  no_room : code ≡ memory → IsRefusedIndex built code

abbrev pub IsFinished : Built → Option Held → ℤ → Type 0
IsFinished built slot code =
    OnBytes slot ((slot ≡ None) × IsRefusedIndex built code)
    (λ bytes. (bytes ≡ encoding_of built.paths built.entries) × (code ≡ done))

-- a buffer is filled with the bytes from an offset on; if there are not as many, it stays
pub record IsPart (bytes : List ℕ) (from : ℕ) (old new : List ℕ) (code : ℤ) : Type 0 where
  pub copied : from + length old ≤ length bytes → (code ≡ done) × (new ≡ take (length old) (drop from bytes))
  pub short : ¬ (from + length old ≤ length bytes) → (code ≡ no_entry) × (new ≡ old)
