-- The base index in a store.
use Rattle.std.proofs.Common.{◌≡◌, ℕ, true, false, cond, not, List, refl, sym, ap, subst, ◌∙◌, inl, Option, Some, None, Ok, IsSomeAnd}
use Rattle.cs_cindex.proofs.Common.{list_all, is_normalized, are_distinct, Parts, StandsIn, StoredParts, OpensAsTables, TableParts, CindexFault, BadIndex, Unsorted, opening_fault, unfit_parts_fault, EarlyOr}
use Rattle.cs_index.specs.Opening.{opening}
use Rattle.cs_index.specs.declared.fault.IndexFault.TheVariants.{BadPaths}
use Rattle.cs_index.proofs.decoding.DecodableBytesOpen.{opens_as_decoded}

-- ---- what stands in the bytes is what they open as

pub stands_open : (bytes : List ℕ) (stored : StoredParts) (parts : Parts) → StandsIn bytes stored parts → opening bytes ≡ Ok parts
stands_open bytes stored parts stands = opens_as_decoded bytes parts stands.decodes

-- ---- the tests of tables are those of the index

module _ (bytes : List ℕ) (tables : TableParts) (opens : OpensAsTables bytes (Ok tables)) where
  faulted : (fault : CindexFault) (Late : Type 0) → unfit_parts_fault opens.0 ≡ Some fault →
      EarlyOr (Some fault) Late fault → EarlyOr (opening_fault unfit_parts_fault (opening bytes)) Late fault
  faulted fault Late is early = subst (λ (o : Option CindexFault). EarlyOr o Late fault)
      (sym (ap (opening_fault unfit_parts_fault) (stands_open bytes _ opens.0 opens.1.stands) ∙ is)) early

  paths_fault : list_all is_normalized tables.paths ≡ false → unfit_parts_fault opens.0 ≡ Some (BadIndex BadPaths)
  paths_fault bad = ap (λ b. cond (not b) (Some (BadIndex BadPaths))
      (cond (not (are_distinct opens.0.names)) (Some Unsorted) None))
      (ap (list_all is_normalized) (sym opens.1.stands.paths) ∙ bad)

  names_fault : list_all is_normalized tables.paths ≡ true → are_distinct tables.names ≡ false → unfit_parts_fault opens.0 ≡ Some Unsorted
  names_fault good twice =
      ap (λ b. cond (not b) (Some (BadIndex BadPaths)) (cond (not (are_distinct opens.0.names)) (Some Unsorted) None))
      (ap (list_all is_normalized) (sym opens.1.stands.paths) ∙ good)
      ∙ ap (λ b. cond (not b) (Some Unsorted) None) (ap are_distinct (sym opens.1.names) ∙ twice)

  pub bad_paths : (Late : Type 0) → list_all is_normalized tables.paths ≡ false →
      EarlyOr (opening_fault unfit_parts_fault (opening bytes)) Late (BadIndex BadPaths)
  bad_paths Late bad = faulted (BadIndex BadPaths) Late (paths_fault bad) (inl refl)

  pub unsorted : (Late : Type 0) → list_all is_normalized tables.paths ≡ true → are_distinct tables.names ≡ false →
      EarlyOr (opening_fault unfit_parts_fault (opening bytes)) Late Unsorted
  unsorted Late good twice = faulted Unsorted Late (names_fault good twice) (inl refl)

-- ---- the bytes of a store that are known

pub record KnownBytes (model : Option (List ℕ)) (index : Option (List ℕ)) : Type 0 where
  pub bytes : List ℕ
  pub model_is : model ≡ Some bytes
  pub index_is : index ≡ Some bytes

pub known_bytes : (model index : Option (List ℕ)) → IsSomeAnd model (λ bytes. index ≡ Some bytes) → KnownBytes model index
known_bytes (Some bytes) index is = record { bytes = bytes; model_is = refl; index_is = is }
known_bytes None index is = absurd is
