-- The old lists of a merge, which are in memory once they are read.
use Rattle.std.proofs.Common.{◌≡◌, ℕ, ◌+◌, ◌-◌, ◌<◌, ◌≤◌, drop, true, false, cond, eqb, List, [], length, refl, sym, ap, ◌∙◌, Option, Some, None, slice_get, inl, inr}
use Rattle.cs_merge.proofs.Common.{cases_Bool, eqb-true, slice_get-get_or, option_map_or, closing_trigram, AscendWithin, ListEntry, BytesAt, Parts, ids_read, Ids, nothing_read, AreValidParts, TableParts, list_ids, known_ids, known_parts, old_ids, HasList, IsStored}
use Rattle.cs_merge.proofs.NextListLemmas.{closing_counts}
use Rattle.cs_merge.proofs.ReadIdsLemmas.{list_rises}
use Rattle.cs_merge.proofs.StorableLemmas.{none_read}
use Rattle.cs_merge.proofs.WholeListLemmas.{whole_at}

-- ---- a list that was read

-- the ids of an entry with the trigram
abbrev ids_for : (ListEntry → Ids) → ℕ → Option ListEntry → Ids
ids_for ids trigram o = option_map_or (λ (e : ListEntry). cond (eqb e.trigram trigram) (ids e) nothing_read) o nothing_read

module _ (model : Option (List ℕ)) (source : TableParts) (parts : Parts) (is : IsStored model source parts)
    (buffer : BytesAt) (position : ℕ) (read : HasList source buffer parts position) where
  -- the list is whole where it is read if it is whole in the index
  pub whole_read : position < length parts.entries → option_map_or (λ (e : ListEntry). (known_ids source buffer e).whole)
      (slice_get source.entries position) true ≡ whole_at parts (slice_get parts.entries position)
  whole_read within =
      let d : ListEntry = record { trigram = 0; count = 0; offset = 0 } in
      let there = slice_get-get_or parts.entries position d within in
      ap (λ es. option_map_or (λ (e : ListEntry). (known_ids source buffer e).whole) (slice_get es position) true)
      (is.tables_are.entries)
      ∙ ap (λ o. option_map_or (λ (e : ListEntry). (known_ids source buffer e).whole) o true) there
      ∙ ap (λ (r : Ids). r.whole) (read _ there)
      ∙ sym (ap (whole_at parts) there)

  -- the ids that are read are those of the list
  pub ids_same : (trigram : ℕ) → old_ids source buffer position trigram ≡ list_ids parts position trigram
  ids_same trigram = ap (λ es. ids_for (known_ids source buffer) trigram (slice_get es position))
      (is.tables_are.entries) ∙ by_entry (slice_get parts.entries position) refl
    where
      by_entry : (o : Option ListEntry) → slice_get parts.entries position ≡ o →
          ids_for (known_ids source buffer) trigram (slice_get parts.entries position) ≡ ids_for (ids_read parts) trigram
          (slice_get parts.entries position)
      by_entry None there = ap (ids_for (known_ids source buffer) trigram) there ∙ sym (ap (ids_for (ids_read parts) trigram) there)
      by_entry (Some e) there = ap (ids_for (known_ids source buffer) trigram) there
          ∙ ap (λ r. cond (eqb e.trigram trigram) r nothing_read) (read e there)
          ∙ sym (ap (ids_for (ids_read parts) trigram) there)

-- ---- any list

-- an entry whose list begins where the buffer begins
abbrev at_start : ListEntry → ListEntry
at_start e = record { trigram = e.trigram; count = e.count; offset = 0 }

-- the tables with these posting lists
abbrev with_postings : TableParts → List ℕ → Parts
with_postings tables bytes = record { paths = tables.paths; names = tables.names; entries = tables.entries; postings = bytes }

-- the bytes in memory from the list of an entry on
abbrev bytes_from : TableParts → BytesAt → ListEntry → List ℕ
bytes_from source buffer e = drop (source.starts.postings + e.offset - buffer.at) buffer.bytes

entry_rises : (source : TableParts) (buffer : BytesAt) (e : ListEntry) →
    AscendWithin (length source.names) 0 (known_ids source buffer e).ids
entry_rises source buffer e = list_rises (with_postings source (bytes_from source buffer e)) (at_start e)

entry_without_ids : (source : TableParts) (buffer : BytesAt) (e : ListEntry) → e.count ≡ 0 → (known_ids source buffer e).ids ≡ []
entry_without_ids source buffer e none = none_read (with_postings source (bytes_from source buffer e)) (at_start e) none

module _ (source : TableParts) (buffer : BytesAt) (position trigram : ℕ) where
  pub old_rises : AscendWithin (length source.names) 0 (old_ids source buffer position trigram).ids
  old_rises = by_entry (slice_get source.entries position)
    where
      by_entry : (o : Option ListEntry) → AscendWithin (length source.names) 0
          (ids_for (known_ids source buffer) trigram o).ids
      by_entry None = tt
      by_entry (Some e) = elim (eqb e.trigram trigram) as
          (λ b. AscendWithin (length source.names) 0 (cond b (known_ids source buffer e) nothing_read).ids) [
            | true ↦ entry_rises source buffer e
            | false ↦ tt
          ]

  -- no file has the closing trigram
  pub closing_in_old : AreValidParts (known_parts source) → closing_trigram ≤ trigram →
      (old_ids source buffer position trigram).ids ≡ []
  closing_in_old are from = by_entry (slice_get source.entries position) refl
    where
      by_entry : (o : Option ListEntry) → slice_get source.entries position ≡ o →
          (old_ids source buffer position trigram).ids ≡ []
      by_entry None there = ap (λ o. (ids_for (known_ids source buffer) trigram o).ids) there
      by_entry (Some e) there =
          ap (λ o. (ids_for (known_ids source buffer) trigram o).ids) there
          ∙ elim (cases_Bool (eqb e.trigram trigram)) [
            | inl same ↦
                ap (λ b. (cond b (known_ids source buffer e) nothing_read).ids) same
                ∙ entry_without_ids source buffer e (closing_counts (known_parts source) position trigram are from e
                there (eqb-true e.trigram trigram same))
            | inr apart ↦ ap (λ b. (cond b (known_ids source buffer e) nothing_read).ids) apart
          ]
