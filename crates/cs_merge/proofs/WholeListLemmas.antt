-- Lists that are read for damage only.
use Rattle.std.proofs.Common.{◌≡◌, ℕ, suc, ◌+◌, ◌<◌, Bool, true, ◌&&◌, length, refl, sym, ap, ◌∙◌, Option, Some, None, option_map, slice_get, drop, drop-cons, arith}
use Rattle.cs_merge.proofs.Common.{slice_get-get_or, list_all, option_map_or, ListEntry, Parts, Ids, ids_read}

-- whether the list of an entry is whole, if there is one
pub whole_of : (ids : ListEntry → Ids) (o : Option ListEntry) →
    option_map_or (λ (found : ℕ × Ids). found.1.whole) (option_map (λ (e : ListEntry). (e.trigram, ids e)) o) true
    ≡ option_map_or (λ (e : ListEntry). (ids e).whole) o true
whole_of ids None = refl
whole_of ids (Some e) = refl

module _ (parts : Parts) where
  abbrev pub whole : ListEntry → Bool
  whole e = (ids_read parts e).whole

  abbrev pub whole_at : Option ListEntry → Bool
  whole_at o = option_map_or whole o true

  -- one list less
  pub one_less : (position : ℕ) → position < length parts.entries → list_all whole (drop position parts.entries)
      ≡ (whole_at (slice_get parts.entries position) && list_all whole (drop (position + 1) parts.entries))
  one_less position within =
      let d : ListEntry = record { trigram = 0; count = 0; offset = 0 } in
      let on : suc position ≡ position + 1 = omega arith in
      ap (list_all whole) (drop-cons parts.entries position d within)
      ∙ (λ i. whole_at (sym (slice_get-get_or parts.entries position d within) i) && list_all whole (drop (on i) parts.entries))
