-- Posting lists that are read one after another.
use Rattle.std.proofs.Common.{◌≡◌, ℕ, zero, suc, ◌+◌, ◌-◌, ◌*◌, ◌≤◌, ◌^◌, true, false, cond, ◌&&◌, ltb, List, [], ◌∷◌, ◌++◌, length, take, drop, Option, Some, None, refl, sym, ap, subst, ◌∙◌, ◌⊎◌, inl, inr, arith, length-drop, slice_get}
use Rattle.std.proofs.lemmas.Bool.{cases_Bool}
use Rattle.std.proofs.lemmas.List.{append-nil}
use Rattle.std.specs.Prelude.{option_and_then, option_map, IfSome, bytes_eq}
use Rattle.cs_tree.specs.Store.{part_of}
use Rattle.cs_index.specs.Encoding.{ListEntry, three_bytes}
use Rattle.cs_index.specs.ListReading.{AreBytesOf, BytesAt, HasList, known_ids, list_in}
use Rattle.cs_index.specs.OpenedParts.{Parts, ids_read}
use Rattle.cs_index.specs.PostingLists.{Ids, damage, onto, read_ids, read_list, read_varint, varint_at}
use Rattle.cs_index.specs.StoredEntries.{entry_read}
use Rattle.cs_index.specs.StoredOpening.{AreAscendingOffsets}
use Rattle.cs_index.specs.Tables.{TableParts, TablesIn}
use Rattle.cs_index.specs.declared.reading.entries.Entry.{Entry}
use Rattle.cs_index.proofs.encoding.VarintRoundtrip.{after_delta, below_limit, is_zero}
use Rattle.cs_index.proofs.stored.ListPieces.{grow, holds_after, open_damaged, open_read, read_ready}
use Rattle.cs_index.proofs.stored.ListSections.{stored_lists}
use Rattle.cs_index.proofs.stored.Windows.{part_after}

-- ---- ids that are read from enough bytes

-- a varint has at most as many bytes as the room
varint_left : (room : ℕ) (bytes : List ℕ) → IfSome {T = ℕ × List ℕ} (varint_at room bytes) (λ n. length bytes ≤ length n.1 + room)
varint_left zero bytes = tt
varint_left (suc room) [] = tt
varint_left (suc room) (b ∷ bytes) =
    elim (ltb b 128) as (λ t. IfSome {T = ℕ × List ℕ}
    (cond t (Some (b, bytes)) (option_map (λ (high : ℕ × List ℕ). (b - 128 + 128 * high.0, high.1))
    (varint_at room bytes))) (λ n. suc (length bytes) ≤ length n.1 + suc room)) [
      | true ↦ omega arith
      | false ↦ mapped (varint_at room bytes) (varint_left room bytes)
    ]
  where
    mapped : (o : Option (ℕ × List ℕ)) → IfSome {T = ℕ × List ℕ} o (λ n. length bytes ≤ length n.1 + room) →
        IfSome {T = ℕ × List ℕ} (option_map (λ (high : ℕ × List ℕ). (b - 128 + 128 * high.0, high.1)) o)
        (λ n. suc (length bytes) ≤ length n.1 + suc room)
    mapped None h = tt
    mapped (Some n) h = omega (arith, h)

read_left : (bytes : List ℕ) → IfSome {T = ℕ × List ℕ} (read_varint bytes) (λ n. length bytes ≤ length n.1 + 5)
read_left bytes = limited (varint_at 5 bytes) (varint_left 5 bytes)
  where
    limited : (o : Option (ℕ × List ℕ)) → IfSome {T = ℕ × List ℕ} o (λ n. length bytes ≤ length n.1 + 5) →
        IfSome {T = ℕ × List ℕ} (option_and_then below_limit o) (λ n. length bytes ≤ length n.1 + 5)
    limited None h = tt
    limited (Some n) h = elim (ltb n.0 (2 ^ 32)) as
        (λ t. IfSome {T = ℕ × List ℕ} (cond t (Some n) None) (λ m. length bytes ≤ length m.1 + 5))
        [ true ↦ h | false ↦ tt ]

ids_of_more : (name_count count next : ℕ) (bytes more : List ℕ) → 5 * (count + 1) ≤ length bytes →
    read_ids name_count count next (bytes ++ more) ≡ read_ids name_count count next bytes
ids_of_more name_count zero next bytes more long =
    ap (λ o. let r : Ids = record { ids = []; whole = is_zero o } in r)
    (read_ready bytes more (inl (omega (arith, long)))) ∙ same (read_varint bytes)
  where
    same : (o : Option (ℕ × List ℕ)) → ◌≡◌ {A = Ids} (record { ids = []; whole = is_zero (grow more o) })
        (record { ids = []; whole = is_zero o })
    same None = refl
    same (Some n) = refl
ids_of_more name_count (suc count) next bytes more long =
    ap (after_delta name_count next (read_ids name_count count)) (read_ready bytes more (inl (omega (arith, long))))
    ∙ step (λ id rest left. ids_of_more name_count count id rest more (omega (arith, long, left))) (read_varint bytes) (read_left bytes)
  where
    step : ((id : ℕ) (rest : List ℕ) → length bytes ≤ length rest + 5 → read_ids name_count count id (rest ++ more)
        ≡ read_ids name_count count id rest) → (o : Option (ℕ × List ℕ)) →
        IfSome {T = ℕ × List ℕ} o (λ n. length bytes ≤ length n.1 + 5)
        → after_delta name_count next (read_ids name_count count) (grow more o) ≡ after_delta name_count next (read_ids name_count count) o
    step later None left = refl
    step later (Some n) left = ap (λ ids. cond (ltb 0 n.0 && ltb (next + n.0) (name_count + 1))
        (onto (next + n.0 - 1) ids) damage) (later (next + n.0) n.1 left)

-- ---- the list at the beginning of bytes

module _ (bytes piece : List ℕ) (start room name_count : ℕ) (e : ListEntry)
    (is : piece ≡ part_of bytes (start + e.offset) (length piece)) (fits : e.offset + 4 ≤ room)
    (within : length piece ≤ room - e.offset)
    (enough : (room - e.offset ≤ length piece) ⊎ (3 + 5 * (e.count + 1) ≤ length piece)) where
  long : 4 ≤ length piece
  long = elim enough [ inl all ↦ omega (arith, all, fits) | inr most ↦ omega (arith, most) ]

  more : List ℕ
  more = part_of bytes (start + e.offset + length piece) (start + room - (start + e.offset) - length piece)

  ids_there : read_ids name_count e.count 0 (drop 3 piece) ≡ read_ids name_count e.count 0 (drop 3 piece ++ more)
  unfolding more
  ids_there = elim enough [
    | inl all ↦
        let none : start + room - (start + e.offset) - length piece ≡ 0 = omega (arith, all) in
        ap (read_ids name_count e.count 0) (sym (append-nil (drop 3 piece))
        ∙ ap (λ n. drop 3 piece ++ part_of bytes (start + e.offset + length piece) n) (sym none))
    | inr most ↦ let l = length-drop 3 piece in sym (ids_of_more name_count e.count 0 (drop 3 piece) more (omega (arith, most, l)))
  ]

  list_there : list_in piece name_count e ≡ read_list (part_of bytes start room) name_count e
  unfolding more
  list_there = elim (cases_Bool (bytes_eq (take 3 piece) (three_bytes e.trigram))) [
    | inl named ↦
        ap (λ b. cond b (read_ids name_count e.count 0 (drop 3 piece)) damage) named
        ∙ ids_there
        ∙ ap (read_ids name_count e.count 0) (sym
        (holds_after bytes piece (start + e.offset) (start + room) (length piece) 3 is (omega (arith, within, fits))
        (omega (arith, long))))
        ∙ open_read bytes piece start room e.offset (length piece) is within long fits name_count e refl named
    | inr other ↦
        ap (λ b. cond b (read_ids name_count e.count 0 (drop 3 piece)) damage) other
        ∙ open_damaged bytes piece start room e.offset (length piece) is within long fits name_count e refl other
  ]

-- ---- the list of an entry is in memory

pub list_read : (bytes : List ℕ) (tables : TableParts) (parts : Parts) (stands : TablesIn bytes tables parts)
    (order : AreAscendingOffsets tables.starts) (entry : Entry) (position : ℕ)
    → Some (entry_read entry) ≡ slice_get tables.entries position → entry.offset + 4 ≤ tables.starts.name_index - tables.starts.postings
    → (read : BytesAt) → AreBytesOf bytes read → read.at ≤ tables.starts.postings + entry.offset →
    read.at + length read.bytes ≤ tables.starts.name_index
    → (tables.starts.name_index ≤ read.at + length read.bytes) ⊎
    (tables.starts.postings + entry.offset + (3 + 5 * (entry.count + 1)) ≤ read.at + length read.bytes)
    → HasList tables read parts position
list_read bytes tables parts stands order entry position found fits read is from within enough e there =
    let start : ℕ = tables.starts.postings in
    let room : ℕ = tables.starts.name_index - start in
    let k : ℕ = start + entry.offset - read.at in
    let piece : List ℕ = drop k read.bytes in
    let l = length-drop k read.bytes in
    let inside : k ≤ length read.bytes = elim enough [ inl all ↦ omega (arith, all, fits, from) | inr most ↦ omega (arith, most, from) ] in
    let stand : piece ≡ part_of bytes (start + entry.offset) (length piece) = part_after bytes read.bytes read.at k inside is
    ∙ ap (λ n. part_of bytes n (length piece)) (let z : read.at + k ≡ start + entry.offset = omega (arith, from) in z) in
    let same : entry_read entry ≡ e = only (found ∙ ap (λ es. slice_get es position) stands.entries ∙ there) in
    subst (λ (d : ListEntry). known_ids tables read d ≡ ids_read parts d) same
    (ap (λ (ns : List (List ℕ)). list_in piece (length ns) (entry_read entry)) stands.names
    ∙ list_there bytes piece start room (length parts.names) (entry_read entry) stand fits (omega (arith, within, l, from, inside))
    (elim enough [ inl all ↦ inl (omega (arith, all, l, from, inside)) | inr most ↦ inr (omega (arith, most, l, from, inside)) ])
    ∙ ap (λ p. read_list p (length parts.names) (entry_read entry)) (sym (stored_lists bytes _ parts stands.stands)))
  where
    only : {d e : ListEntry} → Some d ≡ Some e → d ≡ e
    only is = cc
