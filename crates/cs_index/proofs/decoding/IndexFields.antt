-- Facts about the fields of an `Index`.
use Rattle.std.proofs.Common.{◌≡◌, ℕ, ◌+◌, ◌-◌, ◌*◌, true, false, not, cond, eqb, List, length, map, ◌%◌, ◌&&◌, Err, ap, ◌∙◌, arith}
use Rattle.std.proofs.lemmas.Bool.{and_parts, eqb-true}
use Rattle.std.specs.Prelude.{nat_eq, Result, if◌then◌else◌, bytes_eq}
use Rattle.cs_index.specs.declared.fault.IndexFault.{IndexFault}
use Rattle.std.specs.List.{list_all, starts_with}
use Rattle.cs_index.specs.declared.fault.IndexFault.TheVariants.{BadMagic, BadTrailer}
use Rattle.cs_index.specs.Encoding.{magic, SectionBytes, starts_from, with_nul}
use Rattle.cs_index.specs.Opening.{is_name_index, is_list_index, is_entry, rises, entries_in, has_trailer, split_of, split_before, numbers_from}

-- the sections of bytes that begin with the magic
abbrev pub split_ended : List ℕ → Result SectionBytes IndexFault
split_ended bytes = if not (has_trailer bytes) then Err BadTrailer else split_before bytes (length bytes - 36)

pub no_magic : (bytes : List ℕ) → starts_with nat_eq bytes magic ≡ false → split_of bytes ≡ Err BadMagic
unfolding split_of
no_magic bytes h = ap (λ b. cond (not b) (Err BadMagic) (split_ended bytes)) h

pub no_trailer : (bytes : List ℕ) → starts_with nat_eq bytes magic ≡ true → has_trailer bytes ≡ false → split_of bytes ≡ Err BadTrailer
unfolding split_of
no_trailer bytes h g = ap (λ b. cond (not b) (Err BadMagic) (split_ended bytes)) h
    ∙ ap (λ b. cond (not b) (Err BadTrailer) (split_before bytes (length bytes - 36))) g

pub split_there : (bytes : List ℕ) → starts_with nat_eq bytes magic ≡ true → has_trailer bytes ≡ true → split_of bytes
    ≡ split_before bytes (length bytes - 36)
unfolding split_of
split_there bytes h g = ap (λ b. cond (not b) (Err BadMagic) (split_ended bytes)) h
    ∙ ap (λ b. cond (not b) (Err BadTrailer) (split_before bytes (length bytes - 36))) g

pub offsets_long : (bytes : List ℕ) (names : List (List ℕ)) → is_name_index bytes names ≡ true → length bytes ≡ 4 * (length names + 1)
unfolding is_name_index
offsets_long bytes names h =
    let both = and_parts (eqb (length bytes) (4 * (length names + 1)))
    (bytes_eq (numbers_from bytes 0 (length names)) (starts_from 0 (map with_nul names))) h in
    let long = eqb-true (length bytes) (4 * (length names + 1)) both.0 in
    omega (arith, long)

pub entries_rise : (room : ℕ) (bytes : List ℕ) → is_list_index room bytes ≡ true → rises (entries_in bytes) ≡ true
unfolding is_list_index
entries_rise room bytes h =
    (and_parts (rises (entries_in bytes)) (list_all (is_entry room) (entries_in bytes))
    (and_parts (eqb (length bytes % 11) 0) (rises (entries_in bytes) && list_all (is_entry room) (entries_in bytes))
    h).1).0
