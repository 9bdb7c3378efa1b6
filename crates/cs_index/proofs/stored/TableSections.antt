-- The sections that are the tables of an index.
use Rattle.std.proofs.Common.{◌≡◌, ◌+◌, ◌-◌, ◌≤◌, ℕ, zero, suc, true, List, [], ◌∷◌, length, drop, length-take, Some, Result, Ok, Err, IsOk, refl, sym, ap, subst, ◌∙◌, inl, inr, leb, arith, slice_get}
use Rattle.std.proofs.lemmas.Bool.{and_parts, leb-true, or_cases}
use Rattle.std.specs.List.{AllByRecursion, list_all}
use Rattle.std.specs.Prelude.{◌||◌, nat_lt, nat_eq}
use Rattle.cs_trigram.specs.Trigram.{closing_trigram}
use Rattle.cs_index.specs.declared.fault.IndexFault.{IndexFault}
use Rattle.cs_index.specs.declared.reading.section_offsets.SectionOffsets.{SectionOffsets}
use Rattle.cs_index.specs.Encoding.{IsString, ListEntry, SectionBytes}
use Rattle.cs_index.specs.OpenedParts.{Parts}
use Rattle.cs_index.specs.Opening.{is_entry, is_list_index, is_section, opening, parts_of, read_sections, rises, texts_of}
use Rattle.cs_index.specs.Stored.{sections_at}
use Rattle.cs_index.specs.StoredOpening.{AreAscendingOffsets, IsSplitAt, with_lists}
use Rattle.cs_index.specs.Tables.{AreValidTables, TableParts, TablesIn, lists_room, parts_with, tables_of}
use Rattle.cs_index.specs.ValidParts.{AreValidParts}
use Rattle.cs_index.specs.ValidSections.{AreBoundedSections, AreValidSections, read_split}
use Rattle.cs_tree.specs.ByteList.{AreBytes}
use Rattle.cs_index.proofs.decoding.DecodableBytesOpen.{pass_from, rise_from, split_decodes}
use Rattle.cs_index.proofs.decoding.IndexFields.{entries_rise, offsets_long}
use Rattle.cs_index.proofs.decoding.PartsAreValid.{entries_fit}
use Rattle.cs_index.proofs.decoding.StringSections.{section_read}
use Rattle.cs_index.proofs.stored.ListSections.{stored_lists}
use Rattle.cs_index.proofs.stored.SectionReads.{lists_long, opened, stands_read, stands_split, tested}

pub tables_valid : (p n i l : List ℕ) (s : SectionOffsets) → AreBoundedSections p n i l (s.name_index - s.postings) →
    AreValidTables (tables_of p n l s)
tables_valid p n i l s is = record {
  each_path = (section_read (0 ∷ []) p is.read.each_path).0;
  each_name = elim (or_cases (is_section (0 ∷ []) n) (is_section [] n) is.read.each_name) [
    | inl closed ↦ (section_read (0 ∷ []) n closed).0
    | inr bare ↦ (section_read [] n bare).0
  ];
  names_bound = let long = offsets_long i (texts_of n) is.read.offsets in omega (arith, long, is.names_bound);
  rise = entries_rise (s.name_index - s.postings) l is.read.entries;
  fit = entries_fit (s.name_index - s.postings) l is.read.entries;
}

-- each entry fits the section of posting lists
pub fits_at : (room : ℕ) (es : List ListEntry) (k : ℕ) (e : ListEntry) → list_all (λ (d : ListEntry). is_entry room d)
    es ≡ true → slice_get es k ≡ Some e → e.offset + 4 ≤ room
fits_at room [] k e all at = cc
fits_at room (d ∷ es) zero e all at =
    let here = (and_parts (is_entry room d) (list_all (λ (d : ListEntry). is_entry room d) es) all).0 in
    let fits = (and_parts (leb (d.offset + 4) room) (nat_lt d.trigram closing_trigram || nat_eq d.count 0) here).0 in
    let same : d ≡ e = cc in
    subst (λ (x : ListEntry). x.offset + 4 ≤ room) same (leb-true (d.offset + 4) room fits)
fits_at room (d ∷ es) (suc k) e all at =
    fits_at room es k e (and_parts (is_entry room d) (list_all (λ (d : ListEntry). is_entry room d) es) all).1 at

-- the parts of these tables are valid
pub parts_valid : (bytes : List ℕ) (tables : TableParts) (parts : Parts) → AreValidTables tables →
    AreAscendingOffsets tables.starts → TablesIn bytes tables parts → AreValidParts parts
parts_valid bytes tables parts are order is = record {
  each_path = subst (AllByRecursion IsString) is.stands.paths are.each_path;
  each_name = subst (AllByRecursion IsString) is.names are.each_name;
  names_bound = let same = ap length is.names in omega (arith, same, are.names_bound);
  rise = ap rises (sym is.entries) ∙ are.rise;
  fit =
      (λ i. list_all (λ (e : ListEntry). is_entry (long i) e) (sym is.entries i)) ∙ are.fit;
}
  where
    long : length parts.postings ≡ lists_room tables
    long = ap length (stored_lists bytes _ parts is.stands) ∙ lists_long bytes tables.starts order is.stands.within

-- ---- the tables of an index in memory

module _ (bytes : List ℕ) (tables : TableParts) (parts : Parts) (is : TablesIn bytes tables parts) where
  pub tables_open : opening bytes ≡ Ok parts
  tables_open = opened bytes (sections_at bytes tables.starts) (Ok parts) (stands_split bytes _ parts is.stands) (stands_read bytes _ parts is.stands)

  pub parts_are : parts_with bytes tables ≡ parts
  parts_are =
      let read = (pass_from (sections_at bytes tables.starts) parts (stands_read bytes _ parts is.stands)).are in
      λ i. record { paths = is.stands.paths i; names = is.names i; entries = is.entries i; postings = (read i).postings }

pub is_opened : (bytes : List ℕ) → IsOk (opening bytes) → (parts : Parts) × (opening bytes ≡ Ok parts)
is_opened bytes some = by (opening bytes) refl some
  where
    by : (r : Result Parts IndexFault) → opening bytes ≡ r → IsOk r → (parts : Parts) × (opening bytes ≡ Ok parts)
    by (Ok parts) is some = (parts, is)
    by (Err fault) is some = cc

-- ---- the tables of the sections at these offsets

module _ (bytes : List ℕ) (s : SectionOffsets) (order : AreAscendingOffsets s) (at : IsSplitAt bytes (Ok s)) where
  abbrev cut : SectionBytes
  cut = sections_at bytes s

  lists_are : length cut.postings ≡ s.name_index - s.postings
  lists_are = lists_long bytes s order at.1

  pub read_opened : (answer : Result Parts IndexFault) → opening bytes ≡ answer → read_sections cut ≡ answer
  unfolding opening
  read_opened answer opens = sym (ap read_split at.0) ∙ opens

  pub sections_bounded : (parts : Parts) → opening bytes ≡ Ok parts → AreBoundedSections cut.paths cut.names
      cut.name_index cut.list_index (s.name_index - s.postings)
  sections_bounded parts opens =
      let pass = pass_from cut parts (read_opened (Ok parts) opens) in
      let rise = rise_from s.paths s.names s.postings s.name_index s.list_index s.trailer order.order in
      let few = length-take (s.list_index - s.name_index) (drop s.name_index bytes) in
      let short = length-take (s.trailer - s.list_index) (drop s.list_index bytes) in
      record {
        read = record {
          each_path = pass.paths;
          each_name = pass.names;
          offsets = pass.name_index;
          entries = ap (λ n. is_list_index n cut.list_index) (sym lists_are) ∙ pass.list_index;
        };
        names_bound = omega (arith, few, rise.ea, order.short);
        lists_bound = omega (arith, short, order.short);
      }

  pub tables_stand : (parts : Parts) → AreBytes bytes → opening bytes ≡ Ok parts →
      TablesIn bytes (tables_of cut.paths cut.names cut.list_index s) parts
  tables_stand parts are opens =
      let read = read_opened (Ok parts) opens in
      let decodes = split_decodes bytes cut parts are at.0 read in
      let same = (pass_from cut parts read).are in
      record {
        stands = record {
          decodes = decodes.0;
          sections = decodes.1;
          within = at.1;
          paths = ap (λ (p : Parts). p.paths) same;
          names = ap (λ (p : Parts). length p.names) same;
        };
        names = ap (λ (p : Parts). p.names) same;
        entries = ap (λ (p : Parts). p.entries) same;
      }

  -- what the tests of these sections say of the bytes
  module _ (p n i l : List ℕ) (same : with_lists p n i l cut.postings ≡ cut) where
    pub tested_open : AreValidSections p n i l (s.name_index - s.postings) → opening bytes ≡ Ok (parts_of cut)
    tested_open valid = opened bytes cut (Ok (parts_of cut)) at.0
        (ap read_sections (sym same) ∙ tested p n i l cut.postings _ lists_are valid ∙ ap (λ x. Ok (parts_of x)) same)

    pub tested_fail : (fault : IndexFault) → ((lists : List ℕ) → length lists ≡ s.name_index - s.postings →
        read_sections (with_lists p n i l lists) ≡ Err fault) → opening bytes ≡ Err fault
    tested_fail fault fails = opened bytes cut (Err fault) at.0 (ap read_sections (sym same) ∙ fails cut.postings lists_are)
