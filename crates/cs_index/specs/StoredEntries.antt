-- The entries of a list index that is read from a store by position.
-- docs/FORMAT.md, "The index as it is read".
use Rattle.std.specs.Prelude.{◌≡◌, ◌≤◌, ℕ, true, ◌&&◌, List, length, map, Some}
use Rattle.std.specs.List.{AllByRecursion}
use Rattle.cs_trigram.specs.Trigram.{has}
use Rattle.cs_trigram.specs.declared.queries.Query.{Query}
use Rattle.cs_index.specs.Answerable.{mentions}
use Rattle.cs_index.specs.Encoding.{ListEntry}
use Rattle.cs_index.specs.Opening.{entries_in, rises}
use Rattle.cs_index.specs.Postings.{entry_of, has_entry}
use Rattle.cs_index.specs.Stored.{sections_at}
use Rattle.cs_index.specs.declared.reading.entries.Entry.{Entry}
use Rattle.cs_index.specs.declared.reading.section_offsets.SectionOffsets.{SectionOffsets}

-- The list index of the bytes has these entries, and their trigrams are ascending.
pub record HasEntries (bytes : List ℕ) (s : SectionOffsets) (entries : List ListEntry) : Type 0 where
  pub are : entries ≡ entries_in (sections_at bytes s).list_index
  pub within : s.trailer ≤ length bytes
  pub rise : rises entries ≡ true

-- the entry that is read
abbrev pub entry_read : Entry → ListEntry
entry_read e = record { trigram = e.trigram; count = e.count; offset = e.offset }

abbrev pub trigrams_listed : List Entry → List ℕ
trigrams_listed entries = map (λ (e : Entry). e.trigram) entries

-- These are the entries of the trigrams that the query mentions.
pub record AreListed (query : Query) (entries : List ListEntry) (listed : List Entry) : Type 0 where
  pub each : AllByRecursion (λ (e : Entry). entry_of entries e.trigram ≡ Some (entry_read e)) listed
  pub all : (g : ℕ) → has (trigrams_listed listed) g ≡ (mentions query g && has_entry entries g)
