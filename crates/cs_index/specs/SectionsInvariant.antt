-- The model and the representation invariant of `Sections`.
use Rattle.std.specs.Prelude.{◌≡◌, ◌≢◌, ℕ, ◌+◌, ◌-◌, nat_eq, List, [], ◌∷◌, ◌++◌, length, map, Option, None, Some, slice_get, if◌then◌else◌}
use Rattle.std.specs.List.{concat}
use Rattle.std.specs.Option.{option_map_or}
use Rattle.cs_index.specs.declared.writing.sections.Sections.TheInside.{Inside}
use Rattle.cs_index.specs.Encoding.{PostingList, ListEntry, list_entries, posting_list_bytes, three_bytes, stream_of}
use Rattle.cs_index.specs.AscendingIds.{max_ids, next_after}
use Rattle.cs_index.specs.PostingLists.{read_list}
use Rattle.cs_index.specs.OpenedParts.{whole_ids}
use Rattle.cs_index.specs.Sending.{bytes_in}
use Rattle.cs_index.specs.Written.{Written, prefix_of, AllBelow}
use Rattle.cs_index.specs.WrittenLists.{IsWritten}

-- the ids of the list at an entry
unfoldable pub ids_at : List ℕ → ListEntry → List ℕ
ids_at bytes e = whole_ids (read_list bytes max_ids e)

-- the posting lists at some entries
abbrev pub lists_at : List ℕ → List ListEntry → List PostingList
lists_at bytes entries = map (λ (e : ListEntry). (e.trigram, ids_at bytes e)) entries

-- an entry whose offset is relative to `at`
abbrev pub entry_from : ℕ → ListEntry → ListEntry
entry_from at e = record { trigram = e.trigram; count = e.count; offset = e.offset - at }

-- the offset of the first list; `last` is that of the list after the entries
abbrev pub first_of : List ListEntry → ℕ → ℕ
first_of entries last = option_map_or (λ (e : ListEntry). e.offset) (slice_get entries 0) last

-- The bytes are a prefix, closed lists, and the current list without its closing zero.
pub record IsOpen (prefix bytes : List ℕ) (entries : List ListEntry) (current : ListEntry) (next : ℕ)
    (closed : List PostingList) (ids : List ℕ) : Type 0 where
  pub written : bytes ≡ prefix ++ (concat (map posting_list_bytes closed) ++ (three_bytes current.trigram ++ stream_of ids))
  pub entries_are : entries ≡ list_entries (length prefix) closed
  pub counted : current.count ≡ length ids
  pub starts : current.offset ≡ length prefix + length (concat (map posting_list_bytes closed))
  pub follows : next ≡ next_after 0 ids

-- the entry of the current list
abbrev pub current_list : Inside → ListEntry
current_list s = record { trigram = s.trigram; count = s.count; offset = s.start }

-- the bytes after the current list is closed
abbrev pub bytes_at_close : Inside → List ℕ
bytes_at_close s = bytes_in s.out ++ 0 ∷ []

-- none if no list has an id yet, otherwise the closed lists and the current one
abbrev pub lists_of_fields : Inside → List PostingList
lists_of_fields s =
    if nat_eq s.count 0 then []
    else lists_at (bytes_at_close s) s.entries.items ++ (s.trigram, ids_at (bytes_at_close s) (current_list s)) ∷ []

-- the trigram of the list that was begun last: it is pending, or it is the current list
abbrev pub last_trigram_of : Inside → Option ℕ
last_trigram_of s = option_map_or (λ trigram. Some trigram) s.pending (if nat_eq s.count 0 then None else Some s.trigram)

abbrev pub written_of : Inside → Written
written_of s = record {
  paths = s.paths;
  names = s.names;
  lists = lists_of_fields s;
  last_trigram = last_trigram_of s;
  sent = s.out.sent;
}

-- a pending list comes after all others
abbrev pub IsFresh : List PostingList → Option ℕ → Type 0
IsFresh lists None = Unit {0}
IsFresh lists (Some trigram) = AllBelow lists trigram

-- The representation invariant.
pub record IsSections (s : Inside) : Type 0 where
  pub output : IsWritten (written_of s)
  pub fresh : IsFresh (lists_of_fields s) s.pending
  pub unwritten : s.count ≡ 0 → s.entries.items ≡ []
  pub silent : s.count ≡ 0 → bytes_in s.out ≡ []
  pub opened : s.count ≢ 0 →
      IsOpen (prefix_of s.paths s.names) (bytes_in s.out) s.entries.items (current_list s) s.next
      (lists_at (bytes_at_close s) s.entries.items) (ids_at (bytes_at_close s) (current_list s))
