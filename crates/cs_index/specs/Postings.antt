-- Look-up of a posting list, and the items of its iterator.
use Rattle.std.specs.Prelude.{◌≡◌, ◌⊎◌, ℕ, Bool, true, false, nat_eq, List, [], ◌∷◌, ◌++◌, map, if◌then◌else◌, Result, Ok, Err, Option, find, option_map, unwrap_or}
use Rattle.std.specs.Option.{is_some}
use Rattle.cs_index.specs.PostingLists.{Ids}
use Rattle.cs_index.specs.declared.fault.IndexFault.{IndexFault}
use Rattle.cs_index.specs.declared.fault.IndexFault.TheVariants.{BadList, Memory}
use Rattle.cs_index.specs.Encoding.{ListEntry}
use Rattle.cs_index.specs.OpenedParts.{Parts, ids_read}

-- the entry of a trigram
abbrev pub entry_of : List ListEntry → ℕ → Option ListEntry
entry_of entries g = find (λ (e : ListEntry). nat_eq e.trigram g) entries

-- whether a trigram has an entry
abbrev pub has_entry : List ListEntry → ℕ → Bool
has_entry entries g = is_some (entry_of entries g)

-- the list of a trigram without an entry
abbrev pub nothing_read : Ids
nothing_read = record { ids = []; whole = true }

-- the ids that are read for a trigram
unfoldable pub read_for : Parts → ℕ → Ids
read_for parts g = unwrap_or (option_map (ids_read parts) (entry_of parts.entries g)) nothing_read

-- the items of the iterator: the ids, then an error if the list is damaged
abbrev pub ids_given : Ids → List (Result ℕ IndexFault)
ids_given r = map (λ id. Ok id) r.ids ++ (if r.whole then [] else Err BadList ∷ [])

-- the list is damaged, or an allocation failed
abbrev pub IsListFault : Bool → IndexFault → Type 0
IsListFault whole fault = ((fault ≡ BadList) × (whole ≡ false)) ⊎ (fault ≡ Memory)
