-- What a call leaves in a buffer of the caller.
use Rattle.std.specs.Prelude.{◌≡◌, ℕ, ◌≤◌, ◌<◌, nat_lt, min, ℤ, List, ◌++◌, length, take, drop, Option, Some, None, Result, Ok, Err}
use Rattle.cs_index.specs.OpenedParts.{Parts}
use Rattle.cs_index.specs.declared.fault.IndexFault.{IndexFault}
use Rattle.codesearch_c.specs.Codes.{done, room, no_entry, index_code, list_code}

-- The items are copied to the start of the buffer if all fit; otherwise the buffer stays as it was. The length is that
-- of all items.
pub record IsCopy {X : Type 0} (items old new : List X) (len : ℕ) (code : ℤ) : Type 0 where
  pub counted : len ≡ length items
  pub copied : length items ≤ length old → (code ≡ done) × (new ≡ items ++ drop (length items) old)
  pub short : length old < length items → (code ≡ room) × (new ≡ old)

-- items at the start of a buffer, as many as there is room for
abbrev pub filled_with : {X : Type 0} → List X → List X → List X
filled_with items old = take (length old) items ++ drop (length items) old

-- The first items are copied to the start of the buffer, as many as fit. The count is theirs, and the code says whether there
-- are more.
pub record IsPage {X : Type 0} (items old new : List X) (count : ℕ) (code : ℤ) : Type 0 where
  pub counted : count ≡ min (length items) (length old)
  pub copied : new ≡ filled_with items old
  pub answered : code ≡ list_code (nat_lt (length old) (length items))

-- a copy of an entry, if there is one
abbrev pub IsEntryCopy : Option (List ℕ) → List ℕ → List ℕ → ℕ → ℕ → ℤ → Type 0
IsEntryCopy (Some text) old new old_len len code = IsCopy text old new len code
IsEntryCopy None old new old_len len code = (code ≡ no_entry) × (new ≡ old) × (len ≡ old_len)

-- the code of bytes that open as an index, or of their error
abbrev pub opening_code : Result Parts IndexFault → ℤ
opening_code (Ok parts) = done
opening_code (Err fault) = index_code fault
