-- Maps of ids, as a merge has them: old ids to those of the merged index.
-- index/merge.go, "idMap".
use Rattle.std.specs.Prelude.{ℕ, List, Option, slice_get, option_and_then, filter_map}

-- the new id of each id from 0 on; an id without one is dropped
abbrev pub NewIds : Type 0
NewIds = List (Option ℕ)

-- the new id of an id
abbrev pub new_id : NewIds → ℕ → Option ℕ
new_id new_ids id = option_and_then (λ new. new) (slice_get new_ids id)

-- the new ids of a list, without those that are dropped
abbrev pub new_ids_of : NewIds → List ℕ → List ℕ
new_ids_of new_ids ids = filter_map (new_id new_ids) ids
