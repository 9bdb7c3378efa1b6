-- The entries of a list index fit the section of posting lists.
use Rattle.std.proofs.Common.{◌≡◌, ℕ, ◌%◌, true, ◌&&◌, eqb, List, length}
use Rattle.std.proofs.lemmas.Bool.{and_parts}
use Rattle.std.specs.List.{list_all}
use Rattle.cs_index.specs.Encoding.{ListEntry}
use Rattle.cs_index.specs.Opening.{is_entry, is_list_index, entries_in, rises}

pub entries_fit : (room : ℕ) (bytes : List ℕ) → is_list_index room bytes ≡ true →
    list_all (λ (e : ListEntry). is_entry room e) (entries_in bytes) ≡ true
unfolding is_list_index
entries_fit room bytes h =
    (and_parts (rises (entries_in bytes)) (list_all (is_entry room) (entries_in bytes))
    (and_parts (eqb (length bytes % 11) 0) (rises (entries_in bytes) && list_all (is_entry room) (entries_in bytes))
    h).1).1
