-- From how many files on a state is opened, and a search learns.
use Rattle.std.specs.Prelude.{◌/◌, ◌&&◌, ◌||◌, ℕ, Bool, nat_le, nat_lt, if◌then◌else◌, max, Option, None, Some, is_none}
use Rattle.cs_learned.specs.declared.closed_state.ClosedState.{ClosedState}

-- the number of files from which on a state of this length is opened
abbrev pub files_before : ℕ → ℕ
files_before len = if nat_lt len 2000000 then 100 else max 600 (len / 100000)

-- the length of a state, if there is one
abbrev pub length_of : {S : Type 0} → (S → ℕ) → Option (ClosedState S) → ℕ
length_of size None = 0
length_of size (Some closed) = size closed.file

-- An update learns; and a search that may, if it has come to 500 files and has opened the state, if there is one.
abbrev pub learns_now : {P : Type 0} → Bool → Bool → ℕ → Option P → Bool
learns_now updates may_learn met unread = updates || (may_learn && nat_le 500 met && is_none unread)
