-- Characters by their index in the list of all characters: std's `scalar_index`, and its inverse.
use Rattle.std.specs.Prelude.{ℕ, ◌+◌, min, ◌&&◌, nat_lt, nat_le, if◌then◌else◌}

-- the character at an index
abbrev pub nth_scalar : ℕ → ℕ
nth_scalar index = if nat_lt index 55296 then index else index + 2048

-- the least character that is not below n, if there is one
abbrev pub scalar_ceil : ℕ → ℕ
scalar_ceil n = if nat_le 55296 n && nat_lt n 57344 then 57344 else n

-- the greatest character that is not above n
abbrev pub scalar_floor : ℕ → ℕ
scalar_floor n = if nat_le 55296 n && nat_lt n 57344 then 55295 else min n 1114111
