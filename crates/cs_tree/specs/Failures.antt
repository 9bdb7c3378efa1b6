-- How failed calls are counted: each one once, up to 2^64 - 1.
-- docs/PROMISES.md, "Sources and sinks".
use Rattle.std.specs.Prelude.{ℕ, ◌+◌, Bool, true, false, nat_lt, if◌then◌else◌}

-- the largest count
abbrev pub most_failures : ℕ
most_failures = 18446744073709551615

-- the count after one more failure
abbrev pub next_count : ℕ → ℕ
next_count n = if nat_lt n most_failures then n + 1 else n

-- the count after a call, given whether it failed
abbrev pub count_if : Bool → ℕ → ℕ
count_if true n = next_count n
count_if false n = n
