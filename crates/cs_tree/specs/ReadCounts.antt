-- How many bytes were read from a tree's files, and how many calls looked a path up. A tree with read counts has a
-- snapshot too.
-- docs/PROMISES.md, "Trees and paths".
use Rattle.std.specs.Prelude.{ℕ, ◌+◌, max, Result, Ok, Err}
use Rattle.cs_tree.specs.Failures.{next_count}
use Rattle.cs_tree.specs.declared.fault.TreeFault.{TreeFault}

-- the bytes read from the last opened file, the most bytes read from one opened file, and the number of calls of
-- `kind` and `entries` (at most 2^64 - 1)
pub record ReadCounts : Type 0 where
  pub of_open : ℕ
  pub most : ℕ
  pub lookups : ℕ

-- the read counts after a call of `kind` or `entries`
abbrev pub after_lookup : ReadCounts → ReadCounts
after_lookup counts = record counts { lookups = next_count counts.lookups }

-- the read counts after a call of `open`
abbrev pub after_open : ReadCounts → ReadCounts
after_open counts = record counts { of_open = 0 }

-- the read counts after a read
abbrev pub after_read : Result ℕ TreeFault → ReadCounts → ReadCounts
after_read (Ok n) counts = record counts { of_open = counts.of_open + n; most = max counts.most (counts.of_open + n) }
after_read (Err fault) counts = counts
