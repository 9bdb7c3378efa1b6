-- What earlier runs learned of the files of a project.
use Rattle.std.specs.Prelude.{ℕ, Bool, ◌+◌, ◌<◌, ◌^◌, ◌&&◌, nat_eq, nat_lt, List}
use Rattle.cs_tree.specs.declared.tree.Stamp.{Stamp}

abbrev pub is_same_stamp : Stamp → Stamp → Bool
is_same_stamp a b =
    nat_eq a.device b.device && nat_eq a.inode b.inode && nat_eq a.size b.size && nat_eq a.modified b.modified
    && nat_eq a.changed b.changed

-- the numbers of a stamp have eight bytes
abbrev pub HasNumbers : Stamp → Type 0
HasNumbers stamp =
    (stamp.device < 2 ^ 64) × (stamp.inode < 2 ^ 64) × (stamp.size < 2 ^ 64) × (stamp.modified < 2 ^ 64) × (stamp.changed < 2 ^ 64)

-- the coarsest clock of a file system, in nanoseconds: 2 seconds
abbrev pub clock_grain : ℕ
clock_grain = 2000000000

-- The stamp is old at this moment: a write that follows it gives another stamp, however coarse the clock.
abbrev pub is_old : ℕ → Stamp → Bool
is_old moment stamp = nat_lt (stamp.modified + clock_grain) moment && nat_lt (stamp.changed + clock_grain) moment

-- What a file is: a text of the index, binary, or a text apart, which no index can hold and each search reads.
pub data Kept : Type 0 where
  indexed : Kept
  binary : Kept
  apart : Kept

-- A file that was looked at: its path from the folder of the project, which counts as the root (`/src/a.c`), its stamp, and
-- what it is.
pub record Known : Type 0 where
  pub name : List ℕ
  pub stamp : Stamp
  pub kept : Kept
