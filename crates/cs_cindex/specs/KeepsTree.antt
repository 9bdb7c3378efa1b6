-- What a job leaves of its tree. docs/PROMISES.md, "Jobs of cindex".
use Rattle.std.specs.Prelude.{◌≡◌, ◌≤◌, ◌+◌, ℕ, max, List, map, Option, IfSome, IsSomeAnd}
use Rattle.std.specs.List.{AllZip}
use Rattle.cs_tree.specs.Clean.{longest_path}
use Rattle.cs_tree.specs.ReadCounts.{ReadCounts}
use Rattle.cs_tree.specs.Snapshot.{Snapshot}
use Rattle.cs_tree.specs.Walks.{RequestsWithin}
use Rattle.cs_trigram.specs.Text.{limits}

-- at most this many bytes were read from each opened file
abbrev pub BytesWithin : ℕ → Option ReadCounts → Option ReadCounts → Type 0
BytesWithin limit counts later =
    IfSome counts (λ (was : ReadCounts). IsSomeAnd later (λ (now : ReadCounts). now.most ≤ max was.most limit))

module _ {T : Type 0} (snapshot : T → Option Snapshot) (longest : T → Option ℕ) (counts : T → Option ReadCounts) where
  -- No call had a path of more than 4095 bytes, of each opened file no more was read than a scan reads, and the model is
  -- the same.
  abbrev pub KeepsTree : T → T → Type 0
  KeepsTree old new =
      RequestsWithin longest_path (longest old) (longest new)
      × BytesWithin (limits.bytes + 1) (counts old) (counts new)
      × (snapshot new ≡ snapshot old)

  -- the same of each tree
  abbrev pub KeepsTrees : List T → List T → Type 0
  KeepsTrees old new =
      AllZip (RequestsWithin longest_path) (map longest old) (map longest new)
      × AllZip (BytesWithin (limits.bytes + 1)) (map counts old) (map counts new)
      × (map snapshot new ≡ map snapshot old)
