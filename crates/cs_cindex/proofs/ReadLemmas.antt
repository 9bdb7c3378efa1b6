-- Bounds on the bytes that are read, over a sequence of calls.
use Rattle.std.proofs.Common.{◌≡◌, ◌≤◌, ◌+◌, ◌∙◌, ℕ, List, length, refl, sym, ap, subst, Option, Some, None, Ok, arith}
use Rattle.std.proofs.lemmas.Option.{none-some, same_Some}
use Rattle.std.specs.Prelude.{IsSome, option_map}
use Rattle.cs_tree.specs.ConsumesAtMost.{ConsumesAtMost}
use Rattle.cs_tree.specs.ReadCounts.{ReadCounts, after_open}
use Rattle.cs_tree.specs.Reads.{ReadsWithin}
use Rattle.cs_tree.specs.ReadsNothing.{ReadsNothing, bytes_read}
use Rattle.cs_tree.specs.Snapshot.{Snapshot}
use Rattle.cs_tree.specs.StreamModels.{SourceModel}
use Rattle.cs_tree.specs.TreeReaders.{HasRead, open_model}
use Rattle.cs_tree.specs.Trees.{OpensFile, RequestsPath}
use Rattle.cs_tree.proofs.ReadCountLemmas.{reads_open}
use Rattle.cs_trigram.specs.Text.{limits}
use Rattle.cs_cindex.proofs.Common.{longest_path, RequestsWithin, reads_nothing, reads_on, requests_none, requests_on}
use Rattle.cs_cindex.specs.KeepsTree.{KeepsTree, BytesWithin}
use Rattle.cs_cindex.specs.ReadsFiles.{ReadsFile, ReadsFiles}

requests_one : (most : ℕ) (a b : Option ℕ) (path : List ℕ) → length path ≤ most → RequestsPath a b path → RequestsWithin most a b
requests_one most None b path short requests = tt
requests_one most (Some n) b path short requests = subst (RequestsWithin most (Some n)) (sym requests) (omega (arith, short))

pub bytes_none : (limit : ℕ) (a : Option ReadCounts) → BytesWithin limit a a
bytes_none limit None = tt
bytes_none limit (Some a) = omega arith

pub bytes_on : (limit : ℕ) (a b c : Option ReadCounts) → BytesWithin limit a b → BytesWithin limit b c → BytesWithin limit a c
bytes_on limit None b c first next = tt
bytes_on limit (Some a) None c first next = absurd first
bytes_on limit (Some a) (Some b) None first next = absurd next
bytes_on limit (Some a) (Some b) (Some c) first next = omega (arith, first, next)

-- a walk
pub walked_bytes : (limit : ℕ) (a b : Option ReadCounts) → ReadsNothing a b → BytesWithin limit a b
walked_bytes limit None b walked = tt
walked_bytes limit (Some a) None walked = absurd (none-some (bytes_read a) walked)
walked_bytes limit (Some a) (Some b) walked =
    let e : b.most ≡ a.most = ap (λ (both : ℕ × ℕ). both.1) (same_Some (bytes_read b) (bytes_read a) walked) in omega (arith, e)

-- reads
pub reads_bytes : (limit : ℕ) (a b : Option ReadCounts) → ReadsWithin limit a b → BytesWithin limit a b
reads_bytes limit None b reads = tt
reads_bytes limit (Some a) None reads = absurd reads
reads_bytes limit (Some a) (Some b) reads = reads.0

-- ---- what a tree keeps

module _ {T : Type 0} (snapshot : T → Option Snapshot) (longest : T → Option ℕ) (counts : T → Option ReadCounts) where
  pub tree_kept : (a : T) → KeepsTree snapshot longest counts a a
  tree_kept a = (requests_none longest_path (longest a), bytes_none (limits.bytes + 1) (counts a), refl)

  -- a walk, and then files
  pub tree_walked : (a b : T) → RequestsWithin longest_path (longest a) (longest b) → ReadsNothing (counts a) (counts b) →
      snapshot b ≡ snapshot a → KeepsTree snapshot longest counts a b
  tree_walked a b requested walked kept = (requested, walked_bytes (limits.bytes + 1) (counts a) (counts b) walked, kept)

  pub tree_read : (a b c : T) → KeepsTree snapshot longest counts a b → ReadsFiles snapshot longest counts b c →
      KeepsTree snapshot longest counts a c
  tree_read a b c first next = (
    requests_on longest_path (longest a) (longest b) (longest c) first.0 next.0,
    bytes_on (limits.bytes + 1) (counts a) (counts b) (counts c) first.1
        (reads_bytes (limits.bytes + 1) (counts b) (counts c) next.1),
    next.2 ∙ first.2,
  )

  -- one more file
  pub files_read : (path : List ℕ) (a b c : T) → length path ≤ longest_path → ReadsFiles snapshot longest counts a b →
      ReadsFile snapshot longest counts path b c → ReadsFiles snapshot longest counts a c
  files_read path a b c short first next = (
    requests_on longest_path (longest a) (longest b) (longest c) first.0
        (requests_one longest_path (longest b) (longest c) path short next.0),
    reads_on (limits.bytes + 1) (counts a) (counts b) (counts c) first.1 next.1,
    next.2 ∙ first.2,
  )

  pub files_unread : (a : T) → ReadsFiles snapshot longest counts a a
  files_unread a = (requests_none longest_path (longest a), reads_nothing (limits.bytes + 1) (counts a), refl)

-- The file at the path is opened and read by a reader of the tree. The tree is `was` before, `now` when the file is
-- open, which is the reader's at the `start`, and `after` the reads.
module _ {T : Type 0} (snapshot : T → Option Snapshot) (opened : T → Option SourceModel) (counts : T → Option ReadCounts)
    (limit : ℕ) (path : List ℕ) (was now start after : T) where
  pub file_read : (u : Unit {0}) → (IsSome (counts now) → IsSome (snapshot now)) →
      OpensFile (snapshot was) path (Ok u) (opened now) → snapshot now ≡ snapshot was →
      counts now ≡ option_map after_open (counts was) → start ≡ now → snapshot after ≡ snapshot start →
      ConsumesAtMost limit (open_model (snapshot start) (opened start)) (open_model (snapshot after) (opened after)) →
      ((before : ReadCounts) → (count : ℕ) → HasRead before count (opened start) (counts start) →
      HasRead before count (opened after) (counts after)) →
      ReadsWithin limit (counts was) (counts after)
  file_read u modelled opens same counted begun kept bounded reads =
      reads_open limit (snapshot was) (snapshot now) (snapshot after) path u (counts was) (counts now) (counts after)
      (opened now) (opened after) modelled opens same counted (kept ∙ ap snapshot begun)
      (subst (λ t. ConsumesAtMost limit (open_model (snapshot t) (opened t)) (open_model (snapshot after) (opened after))) begun bounded)
      (subst (λ t. (before : ReadCounts) → (count : ℕ) → HasRead before count (opened t) (counts t) →
      HasRead before count (opened after) (counts after)) begun reads)
