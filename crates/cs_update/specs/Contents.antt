-- What a run learns of a file from its bytes and its stamp.
use Rattle.std.specs.Prelude.{ℕ, Bool, false, nat_eq, if◌then◌else◌, List, [], length, Option, Some, None}
use Rattle.cs_tree.specs.Reachability.{read_item}
use Rattle.cs_tree.specs.Snapshot.{Item}
use Rattle.cs_tree.specs.declared.tree.Stamp.{Stamp}
use Rattle.cs_trigram.specs.Scans.{AreDistinctTrigrams}
use Rattle.cs_trigram.specs.Text.{text_trigrams, limits}
use Rattle.cs_trigram.specs.Trigram.{set_of_numbers}
use Rattle.cs_lines.specs.Shown.{is_binary}
use Rattle.cs_state.specs.Known.{Kept, indexed, binary, apart, is_same_stamp}
use Rattle.cs_update.specs.declared.types.Found.{Found}
use Rattle.cs_update.specs.declared.types.Found.TheVariants as found

-- What a file is, and the trigrams that the index has of it: those of a text.
pub record Content : Type 0 where
  pub kept : Kept
  pub trigrams : List ℕ

-- a text that an index can hold
abbrev pub text : List ℕ → Content
text trigrams = record { kept = indexed; trigrams = trigrams }

-- a file that is in the index by its name alone
abbrev pub unindexed : Kept → Content
unindexed kept = record { kept = kept; trigrams = [] }

-- a text with these trigrams, or one that no index can hold
abbrev pub text_content : Option (List ℕ) → Content
text_content (Some trigrams) = text trigrams
text_content None = unindexed apart

abbrev pub content_of : List ℕ → Content
content_of bytes = if is_binary bytes then unindexed binary else text_content (text_trigrams limits bytes)

-- That of a file which has not as many bytes as its stamp says is not learned: it is apart, and each search reads it. A file of
-- /sys says that it has a page, and another one may be written while it is read.
abbrev pub sized_content : ℕ → List ℕ → Content
sized_content size bytes = if nat_eq (length bytes) size then content_of bytes else unindexed apart

-- That of a file of this size which can be read to its end. An empty one has none: so files of /proc look, and they have bytes.
abbrev pub item_content : ℕ → Item → Option Content
item_content size item = if nat_eq size 0 then None else read_item (λ bytes. Some (sized_content size bytes)) item

-- whether a file that was seen with a stamp has it still
abbrev pub is_still : Stamp → Option Stamp → Bool
is_still seen None = false
is_still seen (Some now) = is_same_stamp seen now

-- that of a file which was seen with a stamp, and still has it when it is read
abbrev pub seen_content : Stamp → Option Stamp → Item → Option Content
seen_content seen now item = if is_still seen now then item_content seen.size item else None

-- ---- what is found

abbrev pub found_content : Found → Content
found_content (found.Text trigrams) = text (set_of_numbers trigrams.now)
found_content found.Binary = unindexed binary
found_content found.Apart = unindexed apart

-- each trigram once
abbrev pub has_distinct : Found → Type 0
has_distinct (found.Text trigrams) = AreDistinctTrigrams trigrams.now
has_distinct found.Binary = Unit {0}
has_distinct found.Apart = Unit {0}
