-- The rest of a posting list during iteration.
use Rattle.std.specs.Prelude.{◌<◌, ◌≤◌, ℕ, Bool, List, if◌then◌else◌}
use Rattle.cs_index.specs.AscendingIds.{max_ids}
use Rattle.cs_index.specs.ListDecoding.{ids_ahead}
use Rattle.cs_index.specs.PostingLists.{Ids}
use Rattle.cs_index.specs.Postings.{nothing_read}
use Rattle.cs_index.specs.declared.reading.postings.ListDecoder.{ListDecoder}

abbrev pub remaining_ids : Bool → ListDecoder → List ℕ → Ids
remaining_ids ended d bytes = if ended then nothing_read else ids_ahead d bytes

pub record IsPostingsState (d : ListDecoder) : Type 0 where
  pub within : d.next ≤ d.name_count
  pub bound : d.name_count < max_ids
