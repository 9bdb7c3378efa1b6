-- The model and the representation invariant of a `Builder`.
use Rattle.std.specs.Prelude.{◌≡◌, ◌-◌, ◌^◌, List, length, min}
use Rattle.cs_trigram.specs.TrigramSets.{trigram_count}
use Rattle.cs_index.specs.PostingLists.{entries_of}
use Rattle.cs_index.specs.declared.writing.builder.Builder.TheInside.{Inside}
use Rattle.cs_index.specs.Encoding.{PostingList}
use Rattle.cs_index.specs.Gathering.{lists_below}
use Rattle.cs_index.specs.Buckets.{ids_in_buckets, bucket_postings, AreBuckets}
use Rattle.cs_index.specs.Built.{Built, IsBuilt}
use Rattle.cs_index.specs.LeastLength.{least_length}

-- the posting lists of the buckets
abbrev pub bucket_lists : Inside → List PostingList
bucket_lists b = lists_below trigram_count (ids_in_buckets (bucket_postings b.buckets.items))

abbrev pub built_of : Inside → Built
built_of b = record { paths = b.paths; entries = entries_of 0 b.names (bucket_lists b) }

pub record IsBuilder (b : Inside) : Type 0 where
  pub buckets : AreBuckets (length b.names) b.buckets.items
  pub built : IsBuilt (built_of b)
  pub counted : b.least ≡ min (least_length (built_of b).entries) (2 ^ 64 - 1)
