-- Examples, by computation.
use Rattle.std.proofs.Common.{◌≡◌, ℕ, List, true, false, [], ◌∷◌, Some, Ok, Err, refl}
use Rattle.std.specs.Prelude.{codes}
use Rattle.cs_tree.specs.Sinks.{SinkModel, with_bytes, after_flush}
use Rattle.cs_tree.specs.TakesPrefix.{TakesPrefix}
use Rattle.cs_tree.specs.MemStreams.{empty_sink}
use Rattle.cs_tree.specs.ReadCounts.{ReadCounts, after_lookup, after_open, after_read}
use Rattle.cs_tree.specs.declared.fault.TreeFault.TheVariants.{Failed}
use Rattle.cs_tree.specs.Clean.{clean_path, is_clean}
use Rattle.cs_tree.specs.Cleaning.{is_normalized}
use Rattle.cs_tree.specs.Proper.{is_proper_path}
use Rattle.cs_tree.specs.Cover.{covers}
use Rattle.cs_tree.specs.Descents.{tails, begins_below, after_byte}
use Rattle.cs_tree.specs.Reachability.{elements_under}
use Rattle.cs_tree.specs.Store.{part_of}

dots_go : clean_path (codes "/w") (codes "a/./b/../c/") ≡ codes "/w/a/c"
dots_go = refl

nothing_lies_above_the_root : clean_path (codes "/w") (codes "../..") ≡ codes "/"
nothing_lies_above_the_root = refl

an_absolute_path_is_not_joined : clean_path (codes "/w") (codes "/t//x") ≡ codes "/t/x"
an_absolute_path_is_not_joined = refl

the_root_is_clean : is_clean (codes "/") ≡ true
the_root_is_clean = refl

the_root_is_no_proper_path : is_proper_path (codes "/") ≡ false
the_root_is_no_proper_path = refl

a_slash_at_the_end_is_cleaned : is_clean (codes "/a/") ≡ false
a_slash_at_the_end_is_cleaned = refl

a_relative_path_is_not_normalized : is_normalized (codes "a/b") ≡ false
a_relative_path_is_not_normalized = refl

a_clean_path_is_normalized : is_normalized (codes "/a/.b") ≡ true
a_clean_path_is_normalized = refl

a_path_covers_what_is_below_it : covers (codes "/a/b") (codes "/a/b/c") ≡ true
a_path_covers_what_is_below_it = refl

a_path_does_not_cover_what_its_text_begins : covers (codes "/a/b") (codes "/a/bc/y") ≡ false
a_path_does_not_cover_what_its_text_begins = refl

the_root_covers_a_name : covers (codes "/") (codes "/a") ≡ true
the_root_covers_a_name = refl

elements_below_the_root : elements_under (codes "/") (codes "/a/b") ≡ codes "a" ∷ codes "b" ∷ []
elements_below_the_root = refl

elements_below_a_path : elements_under (codes "/a") (codes "/a/b/c") ≡ codes "b" ∷ codes "c" ∷ []
elements_below_a_path = refl

a_part_begins_at_its_position : part_of (codes "abcde") 1 3 ≡ codes "bcd"
a_part_begins_at_its_position = refl

a_part_ends_with_the_bytes : part_of (codes "abc") 2 5 ≡ codes "c"
a_part_ends_with_the_bytes = refl

-- ---- sinks

-- these bytes were written, and one flush flushed this many of them
abbrev flushed_once : List ℕ → ℕ → SinkModel
flushed_once bytes flushed = record { bytes = bytes; flushed = flushed; flushes = 1 }

prefix_of_a_line : TakesPrefix (codes "t:one\n") (Some (flushed_once (codes "s:two\n") 6)) (Some (flushed_once (codes "s:two\nt:o") 6))
prefix_of_a_line = record { count = 3; grows = refl }

a_line_and_a_flush : after_flush (with_bytes empty_sink (codes "t:one\n")) ≡ flushed_once (codes "t:one\n") 6
a_line_and_a_flush = refl

a_second_flush_is_counted : after_flush (flushed_once (codes "t") 0) ≡ record { bytes = codes "t"; flushed = 1; flushes = 2 }
a_second_flush_is_counted = refl

-- ---- reads

abbrev no_reads : ReadCounts
no_reads = record { of_open = 0; most = 0; lookups = 0 }

two_reads_of_a_file_count_together : after_read (Ok 2) (after_read (Ok 3) no_reads) ≡ record { of_open = 5; most = 5; lookups = 0 }
two_reads_of_a_file_count_together = refl

the_next_file_counts_from_none : after_read (Ok 1) (after_open (after_read (Ok 3) no_reads)) ≡ record { of_open = 1; most = 3; lookups = 0 }
the_next_file_counts_from_none = refl

a_failed_read_counts_nothing : after_read (Err Failed) (after_read (Ok 3) no_reads) ≡ record { of_open = 3; most = 3; lookups = 0 }
a_failed_read_counts_nothing = refl

a_lookup_reads_nothing : after_lookup (after_read (Ok 3) no_reads) ≡ record { of_open = 3; most = 3; lookups = 1 }
a_lookup_reads_nothing = refl

-- ---- a descent in sorted paths

texts_that_begin_with_a_byte : after_byte 98 (codes "a" ∷ [] ∷ codes "b" ∷ codes "bc" ∷ codes "cb" ∷ []) ≡ [] ∷ codes "c" ∷ []
texts_that_begin_with_a_byte = refl

what_follows_an_offset : tails codes 2 ("/ab" ∷ "/a" ∷ []) ≡ codes "b" ∷ [] ∷ []
what_follows_an_offset = refl

an_empty_text_is_below_all : begins_below 0 [] ≡ true
an_empty_text_is_below_all = refl

the_bound_itself_is_not_below : begins_below 98 (codes "b") ≡ false
the_bound_itself_is_not_below = refl
