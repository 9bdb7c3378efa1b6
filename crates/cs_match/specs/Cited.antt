-- The definitions that the contracts of this crate cite, passed on from one place. Declares nothing.
pub use Rattle.cs_tree.specs.CountsAtMost.{CountsAtMost}
pub use Rattle.cs_prefilter.specs.OffsetWork.{offset_work}
pub use Rattle.cs_prefilter.specs.WordAt.{IsPrefilterOf}
pub use Rattle.cs_syntax.specs.CharSteps.{finished, unfinished_after}
pub use Rattle.cs_syntax.specs.Cuts.{AreCutsOf}
pub use Rattle.cs_syntax.specs.Matching.{HasMatch, Tree, Trees, alt, cat, is_at_word_boundary, is_word, member, more, word_after, word_before}
pub use Rattle.cs_syntax.specs.Node.{tree_of}
pub use Rattle.cs_syntax.specs.NodeList.{trees_of}
pub use Rattle.cs_syntax.specs.TreeList.{append}
pub use Rattle.cs_tree.specs.ByteList.{AreBytes}
pub use Rattle.cs_match.specs.Anchored.{is_anchored}
pub use Rattle.cs_match.specs.Automaton.{after_steps, most_states}
pub use Rattle.cs_match.specs.ByteClasses.{AddsMarks, AreClasses, AreNumbered, HaveBoth, HaveFirsts, StepAlike, begins_at}
pub use Rattle.cs_match.specs.Candidates.{IsCandidate}
pub use Rattle.cs_match.specs.ConsistentDfa.{HasSlot, HasState, IsKnown, IsTableOf, LeadsIn, StepsWithin, count_in, state_in, table_in}
pub use Rattle.cs_match.specs.Decidability.{MatchingIsDecidable}
pub use Rattle.cs_match.specs.Deciding.{Decides}
pub use Rattle.cs_match.specs.Digits.{IsBlock, IsNoDigit}
pub use Rattle.cs_match.specs.Entered.{entered, if_entered, if_kept, if_previous, position_list}
pub use Rattle.cs_match.specs.Expansion.{alternation, expansion, expansions, optional, repeat_expansion, union_of, with_copies}
pub use Rattle.cs_match.specs.Glushkov.{IsExpanded, accepts, char_step_of, cuts_of, look_around, loop_ends, nullable, position_count, position_count_of, repeats, step, unfinished_before}
pub use Rattle.cs_match.specs.Lanes.{AreChunks, AreLanes, AreListed, IsChunk, IsCut, IsLane}
pub use Rattle.cs_match.specs.LazyDfa.{AreFirstRows, most_rows, start_number, until_newline}
pub use Rattle.cs_match.specs.Lines.{lines, newline, terminated_lines}
pub use Rattle.cs_match.specs.Listing.{CountsWithin, IsListedTo, ListsLines}
pub use Rattle.cs_match.specs.LookBehind.{look_behind}
pub use Rattle.cs_match.specs.Masks.{AreMasks, HasRoom, IsMask, IsScratch}
pub use Rattle.cs_match.specs.MatchingEnds.{matching_ends, newlines_between}
pub use Rattle.cs_match.specs.NoNewline.{HasNoNewline}
pub use Rattle.cs_match.specs.OneWord.{OccursAt, are_one_word, has_byte, is_one_word}
pub use Rattle.cs_match.specs.Parts.{HaveSameShape, options, run, runs, shape_of, shapes_of, size_of, sizes_of}
pub use Rattle.cs_match.specs.Passes.{HasRead, IsPassAt, IsPassOf, PassesFindEnds, ends_in, may_begin, may_end}
pub use Rattle.cs_match.specs.PositionSet.{IsPositionSet, has_bit_from, has_from, intersect, is_moved, is_selected, positions_of}
pub use Rattle.cs_match.specs.SameLines.{MatchSameLines, MatchSameSpans}
pub use Rattle.cs_match.specs.Scanned.{FollowsKnown, HasScanned, ListsLine, PassesLines}
pub use Rattle.cs_match.specs.Sequences.{firsts_of, lasts_of}
pub use Rattle.cs_match.specs.Size.{FitsWeight, nodes, nodes_of}
pub use Rattle.cs_match.specs.Skipped.{AreLinesBetween}
pub use Rattle.cs_match.specs.Skipping.{AreWholeLines, IsLineAfter, NoneMatch}
pub use Rattle.cs_match.specs.Span.{FirstSpansAreUnique, FirstSpansBeginAll, HasNoMatchFrom, HasNoMatchOf, IsFirstOf, IsFirstSpan, IsMatchOf, IsWholeWord, SpansAreUnique}
pub use Rattle.cs_match.specs.SpanList.{IsListing, IsSpent, IsUsedUp}
pub use Rattle.cs_match.specs.SpanSearch.{BeginFrom, BeginsAt, BeginsBy, EndsAt}
pub use Rattle.cs_match.specs.SpanWork.{ListsWithin, SearchesWithin, find_bytes, pass_bytes}
pub use Rattle.cs_match.specs.States.{IsDead, accepts_before, ahead, look_at_end, next_state, start, successor}
pub use Rattle.cs_match.specs.Table.{HasRows, IsRow, TellsLines, next_number, number_after, table_start, unknown}
pub use Rattle.cs_match.specs.Traversal.{EndsFrom, Enters, HasRoomAt, IsNoted, loops_after, position_past, repeat_past}
pub use Rattle.cs_match.specs.Work.{WorksWithin, byte_work, line_work, list_work, search_work, searched_bytes, step_work, words}
