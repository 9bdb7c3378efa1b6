-- The definitions that the contracts of this crate cite, passed on from one place. Declares nothing.
pub use Rattle.cs_syntax.specs.CharRanges.{IsCharRange}
pub use Rattle.cs_syntax.specs.Characters.{is_scalar}
pub use Rattle.cs_syntax.specs.Matching.{HasMatch, Tree, Trees, alt, cat, member, more, none, one_char, one_of, rep}
pub use Rattle.cs_syntax.specs.Node.{tree_of}
pub use Rattle.cs_syntax.specs.NodeList.{trees_of}
pub use Rattle.cs_syntax.specs.TreeList.{append}
pub use Rattle.cs_tree.specs.ConsumesAtMost.{ConsumesAtMost}
pub use Rattle.cs_tree.specs.Cover.{is_among}
pub use Rattle.cs_tree.specs.FailureCount.{count_after}
pub use Rattle.cs_tree.specs.Folders.{are_distinct}
pub use Rattle.cs_tree.specs.StreamModels.{ends}
pub use Rattle.cs_tree.specs.Transfers.{ReadGives, is_io_failure}
pub use Rattle.cs_trigram.specs.Analysis.{AreExactStrings, EnumeratesTree, IsCorrect, IsEnumeration, IsLongestLeadingRun, IsMatchQuery, MentionsOnly, RequiresText, all_match, concatenations, cross_size, has_any, some_matches, some_mentions, with_string, with_strings}
pub use Rattle.cs_trigram.specs.Blocks.{Carries, last_two}
pub use Rattle.cs_trigram.specs.EndStrings.{AreCoarser, AreConcatenations, AreEndStrings, AreShort, Direction, all_truncated, backward, concatenated, end_product, forward, subsumes, truncated, whole_ends, with_end_string, with_end_strings}
pub use Rattle.cs_trigram.specs.ExactQuery.{HasFewExactStrings, RequiresExactString}
pub use Rattle.cs_trigram.specs.ExactRuns.{HasExactRuns, HasRunsWithin, IsSelective}
pub use Rattle.cs_trigram.specs.ExactSet.{AreExactSetsReversed, IsExactSetOf, TellsEmpty}
pub use Rattle.cs_trigram.specs.ExactStrings.{HaveFewExactStrings, is_finite}
pub use Rattle.cs_trigram.specs.FastPath.{AreValidPairs, LinesFit, column_after}
pub use Rattle.cs_trigram.specs.MayMatch.{MayMatch, MentionsTrigramsOf}
pub use Rattle.cs_trigram.specs.Position.{AreSmallLimits, IsAdvancedBy, IsPositionAfter, ValidatesFrom}
pub use Rattle.cs_trigram.specs.Query.{HasTrigrams, IsSmall, LosesNoLine, matches_set, mentions, query_size}
pub use Rattle.cs_trigram.specs.RegexpInfo.{IsAlternation, IsInfoOf, IsSequence}
pub use Rattle.cs_trigram.specs.Scans.{AreDistinctTrigrams, IfText, IsScanOf, ReportsScan, is_scan_failure, scan_outcome_of, skipped_for, text}
pub use Rattle.cs_trigram.specs.SeenTrigrams.{HasSeenBytes, IsSound, numbers_of}
pub use Rattle.cs_trigram.specs.SequenceQuery.{HasPairs, IsCrossQuery, pairs}
pub use Rattle.cs_trigram.specs.Text.{first_broken, limits, rule_broken, skip, text_trigrams, valid_utf8_pair}
pub use Rattle.cs_trigram.specs.Trigram.{Ascends, closing_trigram, has, set_of_numbers, tri, trigram}
pub use Rattle.cs_trigram.specs.TrigramSets.{AreDistinct, IsTrigramSet, trigram_count}
