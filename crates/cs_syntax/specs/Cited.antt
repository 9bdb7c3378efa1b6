-- The definitions that the contracts of this crate cite, passed on from one place. Declares nothing.
pub use Rattle.cs_syntax.specs.BarredPatterns.{IsSelfContained, MatchesEither}
pub use Rattle.cs_syntax.specs.ByteKinds.{byte_kind_of}
pub use Rattle.cs_syntax.specs.ByteSet.{all_bytes, char_set, is_in_folded, other_case, set_of, union}
pub use Rattle.cs_syntax.specs.CharRanges.{AreCanonical, IsCharRange}
pub use Rattle.cs_syntax.specs.CharSteps.{MatchesEntered, char_step, continued, finished, is_split, least_with, taken_at, unfinished_after, unfinished_in}
pub use Rattle.cs_syntax.specs.CharTrees.{are_ascii, ranges_tree}
pub use Rattle.cs_syntax.specs.Characters.{canonical_ranges, has_char, is_scalar}
pub use Rattle.cs_syntax.specs.ClassSets.{is_in_item, ranges_of}
pub use Rattle.cs_syntax.specs.ClassState.{IsParsedClass, is_other_case}
pub use Rattle.cs_syntax.specs.Classes.{after_backslash, after_colon, class, class_by_name, class_char, class_escape, class_token, items_from, name_length, posix_class, range_from, range_to, span}
pub use Rattle.cs_syntax.specs.Cuts.{AreCuts, AreCutsOf, Divide, char_ranges, floor, range_cuts}
pub use Rattle.cs_syntax.specs.Determinism.{HasOneParse}
pub use Rattle.cs_syntax.specs.Escapes.{char_by_number, char_token, control_char, escape, escaped_char, escaped_class, escaped_tree, hex_char, hex_char_in_braces, is_unsupported_escape, octal_char}
pub use Rattle.cs_syntax.specs.Groups.{after_flags, cleared_flags, group, head, name, set_flags, with_cleared, with_set}
pub use Rattle.cs_syntax.specs.ItemViews.{IsTokenOf, StaysWithin, atom_tree, class_char_view, class_token_view, item_view, token_view}
pub use Rattle.cs_syntax.specs.Items.{next_token}
pub use Rattle.cs_syntax.specs.Joining.{MatchesWholeLine, branches_of, either, literal, pattern_of, whole_line}
pub use Rattle.cs_syntax.specs.Levels.{HasLevels}
pub use Rattle.cs_syntax.specs.Matching.{Tree, is_word, member, one_of, rep}
pub use Rattle.cs_syntax.specs.Members.{IsOnly, count}
pub use Rattle.cs_syntax.specs.Node.{tree_of}
pub use Rattle.cs_syntax.specs.NodeList.{trees_of}
pub use Rattle.cs_syntax.specs.NumberList.{has}
pub use Rattle.cs_syntax.specs.Numbers.{count_digits, digit_value, is_digit, number_of_digits}
pub use Rattle.cs_syntax.specs.ParseErrors.{IsParseError}
pub use Rattle.cs_syntax.specs.ParserState.{IsErrorOf}
pub use Rattle.cs_syntax.specs.Parsing.{Group, HasSyntaxError, IsTextFault, Level, ParsesAs, levels, parse_result, parse_suffix, tree}
pub use Rattle.cs_syntax.specs.PartialGroups.{empty_group, tree_so_far, with_last_atom, with_last_atom_repeated, with_last_branch}
pub use Rattle.cs_syntax.specs.Quoting.{atoms_of, counted_repeat, quote_meta}
pub use Rattle.cs_syntax.specs.Ranges.{is_in_ranges}
pub use Rattle.cs_syntax.specs.Repeats.{brace, counts, counts_from, counts_to, is_bad, lazy, max_repeat, number}
pub use Rattle.cs_syntax.specs.ScalarIndex.{nth_scalar, scalar_ceil, scalar_floor}
pub use Rattle.cs_syntax.specs.SetWords.{TestsAs}
pub use Rattle.cs_syntax.specs.Tokens.{atom, bar, bytes_tree, char_tree, flags_from_here, group_end, group_start, is_continuation, item, repeat, sequence, starts_with_byte}
pub use Rattle.cs_syntax.specs.Weight.{max_weight, times, weight, weights}
