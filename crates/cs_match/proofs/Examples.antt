-- Worked examples of the definitions, by computation.
use Rattle.std.proofs.Common.{◌≡◌, true, false, [], ◌∷◌, refl, ap, codes}
use Rattle.std.specs.Prelude.{None}
use mathlib.Core.Bool.{xor}
use Rattle.std.proofs.lemmas.Bool.{both_ways}
use Rattle.cs_syntax.specs.Matching.{Tree, empty, one_of, one_char, cat, alt, rep, none, more, word_edge, line_start, line_end}
use Rattle.cs_syntax.specs.ByteSet.{union}
use Rattle.cs_match.specs.Anchored.{is_anchored}
use Rattle.cs_match.specs.Expansion.{expansion, optional}
use Rattle.cs_match.specs.declared.state.LookAround.{LookAround}
use Rattle.cs_match.specs.Lines.{lines, terminated_lines}
use Rattle.cs_match.specs.PositionSet.{positions_of, intersect}
use Rattle.cs_match.specs.Glushkov.{repeats, loop_ends, accepts}
use Rattle.cs_match.specs.Sequences.{firsts_of, lasts_of}
use Rattle.cs_match.specs.Entered.{entered, entered_each, position_list, moved}
use Rattle.cs_match.specs.Parts.{run, runs, optional_run, options}
use Rattle.cs_match.specs.declared.position.Position.TheVariants.{Bytes, Begun, Taken}
use Rattle.cs_syntax.specs.declared.char_step.CharStep.TheVariants.{Begins}
use Rattle.cs_match.specs.Skipping.{AreWholeLines}
use Rattle.cs_match.specs.States.{state, accepts_before}
use Rattle.cs_syntax.specs.CharSteps.{finished}
use Rattle.cs_match.specs.declared.state.State.{State}
use Rattle.cs_match.specs.ByteClasses.{AreAlike}
use Rattle.cs_match.specs.declared.byte_classes.ByteClasses.{ByteClasses}
use Rattle.cs_match.specs.declared.lanes.Table.{Table}
use Rattle.cs_match.specs.LazyDfa.{accepted_number, until_newline}
use Rattle.cs_match.specs.Table.{number_after}
use Rattle.cs_match.specs.Size.{nodes}
use Rattle.cs_match.specs.Work.{words, byte_work}

lines_of_two : lines (codes "ab\ncd\n") ≡ codes "ab" ∷ codes "cd" ∷ []
unfolding lines
lines_of_two = refl

last_without_newline : lines (codes "ab\n\ncd") ≡ codes "ab" ∷ [] ∷ codes "cd" ∷ []
unfolding lines
last_without_newline = refl

carriage_return_stays : lines (codes "a\r\n") ≡ codes "a\r" ∷ []
unfolding lines
carriage_return_stays = refl

no_line_of_nothing : lines [] ≡ []
unfolding lines
no_line_of_nothing = refl

unfinished_is_no_terminated_line : terminated_lines (codes "one\ntwo\non") ≡ codes "one" ∷ codes "two" ∷ []
unfolding terminated_lines
unfinished_is_no_terminated_line = refl

five_is_the_first_and_the_third : positions_of (5 ∷ []) 3 ≡ true ∷ false ∷ true ∷ []
unfolding positions_of
five_is_the_first_and_the_third = refl

-- sequences with two positions and one
first_positions_of_sequences : firsts_of (1 ∷ 0 ∷ []) ≡ true ∷ false ∷ true ∷ []
first_positions_of_sequences = refl

last_positions_of_sequences : lasts_of (1 ∷ 0 ∷ []) ≡ false ∷ true ∷ true ∷ []
last_positions_of_sequences = refl

-- the second position is entered after the first one, and the end of a sequence does not enter the next one
sequences_that_are_not_entered : (a : LookAround) → entered_each (runs (1 ∷ 0 ∷ [])) false (true ∷ true ∷ false ∷ []) a
    ≡ false ∷ true ∷ false ∷ []
sequences_that_are_not_entered a = refl

a_last_position_is_accepted : intersect (true ∷ true ∷ false ∷ []) (false ∷ true ∷ true ∷ []) ≡ true
a_last_position_is_accepted = refl

-- `^a` and `(^a)+` are anchored; `^|a`, `a^` and `(^a)*` are not
anchored_trees :
    (is_anchored (cat (more line_start (more (one_of []) none))) ≡ true)
    × (is_anchored (rep (cat (more line_start (more (one_of []) none))) 1 None) ≡ true)
    × (is_anchored (alt (more line_start (more (one_of []) none))) ≡ false)
    × (is_anchored (cat (more (one_of []) (more line_start none))) ≡ false)
    × (is_anchored (rep (cat (more line_start (more (one_of []) none))) 0 None) ≡ false)
anchored_trees = (refl, refl, refl, refl, refl)

-- `(a*b)+`
abbrev nested : Tree
nested = rep (cat (more (rep (one_of []) 0 None) (more (one_of []) none))) 1 None

abbrev inside : LookAround
inside = record { first = false; last = false; edge = false }

-- The outer repeat comes first: after an `a` its body is not final, and that of the inner repeat is; after a
-- `b` its own body is final.
repeats_that_nest :
    (repeats nested ≡ 2)
    × (loop_ends nested (true ∷ false ∷ []) inside ≡ false ∷ true ∷ [])
    × (loop_ends nested (false ∷ true ∷ []) inside ≡ true ∷ false ∷ [])
repeats_that_nest = (refl, refl, refl)

-- two lines with their newlines are whole lines, and so is the empty text
whole_of_two : AreWholeLines (97 ∷ 10 ∷ 10 ∷ [])
unfolding AreWholeLines
whole_of_two = refl

-- a table with a class for each of two bytes
abbrev two_classes : Table
two_classes = record {
  transitions = record { ref_ptr = (0, 0); now = 0 ∷ 2 ∷ 5 ∷ [] };
  of = record { ref_ptr = (0, 0); now = 0 ∷ 1 ∷ [] };
  count = 2;
}

-- by the bytes 1 and 0: from state 0 to state 2, and from there to state 5
after_of_two : number_after two_classes 0 (1 ∷ 0 ∷ []) ≡ 5
unfolding number_after
after_of_two = refl

-- after `a` the byte before is a word character, after `a-` it is not
after_a_letter : state word_edge (97 ∷ []) ≡ record { positions = []; behind = record { first = false; word = true; unfinished = finished } }
after_a_letter = refl

after_a_dash : state word_edge (97 ∷ 45 ∷ []) ≡ record { positions = []; behind = record { first = false; word = false; unfinished = finished } }
after_a_dash = refl

-- a tree without `\b` and `^` tells neither a word byte nor the start of the line
after_no_question : (state line_end (97 ∷ []) ≡ state line_end (45 ∷ [])) × (state line_end [] ≡ state line_end (97 ∷ []))
after_no_question = (refl, refl)

-- a word byte is unlike another byte
dash_and_letter : ¬ AreAlike word_edge (state word_edge []) 45 97
dash_and_letter alike = both_ways false refl (ap (λ (n : State). n.behind.word) alike.successor)

-- `\b` accepts before the end of the line `a`, and between `a` and `-`; not between `a` and `b`
edge_at_the_end : accepts_before word_edge (state word_edge (97 ∷ [])) 10 ≡ true
edge_at_the_end = refl

edge_before_a_dash : accepts_before word_edge (state word_edge (97 ∷ [])) 45 ≡ true
unfolding xor
edge_before_a_dash = refl

no_edge_in_a_word : accepts_before word_edge (state word_edge (97 ∷ [])) 98 ≡ false
unfolding xor
no_edge_in_a_word = refl

-- `$` accepts only before the newline
end_before_a_newline : accepts_before line_end (state line_end []) 10 ≡ true
end_before_a_newline = refl

no_end_before_a_letter : accepts_before line_end (state line_end []) 97 ≡ false
no_end_before_a_letter = refl

-- three classes; the second is that of the newline
abbrev three_classes : ByteClasses
three_classes = record { of = 0 ∷ 0 ∷ 0 ∷ 0 ∷ 0 ∷ 0 ∷ 0 ∷ 0 ∷ 0 ∷ 0 ∷ 1 ∷ []; firsts = []; count = 3 }

-- the dead state stays until the newline, the second class
dead_ends_with_its_line : (until_newline three_classes 9 12 0 ≡ 9) × (until_newline three_classes 9 12 1 ≡ 12)
dead_ends_with_its_line = (refl, refl)

-- an accepting state leads to the match state, and over the newline to the first row
accepted_before_a_letter : (accepted_number 3 97 ≡ 6) × (accepted_number 3 10 ≡ 0)
accepted_before_a_letter = (refl, refl)

-- of a run the first position is entered with it, and each other one after the position before it
entries_of_a_run : entered (run 3) true (true ∷ false ∷ true ∷ [])
    (record { first = false; last = false; edge = false }) ≡ true ∷ true ∷ false ∷ []
entries_of_a_run = refl

-- an option accepts where it can begin, with no position in the set, and the options after one that is left are entered
optional_run_is_left : accepts (optional_run 2) true (false ∷ false ∷ []) (record { first = false; last = false; edge = false }) ≡ true
optional_run_is_left = refl

entries_of_options : entered (options 2 3) false (false ∷ true ∷ true ∷ false ∷ false ∷ false ∷ [])
    (record { first = false; last = false; edge = false })
    ≡ false ∷ false ∷ true ∷ true ∷ true ∷ false ∷ []
entries_of_options = refl

-- `(a|b)` is one set; `(a|)` has a branch that is none
sets_are_joined : expansion (alt (more (one_of (true ∷ [])) (more (one_of (false ∷ true ∷ [])) none))) ≡ one_of (true ∷ true ∷ [])
unfolding union
sets_are_joined = refl

set_or_nothing : expansion (optional (one_of (true ∷ []))) ≡ alt (more (one_of (true ∷ [])) (more empty none))
set_or_nothing = refl

-- a set of bytes and a set of characters
three_positions : position_list (cat (more (one_of []) (more (one_char []) none))) ≡ Bytes [] ∷ Begun ∷ Taken [] ∷ []
three_positions = refl

-- a lead byte begins a set of characters that was entered, and ends what was taken
lead_byte_begins : moved false (Begun ∷ Taken [] ∷ []) (record { byte = 195; char = Begins finished })
    (true ∷ false ∷ []) (false ∷ true ∷ []) ≡ true ∷ false ∷ []
lead_byte_begins = refl

-- a set, and a loop over a set
four_nodes : nodes (cat (more (one_of []) (more (rep (one_of []) 0 None) none))) ≡ 4
four_nodes = refl

second_word : words 65 ≡ 2
second_word = refl

byte_of_one_position : byte_work (one_of []) ≡ 1566
byte_of_one_position = refl
