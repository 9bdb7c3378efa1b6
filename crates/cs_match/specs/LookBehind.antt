-- What a tree reads of the bytes before an offset: whether there are none, for `^`; whether the last is a word byte,
-- for `\b` and `\B`; and which character is unfinished, for sets of characters.
use Rattle.std.specs.Prelude.{true, false, ◌||◌}
use Rattle.cs_syntax.specs.Matching.{Tree, Trees, empty, one_of, one_char, cat, alt, rep, line_start, line_end, word_edge, not_word_edge, none, more}
use Rattle.cs_match.specs.declared.state.LookBehind.{LookBehind}

abbrev pub no_bits : LookBehind
no_bits = record { first = false; word = false; char = false }

abbrev pub line_bit : LookBehind
line_bit = record { first = true; word = false; char = false }

abbrev pub word_bit : LookBehind
word_bit = record { first = false; word = true; char = false }

abbrev pub char_bit : LookBehind
char_bit = record { first = false; word = false; char = true }

abbrev pub either : LookBehind → LookBehind → LookBehind
either a b = record { first = a.first || b.first; word = a.word || b.word; char = a.char || b.char }

abbrev mutual
  pub look_behind : Tree → LookBehind
  look_behind empty = no_bits
  look_behind (one_of set) = no_bits
  look_behind (one_char ranges) = char_bit
  look_behind (cat ts) = look_behind_of ts
  look_behind (alt ts) = look_behind_of ts
  look_behind (rep x n m) = look_behind x
  look_behind line_start = line_bit
  look_behind line_end = no_bits
  look_behind word_edge = word_bit
  look_behind not_word_edge = word_bit

  pub look_behind_of : Trees → LookBehind
  look_behind_of none = no_bits
  look_behind_of (more t ts) = either (look_behind t) (look_behind_of ts)
