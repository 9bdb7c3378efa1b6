-- What files of a project are, as the code has it.
use Rattle.std.specs.Prelude.{ℕ, List}
use Rattle.cs_tree.specs.declared.tree.Stamp.{Stamp}
use Rattle.cs_state.specs.Known.{Kept, Known, indexed, binary, apart}
use Rattle.cs_state.specs.declared.file_kind.FileKind.{FileKind}
use Rattle.cs_state.specs.declared.file_kind.FileKind.TheVariants.{Text, Binary, Apart}

abbrev pub kept_of : FileKind → Kept
kept_of Text = indexed
kept_of Binary = binary
kept_of Apart = apart

abbrev pub known_of : List ℕ → Stamp → FileKind → Known
known_of name stamp kind = record { name = name; stamp = stamp; kept = kept_of kind }
