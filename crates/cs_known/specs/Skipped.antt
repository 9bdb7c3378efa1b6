-- Which files a search over a state skips: what is printed for them is known to be nothing without reading them.
use Rattle.std.specs.Prelude.{◌≡◌, ℕ, Bool, true, false, not, ◌&&◌, ◌||◌, List, Option, Some, None}
use Rattle.std.specs.FinMap as map'
use Rattle.cs_tree.specs.declared.tree.Stamp.{Stamp}
use Rattle.cs_trigram.specs.Trigram.{has}
use Rattle.cs_trigram.specs.Query.{matches_set}
use Rattle.cs_trigram.specs.declared.queries.Query.{Query}
use Rattle.cs_index.specs.OpenedParts.{Parts, files_in}
use Rattle.cs_lines.specs.declared.binary.BinaryFiles.{BinaryFiles}
use Rattle.cs_lines.specs.declared.binary.BinaryFiles.TheVariants.{WithoutMatch, Binary, Text}
use Rattle.cs_lines.specs.declared.form.Mode.{Mode}
use Rattle.cs_lines.specs.declared.form.Mode.TheVariants.{Lines, Counts, Names, Others}
use Rattle.cs_lines.specs.declared.form.ShowOptions.{ShowOptions}
use Rattle.cs_state.specs.Known.{HasNumbers, Known, Kept, indexed, binary, apart}
use Rattle.cs_state.specs.StampedNames.{Knows, stamped}

-- ---- what is known

abbrev pub known_as : List ℕ → Stamp → Kept → Known
known_as name stamp kept = record { name = name; stamp = stamp; kept = kept }

-- the state knows the file as this, by a stamp whose numbers have eight bytes
abbrev pub IsKnownAs : Parts → List ℕ → Stamp → Kept → Type 0
IsKnownAs parts name stamp kept = HasNumbers stamp × Knows parts (known_as name stamp kept)

-- the query matches these trigrams, if there are some
abbrev pub matches_some : Query → Option (List ℕ) → Bool
matches_some query None = false
matches_some query (Some trigrams) = matches_set query (has trigrams)

-- the index has the stamped name, whose trigrams match the query
abbrev pub is_candidate : Query → Parts → List ℕ → Bool
is_candidate query parts stamped_name = matches_some query (map'.get (files_in parts) stamped_name)

-- ---- what prints nothing

abbrev pub lists_others : Mode → Bool
lists_others Lines = false
lists_others Counts = false
lists_others Names = false
lists_others Others = true

-- -v prints lines without a match, and -L the names of texts without one
abbrev pub prints_unmatched : ShowOptions → Bool
prints_unmatched options = options.invert || lists_others options.mode

-- a binary text is searched as one without a match
abbrev pub leaves_out : BinaryFiles → Bool
leaves_out WithoutMatch = true
leaves_out Binary = false
leaves_out Text = false

module _ (options : ShowOptions) (binaries : BinaryFiles) (query : Query) (parts : Parts) where
  -- A text without a match prints nothing, except with -v and -L, nor does a binary one, unless it is searched.
  abbrev pub prints_nothing : List ℕ → Kept → Bool
  prints_nothing stamped_name indexed = not (prints_unmatched options) && not (is_candidate query parts stamped_name)
  prints_nothing stamped_name binary = leaves_out binaries
  prints_nothing stamped_name apart = false

  -- A file is skipped if it is known, by the stamp that is seen, to print nothing. (`--files` reads no file, and skips none.)
  pub record IsSkipped (name : List ℕ) (seen : Option Stamp) : Type 0 where
    pub stamp : Stamp
    pub kept : Kept
    pub is_seen : seen ≡ Some stamp
    pub known : IsKnownAs parts name stamp kept
    pub silent : prints_nothing (stamped (known_as name stamp kept)) kept ≡ true
