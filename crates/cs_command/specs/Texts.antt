-- Which words are patterns, and which are paths.
use Rattle.std.specs.Prelude.{ℕ, Bool, true, false, if◌then◌else◌, List, [], ◌∷◌, Option, Some, None}
use Rattle.std.specs.List.{filter_map}
use Rattle.cs_command.specs.declared.named.Valued.TheVariants as valued
use Rattle.cs_command.specs.declared.settings.Task.{Task}
use Rattle.cs_command.specs.declared.settings.Task.TheVariants as task
use Rattle.cs_command.specs.declared.words.WordItem.{WordItem}
use Rattle.cs_command.specs.declared.words.WordItem.TheVariants as item
use Rattle.cs_command.specs.Options.{part_of}
use Rattle.cs_command.specs.declared.options.WordPart.{WordPart}
use Rattle.cs_command.specs.declared.texts.Texts.{Texts}

-- the value of -e
abbrev pub given_pattern : WordItem → Option WordPart
given_pattern (item.Value valued.Pattern word from) = Some (part_of word from)
given_pattern _ = None

abbrev pub operand : WordItem → Option ℕ
operand (item.Operand word) = Some word
operand _ = None

-- only a search has a pattern
abbrev pub needs_pattern : Task → Bool
needs_pattern task.Search = true
needs_pattern _ = false

-- the parts of words that are patterns, and the words that are paths
pub record TextsView : Type 0 where
  pub patterns : List WordPart
  pub paths : List ℕ

abbrev pub texts : List WordPart → List ℕ → TextsView
texts patterns paths = record { patterns = patterns; paths = paths }

abbrev pub shown : Texts → TextsView
shown own = texts own.patterns.items own.paths.items

-- without -e the first operand is the pattern
abbrev pub first_as_pattern : List WordPart → List ℕ → TextsView
first_as_pattern [] (word ∷ words) = texts (part_of word 0 ∷ []) words
first_as_pattern patterns words = texts patterns words

-- the values of -e and the operands, or the first operand and the others
abbrev pub texts_of : Task → List WordItem → TextsView
texts_of task items =
    let patterns = filter_map given_pattern items in
    let words = filter_map operand items in
    if needs_pattern task then first_as_pattern patterns words else texts patterns words
