-- What the options among items ask for: the switches one after another, and the last value of each option.
use Rattle.std.specs.Prelude.{ℕ, List, [], ◌∷◌, Some, None}
use Rattle.cs_command.specs.Settings.{no_switches, with_switch}
use Rattle.cs_command.specs.declared.named.Valued.{Valued}
use Rattle.cs_command.specs.declared.named.Valued.TheVariants as valued
use Rattle.cs_command.specs.declared.words.WordItem.{WordItem}
use Rattle.cs_command.specs.declared.words.WordItem.TheVariants as item
use Rattle.cs_command.specs.declared.options.WordPart.{WordPart}
use Rattle.cs_command.specs.declared.options.OptionValues.{OptionValues}
use Rattle.cs_command.specs.declared.options.Options.{Options}

-- the word at an index, from a byte on
abbrev pub part_of : ℕ → ℕ → WordPart
part_of word from = record { word = word; from = from }

abbrev pub no_values : OptionValues
no_values = record { after = None; before = None; around = None; most = None; colour = None; depth = None }

-- Of each option the last value counts. All values of -e, -g, -t and -T count.
abbrev pub with_value : OptionValues → Valued → WordPart → OptionValues
with_value values valued.After part = record values { after = Some part }
with_value values valued.Before part = record values { before = Some part }
with_value values valued.Around part = record values { around = Some part }
with_value values valued.Most part = record values { most = Some part }
with_value values valued.Colour part = record values { colour = Some part }
with_value values valued.Depth part = record values { depth = Some part }
with_value values _ part = values

-- after one more item
abbrev pub with_item : Options → WordItem → Options
with_item options (item.Switch switch) = record options { switches = with_switch options.switches switch }
with_item options (item.Value valued word from) = record options { values = with_value options.values valued (part_of word from) }
with_item options (item.Operand word) = options

unfoldable pub options_after : Options → List WordItem → Options
options_after options [] = options
options_after options (item ∷ items) = options_after (with_item options item) items

abbrev pub options_of : List WordItem → Options
options_of items = options_after (record { switches = no_switches; values = no_values }) items
