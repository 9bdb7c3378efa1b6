-- Which files the options choose, one choice after another: the kinds of files, the depth, and then globs and types in
-- their order.
use Rattle.std.specs.Prelude.{ℕ, ◌≡◌, ◌++◌, ◌&&◌, not, nat_eq, Bool, true, false, if◌then◌else◌, List, [], ◌∷◌, Option, Some, None}
use Rattle.std.specs.List.{filter_map, list_any}
use Rattle.cs_listing.specs.Choices.{Settings, AddsGlob, AddsType}
use Rattle.cs_command.specs.declared.named.Switch.TheVariants as on
use Rattle.cs_command.specs.declared.named.Valued.{Valued}
use Rattle.cs_command.specs.declared.named.Valued.TheVariants as valued
use Rattle.cs_command.specs.declared.settings.FileChoice.{FileChoice}
use Rattle.cs_command.specs.declared.settings.Switches.{Switches}
use Rattle.cs_command.specs.declared.words.WordItem.{WordItem}
use Rattle.cs_command.specs.declared.words.WordItem.TheVariants as item
use Rattle.cs_command.specs.Options.{part_of}
use Rattle.cs_command.specs.Values.{text_of}
use Rattle.cs_command.specs.declared.fault.RequestFault.{RequestFault}
use Rattle.cs_command.specs.declared.fault.RequestFault.TheVariants.{NoType, NoGlob}
use Rattle.cs_command.specs.declared.options.WordPart.{WordPart}

pub data Choice : Type 0 where
  -- hidden files too
  hidden : Choice
  -- ignored files too
  ignored : Choice
  -- at most so many names below the folder
  depth : ℕ → Choice
  glob : List ℕ → Choice
  -- files of the type with this name, or if it is left out of other types
  of_type : List ℕ → Bool → Choice

-- a glob or a type
abbrev pub choice_by : Valued → List ℕ → Option Choice
choice_by valued.Glob text = Some (glob text)
choice_by valued.FileType text = Some (of_type text false)
choice_by valued.NotType text = Some (of_type text true)
choice_by _ text = None

abbrev pub choice_in : List (List ℕ) → WordItem → Option Choice
choice_in words (item.Value valued word from) = choice_by valued (text_of words (part_of word from))
choice_in words _ = None

abbrev pub hidden_if : Bool → List Choice
hidden_if is_wanted = if is_wanted then hidden ∷ [] else []

abbrev pub ignored_if : Bool → List Choice
ignored_if is_wanted = if is_wanted then ignored ∷ [] else []

abbrev pub depth_of : Option ℕ → List Choice
depth_of (Some names) = depth names ∷ []
depth_of None = []

-- the kinds of files, and the depth
abbrev pub choices_by : FileChoice → Option ℕ → List Choice
choices_by files most = hidden_if files.hidden ++ (ignored_if files.ignored ++ depth_of most)

-- all choices
abbrev pub choices_of : List (List ℕ) → FileChoice → Option ℕ → List WordItem → List Choice
choices_of words files most items = choices_by files most ++ filter_map (choice_in words) items

-- one choice. Which globs a type has is not said.
abbrev pub Chooses : Choice → Settings → Settings → Type 0
Chooses hidden old new = new ≡ record old { takes_hidden = true }
Chooses ignored old new = new ≡ record old { takes_hidden = true; takes_ignored = true }
Chooses (depth names) old new = new ≡ record old { most_names = names }
Chooses (glob text) old new = AddsGlob text true old new
Chooses (of_type name is_left_out) old new = AddsType true is_left_out old new

-- choices one after another
abbrev pub ChoosesAll : List Choice → Settings → Settings → Type 0
ChoosesAll [] old new = new ≡ old
ChoosesAll (choice ∷ choices) old new = (between : Settings) × Chooses choice old between × ChoosesAll choices between new

-- whether this is the part of a word
abbrev pub is_part : WordPart → ℕ → ℕ → Bool
is_part part word from = nat_eq word part.word && nat_eq from part.from

-- whether an error is that of an item, which is the value of -t or -T, or of -g
abbrev pub is_fault_of : RequestFault → WordItem → Bool
is_fault_of (NoType part) (item.Value valued.FileType word from) = is_part part word from
is_fault_of (NoType part) (item.Value valued.NotType word from) = is_part part word from
is_fault_of (NoGlob part) (item.Value valued.Glob word from) = is_part part word from
is_fault_of _ _ = false

-- the error of a type or a glob that one of the items names
abbrev pub IsChoiceIn : List WordItem → RequestFault → Type 0
IsChoiceIn items fault = list_any (is_fault_of fault) items ≡ true

-- ---- the state

-- the option changes which files below a folder are searched
abbrev pub chooses_files : WordItem → Bool
chooses_files (item.Switch on.Hidden) = true
chooses_files (item.Switch on.Unrestricted) = true
chooses_files (item.Value valued.Glob word from) = true
chooses_files (item.Value valued.FileType word from) = true
chooses_files (item.Value valued.NotType word from) = true
chooses_files (item.Value valued.Depth word from) = true
chooses_files _ = false

-- The state of a project is updated by what is learned of its own files alone.
abbrev pub may_update : Switches → List WordItem → Bool
may_update switches items = switches.state.updated && not (list_any chooses_files items)
