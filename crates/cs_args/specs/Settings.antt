-- What one option sets, and what the settings so far are.
use Rattle.std.specs.Prelude.{◌≡◌, ℕ, Bool, true, false, List, [], ◌∷◌, Option, Some, None, codes, slice_get, if◌then◌else◌, option_copied}
use Rattle.cs_tree.specs.Cover.{is_among}
use Rattle.cs_args.specs.Args.{OptionItem, item, is_option, arg_count, fault_in, switches_of, valued_of, name_of, takes_next, bool_in, value_in, is_on, value_for}
use Rattle.cs_args.specs.declared.fault.WordFault.{WordFault}
use Rattle.cs_args.specs.declared.args.Setting.{Setting}
use Rattle.cs_args.specs.declared.args.Setting.TheVariants.{Boolean, File as A_pattern}
use Rattle.cs_args.specs.declared.args.Settings.{Settings}
use Rattle.cs_args.specs.declared.args.ReadItem.{ReadItem}
use Rattle.cs_args.specs.declared.jobs.Tool.{Tool}
use Rattle.cs_args.specs.declared.args.Switch.{Switch}
use Rattle.cs_args.specs.declared.args.Switch.TheVariants.{List as Listed, Reset, LogSkip, Count, Bare, Fold, ListFiles, Number, Brute}
use Rattle.cs_args.specs.declared.args.Flag.{Flag}
use Rattle.cs_args.specs.declared.args.Flag.TheVariants.{Switch as A_switch, File}

abbrev pub switch_name : Switch → List ℕ
switch_name Listed = codes "list"
switch_name Reset = codes "reset"
switch_name LogSkip = codes "logskip"
switch_name Count = codes "c"
switch_name Bare = codes "h"
switch_name Fold = codes "i"
switch_name ListFiles = codes "l"
switch_name Number = codes "n"
switch_name Brute = codes "brute"

-- the option of the tool with this name
abbrev pub IsFlag : Tool → List ℕ → Option Flag → Type 0
IsFlag tool name None = (is_among (switches_of tool) name ≡ false) × (is_among (valued_of tool) name ≡ false)
IsFlag tool name (Some (A_switch switch)) =
    (is_among (switches_of tool) name ≡ true) × (is_among (valued_of tool) name ≡ false)
    × (name ≡ switch_name switch)
IsFlag tool name (Some File) =
    (is_among (switches_of tool) name ≡ false) × (is_among (valued_of tool) name ≡ true) × (name ≡ codes "f")

-- the option that begins with this argument; the arguments after it may begin with its value
abbrev pub first_item : Tool → ℕ → List ℕ → List (List ℕ) → OptionItem
first_item tool arg_index arg behind = item arg arg_index (if takes_next tool arg then slice_get behind 0 else None)

-- what a correct option sets
abbrev pub Sets : OptionItem → Setting → Type 0
Sets item (Boolean switch on) = (name_of item.arg ≡ switch_name switch) × (bool_in item ≡ Some on)
Sets item (A_pattern pattern) = (name_of item.arg ≡ codes "f") × (value_in item ≡ Some pattern.now)

-- what is read of the option at the start of the arguments, which begin at `arg_index`
abbrev pub IsNextItem : Tool → ℕ → List (List ℕ) → Option ReadItem → Type 0
IsNextItem tool arg_index [] next = next ≡ None
IsNextItem tool arg_index (arg ∷ behind) None = is_option arg ≡ false
IsNextItem tool arg_index (arg ∷ behind) (Some read) =
    (is_option arg ≡ true) × (fault_in tool (first_item tool arg_index arg behind) ≡ None)
    × (read.len ≡ arg_count (first_item tool arg_index arg behind))
    × Sets (first_item tool arg_index arg behind) read.setting

-- the option at the start of the arguments has this error
abbrev pub BreaksRule : Tool → ℕ → List (List ℕ) → WordFault → Type 0
BreaksRule tool arg_index [] fault = ⊥
BreaksRule tool arg_index (arg ∷ behind) fault =
    (is_option arg ≡ true) × (fault_in tool (first_item tool arg_index arg behind) ≡ Some fault)

-- the value of a switch
abbrev pub is_set : Switch → Settings → Bool
is_set Listed settings = settings.list
is_set Reset settings = settings.reset
is_set LogSkip settings = settings.log_skip
is_set Count settings = settings.style.count
is_set Bare settings = settings.style.bare
is_set Fold settings = settings.fold
is_set ListFiles settings = settings.style.list
is_set Number settings = settings.style.number
is_set Brute settings = settings.brute

-- the settings with a new value of the switch
abbrev pub with_switch : Switch → Bool → Settings → Settings
with_switch Listed on settings = record settings { list = on }
with_switch Reset on settings = record settings { reset = on }
with_switch LogSkip on settings = record settings { log_skip = on }
with_switch Count on settings = record settings { style = record settings.style { count = on } }
with_switch Bare on settings = record settings { style = record settings.style { bare = on } }
with_switch Fold on settings = record settings { fold = on }
with_switch ListFiles on settings = record settings { style = record settings.style { list = on } }
with_switch Number on settings = record settings { style = record settings.style { number = on } }
with_switch Brute on settings = record settings { brute = on }

abbrev pub with_setting : Setting → Settings → Settings
with_setting (Boolean switch on) settings = with_switch switch on settings
with_setting (A_pattern pattern) settings = record settings { file = Some pattern }

-- the settings are those of the options
pub record AreSettingsOf (settings : Settings) (items : List OptionItem) : Type 0 where
  pub switches : (switch : Switch) → is_set switch settings ≡ is_on (switch_name switch) items
  pub file : option_copied settings.file ≡ value_for (codes "f") items
