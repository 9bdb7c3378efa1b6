-- What arguments parse as: options first, then operands. Arguments are lists of bytes.
-- Go's package flag, "Command line flag syntax".
use Rattle.std.specs.Prelude.{ℕ, ◌+◌, ◌-◌, ◌==◌, nat_eq, Bool, true, false, ◌&&◌, not, if◌then◌else◌, List, [], ◌∷◌, length, drop, reverse, sum_by, find, position, Option, Some, None, is_some, is_none, unwrap_or, option_map, option_and_then, Result, Ok, Err, codes, bytes_eq}
use Rattle.std.specs.List.{starts_with, before_first}
use Rattle.std.specs.Option.{option_or}
use Rattle.cs_tree.specs.Cover.{is_among}
use Rattle.cs_args.specs.JobView.{JobView, index, search, grep}
use Rattle.cs_args.specs.declared.jobs.Tool.{Tool}
use Rattle.cs_args.specs.declared.jobs.Tool.TheVariants.{Cindex, Csearch, Cgrep}
use Rattle.cs_args.specs.declared.jobs.Style.{Style}
use Rattle.cs_args.specs.declared.fault.WordFault.{WordFault}
use Rattle.cs_args.specs.declared.fault.WordFault.TheVariants.{UnknownOption, NoValue, BadTruth, NoPattern, ExtraWord}

-- An option is `-x` or `--x`: a dash and more. `--` ends the options.
abbrev pub is_option : List ℕ → Bool
is_option arg = starts_with nat_eq arg (codes "-") && not (is_among (codes "-" ∷ codes "--" ∷ []) arg)

-- the option without its one or two dashes
abbrev pub option_text : List ℕ → List ℕ
option_text arg = drop (if starts_with nat_eq arg (codes "--") then 2 else 1) arg

abbrev pub is_equals : ℕ → Bool
is_equals byte = byte == 61

-- the name of an option, up to its first `=`
abbrev pub name_of : List ℕ → List ℕ
name_of arg = before_first is_equals (option_text arg)

-- the value of an option, after that `=`
abbrev pub value_of : List ℕ → Option (List ℕ)
value_of arg = option_map (λ offset. drop (offset + 1) (option_text arg)) (position is_equals (option_text arg))

-- the Boolean options of each tool
abbrev pub switches_of : Tool → List (List ℕ)
switches_of Cindex = codes "list" ∷ codes "reset" ∷ codes "logskip" ∷ []
switches_of Csearch = codes "c" ∷ codes "h" ∷ codes "i" ∷ codes "l" ∷ codes "n" ∷ codes "brute" ∷ []
switches_of Cgrep = codes "c" ∷ codes "h" ∷ codes "i" ∷ codes "l" ∷ codes "n" ∷ []

-- the options of each tool that take a value
abbrev pub valued_of : Tool → List (List ℕ)
valued_of Cindex = []
valued_of Csearch = codes "f" ∷ []
valued_of Cgrep = []

-- the values of a Boolean option: Go, strconv.ParseBool
abbrev pub true_values : List (List ℕ)
true_values = codes "1" ∷ codes "t" ∷ codes "T" ∷ codes "true" ∷ codes "TRUE" ∷ codes "True" ∷ []

abbrev pub false_values : List (List ℕ)
false_values = codes "0" ∷ codes "f" ∷ codes "F" ∷ codes "false" ∷ codes "FALSE" ∷ codes "False" ∷ []

-- An option: its argument, the index of the argument, and the next argument if that is its value.
pub record OptionItem : Type 0 where
  pub arg : List ℕ
  pub arg_index : ℕ
  pub next : Option (List ℕ)

abbrev pub item : List ℕ → ℕ → Option (List ℕ) → OptionItem
item arg arg_index next = record { arg = arg; arg_index = arg_index; next = next }

-- An option that needs a value and has no `=` takes the next argument, even if that begins with a dash.
abbrev pub takes_next : Tool → List ℕ → Bool
takes_next tool arg = is_among (valued_of tool) (name_of arg) && is_none (value_of arg)

-- the options at the start of the arguments, which begin at `arg_index`
unfoldable pub option_items_from : Tool → ℕ → List (List ℕ) → List OptionItem
option_items_from tool arg_index [] = []
option_items_from tool arg_index (arg ∷ []) = if is_option arg then item arg arg_index None ∷ [] else []
option_items_from tool arg_index (arg ∷ next ∷ args) =
    if not (is_option arg) then []
    else if takes_next tool arg then item arg arg_index (Some next) ∷ option_items_from tool (arg_index + 2) args
    else item arg arg_index None ∷ option_items_from tool (arg_index + 1) (next ∷ args)

abbrev pub option_items : Tool → List (List ℕ) → List OptionItem
option_items tool args = option_items_from tool 0 args

-- the number of arguments that an option takes
abbrev pub arg_count : OptionItem → ℕ
arg_count item = if is_some item.next then 2 else 1

-- the arguments without a `--` at their start
abbrev pub without_terminator : List (List ℕ) → List (List ℕ)
without_terminator [] = []
without_terminator (arg ∷ args) = if bytes_eq arg (codes "--") then args else arg ∷ args

-- the arguments after the options, without the `--` that may end these
abbrev pub operands : Tool → List (List ℕ) → List (List ℕ)
operands tool args = without_terminator (drop (sum_by arg_count (option_items tool args)) args)

-- the value of a Boolean option, if it is one
abbrev pub parse_bool : List ℕ → Option Bool
parse_bool value =
    if is_among true_values value then Some true
    else if is_among false_values value then Some false
    else None

-- the value that an option gives to its switch; without `=` it is true
abbrev pub bool_in : OptionItem → Option Bool
bool_in item = unwrap_or (option_map parse_bool (value_of item.arg)) (Some true)

-- the value of an option: the part after `=`, or the next argument
abbrev pub value_in : OptionItem → Option (List ℕ)
value_in item = option_or (value_of item.arg) item.next

-- the error of an option
abbrev pub fault_in : Tool → OptionItem → Option WordFault
fault_in tool item =
    if is_among (switches_of tool) (name_of item.arg)
    then (if is_none (bool_in item) then Some (BadTruth item.arg_index) else None)
    else if is_among (valued_of tool) (name_of item.arg)
    then (if is_none (value_in item) then Some (NoValue item.arg_index) else None)
    else Some (UnknownOption item.arg_index)

-- the error of the first option that has one
abbrev pub first_fault : Tool → List OptionItem → Option WordFault
first_fault tool [] = None
first_fault tool (item ∷ items) = option_or (fault_in tool item) (first_fault tool items)

-- the last option of a name
abbrev pub last_of : List ℕ → List OptionItem → Option OptionItem
last_of name items = find (λ item. bytes_eq name (name_of item.arg)) (reverse items)

-- a switch has the value of its last option, and is off without one
abbrev pub is_on : List ℕ → List OptionItem → Bool
is_on name items = unwrap_or (option_and_then bool_in (last_of name items)) false

-- an option with a value has the value of its last occurrence
abbrev pub value_for : List ℕ → List OptionItem → Option (List ℕ)
value_for name items = option_and_then value_in (last_of name items)

abbrev pub style_of : List OptionItem → Style
style_of items = record {
  count = is_on (codes "c") items;
  list = is_on (codes "l") items;
  number = is_on (codes "n") items;
  bare = is_on (codes "h") items;
}

-- csearch takes one operand, the pattern; `all` is the number of all arguments
abbrev pub search_job : ℕ → List OptionItem → List (List ℕ) → Result JobView WordFault
search_job all items [] = Err NoPattern
search_job all items (pattern ∷ []) =
    Ok (search (style_of items) (is_on (codes "i") items) (is_on (codes "brute") items)
    (value_for (codes "f") items) pattern)
search_job all items (pattern ∷ extra ∷ more) = Err (ExtraWord (all - length (extra ∷ more)))

-- cgrep takes the pattern and any number of files
abbrev pub grep_job : List OptionItem → List (List ℕ) → Result JobView WordFault
grep_job items [] = Err NoPattern
grep_job items (pattern ∷ files) =
    Ok (grep (style_of items) (is_on (codes "i") items) pattern (length files == 0) files)

-- cindex takes any number of paths
abbrev pub index_job : List ℕ → List OptionItem → List (List ℕ) → Result JobView WordFault
index_job cwd items paths =
    Ok (index (is_on (codes "list") items) (is_on (codes "reset") items)
    (is_on (codes "logskip") items) cwd paths)

-- the job by the options and the operands; only the number of operands can be wrong
abbrev pub job_by : Tool → List ℕ → ℕ → List OptionItem → List (List ℕ) → Result JobView WordFault
job_by Cindex cwd all items rest = index_job cwd items rest
job_by Csearch cwd all items rest = search_job all items rest
job_by Cgrep cwd all items rest = grep_job items rest

-- the error, or the job without one
abbrev pub fault_or : Option WordFault → Result JobView WordFault → Result JobView WordFault
fault_or (Some fault) job = Err fault
fault_or None job = job

-- What arguments parse as: the error of the first option that has one, or the job by the last occurrence of each
-- option and by the operands.
unfoldable pub parse_args : Tool → List ℕ → List (List ℕ) → Result JobView WordFault
parse_args tool cwd args =
    fault_or (first_fault tool (option_items tool args))
    (job_by tool cwd (length args) (option_items tool args) (operands tool args))
