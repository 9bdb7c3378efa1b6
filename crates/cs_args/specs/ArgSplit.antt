-- How arguments split into options and operands.
use Rattle.std.specs.Prelude.{◌≡◌, ◌≢◌, ◌⊎◌, ℕ, true, false, List, [], ◌∷◌, ◌++◌, map, flat_map, slice_get, ◌+◌, if◌then◌else◌, Some, None, option_to_list, codes}
use Rattle.std.specs.List.{list_all}
use Rattle.cs_args.specs.Args.{OptionItem, is_option, takes_next, option_items, operands}
use Rattle.cs_args.specs.declared.jobs.Tool.{Tool}

-- the arguments that an option takes
abbrev pub args_of : OptionItem → List (List ℕ)
args_of item = item.arg ∷ option_to_list item.next

-- the list does not begin with an option, nor with `--`
abbrev pub IsEndOfOptions : List (List ℕ) → Type 0
IsEndOfOptions [] = Unit {0}
IsEndOfOptions (arg ∷ args) = (is_option arg ≡ false) × (arg ≢ codes "--")

-- The arguments are those of the options, then possibly `--`, and then the operands. Without `--` the operands do not
-- begin with an option. Each option is at its index, and takes the next argument if that is its value.
pub record IsSplit (tool : Tool) (args : List (List ℕ)) : Type 0 where
  pub whole : ((args ≡ flat_map args_of (option_items tool args) ++ operands tool args)
      × IsEndOfOptions (operands tool args))
      ⊎ (args ≡ flat_map args_of (option_items tool args) ++ codes "--" ∷ operands tool args)
  pub options : list_all (λ item. is_option item.arg) (option_items tool args) ≡ true
  pub indexes : map (λ item. slice_get args item.arg_index) (option_items tool args)
      ≡ map (λ item. Some item.arg) (option_items tool args)
  pub values : map (λ item. item.next) (option_items tool args)
      ≡ map (λ item. if takes_next tool item.arg then slice_get args (item.arg_index + 1) else None)
      (option_items tool args)

-- all arguments split in this way
abbrev pub ArgsAreSplit : Type 0
ArgsAreSplit = (tool : Tool) (args : List (List ℕ)) → IsSplit tool args
