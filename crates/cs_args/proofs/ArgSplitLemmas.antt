-- How arguments split into options and operands.
use Rattle.std.proofs.Common.{suc, add-one, true≢false, ◌≡◌, ℕ, ◌+◌, Bool, true, false, cond, List, [], ◌∷◌, ◌++◌, length, drop, map, Option, Some, None, sym, ◌∙◌, ap, refl, subst, inl, inr, append_assoc, length-append}
use Rattle.std.specs.Prelude.{codes, sum_by, flat_map, bytes_eq, slice_get, not, option_to_list, ◌⊎◌}
use Rattle.std.specs.List.{list_all}
use Rattle.std.proofs.lemmas.Bool.{and_from}
use Rattle.std.proofs.lemmas.List.{drop-drop}
use Rattle.std.proofs.lemmas.List.Sums.{sum_by-cons}
use Rattle.std.proofs.lemmas.Slice.Eq.{bytes_eq-Decides}
use Rattle.cs_args.specs.Args.{OptionItem, item, is_option, takes_next, option_items_from, option_items, arg_count, without_terminator}
use Rattle.cs_args.specs.ArgSplit.{args_of, IsEndOfOptions, IsSplit}
use Rattle.cs_args.specs.declared.jobs.Tool.{Tool}

-- the arguments of the options and the rest are all arguments
abbrev pub Leaves : List (List ℕ) → List OptionItem → Type 0
Leaves args read = flat_map args_of read ++ drop (sum_by arg_count read) args ≡ args

-- the rest after an option and all later ones
left-cons : (arg : List ℕ) (arg_index : ℕ) (next : Option (List ℕ)) (later : List OptionItem) (behind : List (List ℕ))
    → drop (sum_by arg_count (item arg arg_index next ∷ later)) (args_of (item arg arg_index next) ++ behind)
    ≡ drop (sum_by arg_count later) behind
left-cons arg arg_index None later behind =
    ap (λ count. drop count (arg ∷ behind)) (sum_by-cons arg_count (item arg arg_index None) later)
    ∙ sym (drop-drop (sum_by arg_count later) 1 (arg ∷ behind))
left-cons arg arg_index (Some next) later behind =
    ap (λ count. drop count (arg ∷ next ∷ behind)) (sum_by-cons arg_count (item arg arg_index (Some next)) later)
    ∙ sym (drop-drop (sum_by arg_count later) 2 (arg ∷ next ∷ behind))

leaves-cons : (arg : List ℕ) (arg_index : ℕ) (next : Option (List ℕ)) (later : List OptionItem) (behind : List (List ℕ))
    → Leaves behind later → Leaves (args_of (item arg arg_index next) ++ behind) (item arg arg_index next ∷ later)
leaves-cons arg arg_index next later behind leaves =
    ap (λ left. (args_of (item arg arg_index next) ++ flat_map args_of later) ++ left) (left-cons arg arg_index next later behind)
    ∙ append_assoc (args_of (item arg arg_index next)) (flat_map args_of later) (drop (sum_by arg_count later) behind)
    ∙ ap (λ all. args_of (item arg arg_index next) ++ all) leaves

-- each item is an option
abbrev pub AreOptions : List OptionItem → Type 0
AreOptions read = list_all (λ item. is_option item.arg) read ≡ true

-- the list does not begin with an option
abbrev pub StartsWithNoOption : List (List ℕ) → Type 0
StartsWithNoOption [] = Unit {0}
StartsWithNoOption (arg ∷ args) = is_option arg ≡ false

-- each option is at its index
abbrev pub AreAtTheirIndex : List (List ℕ) → List OptionItem → Type 0
AreAtTheirIndex args read = map (λ item. slice_get args item.arg_index) read ≡ map (λ item. Some item.arg) read

pub slice_get-prefix : (prefix : List (List ℕ)) (arg : List ℕ) (behind : List (List ℕ)) →
    slice_get (prefix ++ arg ∷ behind) (length prefix) ≡ Some arg
slice_get-prefix [] arg behind = refl
slice_get-prefix (first ∷ prefix) arg behind = slice_get-prefix prefix arg behind

at_their_index-cons : (prefix : List (List ℕ)) (arg_index : ℕ) (arg : List ℕ) (next : Option (List ℕ))
    (behind : List (List ℕ)) (later : List OptionItem)
    → arg_index ≡ length prefix → AreAtTheirIndex ((prefix ++ args_of (item arg arg_index next)) ++ behind) later
    → AreAtTheirIndex (prefix ++ (args_of (item arg arg_index next) ++ behind)) (item arg arg_index next ∷ later)
at_their_index-cons prefix arg_index arg next behind later here so_far =
    ap (λ position. slice_get (prefix ++ (args_of (item arg arg_index next) ++ behind)) position
    ∷ map (λ one. slice_get (prefix ++ (args_of (item arg arg_index next) ++ behind)) one.arg_index) later) here
    ∙ ap (λ found. found ∷ map (λ one. slice_get (prefix ++ (args_of (item arg arg_index next) ++ behind))
    one.arg_index) later) (slice_get-prefix prefix arg (option_to_list next ++ behind))
    ∙ ap (λ tail. Some arg ∷ tail) (subst (λ args. AreAtTheirIndex args later)
    (append_assoc prefix (args_of (item arg arg_index next)) behind) so_far)

-- each option takes the next argument if that is its value
abbrev pub TakeValues : Tool → List (List ℕ) → List OptionItem → Type 0
TakeValues tool args read = map (λ one. one.next) read
    ≡ map (λ one. cond (takes_next tool one.arg) (slice_get args (one.arg_index + 1)) None) read

slice_get-behind : (prefix : List (List ℕ)) (arg : List ℕ) (behind : List (List ℕ)) → slice_get (prefix ++ arg ∷ behind)
    (length prefix + 1) ≡ slice_get behind 0
slice_get-behind prefix arg behind = ap (slice_get (prefix ++ arg ∷ behind)) (add-one (length prefix)) ∙ past prefix
  where
    past : (prefix : List (List ℕ)) → slice_get (prefix ++ arg ∷ behind) (suc (length prefix)) ≡ slice_get behind 0
    past [] = refl
    past (first ∷ prefix) = past prefix

values-cons : (tool : Tool) (prefix : List (List ℕ)) (arg_index : ℕ) (arg : List ℕ) (next : Option (List ℕ))
    (behind : List (List ℕ)) (later : List OptionItem)
    → arg_index ≡ length prefix → next ≡ cond (takes_next tool arg) (slice_get (option_to_list next ++ behind) 0) None
    → TakeValues tool ((prefix ++ args_of (item arg arg_index next)) ++ behind) later
    → TakeValues tool (prefix ++ (args_of (item arg arg_index next) ++ behind)) (item arg arg_index next ∷ later)
values-cons tool prefix arg_index arg next behind later here takes so_far =
    ap (λ value. value ∷ map (λ one. one.next) later) (takes ∙ ap (λ found. cond (takes_next tool arg) found None)
    (sym (slice_get-behind prefix arg (option_to_list next ++ behind))
    ∙ ap (λ position. slice_get (prefix ++ arg ∷ (option_to_list next ++ behind)) (position + 1)) (sym here)))
    ∙ ap (λ tail. cond (takes_next tool arg) (slice_get (prefix ++ arg ∷ (option_to_list next ++ behind)) (arg_index + 1)) None ∷ tail)
    (subst (λ args. TakeValues tool args later) (append_assoc prefix (args_of (item arg arg_index next)) behind) so_far)

-- what holds of the options at the start of arguments, which begin at `arg_index`
record Splits (tool : Tool) (arg_index : ℕ) (args : List (List ℕ)) (read : List OptionItem) : Type 0 where
  whole : Leaves args read
  options : AreOptions read
  behind : StartsWithNoOption (drop (sum_by arg_count read) args)
  indexes : (prefix : List (List ℕ)) → arg_index ≡ length prefix → AreAtTheirIndex (prefix ++ args) read
  values : (prefix : List (List ℕ)) → arg_index ≡ length prefix → TakeValues tool (prefix ++ args) read

splits-none : (tool : Tool) (arg_index : ℕ) (args : List (List ℕ)) → StartsWithNoOption args → Splits tool arg_index args []
splits-none tool arg_index args other = record {
  whole = refl;
  options = refl;
  behind = other;
  indexes =
      λ prefix here. refl;
  values = λ prefix here. refl;
}

splits-cons : (tool : Tool) (arg_index : ℕ) (arg : List ℕ) (next : Option (List ℕ)) (behind : List (List ℕ))
    (later : List OptionItem) → is_option arg ≡ true
    → next ≡ cond (takes_next tool arg) (slice_get (option_to_list next ++ behind) 0) None →
    Splits tool (arg_index + length (args_of (item arg arg_index next))) behind later
    → Splits tool arg_index (args_of (item arg arg_index next) ++ behind) (item arg arg_index next ∷ later)
splits-cons tool arg_index arg next behind later option takes so_far = record {
  whole = leaves-cons arg arg_index next later behind so_far.whole;
  options = and_from (is_option arg) (list_all (λ item. is_option item.arg) later) option so_far.options;
  behind = subst StartsWithNoOption (sym (left-cons arg arg_index next later behind)) so_far.behind;
  indexes = λ prefix here. at_their_index-cons prefix arg_index arg next behind later here
      (so_far.indexes (prefix ++ args_of (item arg arg_index next)) (further prefix here));
  values = λ prefix here. values-cons tool prefix arg_index arg next behind later here takes
      (so_far.values (prefix ++ args_of (item arg arg_index next)) (further prefix here));
}
  where
    further : (prefix : List (List ℕ)) → arg_index ≡ length prefix →
        arg_index + length (args_of (item arg arg_index next)) ≡ length (prefix ++ args_of (item arg arg_index next))
    further prefix here = ap (λ position. position + length (args_of (item arg arg_index next))) here
        ∙ sym (length-append prefix (args_of (item arg arg_index next)))

splits : (tool : Tool) (arg_index : ℕ) (args : List (List ℕ)) → Splits tool arg_index args (option_items_from tool arg_index args)
unfolding option_items_from
splits tool arg_index [] = splits-none tool arg_index [] tt
splits tool arg_index (arg ∷ []) = one (is_option arg) refl
  where
    no_next : (takes : Bool) (first : Option (List ℕ)) → None ≡ first → None ≡ cond takes first None
    no_next true first is = is
    no_next false first is = refl

    one : (option : Bool) → is_option arg ≡ option → Splits tool arg_index (arg ∷ []) (cond option (item arg arg_index None ∷ []) [])
    one true is = splits-cons tool arg_index arg None [] [] is (no_next (takes_next tool arg) None refl)
        (splits-none tool (arg_index + 1) [] tt)
    one false is = splits-none tool arg_index (arg ∷ []) is
splits tool arg_index (arg ∷ next ∷ args) =
    two (is_option arg) (takes_next tool arg) refl refl (splits tool (arg_index + 2) args) (splits tool (arg_index + 1) (next ∷ args))
  where
    two : (option takes : Bool) → is_option arg ≡ option → takes_next tool arg ≡ takes
        → Splits tool (arg_index + 2) args (option_items_from tool (arg_index + 2) args) →
        Splits tool (arg_index + 1) (next ∷ args) (option_items_from tool (arg_index + 1) (next ∷ args))
        → Splits tool arg_index (arg ∷ next ∷ args)
        (cond (not option) [] (cond takes (item arg arg_index (Some next) ∷ option_items_from tool (arg_index + 2) args)
        (item arg arg_index None ∷ option_items_from tool (arg_index + 1) (next ∷ args))))
    two false takes is taken both alone = splits-none tool arg_index (arg ∷ next ∷ args) is
    two true true is taken both alone = splits-cons tool arg_index arg (Some next) args _ is
        (sym (ap (λ takes. cond takes (Some next) None) taken)) both
    two true false is taken both alone = splits-cons tool arg_index arg None (next ∷ args) _ is
        (sym (ap (λ takes. cond takes (Some next) None) taken)) alone

-- after the options come the operands, possibly behind `--`
ends : (left : List (List ℕ)) → StartsWithNoOption left
    → ((left ≡ without_terminator left) × IsEndOfOptions (without_terminator left)) ⊎ (left ≡ codes "--" ∷ without_terminator left)
ends [] other = inl (refl, tt)
ends (arg ∷ args) other = by_end (bytes_eq arg (codes "--")) refl
  where
    by_end : (end : Bool) → bytes_eq arg (codes "--") ≡ end
        → ((arg ∷ args ≡ cond end args (arg ∷ args)) × IsEndOfOptions (cond end args (arg ∷ args))) ⊎
        (arg ∷ args ≡ codes "--" ∷ cond end args (arg ∷ args))
    by_end true is = inr (ap (λ first. first ∷ args) ((bytes_eq-Decides arg (codes "--")).0 is))
    by_end false is = inl (refl, (other, λ same. true≢false (sym ((bytes_eq-Decides arg (codes "--")).1 same) ∙ is)))

pub is_split : (tool : Tool) (args : List (List ℕ)) → IsSplit tool args
is_split tool args = record {
  whole = whole_by (drop (sum_by arg_count (option_items tool args)) args) (splits tool 0 args).whole
      (ends (drop (sum_by arg_count (option_items tool args)) args) (splits tool 0 args).behind);
  options = (splits tool 0 args).options;
  indexes = (splits tool 0 args).indexes [] refl;
  values = (splits tool 0 args).values [] refl;
}
  where
    whole_by : (left : List (List ℕ)) → flat_map args_of (option_items tool args) ++ left ≡ args
        → ((left ≡ without_terminator left) × IsEndOfOptions (without_terminator left)) ⊎ (left ≡ codes "--" ∷ without_terminator left)
        → ((args ≡ flat_map args_of (option_items tool args) ++ without_terminator left) × IsEndOfOptions (without_terminator left))
        ⊎ (args ≡ flat_map args_of (option_items tool args) ++ codes "--" ∷ without_terminator left)
    whole_by left all (inl bare) = inl (sym all ∙ ap (λ left. flat_map args_of (option_items tool args) ++ left) bare.0, bare.1)
    whole_by left all (inr marked) = inr (sym all ∙ ap (λ left. flat_map args_of (option_items tool args) ++ left) marked)
