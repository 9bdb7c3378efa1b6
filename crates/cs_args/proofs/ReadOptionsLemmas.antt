-- One more option: what it sets, and how many arguments it takes.
use Rattle.std.proofs.Common.{add-zero, add_assoc, Bor, length-drop, ◌≡◌, ℕ, ◌+◌, ◌-◌, ◌<◌, ◌≤◌, Bool, true, false, cond, List, [], ◌∷◌, ◌++◌, length, take, drop, map, get_or, reverse, Option, Some, None, sym, ◌∙◌, ap, refl, subst, arith}
use Rattle.std.specs.Prelude.{codes, find, sum_by, unwrap_or, option_map, option_copied, bytes_eq, not, is_none, ◌==◌, Result, Ok, Err, IfOk, IsOk, ◌≢◌, ◌↔◌}
use Rattle.std.specs.Option.{option_or}
use Rattle.std.specs.List.{drop-map}
use Rattle.std.proofs.Math.Seq.{take-length}
use Rattle.std.proofs.lemmas.List.{reverse-append, map-append, take-map, take_more, drop-drop}
use Rattle.std.proofs.lemmas.List.Sums.{sum_by-cons}
use Rattle.std.proofs.lemmas.List.Folds.{find-append}
use Rattle.cs_tree.specs.Cover.{is_among}
use Rattle.cs_args.specs.Args.{OptionItem, item, is_option, name_of, takes_next, option_items_from, option_items, arg_count, without_terminator, operands, bool_in, value_in, fault_in, first_fault, last_of, is_on, value_for, style_of, switches_of, valued_of, job_by, fault_or, parse_args}
use Rattle.cs_args.specs.Settings.{switch_name, first_item, Sets, IsNextItem, BreaksRule, is_set, with_switch, with_setting, AreSettingsOf}
use Rattle.cs_args.specs.JobView.{JobView, index, search, grep, job_view, GivesJob}
use Rattle.cs_args.specs.declared.jobs.Job.{Job}
use Rattle.cs_args.specs.declared.jobs.Tool.{Tool}
use Rattle.cs_args.specs.declared.jobs.Tool.TheVariants.{Cindex, Csearch, Cgrep}
use Rattle.cs_args.specs.declared.fault.WordFault.{WordFault}
use Rattle.cs_args.specs.declared.fault.WordFault.TheVariants.{UnknownOption, NoValue, BadTruth, Memory}
use Rattle.cs_args.specs.declared.args.Switch.{Switch}
use Rattle.cs_args.specs.declared.args.Switch.TheVariants.{List as Listed, Reset, LogSkip, Count, Bare, Fold, ListFiles, Number, Brute}
use Rattle.cs_args.specs.declared.args.Setting.{Setting}
use Rattle.cs_args.specs.declared.args.Setting.TheVariants.{Boolean, File as A_pattern}
use Rattle.cs_args.specs.declared.args.Settings.{Settings}
use Rattle.cs_args.specs.declared.args.ReadItem.{ReadItem}

-- the value of `&xs[n..]`
pub map-slice_from : {X Y : Type 0} (f : X → Y) (n : ℕ) (xs : List X) → map f (take (length xs - n) (drop n xs)) ≡ drop n (map f xs)
map-slice_from f n xs =
    ap (λ count. map f (take count (drop n xs))) (sym (length-drop n xs)) ∙ ap (map f) (take-length (drop n xs)) ∙ sym (drop-map f n xs)

-- one more copy
pub map-append_copy : {X Y : Type 0} (f : X → Y) (xs copies after : List X) (i : ℕ) (copy x : X)
    → i < length xs → x ≡ get_or xs i x → f copy ≡ f x → after ≡ copies ++ copy ∷ [] → map f copies ≡ take i (map f xs)
    → map f after ≡ take (i + 1) (map f xs)
map-append_copy f xs copies after i copy x below is same pushed before =
    ap (map f) pushed ∙ map-append f copies (copy ∷ [])
    ∙ ap (λ prefix. prefix ++ f copy ∷ []) (before ∙ take-map f i xs)
    ∙ ap (λ last. map f (take i xs) ++ last ∷ []) (same ∙ ap f is)
    ∙ sym (map-append f (take i xs) (get_or xs i x ∷ []))
    ∙ ap (map f) (sym (take_more xs i x below))
    ∙ sym (take-map f (i + 1) xs)

-- the last option of a name, with one more option at the start
last_of-cons : (name : List ℕ) (first : OptionItem) (items : List OptionItem)
    → last_of name (first ∷ items) ≡ option_or (last_of name items) (cond (bytes_eq name (name_of first.arg)) (Some first) None)
last_of-cons name first items =
    ap (find (λ item. bytes_eq name (name_of item.arg))) (reverse-append (first ∷ []) items)
    ∙ find-append (λ item. bytes_eq name (name_of item.arg)) (reverse items) (first ∷ [])

-- the value of the last option, or the value before it
abbrev pub value_after : {X : Type 0} → (OptionItem → X) → X → List ℕ → List OptionItem → X
value_after get_value before name items = unwrap_or (option_map get_value (last_of name items)) before

value_by_either : {X : Type 0} (get_value : OptionItem → X) (before : X) (first : OptionItem) (last : Option OptionItem) (same : Bool)
    → unwrap_or (option_map get_value (option_or last (cond same (Some first) None))) before
    ≡ unwrap_or (option_map get_value last) (cond same (get_value first) before)
value_by_either get_value before first (Some last) true = refl
value_by_either get_value before first (Some last) false = refl
value_by_either get_value before first None true = refl
value_by_either get_value before first None false = refl

value_after-cons : {X : Type 0} (get_value : OptionItem → X) (before : X) (name : List ℕ) (first : OptionItem) (items : List OptionItem)
    → value_after get_value before name (first ∷ items)
    ≡ value_after get_value (cond (bytes_eq name (name_of first.arg)) (get_value first) before) name items
value_after-cons get_value before name first items =
    ap (λ last. unwrap_or (option_map get_value last) before) (last_of-cons name first items)
    ∙ value_by_either get_value before first (last_of name items) (bytes_eq name (name_of first.arg))

-- the value that an option gives to its switch
abbrev pub is_switched_on : OptionItem → Bool
is_switched_on item = unwrap_or (bool_in item) false

-- an option takes its own argument, and possibly the next one
pub option_items_from-option : (tool : Tool) (arg_index : ℕ) (arg : List ℕ) (behind : List (List ℕ)) → is_option arg ≡ true
    → option_items_from tool arg_index (arg ∷ behind)
    ≡ first_item tool arg_index arg behind ∷ option_items_from tool
    (arg_index + arg_count (first_item tool arg_index arg behind))
    (drop (arg_count (first_item tool arg_index arg behind)) (arg ∷ behind))
unfolding option_items_from
option_items_from-option tool arg_index arg [] option = without_next (takes_next tool arg)
  where
    without_next : (takes : Bool)
        → cond (is_option arg) (item arg arg_index None ∷ []) []
        ≡ item arg arg_index (cond takes None None) ∷ option_items_from tool
        (arg_index + arg_count (item arg arg_index (cond takes None None)))
        (drop (arg_count (item arg arg_index (cond takes None None))) (arg ∷ []))
    without_next true = ap (λ first. cond first (item arg arg_index None ∷ []) []) option
    without_next false = ap (λ first. cond first (item arg arg_index None ∷ []) []) option
option_items_from-option tool arg_index arg (next ∷ behind) option = with_next (takes_next tool arg)
  where
    with_next : (takes : Bool)
        → cond (not (is_option arg)) [] (cond takes
        (item arg arg_index (Some next) ∷ option_items_from tool (arg_index + 2) behind)
        (item arg arg_index None ∷ option_items_from tool (arg_index + 1) (next ∷ behind)))
        ≡ item arg arg_index (cond takes (Some next) None) ∷ option_items_from tool
        (arg_index + arg_count (item arg arg_index (cond takes (Some next) None)))
        (drop (arg_count (item arg arg_index (cond takes (Some next) None))) (arg ∷ next ∷ behind))
    with_next true = ap (λ first. cond (not first) []
        (item arg arg_index (Some next) ∷ option_items_from tool (arg_index + 2) behind)) option
    with_next false = ap (λ first. cond (not first) []
        (item arg arg_index None ∷ option_items_from tool (arg_index + 1) (next ∷ behind))) option

-- an argument that is not an option ends the options
pub option_items_from-other : (tool : Tool) (arg_index : ℕ) (arg : List ℕ) (behind : List (List ℕ)) → is_option arg
    ≡ false → option_items_from tool arg_index (arg ∷ behind) ≡ []
unfolding option_items_from
option_items_from-other tool arg_index arg [] option = ap (λ first. cond first (item arg arg_index None ∷ []) []) option
option_items_from-other tool arg_index arg (next ∷ behind) option =
    ap (λ first. cond (not first) [] (cond (takes_next tool arg)
    (item arg arg_index (Some next) ∷ option_items_from tool (arg_index + 2) behind)
    (item arg arg_index None ∷ option_items_from tool (arg_index + 1) (next ∷ behind)))) option

-- one switch has the new value, the others stay
is_set-with_switch : (other switch : Switch) (on : Bool) (settings : Settings)
    → is_set other (with_switch switch on settings) ≡ cond (bytes_eq (switch_name other) (switch_name switch)) on (is_set other settings)
is_set-with_switch Listed Listed on settings = refl
is_set-with_switch _ Listed on settings = refl
is_set-with_switch Reset Reset on settings = refl
is_set-with_switch _ Reset on settings = refl
is_set-with_switch LogSkip LogSkip on settings = refl
is_set-with_switch _ LogSkip on settings = refl
is_set-with_switch Count Count on settings = refl
is_set-with_switch _ Count on settings = refl
is_set-with_switch Bare Bare on settings = refl
is_set-with_switch _ Bare on settings = refl
is_set-with_switch Fold Fold on settings = refl
is_set-with_switch _ Fold on settings = refl
is_set-with_switch ListFiles ListFiles on settings = refl
is_set-with_switch _ ListFiles on settings = refl
is_set-with_switch Number Number on settings = refl
is_set-with_switch _ Number on settings = refl
is_set-with_switch Brute Brute on settings = refl
is_set-with_switch _ Brute on settings = refl

-- The arguments before the index are read into the settings: with the options from there on they are the settings of
-- all options.
pub record IsReadTo (tool : Tool) (args : List (List ℕ)) (arg_index : ℕ) (settings : Settings) : Type 0 where
  pub within : arg_index ≤ length args
  pub taken : sum_by arg_count (option_items tool args) ≡ arg_index + sum_by arg_count
      (option_items_from tool arg_index (drop arg_index args))
  pub sound : first_fault tool (option_items tool args) ≡ first_fault tool (option_items_from tool arg_index (drop arg_index args))
  pub switches : (switch : Switch) → is_on (switch_name switch) (option_items tool args)
      ≡ value_after is_switched_on (is_set switch settings) (switch_name switch) (option_items_from tool arg_index (drop arg_index args))
  pub file : value_for (codes "f") (option_items tool args)
      ≡ value_after value_in (option_copied settings.file) (codes "f") (option_items_from tool arg_index (drop arg_index args))

-- what one more option sets
set_switch : (switch : Switch) (first : OptionItem) (setting : Setting) (settings : Settings) → Sets first setting
    → cond (bytes_eq (switch_name switch) (name_of first.arg)) (is_switched_on first) (is_set switch settings)
    ≡ is_set switch (with_setting setting settings)
set_switch switch first (Boolean other on) settings sets =
    ap (λ name. cond (bytes_eq (switch_name switch) name) (is_switched_on first) (is_set switch settings)) sets.0
    ∙ ap (λ found_value. cond (bytes_eq (switch_name switch) (switch_name other)) (unwrap_or found_value false)
    (is_set switch settings)) sets.1
    ∙ sym (is_set-with_switch switch other on settings)
set_switch switch first (A_pattern pattern) settings sets =
    ap (λ name. cond (bytes_eq (switch_name switch) name) (is_switched_on first) (is_set switch settings)) sets.0
    ∙ no_switch_is_f switch (is_switched_on first) settings pattern
  where
    no_switch_is_f : (switch : Switch) (on : Bool) (settings : Settings) (pattern : Bor (List ℕ))
        → cond (bytes_eq (switch_name switch) (codes "f")) on (is_set switch settings)
        ≡ is_set switch (record settings { file = Some pattern })
    no_switch_is_f Listed on settings pattern = refl
    no_switch_is_f _ on settings pattern = refl

set_file : (first : OptionItem) (setting : Setting) (settings : Settings) → Sets first setting
    → cond (bytes_eq (codes "f") (name_of first.arg)) (value_in first) (option_copied settings.file)
    ≡ option_copied (with_setting setting settings).file
set_file first (A_pattern pattern) settings sets =
    ap (λ name. cond (bytes_eq (codes "f") name) (value_in first) (option_copied settings.file)) sets.0 ∙ sets.1
set_file first (Boolean switch on) settings sets =
    ap (λ name. cond (bytes_eq (codes "f") name) (value_in first) (option_copied settings.file)) sets.0
    ∙ f_is_no_switch switch on (value_in first) settings
  where
    f_is_no_switch : (switch : Switch) (on : Bool) (value : Option (List ℕ)) (settings : Settings)
        → cond (bytes_eq (codes "f") (switch_name switch)) value (option_copied settings.file)
        ≡ option_copied (with_switch switch on settings).file
    f_is_no_switch Listed on value settings = refl
    f_is_no_switch _ on value settings = refl

arg_count-within : (tool : Tool) (arg_index : ℕ) (arg : List ℕ) (behind : List (List ℕ)) →
    arg_count (first_item tool arg_index arg behind) ≤ length (arg ∷ behind)
arg_count-within tool arg_index arg [] =
    elim (takes_next tool arg) as (λ takes. arg_count (item arg arg_index (cond takes None None)) ≤ length (arg ∷ []))
    [ true ↦ omega arith | false ↦ omega arith ]
arg_count-within tool arg_index arg (next ∷ behind) =
    elim (takes_next tool arg) as (λ takes. arg_count (item arg arg_index (cond takes (Some next) None))
    ≤ length (arg ∷ next ∷ behind)) [ true ↦ omega arith | false ↦ omega arith ]

pub read_more : (tool : Tool) (args : List (List ℕ)) (arg_index : ℕ) (settings : Settings) (arg : List ℕ)
    (behind : List (List ℕ)) (setting : Setting)
    → IsReadTo tool args arg_index settings → drop arg_index args ≡ arg ∷ behind → is_option arg ≡ true
    → fault_in tool (first_item tool arg_index arg behind) ≡ None → Sets (first_item tool arg_index arg behind) setting
    → IsReadTo tool args (arg_index + arg_count (first_item tool arg_index arg behind)) (with_setting setting settings)
read_more tool args arg_index settings arg behind setting before here option sound sets = record {
  within = omega (arith, arg_count-within tool arg_index arg behind, ap length here, length-drop arg_index args);
  taken = before.taken ∙ ap (λ items. arg_index + sum_by arg_count items) prefix
      ∙ ap (λ more. arg_index + more) (sum_by-cons arg_count first later)
      ∙ sym (add_assoc arg_index (arg_count first) (sum_by arg_count later));
  sound = before.sound ∙ ap (first_fault tool) prefix ∙ ap (λ fault. option_or fault (first_fault tool later)) sound;
  switches = λ switch. before.switches switch
      ∙ ap (value_after is_switched_on (is_set switch settings) (switch_name switch)) prefix
      ∙ value_after-cons is_switched_on (is_set switch settings) (switch_name switch) first later
      ∙ ap (λ on. value_after is_switched_on on (switch_name switch) later) (set_switch switch first setting settings sets);
  file = before.file
      ∙ ap (value_after value_in (option_copied settings.file) (codes "f")) prefix
      ∙ value_after-cons value_in (option_copied settings.file) (codes "f") first later
      ∙ ap (λ value. value_after value_in value (codes "f") later) (set_file first setting settings sets);
}
  where
    first : OptionItem
    first = first_item tool arg_index arg behind

    later : List OptionItem
    later = option_items_from tool (arg_index + arg_count first) (drop (arg_index + arg_count first) args)

    prefix : option_items_from tool arg_index (drop arg_index args) ≡ first ∷ later
    prefix = ap (option_items_from tool arg_index) here ∙ option_items_from-option tool arg_index arg behind option
        ∙ ap (λ rest. first ∷ option_items_from tool (arg_index + arg_count first) rest)
        (ap (drop (arg_count first)) (sym here) ∙ drop-drop (arg_count first) arg_index args)

-- without a further option the settings are those of all options
pub read_all : (tool : Tool) (args : List (List ℕ)) (arg_index : ℕ) (settings : Settings)
    → IsReadTo tool args arg_index settings → option_items_from tool arg_index (drop arg_index args) ≡ [] →
    AreSettingsOf settings (option_items tool args)
read_all tool args arg_index settings before none = record {
  switches = λ switch. sym (before.switches switch ∙ ap (value_after is_switched_on (is_set switch settings) (switch_name switch)) none);
  file = sym (before.file ∙ ap (value_after value_in (option_copied settings.file) (codes "f")) none);
}

pub all_sound : (tool : Tool) (args : List (List ℕ)) (arg_index : ℕ) (settings : Settings)
    → IsReadTo tool args arg_index settings → option_items_from tool arg_index (drop arg_index args) ≡ [] →
    first_fault tool (option_items tool args) ≡ None
all_sound tool args arg_index settings before none = before.sound ∙ ap (first_fault tool) none

pub rest_here : (tool : Tool) (args : List (List ℕ)) (arg_index : ℕ) (settings : Settings)
    → IsReadTo tool args arg_index settings → option_items_from tool arg_index (drop arg_index args) ≡ [] →
    without_terminator (drop arg_index args) ≡ operands tool args
rest_here tool args arg_index settings before none =
    let all : sum_by arg_count (option_items tool args) ≡ arg_index = before.taken
    ∙ ap (λ items. arg_index + sum_by arg_count items) none ∙ add-zero arg_index in
    ap (λ position. without_terminator (drop position args)) (sym all)

-- one more option is read, or there is none
pub read_next : (tool : Tool) (args : List (List ℕ)) (arg_index : ℕ) (settings : Settings) (read : ReadItem)
    → IsReadTo tool args arg_index settings → IsNextItem tool arg_index (drop arg_index args) (Some read)
    → IsReadTo tool args (arg_index + read.len) (with_setting read.setting settings)
read_next tool args arg_index settings read before next = by_first (drop arg_index args) refl next
  where
    by_first : (prefix : List (List ℕ)) → drop arg_index args ≡ prefix → IsNextItem tool arg_index prefix (Some read)
        → IsReadTo tool args (arg_index + read.len) (with_setting read.setting settings)
    by_first [] here next = absurd (let no : Some read ≡ None = next in cc)
    by_first (arg ∷ behind) here next =
        subst (λ args_read. IsReadTo tool args (arg_index + args_read) (with_setting read.setting settings)) (sym next.2)
        (read_more tool args arg_index settings arg behind read.setting before here next.0 next.1 next.3)

pub none_next : (tool : Tool) (args : List (List ℕ)) (arg_index : ℕ) → IsNextItem tool arg_index args None →
    option_items_from tool arg_index args ≡ []
unfolding option_items_from
none_next tool [] arg_index next = refl
none_next tool (arg ∷ behind) arg_index next = option_items_from-other tool arg_index arg behind next

pub fault_next : (tool : Tool) (args : List (List ℕ)) (arg_index : ℕ) (fault : WordFault) → BreaksRule tool arg_index args fault
    → first_fault tool (option_items_from tool arg_index args) ≡ Some fault
fault_next tool [] arg_index fault breaks = absurd breaks
fault_next tool (arg ∷ behind) arg_index fault breaks =
    ap (first_fault tool) (option_items_from-option tool arg_index arg behind breaks.0)
    ∙ ap (λ found. option_or found (first_fault tool
    (option_items_from tool (arg_index + arg_count (first_item tool arg_index arg behind))
    (drop (arg_count (first_item tool arg_index arg behind)) (arg ∷ behind))))) breaks.1

-- the style of the options is that of their settings
style_is : (settings : Settings) (items : List OptionItem) → AreSettingsOf settings items → settings.style ≡ style_of items
style_is settings items are = λ i. record {
  count = are.switches Count i;
  list = are.switches ListFiles i;
  number = are.switches Number i;
  bare = are.switches Bare i;
}

pub grep_answer : (settings : Settings) (items : List OptionItem) (pattern : List ℕ) (files : List (List ℕ)) → AreSettingsOf settings items
    → grep settings.style settings.fold pattern (length files == 0) files
    ≡ grep (style_of items) (is_on (codes "i") items) pattern (length files == 0) files
grep_answer settings items pattern files are =
    λ i. grep (style_is settings items are i) (are.switches Fold i) pattern (length files == 0) files

pub search_answer : (settings : Settings) (items : List OptionItem) (pattern : List ℕ) → AreSettingsOf settings items
    → search settings.style settings.fold settings.brute (option_copied settings.file) pattern
    ≡ search (style_of items) (is_on (codes "i") items) (is_on (codes "brute") items) (value_for (codes "f") items) pattern
search_answer settings items pattern are =
    λ i. search (style_is settings items are i) (are.switches Fold i) (are.switches Brute i) (are.file i) pattern

pub index_answer : (settings : Settings) (items : List OptionItem) (cwd : List ℕ) (paths : List (List ℕ)) → AreSettingsOf settings items
    → index settings.list settings.reset settings.log_skip cwd paths
    ≡ index (is_on (codes "list") items) (is_on (codes "reset") items) (is_on (codes "logskip") items) cwd paths
index_answer settings items cwd paths are =
    λ i. index (are.switches Listed i) (are.switches Reset i) (are.switches LogSkip i) cwd paths

-- arguments never parse as Memory
fault_in-memory : (tool : Tool) (item : OptionItem) → fault_in tool item ≡ Some Memory → ⊥
fault_in-memory tool item is = by_cases (is_among (switches_of tool) (name_of item.arg))
    (is_among (valued_of tool) (name_of item.arg)) (is_none (bool_in item)) (is_none (value_in item)) is
  where
    by_cases : (switch valued silent without : Bool)
        → cond switch (cond silent (Some (BadTruth item.arg_index)) None)
        (cond valued (cond without (Some (NoValue item.arg_index)) None) (Some (UnknownOption item.arg_index)))
        ≡ Some Memory → ⊥
    by_cases true valued true without is = cc
    by_cases true valued false without is = cc
    by_cases false true silent true is = cc
    by_cases false true silent false is = cc
    by_cases false false silent without is = cc

or-memory : (found later : Option WordFault) → (found ≡ Some Memory → ⊥) → (later ≡ Some Memory → ⊥) →
    option_or found later ≡ Some Memory → ⊥
or-memory None later here behind is = behind is
or-memory (Some fault) later here behind is = here is

first_fault-memory : (tool : Tool) (read : List OptionItem) → first_fault tool read ≡ Some Memory → ⊥
first_fault-memory tool [] is = cc
first_fault-memory tool (first ∷ later) is =
    or-memory (fault_in tool first) (first_fault tool later) (fault_in-memory tool first) (first_fault-memory tool later) is

job_by-memory : (tool : Tool) (cwd : List ℕ) (all : ℕ) (items : List OptionItem) (rest : List (List ℕ)) →
    job_by tool cwd all items rest ≡ Err Memory → ⊥
job_by-memory Cindex cwd all items rest is = cc
job_by-memory Csearch cwd all items [] is = cc
job_by-memory Csearch cwd all items (pattern ∷ []) is = cc
job_by-memory Csearch cwd all items (pattern ∷ extra ∷ more) is = cc
job_by-memory Cgrep cwd all items [] is = cc
job_by-memory Cgrep cwd all items (pattern ∷ files) is = cc

-- what arguments parse as, from the options that are read
pub parse_args-faulty : (tool : Tool) (cwd : List ℕ) (args : List (List ℕ)) (fault : WordFault) →
    first_fault tool (option_items tool args) ≡ Some fault
    → parse_args tool cwd args ≡ Err fault
unfolding parse_args
parse_args-faulty tool cwd args fault is =
    ap (λ found. fault_or found (job_by tool cwd (length args) (option_items tool args) (operands tool args))) is

pub parse_args-sound : (tool : Tool) (cwd : List ℕ) (args : List (List ℕ)) → first_fault tool (option_items tool args) ≡ None
    → parse_args tool cwd args ≡ job_by tool cwd (length args) (option_items tool args) (operands tool args)
unfolding parse_args
parse_args-sound tool cwd args is =
    ap (λ found. fault_or found (job_by tool cwd (length args) (option_items tool args) (operands tool args))) is

pub parse_args-memory : (tool : Tool) (cwd : List ℕ) (args : List (List ℕ)) → parse_args tool cwd args ≡ Err Memory → ⊥
unfolding parse_args
parse_args-memory tool cwd args is =
    by_fault (first_fault tool (option_items tool args)) (job_by tool cwd (length args) (option_items tool args) (operands tool args))
    (first_fault-memory tool (option_items tool args))
    (job_by-memory tool cwd (length args) (option_items tool args) (operands tool args)) is
  where
    by_fault : (found : Option WordFault) (job : Result JobView WordFault) → (found ≡ Some Memory → ⊥) → (job ≡ Err Memory → ⊥)
        → fault_or found job ≡ Err Memory → ⊥
    by_fault None job no_fault no_job is = no_job is
    by_fault (Some fault) job no_fault no_job is = no_fault (let same : fault ≡ Memory = cc in ap (λ fault. Some fault) same)

-- the answer, by what the arguments parse as
pub answer_job : (parsed : Result JobView WordFault) (answer : Result Job WordFault) → GivesJob parsed answer →
    IfOk answer (λ job. parsed ≡ Ok (job_view job))
answer_job (Ok job) (Ok found) answers = ap (λ job. Ok job) (sym answers)
answer_job (Ok job) (Err fault) answers = tt
answer_job (Err fault) (Ok found) answers = cc
answer_job (Err fault) (Err other) answers = tt

pub answer_fault : (parsed : Result JobView WordFault) (answer : Result Job WordFault) → GivesJob parsed answer
    → (fault : WordFault) → fault ≢ Memory → (answer ≡ Err fault) ↔ (parsed ≡ Err fault)
answer_fault (Ok job) (Ok found) answers fault other = ((λ is. cc), (λ is. cc))
answer_fault (Ok job) (Err memory) answers fault other =
    ((λ is. absurd (other (let same : memory ≡ fault = cc in sym same ∙ answers))), (λ is. cc))
answer_fault (Err parsed) answer answers fault other = ((λ is. cc), (λ is. cc))

pub answer_memory : (parsed : Result JobView WordFault) (answer : Result Job WordFault) → GivesJob parsed answer
    → (parsed ≡ Err Memory → ⊥) → answer ≡ Err Memory → IsOk parsed
answer_memory (Ok job) answer answers never is = refl
answer_memory (Err fault) answer answers never is = absurd (never (let same : fault ≡ Memory = cc in ap (λ fault. Err fault) same))

-- a list of one element
pub one_item : {X : Type 0} (xs : List X) (x : X) → 1 ≤ length xs → length xs < 2 → x ≡ get_or xs 0 x → xs ≡ x ∷ []
one_item [] x some bound is = absurd (omega arith)
one_item (y ∷ []) x some bound is = ap (λ y. y ∷ []) (sym is)
one_item (y ∷ z ∷ more) x some bound is = absurd (let two : 2 ≤ length (y ∷ z ∷ more) = omega arith in omega arith)
