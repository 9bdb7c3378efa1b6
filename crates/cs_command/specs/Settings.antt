-- What the options of `cs` ask for: the switches one after another, then what they mean in their surroundings.
use Rattle.std.specs.Prelude.{Bool, true, false, ◌||◌, ◌&&◌, not, Option, Some, None}
use Rattle.std.specs.Option.{unwrap_or, option_or}
use Rattle.cs_lines.specs.declared.form.LineForm.{LineForm}
use Rattle.cs_lines.specs.declared.form.Mode.{Mode}
use Rattle.cs_lines.specs.declared.form.Mode.TheVariants as mode
use Rattle.cs_lines.specs.declared.form.ShowOptions.{ShowOptions}
use Rattle.cs_command.specs.declared.named.Switch.{Switch}
use Rattle.cs_command.specs.declared.named.Switch.TheVariants as on
use Rattle.cs_command.specs.declared.settings.Limits.{Limits}
use Rattle.cs_command.specs.declared.settings.Surroundings.{Surroundings}
use Rattle.cs_command.specs.declared.settings.Switches.{Switches}
use Rattle.cs_command.specs.declared.settings.Task.TheVariants as task

-- without options, lines are searched and printed as they are
abbrev pub no_switches : Switches
no_switches = record {
  task = task.Search;
  mode = mode.Lines;
  silent = false;
  invert = false;
  pattern = record { literal = false; whole = false; lines = false };
  files = record { hidden = false; ignored = false; binary = false };
  state = record { read = true; updated = true };
  number = None;
  named = None;
  form = record {
    bare = false;
    heading = false;
    number = false;
    column = false;
    only = false;
    each = false;
    nul = false;
    colour = false;
    spaced = false;
  };
}

-- -l and -L override -c
abbrev pub counted : Mode → Mode
counted mode.Lines = mode.Counts
counted mode.Counts = mode.Counts
counted mode.Names = mode.Names
counted mode.Others = mode.Others

-- options of what is beside a line; --vimgrep has columns
abbrev pub with_form : Switches → Switch → Switches
with_form switches on.Only = record switches { form = record switches.form { only = true } }
with_form switches on.Nul = record switches { form = record switches.form { nul = true } }
with_form switches on.Column = record switches { form = record switches.form { column = true } }
with_form switches on.Each = record switches { form = record switches.form { each = true; column = true } }
with_form switches on.Heading = record switches { form = record switches.form { heading = true } }
with_form switches _ = switches

-- after one more switch
abbrev pub with_switch : Switches → Switch → Switches
with_switch switches on.Literal = record switches { pattern = record switches.pattern { literal = true } }
with_switch switches on.Words = record switches { pattern = record switches.pattern { whole = true } }
with_switch switches on.Lines = record switches { pattern = record switches.pattern { lines = true } }
with_switch switches on.Invert = record switches { invert = true }
with_switch switches on.Count = record switches { mode = counted switches.mode }
with_switch switches on.Names = record switches { mode = mode.Names }
with_switch switches on.Others = record switches { mode = mode.Others }
with_switch switches on.Silent = record switches { silent = true }
with_switch switches on.Text = record switches { files = record switches.files { binary = true } }
with_switch switches on.Hidden = record switches { files = record switches.files { hidden = true } }
with_switch switches on.Unrestricted = record switches { files = record switches.files { ignored = true } }
with_switch switches on.Number = record switches { number = Some true }
with_switch switches on.NoNumber = record switches { number = Some false }
with_switch switches on.WithName = record switches { named = Some true }
with_switch switches on.Bare = record switches { named = Some false }
with_switch switches on.NoUpdate = record switches { state = record switches.state { updated = false } }
with_switch switches on.NoState = record switches { state = record { read = false; updated = false } }
with_switch switches on.Files = record switches { task = task.Files }
with_switch switches on.TypeList = record switches { task = task.Types }
with_switch switches on.Update = record switches { task = task.Update }
with_switch switches on.Help = record switches { task = task.Help }
with_switch switches on.Version = record switches { task = task.Version }
with_switch switches switch = with_form switches switch

-- Names are beside lines if several files may be searched, or with --vimgrep; numbers with columns, and on a terminal.
abbrev pub form_in : Switches → Option Bool → Surroundings → LineForm
form_in switches colour place = record {
  bare = not (unwrap_or switches.named (place.several || switches.form.each));
  heading = switches.form.heading && not switches.form.each;
  number = unwrap_or switches.number (switches.form.column || place.terminal);
  column = switches.form.column;
  only = switches.form.only;
  each = switches.form.each;
  nul = switches.form.nul;
  colour = unwrap_or colour place.terminal;
  spaced = false;
}

-- -A and -B come before -C
abbrev pub shown_in : Switches → Limits → Option Bool → Surroundings → ShowOptions
shown_in switches limits colour place = record {
  mode = switches.mode;
  most = limits.most;
  before = unwrap_or (option_or limits.before limits.around) 0;
  after = unwrap_or (option_or limits.after limits.around) 0;
  invert = switches.invert;
  form = form_in switches colour place;
}
