-- The options of cs_lines that print what a style prints.
use Rattle.std.specs.Prelude.{true, false, if◌then◌else◌, None}
use Rattle.cs_lines.specs.declared.form.LineForm.{LineForm}
use Rattle.cs_lines.specs.declared.form.Mode.{Mode}
use Rattle.cs_lines.specs.declared.form.Mode.TheVariants.{Lines, Counts, Names}
use Rattle.cs_lines.specs.declared.form.ShowOptions.{ShowOptions}
use Rattle.cs_args.specs.declared.jobs.Style.{Style}

-- `-l` overrides `-c`, and `-c` overrides the others
abbrev pub mode_of : Style → Mode
mode_of style = if style.list then Names else (if style.count then Counts else Lines)

-- NAME:NUMBER:LINE, and a count as `NAME: COUNT`
abbrev pub form_of : Style → LineForm
form_of style = record {
  bare = style.bare;
  heading = false;
  number = style.number;
  column = false;
  only = false;
  each = false;
  nul = false;
  colour = false;
  spaced = true;
}

-- all matching lines, and no others
abbrev pub options_of : Style → ShowOptions
options_of style = record {
  mode = mode_of style;
  most = None;
  before = 0;
  after = 0;
  invert = false;
  form = form_of style;
}
