-- Rows as contracts see them.
use Rattle.std.specs.Prelude.{◌||◌, Bool}
use Rattle.cs_lines.specs.Contexts.{Row}
use Rattle.cs_lines.specs.declared.form.LineForm.{LineForm}
use Rattle.cs_lines.specs.declared.row.LineRow.{LineRow}

abbrev pub row_of : LineRow → Row
row_of row = record { number = row.number; line = row.line.now; marked = row.marked }

-- the form shows where matches are
abbrev pub needs_spans : LineForm → Bool
needs_spans form = form.column || (form.only || (form.each || form.colour))
