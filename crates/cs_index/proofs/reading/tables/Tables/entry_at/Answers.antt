use Rattle.std.proofs.Common.{◌≡◌, ◌≤◌, ◌+◌, ◌∙◌, ap, sym, ℕ, Option, Some, None, slice_get}
use Rattle.std.specs.Prelude.{option_map, IfSome}
use Rattle.cs_index.specs.StoredEntries.{entry_read}
use Rattle.cs_index.specs.Tables.{AreValidTables, TableParts, lists_room}
use Rattle.cs_index.specs.declared.reading.entries.Entry.{Entry}
use Rattle.cs_index.proofs.stored.TableSections.{fits_at}
use Rattle.cs_index.proofs.reading.tables.Tables.entry_at.Goals as goal

fits : (tables : TableParts) (position : ℕ) (found : Option Entry) → AreValidTables tables → option_map entry_read found
    ≡ slice_get tables.entries position → IfSome found (λ e. e.offset + 4 ≤ lists_room tables)
fits tables position None are is = tt
fits tables position (Some e) are is = fits_at (lists_room tables) tables.entries position (entry_read e) are.fit (sym is)

pub returns-clause-entry : goal.returns-clause-entry
returns-clause-entry c =
    c.nth_entry.ensures
    ∙ ap (λ (t : TableParts). slice_get t.entries c.args.position) c.self.view_is

pub returns-clause-fits : goal.returns-clause-fits
returns-clause-fits c = fits c.args.self.now c.args.position c.nth_entry.result c.are_valid.ensures.tables (returns-clause-entry c)
