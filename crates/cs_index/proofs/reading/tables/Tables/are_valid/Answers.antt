use Rattle.std.proofs.Common.{ap, subst}
use Rattle.cs_index.specs.StoredOpening.{AreAscendingOffsets}
use Rattle.cs_index.specs.Tables.{AreValidTables, TableParts}
use Rattle.cs_index.proofs.stored.TableSections.{parts_valid, tables_valid}
use Rattle.cs_index.proofs.reading.tables.Tables.are_valid.Goals as goal

pub returns-clause-tables : goal.returns-clause-tables
returns-clause-tables c =
    let s = c.self.inside in
    subst AreValidTables c.self.view_is (tables_valid s.paths.now s.names.now s.name_index.now s.list_index.now
    s.starts c.self.invariant.1)

pub returns-clause-parts : goal.returns-clause-parts
returns-clause-parts c bytes parts =
    let s = c.self.inside in
    parts_valid bytes c.args.self.now parts
    (subst AreValidTables c.self.view_is (tables_valid s.paths.now s.names.now s.name_index.now s.list_index.now
    s.starts c.self.invariant.1))
    (subst AreAscendingOffsets (ap (λ (t : TableParts). t.starts) c.self.view_is) c.self.invariant.0)
