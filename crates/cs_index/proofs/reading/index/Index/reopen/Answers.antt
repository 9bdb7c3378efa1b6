use Rattle.std.proofs.Common.{◌∙◌, ap, sym, subst, Ok}
use Rattle.cs_index.specs.Tables.{TablesIn}
use Rattle.cs_index.proofs.stored.TableSections.{is_opened, parts_are}
use Rattle.cs_index.proofs.reading.index.Index.reopen.Goals as goal

pub invariant_of-result : goal.invariant_of-result
invariant_of-result c =
    let opened = is_opened c.args.bytes.now c.requires.opened in
    let is = c.of.ensures opened.0 opened.1 in
    subst (TablesIn c.args.bytes.now c.of.result) (sym (parts_are c.args.bytes.now c.of.result opened.0 is)) is

pub returns : goal.returns
returns c =
    let opened = is_opened c.args.bytes.now c.requires.opened in
    ap Ok (parts_are c.args.bytes.now c.of.result opened.0 (c.of.ensures opened.0 opened.1)) ∙ sym opened.1
