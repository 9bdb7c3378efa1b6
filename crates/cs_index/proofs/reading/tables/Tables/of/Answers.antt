use Rattle.std.proofs.Common.{◌≡◌, IsOk, arith, subst, true, false}
use Rattle.cs_index.proofs.stored.SectionReads.{bytes_fit, not_opened}
use Rattle.cs_index.proofs.stored.TableSections.{is_opened, sections_bounded, tables_stand}
use Rattle.cs_index.proofs.reading.tables.Tables.of.Goals as goal

pub invariant_of-result : goal.invariant_of-result
invariant_of-result c =
    let opened = is_opened c.args.bytes.now c.requires.opened in
    (c.in-Ok.ensures.order, sections_bounded c.args.bytes.now c.in-Ok.starts c.in-Ok.ensures.order c.in-Ok.ensures.slices opened.0 opened.1)

pub unreachable-requires : goal.unreachable-requires
unreachable-requires c =
    let bad : false ≡ true = subst IsOk (not_opened c.args.bytes.now c.in-Err.field-0 c.in-Err.ensures.slices) c.requires.opened in cc

pub returns : goal.returns
returns c parts opens =
    tables_stand c.args.bytes.now c.in-Ok.starts c.in-Ok.ensures.order c.in-Ok.ensures.slices parts
    (bytes_fit c.args.bytes.now (λ i. omega (arith, c.type_inv.bytes i))) opens
