use Rattle.std.proofs.Common.{refl, sym, subst, IsOk, arith}
use Rattle.cs_index.proofs.decoding.FirstFailure.{decodes_if_ok, fails_if_err, fails_so}
use Rattle.cs_index.proofs.stored.SectionReads.{bytes_fit, not_opened}
use Rattle.cs_index.proofs.stored.TableSections.{tested_fail, tested_open}
use Rattle.cs_index.proofs.reading.index.Index.open.Goals as goal

pub returns-in-Err-clause-opens : goal.returns-in-Err-clause-opens
returns-in-Err-clause-opens c = sym (not_opened c.args.bytes.now c.in-Err.fault c.in-Err.ensures.slices)

pub returns-in-Err-clause-fails : goal.returns-in-Err-clause-fails
returns-in-Err-clause-fails c =
    fails_so c.args.bytes.now c.in-Err.fault (bytes_fit c.args.bytes.now (λ i. omega (arith, c.type_inv.bytes i)))
    (sym (returns-in-Err-clause-opens c))

pub reopen-requires : goal.reopen-requires
reopen-requires c = record {
  opened = subst IsOk (sym (tested_open c.args.bytes.now c.in-Ok.starts c.in-Ok.ensures.order c.in-Ok.ensures.slices _ _ _ _
      refl c.in-Ok-test_sections.ensures.read)) refl;
}

pub returns-in-Ok-test_sections-clause-decodes : goal.returns-in-Ok-test_sections-clause-decodes
returns-in-Ok-test_sections-clause-decodes c =
    decodes_if_ok c.args.bytes.now c.reopen.result (bytes_fit c.args.bytes.now (λ i. omega (arith, c.type_inv.bytes i))) c.reopen.ensures

pub returns-in-Ok-test_sections-clause-fails : goal.returns-in-Ok-test_sections-clause-fails
returns-in-Ok-test_sections-clause-fails c =
    fails_if_err c.args.bytes.now c.reopen.result (bytes_fit c.args.bytes.now (λ i. omega (arith, c.type_inv.bytes i))) c.reopen.ensures

pub returns-in-Err-test_sections-clause-opens : goal.returns-in-Err-test_sections-clause-opens
returns-in-Err-test_sections-clause-opens c =
    sym (tested_fail c.args.bytes.now c.in-Ok.starts c.in-Ok.ensures.order c.in-Ok.ensures.slices _ _ _ _ refl
    c.in-Err-test_sections.fault c.in-Err-test_sections.ensures.fault)

pub returns-in-Err-test_sections-clause-fails : goal.returns-in-Err-test_sections-clause-fails
returns-in-Err-test_sections-clause-fails c =
    fails_so c.args.bytes.now c.in-Err-test_sections.fault
    (bytes_fit c.args.bytes.now (λ i. omega (arith, c.type_inv.bytes i)))
    (sym (returns-in-Err-test_sections-clause-opens c))
