use Rattle.std.proofs.Common.{◌∙◌, subst, refl, map, rules}
use Rattle.cs_cindex.proofs.Common.{take_all, err_from_is_err_and, Grows, fault_entry, faulted, fault_entry_line, text_of, Grows-same}
use Rattle.cs_cindex.proofs.DiagnosticLemmas.{fault_entry_is, fault_entries_more, fault_entries_prefix, refused}
use Rattle.cs_cindex.proofs.printing.print_walk_faults.Goals as goal

pub loop-path-init : goal.loop-path-init
loop-path-init g c = record { printed = Grows-same (g.E.Sink.model c.args.err.now); writes = refl }

pub returns-in_err-print_fault : goal.returns-in_err-print_fault
returns-in_err-print_fault g c =
    let p = err_from_is_err_and c.from_residual.result c.from_residual.ensures.1 in
    let entry = c.loop-path-item.result in
    record {
      prints = (
        refused (map fault_entry_line (map fault_entry c.args.faults.now)) (g.E.Sink.model c.args.err.now)
            (g.E.Sink.model c.print_fault.new.err) c.from_residual.result p.0 p.1
            (fault_entries_prefix c.args.faults.now c.loop-path.path-index entry c.loop-path-test.true c.loop-path-item.is
            (g.E.Sink.model c.args.err.now) (g.E.Sink.model c.loop-path.err) (g.E.Sink.model c.print_fault.new.err)
            c.loop-path.invariant.printed
            (faulted c.as_str.result.now c.walk_fault.result)
            (fault_entry_is entry c.as_str.result.now c.walk_fault.result c.as_str.ensures.value c.walk_fault.ensures)
            c.in_err-print_fault.ensures.prints.0),
        search rules,
        search rules,
      );
    }

pub loop-path-preserved : goal.loop-path-preserved
loop-path-preserved g c =
    let entry = c.loop-path-item.result in
    record {
      printed = fault_entries_more c.args.faults.now c.loop-path.path-index entry c.loop-path-test.true
          c.loop-path-item.is (g.E.Sink.model c.args.err.now) (g.E.Sink.model c.loop-path.err)
          (g.E.Sink.model c.print_fault.new.err) c.loop-path.invariant.printed
          (faulted c.as_str.result.now c.walk_fault.result)
          (fault_entry_is entry c.as_str.result.now c.walk_fault.result c.as_str.ensures.value c.walk_fault.ensures)
          c.in_ok-print_fault.ensures.prints.0;
      writes = c.in_ok-print_fault.ensures.prints.1 ∙ c.loop-path.invariant.writes;
    }

pub returns : goal.returns
returns g c = record {
  prints = (
    subst (λ faults. Grows (g.E.Sink.model c.args.err.now) (g.E.Sink.model c.loop-path.err)
        (text_of (map fault_entry_line (map fault_entry faults))))
        (take_all c.loop-path.path-index c.args.faults.now c.loop-path-test.false) c.loop-path.invariant.printed,
    search rules,
    search rules,
  );
}
