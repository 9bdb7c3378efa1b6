use Rattle.std.proofs.Common.{◌∙◌, ◌∷◌, [], rules}
use Rattle.cs_cindex.proofs.Common.{err_from_is_err_and, faulted}
use Rattle.cs_cindex.proofs.DiagnosticLemmas.{fault_text, line_printed, line_prefix, refused}
use Rattle.cs_cindex.proofs.printing.print_fault.Goals as goal

pub returns-in_err-write_all : goal.returns-in_err-write_all
returns-in_err-write_all g c =
    let p = err_from_is_err_and c.from_residual-in_err-write_all.result c.from_residual-in_err-write_all.ensures.1 in
    let line = faulted c.args.name.now c.args.fault in
    let model = c.in_err-write_all.ensures.model in
    let is = c.as_bytes.ensures.value ∙ c.in_ok-line.ensures ∙ fault_text c.args.name.now c.args.fault in
    record {
      prints = (
        refused (line ∷ []) (g.E.Sink.model c.args.err.now) (g.E.Sink.model c.write_all.new.out)
            c.from_residual-in_err-write_all.result p.0 p.1
            (line_prefix line c.as_bytes.result.now (g.E.Sink.model c.args.err.now) (g.E.Sink.model c.write_all.new.out) is
            model.count model.grows),
        search rules,
        search rules,
      );
    }

pub returns : goal.returns
returns g c =
    let line = faulted c.args.name.now c.args.fault in
    let is = c.as_bytes.ensures.value ∙ c.in_ok-line.ensures ∙ fault_text c.args.name.now c.args.fault in
    record {
      prints = (
        line_printed line c.as_bytes.result.now (g.E.Sink.model c.args.err.now) (g.E.Sink.model c.write_all.new.out) is
            c.in_ok-write_all.ensures.model,
        search rules,
        search rules,
      );
    }
