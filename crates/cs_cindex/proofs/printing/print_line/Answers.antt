use Rattle.std.proofs.Common.{subst, codes, rules}
use Rattle.cs_cindex.proofs.Common.{err_from_is_err_and, Grows, TakesPrefix, prefix_left, prefix_right, Grows-chain}
use Rattle.cs_cindex.proofs.printing.print_line.Goals as goal

pub returns-in_err-write_all : goal.returns-in_err-write_all
returns-in_err-write_all g c =
    let p = err_from_is_err_and c.from_residual.result c.from_residual.ensures.1 in
    let now = g.O.Sink.model c.args.out.now in
    let later = g.O.Sink.model c.write_all.new.out in
    record {
      out = (
        rw p.1 (prefix_left c.args.path.now (codes "\n") now later
            (subst (λ bytes. TakesPrefix bytes now later) c.as_bytes.ensures.value c.in_err-write_all.ensures.model)),
        search rules,
        search rules,
      );
    }

pub returns-in_err-write_all-2 : goal.returns-in_err-write_all-2
returns-in_err-write_all-2 g c =
    let p = err_from_is_err_and c.from_residual-in_err-write_all-2.result c.from_residual-in_err-write_all-2.ensures.1 in
    let now = g.O.Sink.model c.args.out.now in
    let later = g.O.Sink.model c.write_all.new.out in
    record {
      out = (
        rw p.1 (prefix_right c.args.path.now (codes "\n") now later (g.O.Sink.model c.write_all-2.new.out)
            (subst (λ bytes. Grows now later bytes) c.as_bytes.ensures.value c.in_ok-write_all.ensures.model)
            c.in_err-write_all-2.ensures.model),
        search rules,
        search rules,
      );
    }

pub returns : goal.returns
returns g c =
    let now = g.O.Sink.model c.args.out.now in
    let later = g.O.Sink.model c.write_all.new.out in
    record {
      out = (
        Grows-chain now later (g.O.Sink.model c.write_all-2.new.out) c.args.path.now (codes "\n")
            (subst (λ bytes. Grows now later bytes) c.as_bytes.ensures.value c.in_ok-write_all.ensures.model)
            c.in_ok-write_all-2.ensures.model,
        search rules,
        search rules,
      );
    }
