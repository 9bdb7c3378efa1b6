use Rattle.std.proofs.Common.{◌≡◌, ◌∙◌, ◌++◌, refl, ap, rules, [], codes}
use Rattle.cs_cindex.proofs.Common.{err_from_is_err_and, path_lines, Grows-chain, Grows-same}
use Rattle.cs_cindex.proofs.JobOutputLemmas.{lines_more, lines_cut, lines_end}
use Rattle.cs_cindex.proofs.printing.print_paths.Goals as goal

pub paths-init : goal.paths-init
paths-init g c =
    let all : c.into_iter-path-iterator.result ≡ c.args.paths = search rules in
    record { done = []; grows = Grows-same (g.O.Sink.model c.args.out.now); whole = ap path_lines all; failures = refl }

pub paths-preserved : goal.paths-preserved
paths-preserved g c = record {
  done = c.paths.invariant.done ++ (c.in-Some.path.now ++ codes "\n");
  grows = Grows-chain _ _ _ c.paths.invariant.done (c.in-Some.path.now ++ codes "\n") c.paths.invariant.grows
      c.in_ok-print_line.ensures.out.0;
  whole = lines_more c.paths.invariant.done c.in-Some.path.now (path_lines c.args.paths) c.paths.path-iterator
      c.next.new.self c.in-Some.ensures.steps c.paths.invariant.whole;
  failures = c.in_ok-print_line.ensures.out.1 ∙ c.paths.invariant.failures;
}

pub returns-in_err-print_line : goal.returns-in_err-print_line
returns-in_err-print_line g c =
    let p = err_from_is_err_and c.from_residual.result c.from_residual.ensures.1 in
    record {
      out = (
        rw p.1 (lines_cut c.paths.invariant.done c.in-Some.path.now (path_lines c.args.paths) c.paths.path-iterator
            c.next.new.self _ _ _ c.in-Some.ensures.steps c.paths.invariant.whole c.paths.invariant.grows
            c.in_err-print_line.ensures.out.0),
        search rules,
        search rules,
      );
    }

pub returns : goal.returns
returns g c = record {
  out = (
    lines_end c.paths.invariant.done (path_lines c.args.paths) c.paths.path-iterator _ _ c.in-None.ensures.steps.0
        c.paths.invariant.whole c.paths.invariant.grows,
    search rules,
    search rules,
  );
}
