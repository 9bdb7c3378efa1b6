use Rattle.std.proofs.Common.{List, ℕ, ap, sym, subst, ◌∙◌}
use Rattle.cs_tree.specs.WritesBytes.{WritesBytes}
use Rattle.cs_cindex.proofs.Common.{OpensAs, path_lines}
use Rattle.cs_cindex.proofs.JobOutputLemmas.{stored_answers, stored_lines}
use Rattle.cs_cindex.proofs.printing.print_opened.Goals as goal

pub returns-clause-lists : goal.returns-clause-lists
returns-clause-lists g c = λ bytes opens.
    let index = c.in_ok-index.index in
    let opened = subst (OpensAs bytes) c.in_ok-index.was opens in (
      stored_answers bytes index opened c.print_paths.result c.print_paths.ensures.out.2,
      subst (λ (lines : List ℕ). WritesBytes lines (g.O.Sink.model c.args.out.now) (g.O.Sink.model c.print_paths.new.out)
          c.print_paths.result) (ap path_lines c.paths.ensures ∙ sym (stored_lines bytes index opened)) c.print_paths.ensures.out.0,
    )
