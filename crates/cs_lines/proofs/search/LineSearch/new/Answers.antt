use Rattle.std.proofs.Common.{Some, ap}
use Rattle.cs_lines.proofs.ExistenceLemmas.{has_finding}
use Rattle.cs_lines.proofs.search.LineSearch.new.Goals as goal

pub returns-clause-exists : goal.returns-clause-exists
returns-clause-exists c =
    has_finding _ c.args.program.now c.in_ok-matcher.ensures.tree (ap Some c.resume.ensures.tree) c.in_ok-pass.ensures.2 c.passes_find_ends.ensures
