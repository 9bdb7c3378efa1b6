use Rattle.std.proofs.Common.{sym, ◌∙◌}
use Rattle.cs_tree.proofs.NormalizedLemmas.{clean_below}
use Rattle.cs_tree.proofs.paths.is_clean.Goals as goal

pub returns-else-eq : goal.returns-else-eq
returns-else-eq c = c.is_proper_path.ensures ∙ clean_below c.args.path.now (sym c.if-eq.ensures)
