use Rattle.std.proofs.Common.{◌≡◌, Some, sym, subst, take}
use Rattle.cs_update.proofs.SourceLemmas.{ahead, count_kept, expected, nul_kept}
use Rattle.cs_update.proofs.watching.WatchedSource.read.Goals as goal

pub returns-clause-keeps : goal.returns-clause-keeps
returns-clause-keeps g c =
    let was = c.args.self.now in
    let now = c.watch.new.self in
    let model = g.R.Source.model in
    let same = sym c.watch.ensures.rest in (
      subst (g.R.Source.Keeps was.rest) same c.in_ok-n.ensures.keeps,
      λ found is. subst (λ rest. ahead now.has_nul now.left (model rest) ≡ Some found) same
          (nul_kept (model was.rest) (model c.read.new.self) (take c.in_ok-n.n c.read.new.buf) was.left now.left was.has_nul now.has_nul
          found c.in_ok-n.ensures.bytes.0 c.watch.ensures.left c.watch.ensures.seen is),
      λ found is. subst (λ rest. expected now.missing (model rest) ≡ Some found) same
          (count_kept (model was.rest) (model c.read.new.self) (take c.in_ok-n.n c.read.new.buf) was.missing now.missing found
          c.in_ok-n.ensures.bytes.0 c.watch.ensures.missing is),
    )
