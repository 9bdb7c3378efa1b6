use Rattle.std.proofs.Common.{refl}
use Rattle.cs_project.proofs.SearchLemmas.{form_again, form_itself}
use Rattle.cs_project.proofs.TextLemmas.{begun_more}
use Rattle.cs_project.proofs.VisitLemmas.{nothing_visited, searched_more, still_asks}
use Rattle.cs_project.proofs.file_search.FileSearchVisitor.follow.Goals as goal

pub returns : goal.returns
returns c = record {
  itself = form_itself;
  again = form_again;
  right = λ x y same. same.3;
  asked = still_asks;
  none = λ x bytes. nothing_visited x x bytes refl;
  visits = searched_more;
  begins = λ x y z items more given middle later kept keeps begun had begins.
      begun_more x y z items more given middle later kept keeps had.0 begins;
}
