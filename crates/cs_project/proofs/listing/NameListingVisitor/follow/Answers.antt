use Rattle.std.proofs.Common.{refl, ◌∙◌}
use Rattle.cs_project.proofs.ListedLemmas.{begins_later, lists_later, lists_none}
use Rattle.cs_project.proofs.listing.NameListingVisitor.follow.Goals as goal

pub returns : goal.returns
returns c = record {
  itself = λ x. (refl, λ right. right);
  again = λ x y z first next. (next.0 ∙ first.0, λ right. first.1 (next.1 right));
  right = λ x y same. same.1;
  asked = λ x y same items stamps searched asks. asks;
  none = λ x. lists_none x x;
  visits = lists_later;
  begins = begins_later;
}
