use Rattle.cs_syntax.proofs.CharSetLemmas.{same_canonical}
use Rattle.cs_syntax.proofs.CharRangeLemmas.{canonical_ranges_are}
use Rattle.cs_syntax.proofs.laws.canonical_ranges_are_unique.Goals as goal

pub returns : goal.returns
returns c = record {
  same = same_canonical;
  maximal = λ test. (canonical_ranges_are test).0;
  passing = λ test x. (canonical_ranges_are test).1 x;
}
