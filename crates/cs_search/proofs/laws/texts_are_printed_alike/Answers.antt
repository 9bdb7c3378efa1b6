use Rattle.cs_search.proofs.StyleTotalLemmas.{faults_alike, faults_marked, texts_alike, texts_marked}
use Rattle.cs_search.proofs.laws.texts_are_printed_alike.Goals as goal

pub returns : goal.returns
returns c = record {
  texts = texts_alike;
  marked = texts_marked;
  faults = faults_alike;
  faults_marked = faults_marked;
}
