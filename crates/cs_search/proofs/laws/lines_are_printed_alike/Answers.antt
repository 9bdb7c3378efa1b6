use Rattle.cs_search.proofs.StyleTotalLemmas.{begun_alike, counts_alike, lines_alike, lines_begun_alike, names_alike, some_marked, totals_alike}
use Rattle.cs_search.proofs.laws.lines_are_printed_alike.Goals as goal

pub returns : goal.returns
returns c = record {
  lines = lines_alike;
  totals = totals_alike;
  names = names_alike;
  no_count = counts_alike;
  marked = some_marked;
  between = λ style begun groups. (lines_begun_alike style begun groups, begun_alike style begun groups);
}
