use Rattle.std.proofs.Common.{◌≡◌, ◌≤◌, ◌-◌, length}
use Rattle.cs_trigram.specs.declared.seen_trigrams.TheConstants.{WITH_TWO}
use Rattle.cs_trigram.proofs.ScanLemmas.{HasReadText}
use Rattle.cs_trigram.proofs.scanner.read_to_end.Given as goal

abbrev pub invariant-chunks : goal.invariant-chunks
invariant-chunks g l = record {
  room : length l.buffer ≡ WITH_TWO;
  reads : HasReadText l.limits (g.R.Source.model l.initial.source) (g.R.Source.model l.source) l.position l.found l.buffer;
  count : l.position.count ≤ l.limits.bytes;
  column : l.position.column ≤ l.limits.line;
  failed : g.R.Source.failed l.source ≡ g.R.Source.failed l.initial.source;
  keeps : g.R.Source.Keeps l.initial.source l.source;
}

abbrev pub decreases-chunks : goal.decreases-chunks
decreases-chunks g l = l.limits.bytes - l.position.count
