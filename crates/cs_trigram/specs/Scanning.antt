-- A scanner that is ready for the next file: its buffer has room for a block, and its set can be emptied.
use Rattle.std.specs.Prelude.{◌≡◌, ◌+◌, length}
use Rattle.cs_trigram.specs.declared.scan.Limits.{Limits}
use Rattle.cs_trigram.specs.declared.seen_trigrams.TheConstants.{WITH_TWO}
use Rattle.cs_trigram.specs.declared.scanner.Gatherer.{Gatherer}
use Rattle.cs_trigram.specs.Position.{AreSmallLimits}
use Rattle.cs_trigram.specs.SeenTrigrams.{IsSound}

pub record IsPrepared (gatherer : Gatherer) : Type 0 where
  pub small : AreSmallLimits gatherer.limits
  pub block : length gatherer.buffer.items ≡ WITH_TWO
  pub list : length gatherer.found.list.items ≡ gatherer.limits.trigrams + WITH_TWO
  pub sound : IsSound gatherer.found

-- the scanner is ready, and has these limits
abbrev pub IsPreparedFor : Limits → Gatherer → Type 0
IsPreparedFor most gatherer = (gatherer.limits ≡ most) × IsPrepared gatherer
