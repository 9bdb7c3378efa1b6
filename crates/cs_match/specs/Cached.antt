-- Caches of matchers.
use Rattle.std.specs.Prelude.{◌<◌, length}
use Rattle.cs_syntax.specs.Matching.{Tree}
use Rattle.cs_match.specs.declared.matcher.cache.Cache.{Cache}
use Rattle.cs_match.specs.ConsistentDfa.{IsConsistent}

-- with this tree the cache is a consistent DFA, and its list has room
abbrev pub IsCacheOf : Tree → Cache → Type 0
IsCacheOf tree cache = IsConsistent tree cache.states × (0 < length cache.ends.items)
