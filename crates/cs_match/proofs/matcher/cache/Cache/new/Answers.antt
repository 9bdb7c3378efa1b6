use Rattle.std.proofs.Common.{subst}
use Rattle.cs_match.specs.Cached.{IsCacheOf}
use Rattle.cs_match.proofs.matcher.cache.Cache.new.Goals as goal

pub returns : goal.returns
returns c = subst (λ tree. IsCacheOf tree c.into_cache.result) c.in_ok-new.ensures.tree c.into_cache.ensures
