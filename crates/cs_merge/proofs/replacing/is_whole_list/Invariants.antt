use Rattle.std.proofs.Common.{◌≡◌, ℕ, true}
use Rattle.cs_merge.proofs.Common.{option_map_or, Ids}
use Rattle.cs_merge.proofs.replacing.is_whole_list.Given as goal

abbrev pub invariant-ids : goal.invariant-ids
invariant-ids l = l.rest.whole ≡ option_map_or (λ (found : ℕ × Ids). found.1.whole) l.fn.list true
