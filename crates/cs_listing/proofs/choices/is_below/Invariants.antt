use Rattle.std.proofs.Common.{◌≡◌}
use Rattle.cs_listing.specs.Models.{names}
use Rattle.cs_listing.proofs.ChoiceLemmas.{follows}
use Rattle.cs_listing.proofs.choices.is_below.Given as goal

-- the names so far are those of the folder
abbrev pub invariant-loop-at : goal.invariant-loop-at
invariant-loop-at l = follows l.folder (names l.path) 0 ≡ follows l.folder (names l.path) l.at
