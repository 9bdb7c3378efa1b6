use Rattle.std.proofs.Common.{◌≡◌, List, ◌++◌, length}
use Rattle.cs_listing.specs.Models.{folders_of}
use Rattle.cs_listing.specs.declared.layers.FolderRules.{FolderRules}
use Rattle.cs_listing.proofs.LayerLemmas.{HasNone}
use Rattle.cs_listing.proofs.layers.repository_of.Given as goal

-- below the upper folders no repository begins
abbrev pub invariant-folders : goal.invariant-folders
invariant-folders l = (lower : List FolderRules) × (l.folders ≡ l.upper ++ lower) × HasNone (folders_of lower)

abbrev pub decreases-folders : goal.decreases-folders
decreases-folders l = length l.upper
