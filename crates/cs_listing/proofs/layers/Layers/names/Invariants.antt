use Rattle.std.proofs.Common.{◌≡◌, take, map}
use Rattle.cs_listing.specs.Models.{names, folder_name}
use Rattle.cs_listing.proofs.layers.Layers.names.Given as goal

-- the names of the folders so far
abbrev pub invariant-folders : goal.invariant-folders
invariant-folders l = names l.path.items ≡ map folder_name (take l.folder-index l.below)
