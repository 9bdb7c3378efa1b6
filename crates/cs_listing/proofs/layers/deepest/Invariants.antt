use Rattle.std.proofs.Common.{◌≡◌, ◌≤◌, ◌+◌, length}
use Rattle.cs_listing.specs.Layers.{deepest}
use Rattle.cs_listing.specs.LayersWork.{files_work}
use Rattle.cs_listing.specs.Models.{names, folders_of}
use Rattle.cs_listing.proofs.layers.deepest.Given as goal

-- the upper folders say what all do
abbrev pub invariant-folders : goal.invariant-folders
invariant-folders l = record {
  same : deepest l.file l.is_folder (folders_of l.folders) (names l.path) ≡ deepest l.file l.is_folder (folders_of l.upper) (names l.path);
  within : length l.upper ≤ length l.path;
  rises : l.fn.steps.count ≤ l.steps.count;
  work : l.steps.count + files_work l.file (folders_of l.upper) (names l.path) ≤ l.fn.steps.count + files_work l.file (folders_of l.folders) (names l.path);
}

abbrev pub decreases-folders : goal.decreases-folders
decreases-folders l = length l.upper
