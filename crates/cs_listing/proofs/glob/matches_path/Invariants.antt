use Rattle.std.proofs.Common.{◌≡◌, ◌≤◌, ◌+◌, ◌*◌, length, drop}
use Rattle.cs_listing.specs.Globs.{matches_path}
use Rattle.cs_listing.specs.MatchWork.{largest, pair_work}
use Rattle.cs_listing.specs.Models.{glob_of, names}
use Rattle.cs_listing.proofs.glob.matches_path.Given as goal

-- the elements left match the rest exactly if all match the path
abbrev pub invariant-elements : goal.invariant-elements
invariant-elements l = record {
  same : matches_path (glob_of l.glob) (names l.path) ≡ matches_path (glob_of l.left) (names (drop l.at l.path));
  within : l.at ≤ length l.path;
  fewer : length l.left ≤ length l.glob;
  large : largest (glob_of l.left) ≤ largest (glob_of l.glob);
  rises : l.fn.steps.count ≤ l.steps.count;
  work : l.steps.count + length l.left * (pair_work (glob_of l.glob) (names l.path) + 1)
      ≤ l.fn.steps.count + length l.glob * (pair_work (glob_of l.glob) (names l.path) + 1);
}

abbrev pub decreases-elements : goal.decreases-elements
decreases-elements l = length l.left
