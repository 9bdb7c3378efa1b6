use Rattle.std.proofs.Common.{◌≡◌, ◌≤◌, ◌+◌, ◌-◌, ◌*◌, ◌∷◌, ◌||◌, true, length, drop}
use Rattle.cs_listing.specs.Globs.{folders, matches_path}
use Rattle.cs_listing.specs.MatchWork.{largest, pair_work}
use Rattle.cs_listing.specs.Models.{glob_of, names}
use Rattle.cs_listing.proofs.PathLemmas.{path_matches_later}
use Rattle.cs_listing.proofs.glob.matches_after_folders.Given as goal

-- There is a match from here on, or the last `**` takes more. What it could match then, a `**` here can match.
abbrev pub invariant-elements : goal.invariant-elements
invariant-elements l = record {
  same : matches_path (folders ∷ glob_of l.glob) (names l.path)
      ≡ (matches_path (glob_of l.left) (names (drop l.at l.path)) || path_matches_later (glob_of l.after) (names (drop l.from l.path)));
  absorbed : path_matches_later (glob_of l.after) (names (drop l.from l.path)) ≡ true →
      matches_path (folders ∷ glob_of l.left) (names (drop l.at l.path)) ≡ true;
  short : length l.left ≤ length l.glob;
  fewer : length l.after ≤ length l.glob;
  later : l.from ≤ l.at;
  within : l.at ≤ length l.path;
  large : largest (glob_of l.left) ≤ largest (glob_of l.glob);
  again : largest (glob_of l.after) ≤ largest (glob_of l.glob);
  rises : l.fn.steps.count ≤ l.steps.count;
  work : l.steps.count + ((length l.path - l.from) * (length l.glob + 1) + length l.left) * (pair_work (glob_of l.glob) (names l.path) + 1)
      ≤ l.fn.steps.count + (length l.path * (length l.glob + 1) + length l.glob) * (pair_work (glob_of l.glob) (names l.path) + 1);
}

-- each name from which the last `**` may take more can be met by each element
abbrev pub decreases-elements : goal.decreases-elements
decreases-elements l = (length l.path - l.from) * (length l.glob + 1) + length l.left
