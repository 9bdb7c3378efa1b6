use Rattle.std.proofs.Common.{◌≡◌, ◌≤◌, ◌+◌, true, length}
use Rattle.cs_listing.specs.Globs.{matches_name}
use Rattle.cs_listing.specs.MatchWork.{tokens_work}
use Rattle.cs_listing.specs.Models.{tokens_of}
use Rattle.cs_listing.proofs.glob.ends_match.Given as goal

-- the tokens left match the rest if all match the name
abbrev pub invariant-tokens : goal.invariant-tokens
invariant-tokens l = record {
  ends : matches_name (tokens_of l.tokens) l.name ≡ true → matches_name (tokens_of l.left) l.rest ≡ true;
  rises : l.fn.steps.count ≤ l.steps.count;
  work : l.steps.count + tokens_work (tokens_of l.left) ≤ l.fn.steps.count + tokens_work (tokens_of l.tokens);
}

abbrev pub decreases-tokens : goal.decreases-tokens
decreases-tokens l = length l.left
