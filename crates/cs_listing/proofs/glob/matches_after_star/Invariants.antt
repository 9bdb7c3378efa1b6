use Rattle.std.proofs.Common.{◌≡◌, ◌≤◌, ◌+◌, ◌*◌, ◌∷◌, ◌||◌, true, length}
use Rattle.cs_listing.specs.Globs.{star, matches_name}
use Rattle.cs_listing.specs.MatchWork.{tokens_work}
use Rattle.cs_listing.specs.Models.{tokens_of}
use Rattle.cs_listing.proofs.NameLemmas.{matches_later}
use Rattle.cs_listing.proofs.glob.matches_after_star.Given as goal

-- There is a match from here on, or the last star takes more. What it could match then, a star here can match.
abbrev pub invariant-tokens : goal.invariant-tokens
invariant-tokens l = record {
  same : matches_name (star ∷ tokens_of l.tokens) l.name
      ≡ (matches_name (tokens_of l.left) l.rest || matches_later (tokens_of l.after) l.from);
  absorbed : matches_later (tokens_of l.after) l.from ≡ true → matches_name (star ∷ tokens_of l.left) l.rest ≡ true;
  short : length l.left ≤ length l.tokens;
  fewer : length l.after ≤ length l.tokens;
  within : length l.rest ≤ length l.from;
  left : tokens_work (tokens_of l.left) ≤ tokens_work (tokens_of l.tokens);
  again : tokens_work (tokens_of l.after) ≤ tokens_work (tokens_of l.tokens);
  rises : l.fn.steps.count ≤ l.steps.count;
  work : l.steps.count + length l.from * (tokens_work (tokens_of l.tokens) + 1) + tokens_work (tokens_of l.left)
      ≤ l.fn.steps.count + length l.name * (tokens_work (tokens_of l.tokens) + 1) + tokens_work (tokens_of l.tokens);
}

-- each byte from which the last star may take more can be met by each token
abbrev pub decreases-tokens : goal.decreases-tokens
decreases-tokens l = length l.from * (length l.tokens + 1) + length l.left
