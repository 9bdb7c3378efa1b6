use Rattle.std.proofs.Common.{◌≡◌, ◌++◌, length}
use Rattle.std.specs.List.{slice_split}
use Rattle.cs_listing.specs.GlobText.{tokens_in, is_slash, elements_in, elements_of}
use Rattle.cs_listing.specs.Models.{tokens_of, glob_of}
use Rattle.cs_listing.proofs.TokenLemmas.{NoSlash}
use Rattle.cs_listing.proofs.glob_parsing.add_elements.Given as goal

-- the elements so far, and those of the tokens that are read and of the rest
abbrev pub invariant-tokens : goal.invariant-tokens
invariant-tokens l = record {
  same : glob_of l.fn.glob.items ++ elements_in l.text
      ≡ glob_of l.glob.items ++ elements_of (slice_split is_slash (tokens_of l.tokens.items ++ tokens_in l.rest));
  none : NoSlash (tokens_of l.tokens.items);
}

abbrev pub decreases-tokens : goal.decreases-tokens
decreases-tokens l = length l.rest
