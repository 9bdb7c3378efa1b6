-- The query of a tree with few exact strings requires one of them.
-- docs/PATTERNS.md, "Queries".
use Rattle.std.specs.Prelude.{ℕ, Bool, IsTrue, ◌↔◌}
use Rattle.cs_syntax.specs.Matching.{Tree, none, more}
use Rattle.cs_trigram.specs.Query.{matches_set}
use Rattle.cs_trigram.specs.ExactStrings.{HaveFewExactStrings}
use Rattle.cs_trigram.specs.ExactRuns.{HasRun}
use Rattle.cs_trigram.specs.declared.queries.Query.{Query}

-- the tree is finite, and its exact strings are few
abbrev pub HasFewExactStrings : Tree → Type 0
HasFewExactStrings t = HaveFewExactStrings (more t none)

-- the query requires exactly the trigrams of an exact string of the tree
abbrev pub RequiresExactString : Query → Tree → Type 0
RequiresExactString query tree =
    (set : ℕ → Bool) → IsTrue (matches_set query set) ↔ HasRun set (more tree none)
