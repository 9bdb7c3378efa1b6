use Rattle.std.proofs.Common.{◌≡◌, ℕ, Bool, List, refl, inl, inr}
use Rattle.cs_syntax.specs.Determinism.{HasOneParse}
use Rattle.cs_syntax.specs.Matching.{Tree}
use Rattle.cs_syntax.specs.Parsing.{ParseResult, tree, rejected, parse_result}

tree_is : (t u : Tree) → tree t ≡ tree u → t ≡ u
tree_is t u h = (cc)

parses_once_from : (text : List ℕ) (fold : Bool) (r : ParseResult) → parse_result text fold ≡ r → HasOneParse text fold
parses_once_from text fold (tree t) e =
    (inl (t, e), λ u v p q. (cc), λ j k offset by p q. ((cc), (cc)), λ u k offset p q. (cc))
parses_once_from text fold (rejected i from) e =
    (inr (i, (from, e)), λ u v p q. (cc), λ j k offset by p q. ((cc), (cc)), λ u k offset p q. (cc))

pub parses_once : (text : List ℕ) (fold : Bool) → HasOneParse text fold
parses_once text fold = parses_once_from text fold (parse_result text fold) refl
