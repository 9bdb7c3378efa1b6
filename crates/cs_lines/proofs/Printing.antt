-- Prints one after another.
use Rattle.std.proofs.Common.{◌≡◌, ℕ, List, ◌++◌, ap, ◌∙◌, append_assoc}
use Rattle.cs_tree.proofs.SinkOutputLemmas.{keeps_same, keeps_then}

pub ruleset printing = (keeps_same, keeps_then)

-- what was printed in two prints
pub given_then : (old now new a b : List ℕ) → now ≡ old ++ a → new ≡ now ++ b → new ≡ old ++ (a ++ b)
given_then old now new a b first next = next ∙ ap (λ (l : List ℕ). l ++ b) first ∙ append_assoc old a b
