-- The states that a lazy DFA has cached, in flat vectors.
use Rattle.std.specs.Prelude.{ℕ, ◌≡◌, List, [], ◌∷◌, take, drop}
use Rattle.cs_match.specs.declared.state.Behind.{Behind}
use Rattle.cs_match.specs.declared.state.State.{State}
use Rattle.cs_match.specs.PositionSet.{positions_of, IsPositionSet}
use Rattle.cs_match.specs.Work.{words}

-- some states, the most that there can be, and the number of positions of each
pub record StateList : Type 0 where
  pub items : List State
  pub most : ℕ
  pub positions : ℕ

-- the states that have these words, as many each as so many positions need, and these look-behinds
unfoldable pub states_of : ℕ → List ℕ → List Behind → List State
states_of count sets [] = []
states_of count sets (behind ∷ behinds) =
    record { positions = positions_of (take (words count) sets) count; behind = behind }
    ∷ states_of count (drop (words count) sets) behinds

-- the words are those of a position set for each state
unfoldable pub AreSets : ℕ → List ℕ → List Behind → Type 0
AreSets count sets [] = sets ≡ []
AreSets count sets (behind ∷ behinds) =
    IsPositionSet (take (words count) sets) count × AreSets count (drop (words count) sets) behinds
