-- A search after a run that noted files.
use Rattle.std.proofs.Common.{◌≡◌, ◌∙◌, ◌⊎◌, ◌++◌, ℕ, List, [], ◌∷◌, Option, Some, ap, inl, inr, sym}
use Rattle.cs_tree.specs.Snapshot.{Item}
use Rattle.cs_tree.specs.declared.tree.Stamp.{Stamp}
use Rattle.cs_index.specs.OpenedParts.{Parts}
use Rattle.cs_project.specs.Noted.{AreSeen}
use Rattle.cs_state.specs.Known.{HasNumbers, Known}
use Rattle.cs_state.specs.StampedNames.{Knows}
use Rattle.cs_known.specs.Learned.{IsLearned, IsLearnedIn, Run}
use Rattle.cs_known.specs.declared.types.SeenFile.{SeenFile}
use Rattle.cs_learned.specs.Fresh.{IsFresh}
use Rattle.cs_learned.specs.LaterSearches.{IsLearnedOf, IsNoted, LaterSearchesAreFresh, run_below}
use Rattle.cs_learned.specs.NotedFiles.{noted_below}

module _ (root : List ℕ) (items : List ℕ → Item) (stamps : List ℕ → Option Stamp) (moment : ℕ) where
  -- what was noted has the stamp that the run saw
  noted_stamp : (noted : List SeenFile) (one : Known) → AreSeen stamps (noted_below root noted) → IsNoted noted one →
      stamps (root ++ one.name) ≡ Some one.stamp
  noted_stamp [] one seen is = absurd is
  noted_stamp (file ∷ noted) one seen (inl is) = ap (λ n. stamps (root ++ n)) (sym is.0) ∙ seen.0 ∙ ap Some is.1
  noted_stamp (file ∷ noted) one seen (inr is) = noted_stamp noted one seen.1 is

  abbrev run : Run
  run = run_below root items stamps moment

  -- all that is known was learned
  learned_all : (noted : List SeenFile) (runs : List Run) (parts : Parts) → AreSeen stamps (noted_below root noted) →
      ((one : Known) → HasNumbers one.stamp → Knows parts one → IsLearnedIn runs parts one ⊎ IsLearnedOf run noted parts one) →
      IsLearned (run ∷ runs) parts
  learned_all noted runs parts seen all one numbers knows = learned (all one numbers knows)
    where
      learned : (IsLearnedIn runs parts one ⊎ IsLearnedOf run noted parts one) → IsLearnedIn (run ∷ runs) parts one
      learned (inl before) = inr before
      learned (inr of) = inl (record { stamp = noted_stamp noted one seen of.noted; old = of.old; read = of.read })

pub later_searches : IsFresh → LaterSearchesAreFresh
later_searches fresh root items stamps moment noted seen runs parts known now as_before options takes_binary search finding query queried is_read
    unskipped files =
    let run = run_below root items stamps moment in
    fresh options takes_binary search finding query queried (run ∷ runs) parts now
    (record { learned = learned_all root items stamps moment noted runs parts seen known; as_before = as_before }) is_read unskipped files
