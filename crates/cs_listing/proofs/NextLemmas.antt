-- Calls of `next`: what some steps give that have found no answer, and one more step.
use Rattle.std.specs.Prelude.{Option, Some, None}
use Rattle.std.proofs.Common.{◌≡◌, ℕ, Bool, List, sym, ◌∙◌}
use Rattle.cs_tree.specs.Snapshot.{Snapshot}
use Rattle.cs_listing.specs.FolderReads.{InTree}
use Rattle.cs_listing.specs.Walk.{IsWalkIn, GivesNext, Gives, StepGives, is_left}
use Rattle.cs_listing.specs.declared.walk.Found.{Found}
use Rattle.cs_listing.specs.declared.walk.Found.TheVariants as found
use Rattle.cs_listing.specs.declared.walk.Step.TheVariants as step
use Rattle.cs_listing.specs.declared.walk.Walk.{Walk}
use Rattle.cs_listing.proofs.UnreadLemmas.{moved_to, from_two}

-- the same files were left before
next_from : (first old new : List (List ℕ) → Bool) (given : Option Found) → ((path : List (List ℕ)) → old path ≡ first path) →
    GivesNext old new given → GivesNext first new given
next_from first old new None same gives = λ path. sym (same path) ∙ gives path
next_from first old new (Some (found.Unread unread)) same gives = λ path. gives path ∙ same path
next_from first old new (Some (found.File file)) same gives = (
  gives.0,
  gives.1,
  record {
    taken = sym (same gives.0) ∙ gives.2.taken;
    kept = λ other apart. gives.2.kept other apart ∙ same other;
    first = gives.2.first;
  },
)

pub steps_then : (s now : Option Snapshot) (first old new : Walk) → now ≡ s →
    InTree s (λ items. IsWalkIn items first → StepGives items first old step.More) →
    InTree now (λ items. IsWalkIn items old → StepGives items old new step.More) →
    InTree s (λ items. IsWalkIn items first → StepGives items first new step.More)
steps_then s now first old new same steps more =
    from_two s (λ items. IsWalkIn items first → StepGives items first old step.More)
    (λ items. IsWalkIn items old → StepGives items old new step.More)
    (λ items. IsWalkIn items first → StepGives items first new step.More)
    (λ items before after is. ((after (before is).0).0, λ path. (after (before is).0).1 path ∙ (before is).1 path)) steps
    (moved_to s now (λ items. IsWalkIn items old → StepGives items old new step.More) same more)

pub gives_after : (s now : Option Snapshot) (first old new : Walk) (given : Option Found) → now ≡ s →
    InTree s (λ items. IsWalkIn items first → StepGives items first old step.More) →
    InTree now (λ items. IsWalkIn items old → Gives items old new given) →
    InTree s (λ items. IsWalkIn items first → Gives items first new given)
gives_after s now first old new given same steps gives =
    from_two s (λ items. IsWalkIn items first → StepGives items first old step.More)
    (λ items. IsWalkIn items old → Gives items old new given) (λ items. IsWalkIn items first → Gives items first new given)
    (λ items before after is. let now = after (before is).0 in
    (now.0, next_from (is_left first items) (is_left old items) (is_left new items) given (before is).1 now.1)) steps
    (moved_to s now (λ items. IsWalkIn items old → Gives items old new given) same gives)
