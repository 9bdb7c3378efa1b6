-- What one step of matching finds, of a name and of a path.
use denote.Ref.{Bor}
use Rattle.std.specs.Prelude.{ℕ, ◌≡◌, ◌+◌, ◌≤◌, ◌<◌, true, false, List, ◌∷◌, length, drop}
use Rattle.cs_tree.specs.declared.steps.Steps.{Steps}
use Rattle.cs_tree.specs.CountsAtMost.{CountsAtMost}
use Rattle.cs_listing.specs.Globs.{star, matches_name, folders, matches_path}
use Rattle.cs_listing.specs.MatchWork.{tokens_work, largest}
use Rattle.cs_listing.specs.Models.{tokens_of, glob_of, names}
use Rattle.cs_listing.specs.declared.glob.Token.{Token}
use Rattle.cs_listing.specs.declared.glob.Element.{Element}
use Rattle.cs_listing.specs.declared.glob.NameStep.{NameStep}
use Rattle.cs_listing.specs.declared.glob.NameStep.TheVariants as in_name
use Rattle.cs_listing.specs.declared.glob.PathStep.{PathStep}
use Rattle.cs_listing.specs.declared.glob.PathStep.TheVariants as in_path

-- The first token is a star; or it takes the first byte, and what matches after a star before it, matches after the star
-- then too; or all is matched; or there is no match.
abbrev pub NameStepSays : List Token → List ℕ → NameStep → Type 0
NameStepSays tokens name (in_name.Star later) =
    (tokens_of tokens ≡ star ∷ tokens_of later.now) × (length later.now + 1 ≡ length tokens)
NameStepSays tokens name (in_name.Byte later rest) =
    (matches_name (tokens_of tokens) name ≡ matches_name (tokens_of later.now) rest.now)
    × (matches_name (star ∷ tokens_of tokens) name ≡ true → matches_name (star ∷ tokens_of later.now) rest.now ≡ true)
    × (length later.now + 1 ≡ length tokens) × (length rest.now + 1 ≡ length name)
NameStepSays tokens name in_name.End = matches_name (tokens_of tokens) name ≡ true
NameStepSays tokens name in_name.Mismatch = matches_name (tokens_of tokens) name ≡ false

-- what the tokens that are left may take falls by the steps that were taken
abbrev pub PaysFor : List Token → List Token → Steps → Steps → Type 0
PaysFor tokens later old new =
    (new.count + tokens_work (tokens_of later) ≤ old.count + tokens_work (tokens_of tokens))
    × (tokens_work (tokens_of later) ≤ tokens_work (tokens_of tokens)) × (old.count ≤ new.count)

-- The tokens that are left pay for a step, and a mismatch takes one more.
abbrev pub NameStepTakes : List Token → NameStep → Steps → Steps → Type 0
NameStepTakes tokens (in_name.Star later) old new = PaysFor tokens later.now old new
NameStepTakes tokens (in_name.Byte later rest) old new = PaysFor tokens later.now old new
NameStepTakes tokens _ old new = CountsAtMost (tokens_work (tokens_of tokens) + 1) old new

-- the same of the elements of a glob and of a path
abbrev pub PathStepSays : List Element → List (Bor (List ℕ)) → PathStep → Type 0
PathStepSays glob path (in_path.Folders later) = (glob_of glob ≡ folders ∷ glob_of later.now) × (length later.now + 1 ≡ length glob)
    × (largest (glob_of later.now) ≤ largest (glob_of glob))
PathStepSays glob path (in_path.Name later) =
    (matches_path (glob_of glob) (names path) ≡ matches_path (glob_of later.now) (names (drop 1 path)))
    × (matches_path (folders ∷ glob_of glob) (names path) ≡ true →
    matches_path (folders ∷ glob_of later.now) (names (drop 1 path)) ≡ true)
    × (length later.now + 1 ≡ length glob) × (0 < length path) × (largest (glob_of later.now) ≤ largest (glob_of glob))
PathStepSays glob path in_path.End = matches_path (glob_of glob) (names path) ≡ true
PathStepSays glob path in_path.Mismatch = matches_path (glob_of glob) (names path) ≡ false
