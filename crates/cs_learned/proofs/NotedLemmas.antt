-- What is noted of the files of a project.
use Rattle.std.proofs.Common.{◌≡◌, ◌∙◌, ◌++◌, ◌<◌, ℕ, Bool, true, false, if◌then◌else◌, nat_lt, List, [], ◌∷◌, Option, Some, ap, arith, refl, subst, sym}
use Rattle.std.specs.Prelude.{◌≢◌, string_bytes}
use Rattle.std.specs.List.{All, AllByRecursion, list_all}
use Rattle.std.proofs.lemmas.List.Elements.{All-push}
use Rattle.std.proofs.lemmas.Bool.{and_from}
use Rattle.std.proofs.lemmas.Bool.Decides.{nat_tests}
use Rattle.cs_tree.specs.declared.tree.Stamp.{Stamp}
use Rattle.cs_project.specs.Noted.{AreSeen, NotesNothing, NotesStamp}
use Rattle.cs_state.specs.StampedNames.{IsLearnable}
use Rattle.cs_known.specs.declared.types.SeenFile.{SeenFile}
use Rattle.cs_learned.specs.Learnable.{IsLearnableName, IsToLearn}
use Rattle.cs_learned.specs.NotedFiles.{AreSeenBelow, noted_below, noted_in}
use Rattle.cs_learned.specs.declared.known_project.KnownProject.{KnownProject}

-- all that is noted was seen
pub seen_below : (root : List ℕ) (files : List SeenFile) → AreSeenBelow root (noted_below root files) files
seen_below root [] items stamps seen = tt
seen_below root (file ∷ files) items stamps seen = (seen.0, seen_below root files items stamps seen.1)

-- a name that can be learned
unmarked : (name : List ℕ) → AllByRecursion (λ b. 0 < b) name → AllByRecursion (λ b. b ≢ 1) name → list_all (λ b. nat_lt 1 b) name ≡ true
unmarked [] some other = refl
unmarked (b ∷ name) some other = and_from _ _ (above b some.0 other.0) (unmarked name some.1 other.1)
  where
    above : (b : ℕ) → 0 < b → b ≢ 1 → nat_lt 1 b ≡ true
    above b some other = grind (arith, nat_tests)

pub learnable_name : (name : List ℕ) → IsLearnable name → IsLearnableName name
learnable_name name is = (is.absolute, unmarked name is.string.1 is.unmarked, is.short)

-- a file that is noted, if there is room for it
pub noted_to_learn : (ok : Bool) (old new : List SeenFile) (file : SeenFile) → new ≡ (if ok then old ++ file ∷ [] else old) →
    All IsToLearn old → IsToLearn file → All IsToLearn new
noted_to_learn true old new file is all one = subst (All IsToLearn) (sym is) (All-push IsToLearn old file all one)
noted_to_learn false old new file is all one = subst (All IsToLearn) (sym is) all

-- ---- calls

module _ {S : Type 0} where
  noted_same : (old new : KnownProject S) → new.root ≡ old.root → new.unknown ≡ old.unknown → noted_in new ≡ noted_in old
  noted_same old new root unknown = ap (λ r. noted_below (string_bytes r) new.unknown.items) root
      ∙ ap (λ u. noted_below (string_bytes old.root) u.items) unknown

  pub notes_none : (old new : KnownProject S) → new ≡ old → NotesNothing (noted_in old) (noted_in new)
  notes_none old new same stamps seen = subst (λ k. AreSeen stamps (noted_in k)) (sym same) seen

  -- a call that notes nothing, and then one that may note a file
  pub notes_after : (path name : List ℕ) (stamp : Option Stamp) (one : Stamp) (old mid new : KnownProject S) →
      path ≡ string_bytes old.root ++ name → stamp ≡ Some one → mid.root ≡ old.root → mid.unknown ≡ old.unknown →
      NotesStamp (string_bytes mid.root ++ name) (Some one) (noted_in mid) (noted_in new) →
      NotesStamp path stamp (noted_in old) (noted_in new)
  notes_after path name stamp one old mid new is some root unknown notes stamps at seen =
      notes stamps (ap (λ r. stamps (string_bytes r ++ name)) root ∙ ap stamps (sym is) ∙ at ∙ some)
      (subst (AreSeen stamps) (sym (noted_same old mid root unknown)) seen)
