-- What a state knows of a file that has a known stamp holds now.
use Rattle.std.proofs.Common.{◌≡◌, List, [], ◌∷◌, sym, subst, Some, inl, inr}
use Rattle.std.specs.List.{AllByRecursion}
use Rattle.std.specs.FinMap as map'
use Rattle.cs_index.specs.OpenedParts.{Parts, files_in}
use Rattle.cs_state.specs.Known.{Known}
use Rattle.cs_state.specs.StampedNames.{stamped}
use Rattle.cs_known.specs.Learned.{Run, ReadsAs, IsLearnedIn, ReadsAsBefore, View}

-- a file that has its known stamp reads now as what it is known as
pub known_reads : (runs : List Run) (parts : Parts) (one : Known) (now : View) → IsLearnedIn runs parts one →
    AllByRecursion (ReadsAsBefore now) runs → now.stamp one.name ≡ Some one.stamp →
    ReadsAs one.kept (map'.get (files_in parts) (stamped one)) (now.item one.name)
known_reads [] parts one now learned as_before at = absurd learned
known_reads (run ∷ runs) parts one now (inl here) as_before at =
    subst (ReadsAs one.kept (map'.get (files_in parts) (stamped one)))
    (sym (as_before.0 one.name one.stamp here.stamp here.old at)) here.read
known_reads (run ∷ runs) parts one now (inr later) as_before at = known_reads runs parts one now later as_before.1 at
