-- What a state knows, however far its file is read.
use Rattle.std.proofs.Common.{◌≡◌, ℕ, false, List, Option, None, Some, subst, sym}
use Rattle.std.specs.Prelude.{IfOk, IfSome, Result, Ok, Err, string_bytes}
use Rattle.cs_project.specs.Knowledge.{SearchedTree}
use Rattle.cs_project.specs.Searched.{binary_as}
use Rattle.cs_known.specs.KnownFiles.{AreOptions, ReadsParts}
use Rattle.cs_known.specs.declared.types.KnownFiles.{KnownFiles}
use Rattle.cs_learned.specs.ClosedStates.{IsPreparedFor, IsStillKnown, IsUnread}
use Rattle.cs_learned.specs.KnownProjects.{AreKnownFor, IsKnownFor, KeepsFiles}
use Rattle.cs_learned.specs.declared.closed_state.ClosedState.{ClosedState}
use Rattle.cs_learned.specs.declared.closed_state.PreparedState.{PreparedState}
use Rattle.cs_learned.specs.declared.known_project.KnownProject.{KnownProject}
use Rattle.cs_learned.proofs.KnownProjectLemmas.{known_as_before}

module _ {S B E : Type 0} (model : S → Option (List ℕ)) (index_model : B → Option (List ℕ)) where
  -- the files of an opened state are known for what asked for them
  pub opened_for : (root : List ℕ) (tree : SearchedTree) (prepared : PreparedState S) (left : IsPreparedFor model root tree prepared)
      (found : Result (Option (KnownFiles B)) E) →
      IfOk found (λ f. IfSome f (ReadsParts index_model prepared.query left.0.parts)) →
      IfOk found (λ f. IfSome f (λ files. files.options ≡ prepared.options)) →
      IfOk found (λ f. IfSome f (AreKnownFor index_model root tree))
  opened_for root tree prepared left (Err fault) reads options = tt
  opened_for root tree prepared left (Ok None) reads options = tt
  opened_for root tree prepared left (Ok (Some files)) reads options = record {
    search = left.1.0;
    query = prepared.query;
    parts = left.0.parts;
    runs = left.0.runs;
    options = subst (AreOptions tree.options (binary_as tree.binary false)) (sym options) left.1.2;
    reads = reads;
    query_of = left.1.1;
    holds = left.0.holds;
  }

-- of an option that is there
pub some_in : {A : Type 0} (P : A → Type 0) (found : Option A) (one : A) → found ≡ Some one → IfSome found P → P one
some_in P found one is has = subst (λ f. IfSome f P) is has

pub none_in : {A : Type 0} (P : A → Type 0) (found : Option A) → found ≡ None → IfSome found P
none_in P found is = subst (λ f. IfSome f P) (sym is) tt

module _ {S B : Type 0} (model : S → Option (List ℕ)) (index_model : B → Option (List ℕ))
    (closed : Option (ClosedState S)) (prepared : Option (PreparedState S)) (tree : SearchedTree) where
  -- the same files below the same folder
  pub still_known : (old new : KnownProject B) → new ≡ old → IsUnread model (string_bytes old.root) closed prepared tree →
      IsKnownFor index_model (string_bytes old.root) old.files tree →
      IsStillKnown model index_model (string_bytes new.root) closed prepared new.files tree
  still_known old new is unread known =
      subst (λ k. IsStillKnown model index_model (string_bytes k.root) closed prepared k.files tree) (sym is) (unread, known)

  -- a call that keeps the files
  pub still_kept : (old new : KnownProject B) → new.root ≡ old.root → KeepsFiles index_model old.files new.files →
      IsStillKnown model index_model (string_bytes old.root) closed prepared old.files tree →
      IsStillKnown model index_model (string_bytes new.root) closed prepared new.files tree
  still_kept old new same keeps held =
      subst (λ r. IsStillKnown model index_model (string_bytes r) closed prepared new.files tree) (sym same)
      (held.0, known_as_before index_model (string_bytes old.root) old.files new.files keeps tree held.1)
