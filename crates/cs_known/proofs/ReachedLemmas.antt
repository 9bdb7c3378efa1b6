-- The file whose name is reached.
use Rattle.std.proofs.Common.{◌≡◌, ℕ, true, List, refl, subst, Some}
use Rattle.cs_tree.specs.declared.tree.Stamp.{Stamp}
use Rattle.cs_trigram.specs.declared.queries.Query.{Query}
use Rattle.cs_index.specs.OpenedParts.{Parts}
use Rattle.std.specs.Prelude.{Contains}
use Rattle.cs_lines.specs.declared.binary.BinaryFiles.{BinaryFiles}
use Rattle.cs_lines.specs.declared.form.ShowOptions.{ShowOptions}
use Rattle.cs_state.specs.FileKinds.{kept_of}
use Rattle.cs_state.specs.declared.file_kind.FileKind.{FileKind}
use Rattle.cs_known.specs.KnownFiles.{IsReached}
use Rattle.cs_known.specs.Skipped.{IsKnownAs, IsSkipped, prints_nothing}
use Rattle.cs_known.proofs.NameLemmas.{contains}

module _ (parts : Parts) (id : ℕ) (path : List ℕ) (stamp : Stamp) (kind : FileKind) (reached : IsReached parts id path stamp kind) where
  -- it is a file of the state
  pub reached_known : IsKnownAs parts path stamp (kept_of kind)
  reached_known =
      let named = reached.3 in
      (named.1, (named.0, subst (Contains parts.names) named.2 (contains parts.names id reached.0 reached.1)))

  -- it is skipped, if it prints nothing
  pub reached_skipped : (options : ShowOptions) (binaries : BinaryFiles) (query : Query) →
      prints_nothing options binaries query parts reached.0 (kept_of kind) ≡ true →
      IsSkipped options binaries query parts path (Some stamp)
  reached_skipped options binaries query silent = record {
    stamp = stamp;
    kept = kept_of kind;
    is_seen = refl;
    known = reached_known;
    silent = subst (λ n. prints_nothing options binaries query parts n (kept_of kind) ≡ true) reached.3.2 silent;
  }
