-- What the files of a state are known for.
use Rattle.std.proofs.Common.{◌≡◌, ◌∙◌, ◌++◌, ℕ, false, true, List, Option, None, Some, ap, subst, sym}
use Rattle.std.specs.Prelude.{IfOk, Result, Ok, Err}
use Rattle.std.specs.Str.Pattern.{FindsTextPrefix, StripsPrefix}
use Rattle.cs_tree.specs.declared.tree.Stamp.{Stamp}
use Rattle.cs_trigram.specs.declared.queries.Query.{Query}
use Rattle.cs_lines.specs.declared.binary.BinaryFiles.{BinaryFiles}
use Rattle.cs_lines.specs.declared.form.ShowOptions.{ShowOptions}
use Rattle.cs_index.specs.OpenedParts.{Parts}
use Rattle.cs_project.specs.Knowledge.{HoldsAsBefore, SkipsNothingShown}
use Rattle.cs_project.specs.Searched.{binary_as, item_groups}
use Rattle.cs_known.specs.KnownFiles.{AreOptions, IsFound, ReadsParts}
use Rattle.cs_known.specs.Skipped.{IsSkipped}
use Rattle.cs_known.specs.Unprinted.{IsSkippedBelow, SkippedPathsPrintNothing}
use Rattle.cs_known.specs.declared.types.KnownFiles.{KnownFiles}
use Rattle.cs_known.specs.declared.types.FileLookup.{FileLookup}
use Rattle.cs_known.specs.declared.types.FileLookup.TheVariants.{Skipped}
use Rattle.cs_learned.specs.KnownProjects.{IsFoundIn, IsKnownFor, KeepsFiles}

pub stripped : (path root name : List ℕ) → StripsPrefix (FindsTextPrefix root) path name → path ≡ root ++ name
stripped path root name strips = strips.1.1 ∙ ap (λ r. root ++ r) (sym strips.2)

module _ {S : Type 0} (model : S → Option (List ℕ)) where
  -- what is skipped prints nothing
  pub skips_nothing_shown : (root : List ℕ) (files : Option (KnownFiles S)) → SkippedPathsPrintNothing →
      (path name : List ℕ) (stamp : Stamp) → path ≡ root ++ name → IsFoundIn model files name stamp Skipped →
      SkipsNothingShown (IsKnownFor model root files) path (Some stamp) true
  skips_nothing_shown root None law path name stamp below found tree known is_stamp is_true printed = cc
  skips_nothing_shown root (Some files) law path name stamp below found tree known is_stamp is_true printed =
      let binaries = binary_as tree.binary false in
      let skipped = found tree.options binaries known.query known.parts known.options known.reads in
      let at : IsSkippedBelow root tree.options binaries known.query known.parts path (tree.stamps path) =
      (name, below, subst (λ seen. IsSkipped tree.options binaries known.query known.parts name seen) (sym is_stamp) skipped) in
      let shown = law tree.options binaries known.search tree.finding known.query known.query_of known.runs known.parts root
      tree.items tree.stamps known.holds path at in
      ap (λ item. item_groups tree.options tree.finding binaries printed item) shown.1 ∙ shown.2 printed

  -- they are known for the same after a call
  pub known_as_before : (root : List ℕ) (old new : Option (KnownFiles S)) → KeepsFiles model old new →
      HoldsAsBefore (IsKnownFor model root old) (IsKnownFor model root new)
  known_as_before root old None keeps tree known = tt
  known_as_before root None (Some new) keeps tree known = cc
  known_as_before root (Some old) (Some new) keeps tree known = record {
    search = known.search;
    query = known.query;
    parts = known.parts;
    runs = known.runs;
    options = subst (AreOptions tree.options (binary_as tree.binary false)) (sym keeps.1) known.options;
    reads = keeps.0 known.query known.parts known.reads;
    query_of = known.query_of;
    holds = known.holds;
  }

  -- what is found in the files of a state
  pub found_in : {E : Type 0} (files : Option (KnownFiles S)) (known : KnownFiles S) (name : List ℕ) (stamp : Stamp)
      (result : Result FileLookup E) → files ≡ Some known →
      ((options : ShowOptions) (binaries : BinaryFiles) (query : Query) (parts : Parts) → AreOptions options binaries known.options →
      ReadsParts model query parts known → IfOk result (IsFound options binaries query parts name stamp)) →
      IfOk result (IsFoundIn model files name stamp)
  found_in files known name stamp (Err fault) is found = tt
  found_in files known name stamp (Ok lookup) is found =
      subst (λ f. IsFoundIn model f name stamp lookup) (sym is) found
