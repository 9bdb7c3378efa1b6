use Rattle.cs_tree.proofs.NormalizedLemmas.{normalized_either, either_normalized, normalized_from, normalized_stays, normalized_no_nul, normalized_short, normalized_accepted, normalized_anywhere}
use Rattle.cs_tree.proofs.laws.normalized_paths_are_clean.Goals as goal

pub returns : goal.returns
returns c = record {
  unchanged = λ path. (either_normalized path, normalized_either path);
  accepted = λ path. (
    λ h. (normalized_stays path h, normalized_no_nul path h, normalized_short path h),
    λ h. normalized_from path h.0 h.1 h.2,
  );
  normalized = λ path. (λ h folder. (normalized_accepted path h folder, normalized_stays path h folder), normalized_anywhere path);
}
