use Rattle.std.proofs.Common.{◌≡◌, ℕ, ◌<◌, false, take, map, get_or, [], is_some, string_bytes}
use Rattle.cs_cindex.proofs.Common.{clean_path, clean_fault}
use Rattle.cs_cindex.proofs.walked.clean_all.Given as goal

-- the paths so far are cleaned, without an error
abbrev pub invariant-paths : goal.invariant-paths
invariant-paths l = record {
  cleaned_are : map string_bytes l.given.items ≡ map (λ text. clean_path l.folder text) (map string_bytes (take l.path_index l.paths));
  good : (k : ℕ) → k < l.path_index → is_some (clean_fault l.folder (get_or (map string_bytes l.paths) k [])) ≡ false;
}
