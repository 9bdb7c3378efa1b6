use Rattle.std.proofs.Common.{map, sym, ap, ◌∙◌, string_bytes, ◌≡◌, true, Err}
use Rattle.cs_merge.proofs.Common.{are_paths, true≢false}
use Rattle.cs_merge.proofs.StorableLemmas.{least_stored}
use Rattle.cs_merge.proofs.merging.begin_least.Goals as goal

pub unreachable-requires : goal.unreachable-requires
unreachable-requires c =
    let valid : are_paths (map string_bytes c.deref.result.now) ≡ true =
    ap are_paths (ap (map string_bytes) c.deref.ensures.value ∙ c.in_ok-kept.ensures)
    ∙ least_stored (map string_bytes c.args.paths.now) c.requires in
    true≢false (sym valid ∙ c.new.ensures.bad_paths.0 (c.in-Err-BadPaths.is ∙ ap Err c.in-Err-BadPaths.field-0-is))
