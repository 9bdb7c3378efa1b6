use Rattle.std.proofs.Common.{sym, ◌∙◌, [], ◌∷◌}
use Rattle.std.specs.Cmp.{both_ways as same_tests}
use Rattle.std.specs.Path.{slash}
use Rattle.cs_tree.specs.Cleaning.{is_normalized}
use Rattle.std.proofs.lemmas.Bool.{true≢false, false_from_ne_true}
use Rattle.cs_tree.proofs.NormalizedLemmas.{clean_stays, normalized_from, normalized_stays, normalized_no_nul, normalized_short, stays_clean}
use Rattle.cs_tree.proofs.paths.is_normalized.Goals as goal

pub returns-then-is_within_limits : goal.returns-then-is_within_limits
returns-then-is_within_limits c =
    let path = c.args.path.now in
    let whole = c.is_within_limits.ensures.0 c.if-is_within_limits.true in
    same_tests c.is_clean.result (is_normalized path)
    (λ h. normalized_from path (clean_stays path (sym c.is_clean.ensures ∙ h)) whole.0 whole.1)
    (λ h. c.is_clean.ensures ∙ stays_clean path (normalized_stays path h (slash ∷ [])))

pub returns-else-is_within_limits : goal.returns-else-is_within_limits
returns-else-is_within_limits c =
    let path = c.args.path.now in
    c.if-is_within_limits.false ∙ sym (false_from_ne_true (is_normalized path)
    (λ h. true≢false (sym (c.is_within_limits.ensures.1 (normalized_no_nul path h, normalized_short path h))
    ∙ c.if-is_within_limits.false)))
