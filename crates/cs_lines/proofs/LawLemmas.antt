-- Texts one after another.
use Rattle.std.proofs.Common.{◌≡◌, ℕ, true, List, [], ◌∷◌, ◌++◌, nat_lt, refl, sym, ap, ◌∙◌, append_assoc, append-nil}
use Rattle.cs_lines.specs.Findings.{Finding}
use Rattle.cs_lines.specs.Shown.{count_of, following, has_groups, joined, line_groups, text_rows}
use Rattle.cs_lines.specs.declared.form.ShowOptions.{ShowOptions}
use Rattle.cs_lines.proofs.MarkLemmas.{rows_if_marked}
use Rattle.cs_lines.proofs.TextLemmas.{has_by}

pub printed_if_marked : (options : ShowOptions) (finding : Finding) (name text : List ℕ) →
    has_groups (line_groups options finding name (text_rows options finding text)) ≡ nat_lt 0 (count_of options finding text)
printed_if_marked options finding name text =
    has_by options finding name (text_rows options finding text) ∙ rows_if_marked options finding text

pub joined_follow : (between : List ℕ) (groups more : List (List ℕ)) →
    joined between (groups ++ more) ≡ joined between groups ++ following between (has_groups groups) more
joined_follow between [] [] = refl
joined_follow between [] (next ∷ more) = refl
joined_follow between (group ∷ []) [] = sym (append-nil group)
joined_follow between (group ∷ []) (next ∷ more) = refl
joined_follow between (group ∷ next ∷ groups) more =
    let rest = joined between (next ∷ groups) in
    let end = following between true more in
    ap (λ r. group ++ (between ++ r)) (joined_follow between (next ∷ groups) more)
    ∙ ap (λ r. group ++ r) (sym (append_assoc between rest end))
    ∙ sym (append_assoc group (between ++ rest) end)
