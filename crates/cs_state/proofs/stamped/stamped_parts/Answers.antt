use Rattle.std.proofs.Common.{◌≡◌, ◌∙◌, ◌++◌, ◌∷◌, [], None, Some, lit<, sym}
use Rattle.std.proofs.lemmas.Str.Pattern.{split_parts}
use Rattle.cs_state.specs.StampedNames.{kind_byte}
use Rattle.cs_state.proofs.NumberLemmas.{any_none}
use Rattle.cs_state.proofs.StampedLemmas.{mark_unique, no_mark, unmarked_from}
use Rattle.cs_state.proofs.stamped.stamped_parts.Goals as goal

pub returns-in_err-path-clause-none : goal.returns-in_err-path-clause-none
returns-in_err-path-clause-none c =
    let none = split_parts 1 c.args.name.now None c.in_err-path.ensures.cases (lit< tt) in
    any_none c.from_residual.result (λ path text kept unmarked. no_mark c.args.name.now path text kept none)

pub returns-in_err-text-clause-none : goal.returns-in_err-text-clause-none
returns-in_err-text-clause-none c =
    let parts = split_parts 1 c.args.name.now (Some (c.in_ok-path.path, c.in_ok-path.rest)) c.in_ok-path.ensures.cases (lit< tt) in
    any_none c.from_residual-in_err-text.result (λ path text kept unmarked is.
    c.in_err-text.ensures.none text kept
    (c.as_bytes.ensures.value ∙ (mark_unique c.in_ok-path.path.now path c.in_ok-path.rest.now (47 ∷ (text ++ kind_byte kept ∷ []))
    (unmarked_from c.in_ok-path.path.now parts.1) unmarked (sym parts.0 ∙ is)).1))

pub returns-clause-path : goal.returns-clause-path
returns-clause-path c =
    let parts = split_parts 1 c.args.name.now (Some (c.in_ok-path.path, c.in_ok-path.rest)) c.in_ok-path.ensures.cases (lit< tt) in
    unmarked_from c.in_ok-path.path.now parts.1
