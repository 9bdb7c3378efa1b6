use Rattle.std.proofs.Common.{List, ℕ, refl, subst, ◌∙◌, w32}
use Rattle.std.proofs.lemmas.Int.{to_z-of_z}
use Rattle.cs_syntax.specs.ParseErrors.{IsParseError}
use Rattle.codesearch_c.specs.Patterns.{foreign, rejected}
use Rattle.codesearch_c.proofs.matching.parsed.Goals as goal

pub returns-in_default-clause-refused : goal.returns-in_default-clause-refused
returns-in_default-clause-refused c = foreign refl refl c.in_default.ensures.cases.0

pub returns-in-Err-clause-refused : goal.returns-in-Err-clause-refused
returns-in-Err-clause-refused c =
    rejected c.in-Err.error (subst (λ (t : List ℕ). IsParseError t c.args.fold c.in-Err.error) c.in-Ok.ensures.cases.0
    c.in-Err.ensures.rejected) (to_z-of_z w32 c.pattern_code.result (record { sfits = c.pattern_code.type_inv })
    ∙ c.pattern_code.ensures) refl
