-- What contracts see of a held pattern: its tree and its query.
use Rattle.std.specs.Prelude.{refl}
use Rattle.std.specs.Coded.{Coded, code_by, coded×}
use Rattle.cs_syntax.specs.Matching.{Tree}
use Rattle.cs_syntax.specs.TreeCode.{tree_code}
use Rattle.cs_trigram.specs.declared.queries.Query.{Query}
use Rattle.cs_trigram.specs.contracts.queries.Query.{the_row}

pub record Compiled : Type 0 where
  pub pattern : Tree
  pub query : Query

-- stored as the pair of its fields
abbrev pub compiled_code : Coded Compiled
compiled_code =
    code_by (Tree × Query) (coded× tree_code (the_row.coded)) (λ c. (c.pattern, c.query))
    (λ p. record { pattern = p.0; query = p.1 }) (λ _. refl)
