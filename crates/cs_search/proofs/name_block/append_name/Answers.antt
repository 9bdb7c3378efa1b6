use Rattle.std.proofs.Common.{◌≡◌, ◌++◌, ◌∷◌, [], ℕ, List, Result, get_or, ap, sym, subst, ◌∙◌}
use Rattle.std.specs.Result.{IsOkAnd}
use Rattle.cs_index.specs.declared.fault.IndexFault.{IndexFault}
use Rattle.cs_index.specs.NameReading.{HasName}
use Rattle.cs_match.specs.Lines.{newline}
use Rattle.cs_match.specs.Skipping.{AreWholeLines}
use Rattle.cs_match.proofs.WholeLineLemmas.{whole_terminated}
use Rattle.cs_search.specs.Selections.{IsBlockOf}
use Rattle.cs_search.proofs.NameBlockLemmas.{block_more}
use Rattle.cs_search.proofs.SelectionLemmas.{name_read}
use Rattle.cs_search.proofs.name_block.append_name.Goals as goal

pub returns-in_ok-push-in-Ok-clause-whole : goal.returns-in_ok-push-in-Ok-clause-whole
returns-in_ok-push-in-Ok-clause-whole g c =
    subst AreWholeLines (sym c.in_ok-push-in-Ok.ensures.items) (whole_terminated c.extend_from_slice.new.self.items)

pub returns-in_ok-push-in-Ok-clause-read : goal.returns-in_ok-push-in-Ok-clause-read
returns-in_ok-push-in-Ok-clause-read g c = λ bytes parts names modelled reads block low.
    let name : List ℕ = get_or parts.names c.args.id [] in
    let old : List ℕ = c.args.block.now.items in
    let read = c.in_ok-fault.ensures.name bytes modelled parts reads in
    let there = subst (λ (answer : Result (Unit {0}) IndexFault). IsOkAnd answer (λ _. HasName c.read.new.self name))
    c.in_default.is (name_read parts.names c.args.id c.in_ok-fault.field-0 c.read.new.self low read.0) in
    let same : c.in-Ok.name.now ≡ name = c.in-Ok.ensures name there in (
      read.1,
      subst (IsBlockOf (names ++ name ∷ []))
          (sym (c.in_ok-push-in-Ok.ensures.items ∙ ap (λ (b : List ℕ). b ++ newline ∷ [])
          (c.in_ok-extend_from_slice-in-Ok.ensures.items ∙ ap (λ (n : List ℕ). old ++ n) (c.as_bytes.ensures.value ∙ same))))
          (block_more names old name block there.utf8),
    )

-- an id of a name is read
pub returns-in-Err-clause-read : goal.returns-in-Err-clause-read
returns-in-Err-clause-read g c = λ bytes parts names modelled reads block low.
    let name : List ℕ = get_or parts.names c.args.id [] in
    let read = c.in_ok-fault.ensures.name bytes modelled parts reads in
    subst (λ (answer : Result (Unit {0}) IndexFault). IsOkAnd answer (λ _. HasName c.read.new.self name)) c.in-Err.is
    (name_read parts.names c.args.id c.in_ok-fault.field-0 c.read.new.self low read.0)

pub returns-in-Err-name-clause-read : goal.returns-in-Err-name-clause-read
returns-in-Err-name-clause-read g c = λ bytes parts names modelled reads block low.
    let name : List ℕ = get_or parts.names c.args.id [] in
    let read = c.in_ok-fault.ensures.name bytes modelled parts reads in
    let there = subst (λ (answer : Result (Unit {0}) IndexFault). IsOkAnd answer (λ _. HasName c.read.new.self name))
    c.in_default.is (name_read parts.names c.args.id c.in_ok-fault.field-0 c.read.new.self low read.0) in
    c.in-Err-name.ensures name there
