use mir.Val.{to_z, of_z}
use Rattle.std.proofs.Common.{Bor, List, ℕ, Option, Some, false, Ok, Err, length, refl, ap, subst, w32, ◌∙◌}
use Rattle.std.proofs.lemmas.Int.{to_z-of_z}
use Rattle.cs_tree.specs.StreamModels.{SourceModel, source_model}
use Rattle.cs_trigram.specs.Text.{limits, skip}
use Rattle.cs_trigram.specs.Trigram.{tri, set_of_numbers}
use Rattle.cs_trigram.specs.Scans.{IsScanOf}
use Rattle.cs_trigram.specs.declared.scan.Scan.{Scan}
use Rattle.codesearch_c.specs.Building.{IsAddition, skipped}
use Rattle.codesearch_c.proofs.BuildingLemmas.{rejection, left_out}
use Rattle.codesearch_c.proofs.indexing.add_code.Goals as goal

pub returns-in-Err-add : goal.returns-in-Err-add
returns-in-Err-add c =
    let old = c.args.held.now.builder in
    let e = c.in-Err-add.ensures in
    let code = c.build_code.result in
    subst (λ (name : List ℕ). IsAddition name c.args.text.now old c.add.new.self (to_z w32 (of_z w32 code))) c.in-Ok.ensures.cases.0
    (rejection c.in-Ok.name.now c.args.text.now old c.add.new.self c.in-Err-add.fault (to_z w32 (of_z w32 code)) e.err
    (to_z-of_z w32 code (record { sfits = c.build_code.type_inv }) ∙ c.build_code.ensures)
    (λ is. e.bad_name.0 (ap Err is)) (λ is. e.out_of_order.0 (ap Err is)) (λ is. e.too_large.0 (ap Err is)) e.other)

pub returns-in-Ok-Skip : goal.returns-in-Ok-Skip
returns-in-Ok-Skip c =
    let bytes = c.args.text.now in
    let code = c.reason_code.result in
    let reason = c.in-Ok-Skip.reason in
    let outcome = subst (λ (model : Option SourceModel). IsScanOf limits model (Ok c.in-Ok-Skip.field-0)
    (λ trigrams. set_of_numbers trigrams.now)) c.new-source.ensures.model c.in-Ok-Skip.ensures.model in
    let left = subst (λ (answer : Scan (Bor (List ℕ))). IsScanOf limits (Some (source_model bytes false)) (Ok answer)
    (λ trigrams. set_of_numbers trigrams.now)) c.in-Ok-Skip.field-0-is outcome in
    skipped reason (left_out (skip limits bytes) reason (tri bytes) (length bytes) left)
    (to_z-of_z w32 code (record { sfits = c.reason_code.type_inv }) ∙ c.reason_code.ensures) refl
