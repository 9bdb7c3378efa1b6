use mir.Val.{to_z, of_z}
use Rattle.std.proofs.Common.{Result, IfOk, refl, ap, subst, ◌∙◌, w32}
use Rattle.std.proofs.lemmas.Int.{to_z-of_z}
use Rattle.cs_trigram.specs.declared.queries.Query.{Query}
use Rattle.cs_index.specs.Answerable.{is_answerable}
use Rattle.cs_index.specs.Postings.{IsListFault}
use Rattle.cs_index.specs.OpenedParts.{Parts}
use Rattle.cs_index.specs.declared.fault.IndexFault.{IndexFault}
use Rattle.codesearch_c.specs.Compiled.{Compiled}
use Rattle.codesearch_c.specs.Patterns.{IsCandidatesCode, failed}
use Rattle.codesearch_c.proofs.slot.HeldPattern.candidates_code.Goals as goal

pub returns-in-Err-candidates : goal.returns-in-Err-candidates
returns-in-Err-candidates c =
    let query = ap (λ (p : Compiled). p.query) c.self.view_is in
    let damage = subst (λ (q : Query). IsListFault (is_answerable c.in-Ok.index q) c.in-Err-candidates.fault) query
    c.in-Err-candidates.ensures.fault in
    subst (λ (r : Result Parts IndexFault). IfOk r
    (λ parts. IsCandidatesCode parts c.args.self.now.query c.args.ids.now c.args.ids.now c.args.count.now
    c.args.count.now (to_z w32 (of_z w32 c.index_code.result)))) c.in-Ok.ensures
    (failed c.in-Err-candidates.fault damage
    (to_z-of_z w32 c.index_code.result (record { sfits = c.index_code.type_inv }) ∙ c.index_code.ensures) refl refl)
