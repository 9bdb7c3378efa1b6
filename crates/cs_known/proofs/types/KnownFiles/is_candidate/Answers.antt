use Rattle.std.proofs.Common.{◌≡◌, ◌∙◌, ap, rules, subst, sym}
use Rattle.cs_trigram.specs.Trigram.{Ascends, has}
use Rattle.cs_known.proofs.NameLemmas.{found_is}
use Rattle.cs_known.proofs.types.KnownFiles.is_candidate.Goals as goal

pub returns : goal.returns
returns g c = λ up.
    let id = c.args.self.now.id in
    let items : c.deref.result.now ≡ c.args.self.now.candidates.items = search rules in
    c.is_ok.ensures.value
    ∙ found_is c.deref.result.now id c.binary_search.result (subst Ascends (sym items) up) c.binary_search.ensures.position
    ∙ ap (λ xs. has xs id) items
