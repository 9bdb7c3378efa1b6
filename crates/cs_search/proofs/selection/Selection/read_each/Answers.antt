use Rattle.std.proofs.Common.{◌<◌, ◌++◌, ◌∷◌, [], ℕ, List, Result, length, take, get_or, refl, sym, ap, subst, ◌∙◌, append-nil, append_assoc}
use Rattle.std.specs.Result.{IsOkAnd}
use Rattle.std.proofs.lemmas.List.{take_all, take_more}
use Rattle.std.proofs.lemmas.List.Elements.{All-get_or}
use Rattle.cs_index.specs.declared.fault.IndexFault.{IndexFault}
use Rattle.cs_search.specs.Selections.{HasSelected}
use Rattle.cs_search.proofs.selection.Selection.read_each.Goals as goal

pub ids-init : goal.ids-init
ids-init g c = record {
  read = λ bytes parts done modelled selected below. subst (λ (ids : List ℕ). HasSelected bytes parts ids c.args.self.now) (sym (append-nil done)) selected;
  same = refl;
  keeps = refl;
  size = refl;
  failed = refl;
}

pub ids-preserved : goal.ids-preserved
ids-preserved g c =
    let i = c.ids.invariant in
    let e = c.in_ok-fault.ensures in
    let ids = c.args.ids.now in
    let at = c.ids.id-index in
    record {
      read = λ bytes parts done modelled selected below.
          let read = e.read bytes parts (done ++ take at ids) (i.keeps ∙ modelled) (i.read bytes parts done modelled selected below)
          (All-get_or (λ id. id < length parts.names) ids at 0 c.ids-test.true below) in
          subst (λ (all : List ℕ). HasSelected bytes parts all c.read.new.self)
          (append_assoc done (take at ids) (get_or ids at 0 ∷ []) ∙ ap (λ (l : List ℕ). done ++ l) (sym (take_more ids at 0 c.ids-test.true)))
          (subst (λ (answer : Result (Unit {0}) IndexFault). IsOkAnd answer
          (λ _. HasSelected bytes parts ((done ++ take at ids) ++ get_or ids at 0 ∷ []) c.read.new.self)) c.in_default.is read);
      same = e.same ∙ i.same;
      keeps = e.store.0 ∙ i.keeps;
      size = e.store.1 ∙ i.size;
      failed = e.store.2 ∙ i.failed;
    }

-- each id is read
pub returns-in-Err-clause-read : goal.returns-in-Err-clause-read
returns-in-Err-clause-read g c = λ bytes parts done modelled selected below.
    let i = c.ids.invariant in
    let ids = c.args.ids.now in
    let at = c.ids.id-index in
    let read = c.in_ok-fault.ensures.read bytes parts (done ++ take at ids) (i.keeps ∙ modelled)
    (i.read bytes parts done modelled selected below)
    (All-get_or (λ id. id < length parts.names) ids at 0 c.ids-test.true below) in
    subst (λ (answer : Result (Unit {0}) IndexFault). IsOkAnd answer
    (λ _. HasSelected bytes parts ((done ++ take at ids) ++ get_or ids at 0 ∷ []) c.read.new.self)) c.in-Err.is read

-- all ids were read
pub returns-clause-read : goal.returns-clause-read
returns-clause-read g c = λ bytes parts done modelled selected below.
    subst (λ (ids : List ℕ). HasSelected bytes parts (done ++ ids) c.ids.self) (take_all c.ids.id-index c.args.ids.now c.ids-test.false)
    (c.ids.invariant.read bytes parts done modelled selected below)
