use Rattle.std.proofs.Common.{◌≡◌, ◌<◌, ◌+◌, ◌-◌, ◌++◌, ℕ, List, Result, length, take, drop, refl, sym, ap, subst, ◌∙◌, append-nil, append_assoc, arith}
use Rattle.std.specs.Result.{IsOkAnd}
use Rattle.std.proofs.Math.Seq.{take-add}
use Rattle.std.proofs.lemmas.List.{take_all}
use Rattle.std.proofs.lemmas.List.Elements.{All-drop, All-take}
use Rattle.cs_index.specs.declared.fault.IndexFault.{IndexFault}
use Rattle.cs_search.specs.Selections.{HasSelected}
use Rattle.cs_search.proofs.selection.Selection.read_all.Goals as goal

pub parts-init : goal.parts-init
parts-init g c = record {
  within = omega arith;
  read = λ bytes parts done modelled selected below. subst (λ (ids : List ℕ). HasSelected bytes parts ids c.args.self.now) (sym (append-nil done)) selected;
  same = refl;
  keeps = refl;
  size = refl;
  failed = refl;
}

-- the ids up to one offset, and on to the next
up_to : (ids : List ℕ) (from to : ℕ) → from < to → take to ids ≡ take from ids ++ take (to - from) (drop from ids)
up_to ids from to low =
    let size : to ≡ from + (to - from) = omega (arith, low) in
    ap (λ n. take n ids) size ∙ take-add from (to - from) ids

pub parts-preserved : goal.parts-preserved
parts-preserved g c =
    let i = c.parts.invariant in
    let e = c.in_ok-fault.ensures in
    let ids = c.args.ids.now in
    let from = c.parts.from in
    let to = c.min-to.result in
    record {
      within = omega (arith, c.min-to.ensures);
      read = λ bytes parts done modelled selected below.
          let Low = λ (id : ℕ). id < length parts.names in
          let part = take (to - from) (drop from ids) in
          let read = e.read bytes parts (done ++ take from ids) (i.keeps ∙ modelled) (i.read bytes parts done modelled selected below)
          (All-take Low (to - from) (drop from ids) (All-drop Low from ids below)) in
          subst (λ (all : List ℕ). HasSelected bytes parts all c.read_part.new.self)
          (append_assoc done (take from ids) part ∙ ap (λ (l : List ℕ). done ++ l) (sym (up_to ids from to (omega arith))))
          (subst (λ (answer : Result (Unit {0}) IndexFault). IsOkAnd answer
          (λ _. HasSelected bytes parts ((done ++ take from ids) ++ part) c.read_part.new.self)) c.in_default.is read);
      same = e.same ∙ i.same;
      keeps = e.store.0 ∙ i.keeps;
      size = e.store.1 ∙ i.size;
      failed = e.store.2 ∙ i.failed;
    }

pub returns-in-Err-clause-read : goal.returns-in-Err-clause-read
returns-in-Err-clause-read g c = λ bytes parts done modelled selected below.
    let i = c.parts.invariant in
    let ids = c.args.ids.now in
    let from = c.parts.from in
    let to = c.min-to.result in
    let Low = λ (id : ℕ). id < length parts.names in
    let read = c.in_ok-fault.ensures.read bytes parts (done ++ take from ids) (i.keeps ∙ modelled)
    (i.read bytes parts done modelled selected below)
    (All-take Low (to - from) (drop from ids) (All-drop Low from ids below)) in
    subst (λ (answer : Result (Unit {0}) IndexFault). IsOkAnd answer
    (λ _. HasSelected bytes parts ((done ++ take from ids) ++ take (to - from) (drop from ids)) c.read_part.new.self)) c.in-Err.is read

-- all ids were read
pub returns-clause-read : goal.returns-clause-read
returns-clause-read g c = λ bytes parts done modelled selected below.
    subst (λ (ids : List ℕ). HasSelected bytes parts (done ++ ids) c.parts.self) (take_all c.parts.from c.args.ids.now c.parts-test.false)
    (c.parts.invariant.read bytes parts done modelled selected below)
