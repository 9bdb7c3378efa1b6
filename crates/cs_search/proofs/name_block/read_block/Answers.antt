use Rattle.std.proofs.Common.{◌<◌, ◌++◌, ◌∷◌, [], ℕ, List, Result, length, take, get_or, refl, sym, ap, subst, ◌∙◌}
use Rattle.std.specs.Prelude.{IfOk}
use Rattle.std.specs.Result.{IsOkAnd}
use Rattle.std.proofs.lemmas.List.{take_all, take_more}
use Rattle.std.proofs.lemmas.List.Elements.{All-get_or}
use Rattle.cs_index.specs.declared.fault.IndexFault.{IndexFault}
use Rattle.cs_index.specs.NameReading.{ReadsNames}
use Rattle.cs_match.specs.Skipping.{AreWholeLines}
use Rattle.cs_search.specs.IndexSearch.{names_at}
use Rattle.cs_search.specs.Selections.{IsBlockOf}
use Rattle.cs_search.proofs.NameBlockLemmas.{block_none, names_more}
use Rattle.cs_search.proofs.name_block.read_block.Goals as goal

pub ids-init : goal.ids-init
unfolding AreWholeLines
ids-init g c = record {
  whole = subst AreWholeLines (sym c.in_ok-block.ensures.items) tt;
  read = λ bytes parts modelled reads below.
      (reads, subst (IsBlockOf (names_at parts.names [])) (sym c.in_ok-block.ensures.items) (block_none parts.names));
  keeps = refl;
  size = refl;
  failed = refl;
}

pub ids-preserved : goal.ids-preserved
ids-preserved g c =
    let i = c.ids.invariant in
    let e = c.in_ok-fault.ensures in
    let ids = c.args.ids.now in
    let at = c.ids.id-index in
    let block : List ℕ = c.append_name.new.block.items in
    record {
      whole = subst (λ (answer : Result (Unit {0}) IndexFault). IfOk answer (λ _. AreWholeLines block)) c.in_default.is e.whole;
      read = λ bytes parts modelled reads below.
          let low = All-get_or (λ id. id < length parts.names) ids at 0 c.ids-test.true below in
          let had = i.read bytes parts modelled reads below in
          let names = names_at parts.names (take at ids) in
          let name = get_or parts.names (get_or ids at 0) [] in
          let has = subst (λ (answer : Result (Unit {0}) IndexFault). IsOkAnd answer
          (λ _. ReadsNames bytes parts c.append_name.new.reader × IsBlockOf (names ++ name ∷ []) block)) c.in_default.is
          (e.read bytes parts names (i.keeps ∙ modelled) had.0 had.1 low) in (
            has.0,
            subst (λ (ns : List (List ℕ)). IsBlockOf ns block)
                (sym (ap (names_at parts.names) (take_more ids at 0 c.ids-test.true)
                ∙ names_more parts.names (take at ids) (get_or ids at 0) low)) has.1,
          );
      keeps = e.store.0 ∙ i.keeps;
      size = e.store.1 ∙ i.size;
      failed = e.store.2 ∙ i.failed;
    }

-- each name is read
pub returns-in-Err-clause-read : goal.returns-in-Err-clause-read
returns-in-Err-clause-read g c = λ bytes parts modelled reads below.
    let i = c.ids.invariant in
    let ids = c.args.ids.now in
    let at = c.ids.id-index in
    let had = i.read bytes parts modelled reads below in
    let names = names_at parts.names (take at ids) in
    let name = get_or parts.names (get_or ids at 0) [] in
    subst (λ (answer : Result (Unit {0}) IndexFault). IsOkAnd answer
    (λ _. ReadsNames bytes parts c.append_name.new.reader × IsBlockOf (names ++ name ∷ []) c.append_name.new.block.items)) c.in-Err.is
    (c.in_ok-fault.ensures.read bytes parts names (i.keeps ∙ modelled) had.0 had.1
    (All-get_or (λ id. id < length parts.names) ids at 0 c.ids-test.true below))

-- all names were read
pub returns-clause-read : goal.returns-clause-read
returns-clause-read g c = λ bytes parts modelled reads below.
    let has = c.ids.invariant.read bytes parts modelled reads below in (
      has.0,
      subst (λ (ids : List ℕ). IsBlockOf (names_at parts.names ids) c.ids.block.items)
          (take_all c.ids.id-index c.args.ids.now c.ids-test.false) has.1,
    )
