use Rattle.std.proofs.Common.{Ok, Err, refl, subst}
use Rattle.cs_index.specs.StoredOpening.{IsSplitAt}
use Rattle.cs_index.proofs.stored.SectionReads.{not_opened, if_some_map, model_decodes, if_some_both}
use Rattle.cs_index.proofs.reading.stored.StoredIndex.open.Goals as goal

pub returns-in-Ok-clause-opens : goal.returns-in-Ok-clause-opens
returns-in-Ok-clause-opens g c =
    if_some_map _ _ (g.S.Store.model c.args.store.now)
    (λ bytes both. let slices = subst (IsSplitAt bytes) c.in-Ok.is both.0.0 in both.1 both.0.1 slices.1 slices.0)
    (if_some_both _ _ (g.S.Store.model c.args.store.now) _ c.in_ok-starts.ensures.store.0
    (if_some_both _ _ (g.S.Store.model c.args.store.now) _ refl c.in_ok-starts.ensures.slices c.in_ok-starts.ensures.bytes)
    c.read_stored.ensures.opens)

pub returns-in-Err-clause-opens : goal.returns-in-Err-clause-opens
returns-in-Err-clause-opens g c =
    if_some_map _ _ (g.S.Store.model c.args.store.now)
    (λ bytes is. not_opened bytes c.in-Err.fault (subst (IsSplitAt bytes) c.in-Err.is is))
    c.in_ok-starts.ensures.slices

pub returns-in-Ok-clause-decodes : goal.returns-in-Ok-clause-decodes
returns-in-Ok-clause-decodes g c =
    model_decodes (g.S.Store.model c.args.store.now) c.read_stored.result c.in_ok-starts.ensures.bytes (returns-in-Ok-clause-opens g c)

pub returns-in-Err-clause-decodes : goal.returns-in-Err-clause-decodes
returns-in-Err-clause-decodes g c =
    model_decodes (g.S.Store.model c.args.store.now) (Ok (Err c.in-Err.fault)) c.in_ok-starts.ensures.bytes
    (returns-in-Err-clause-opens g c)
