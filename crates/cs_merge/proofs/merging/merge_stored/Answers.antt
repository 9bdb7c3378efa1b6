use Rattle.std.proofs.Common.{◌≡◌, sym, subst, Result, Ok, Err, IfErr}
use Rattle.cs_merge.proofs.Common.{NewIds, known_parts}
use Rattle.cs_merge.specs.Begun.{IsBegun}
use Rattle.cs_merge.proofs.MergeResultLemmas.{begun_of}
use Rattle.cs_merge.proofs.merging.merge_stored.Goals as goal

-- a fact that is said of an error
said : {A E X : Type 0} (r : Result A E) → X → IfErr r (λ e. X)
said (Ok x) h = tt
said (Err e) h = h

-- the ids of the runs are those of the maps
by_runs : (P : NewIds → NewIds → Type 0) {older newer older_ids newer_ids : NewIds} → older ≡ older_ids → newer
    ≡ newer_ids → P older_ids newer_ids → P older newer
by_runs P {older} {newer} {older_ids} {newer_ids} same newer_same h = subst (λ ids. P ids newer) (sym same)
    (subst (P older_ids) (sym newer_same) h)

pub returns-in-Err-clause-merged : goal.returns-in-Err-clause-merged
returns-in-Err-clause-merged g c bytes m parts is = c.in-Err.ensures.fault c.args.most parts (sym is.names)

pub merge_begun-requires-clause-begun : goal.merge_begun-requires-clause-begun
merge_begun-requires-clause-begun g c =
    let begun = c.in-Ok.begun in
    by_runs (IsBegun (known_parts c.args.old.now) c.args.newer.now begun.0) c.in_ok-runs.ensures.older
    c.in_ok-runs.ensures.newer c.in-Ok.ensures.begun

pub returns-in_err-runs-clause-tested : goal.returns-in_err-runs-clause-tested
returns-in_err-runs-clause-tested g c bytes m parts is =
    let begun = c.in-Ok.begun in
    said c.from_residual.result (begun_of (known_parts c.args.old.now) parts c.args.newer.now begun.0 begun.1.older begun.1.newer
    is.stands.paths is.names c.in-Ok.ensures.begun).tested

pub returns-clause-tested : goal.returns-clause-tested
returns-clause-tested g c bytes m parts is =
    let begun = c.in-Ok.begun in
    said c.merge_begun.result (begun_of (known_parts c.args.old.now) parts c.args.newer.now begun.0 begun.1.older begun.1.newer
    is.stands.paths is.names c.in-Ok.ensures.begun).tested

pub returns-clause-merged : goal.returns-clause-merged
returns-clause-merged g c bytes m parts is =
    c.merge_begun.ensures.merged parts (record { bytes = bytes; known = m; tables_are = is })
