use Rattle.std.proofs.Common.{inl, inr, [], rules}
use Rattle.std.proofs.lemmas.Result.{err_from_is_err_and}
use Rattle.cs_tree.proofs.PrefixLemmas.{prefix_written, ends_failed}
use Rattle.cs_search.proofs.searching.finish.Goals as goal

-- ---- a flush of `out` fails

pub returns-in_err-flush-clause-out : goal.returns-in_err-flush-clause-out
returns-in_err-flush-clause-out g c =
    let p = err_from_is_err_and c.from_residual.result c.from_residual.ensures.1 in
    rw p.1 (inl (prefix_written [] _ _ 0 c.in_err-flush.ensures.bytes))

pub returns-in_err-flush-clause-err : goal.returns-in_err-flush-clause-err
returns-in_err-flush-clause-err g c =
    let p = err_from_is_err_and c.from_residual.result c.from_residual.ensures.1 in
    ends_failed _ c.from_residual.result p.0 p.1

-- ---- a flush of `err` fails

pub returns-in_err-flush-2-clause-out : goal.returns-in_err-flush-2-clause-out
returns-in_err-flush-2-clause-out g c =
    let p = err_from_is_err_and c.from_residual-in_err-flush-2.result c.from_residual-in_err-flush-2.ensures.1 in
    rw p.1 (inr c.in_ok-flush.ensures.bytes)

pub returns-in_err-flush-2-clause-err : goal.returns-in_err-flush-2-clause-err
returns-in_err-flush-2-clause-err g c =
    let p = err_from_is_err_and c.from_residual-in_err-flush-2.result c.from_residual-in_err-flush-2.ensures.1 in
    rw p.1 (prefix_written [] _ _ 0 c.in_err-flush-2.ensures.bytes)

pub returns-clause-status : goal.returns-clause-status
returns-clause-status g c = search rules
