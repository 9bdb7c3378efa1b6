use Rattle.std.proofs.Common.{Result, subst, MatchResult}
use Rattle.std.proofs.lemmas.Result.{IfOk-weaker}
use Rattle.cs_merge.proofs.Common.{Parts, known_parts, AreAllMerged, IsListsFault, MergeFault}
use Rattle.cs_index.proofs.writer.SentOn.{sent_from_none, sent_more}
use Rattle.cs_merge.proofs.ListLoopLemmas.{on_ok}
use Rattle.cs_merge.proofs.MergeResultLemmas.{begun_maps, begun_of, lists_built, lists_fail}
use Rattle.cs_merge.proofs.merging.merge_begun.Goals as goal

pub merge_lists-requires-clause-ids : goal.merge_lists-requires-clause-ids
merge_lists-requires-clause-ids g c =
    let sides = c.args.sides.now in
    begun_maps (known_parts sides.older.now) sides.newer.now c.args.sections sides.runs.older sides.runs.newer
    c.requires.begun

pub returns-in-Ok-clause-merged : goal.returns-in-Ok-clause-merged
returns-in-Ok-clause-merged g c parts is =
    let sides = c.args.sides.now in
    let newer : Parts = sides.newer.now in
    let begun = begun_of (known_parts sides.older.now) parts newer c.args.sections sides.runs.older sides.runs.newer
    is.tables_are.stands.paths is.tables_are.names c.requires.begun in
    let done = c.in_ok-merge_lists.ensures in
    let all = subst (λ (r : Result (Unit {0}) MergeFault). MatchResult r
    (λ x. AreAllMerged parts newer sides.runs.older sides.runs.newer c.merge_lists.new.sections.lists)
    (IsListsFault parts newer sides.runs.older sides.runs.newer c.args.sections c.args.most)) c.in-Ok.is
    (done.merged parts is) in
    lists_built parts newer c.args.sections sides.runs.older sides.runs.newer begun c.args.most c.finish.result
    c.merge_lists.new.sections (on_ok c.in-Ok.is done.paths) (on_ok c.in-Ok.is done.names) all
    c.finish.ensures.ok c.finish.ensures.fault

pub returns-in-Err-clause-merged : goal.returns-in-Err-clause-merged
returns-in-Err-clause-merged g c parts is =
    let sides = c.args.sides.now in
    let newer : Parts = sides.newer.now in
    let begun = begun_of (known_parts sides.older.now) parts newer c.args.sections sides.runs.older sides.runs.newer
    is.tables_are.stands.paths is.tables_are.names c.requires.begun in
    lists_fail parts newer c.args.sections sides.runs.older sides.runs.newer begun c.args.most c.in-Err.fault
    (subst (λ (r : Result (Unit {0}) MergeFault). MatchResult r
    (λ x. AreAllMerged parts newer sides.runs.older sides.runs.newer c.merge_lists.new.sections.lists)
    (IsListsFault parts newer sides.runs.older sides.runs.newer c.args.sections c.args.most)) c.in-Err.is
    (c.in_ok-merge_lists.ensures.merged parts is))

pub returns-in-Ok-clause-given : goal.returns-in-Ok-clause-given
returns-in-Ok-clause-given g c = IfOk-weaker c.finish.result _ _
    (λ index is. sent_from_none c.args.sections.sent index.bytes (g.O.Output.given c.args.out.now) _ c.requires.sent
    (sent_more _ _ _ _ _ _ (on_ok c.in-Ok.is c.in_ok-merge_lists.ensures.given) is)) c.finish.ensures.given

pub returns-in-Ok-clause-keeps_out : goal.returns-in-Ok-clause-keeps_out
returns-in-Ok-clause-keeps_out g c = g.met.O.Output.keeps_trans _ _ _ c.in_ok-merge_lists.ensures.keeps_out c.finish.ensures.keeps
