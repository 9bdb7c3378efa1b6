use Rattle.std.proofs.Common.{◌≡◌, ◌∙◌, ap, map, string_bytes, subst, sym}
use Rattle.cs_tree.specs.PathSet as set
use Rattle.cs_index.specs.Built.{path_set}
use Rattle.cs_merge.proofs.DecodedContentLemmas.{set_of_items}
use Rattle.cs_state.specs.Sums.{seal_of}
use Rattle.cs_state.proofs.FormLemmas.{opened_index}
use Rattle.cs_state.proofs.StampedLemmas.{one_file}
use Rattle.cs_update.specs.Learning.{run_of, seen_by}
use Rattle.cs_update.specs.Updating.{IsUpdateOf, paths_seen}
use Rattle.cs_update.proofs.StateLemmas.{update_of}
use Rattle.cs_update.proofs.updating.update_state.Goals as goal

pub returns-clause-updated : goal.returns-clause-updated
returns-clause-updated g c = λ items old m was.
    let call = c.args.call.now in
    let run = run_of call items (g.T.Look.stamps items) in
    let seen = seen_by call in
    let own = c.in_ok-own.own in
    let paths : path_set own ≡ paths_seen seen = ap set.from_list
    (c.in_ok-own.ensures.paths ∙ ap (map string_bytes) c.deref.ensures.value ∙ c.in_ok-paths.ensures) ∙ sym (set_of_items (paths_seen seen)) in
    subst (λ ps. IsUpdateOf call.key run seen ps old (g.O.Output.given c.in_ok-out.out)) paths
    (update_of one_file run seen own (c.in_ok-own.ensures.learned items m) (seal_of call.key call.moment) old _
    (c.in_ok-out.ensures was.is.index old (opened_index was.key was.bytes old _ c.args.state.index was.has was.is) was.is.decodes))
