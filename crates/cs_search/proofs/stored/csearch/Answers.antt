use Rattle.std.proofs.Common.{refl}
use Rattle.std.specs.Prelude.{option_copied}
use Rattle.cs_tree.proofs.GrowsLemmas.{Grows-same}
use Rattle.cs_search.specs.Printed.{search_outputs}
use Rattle.cs_search.proofs.SearchLemmas.{out_of_memory, sound_search}
use Rattle.cs_search.proofs.stored.csearch.Goals as goal

-- ---- there is no memory for the index

pub returns-in_default-open-clause-selective : goal.returns-in_default-open-clause-selective
returns-in_default-open-clause-selective g c =
    let failed = g.T.Tree.failed c.args.tree.now in
    let outputs = search_outputs g.O.Sink.model g.E.Sink.model c.args.out.now c.args.out.now c.args.err.now c.args.err.now in
    out_of_memory c.args.job.now (option_copied c.args.index) (g.T.Tree.snapshot c.args.tree.now) failed failed outputs
    (Grows-same outputs.out, Grows-same outputs.err) refl

pub returns-in_default-open-clause-searches : goal.returns-in_default-open-clause-searches
returns-in_default-open-clause-searches g c = sound_search c.args.job.now (option_copied c.args.index) _ _ _ _ _
    (returns-in_default-open-clause-selective g c)

pub returns-in-Err-clause-selective : goal.returns-in-Err-clause-selective
returns-in-Err-clause-selective g c =
    let unread = c.in-Err.ensures.unread in
    out_of_memory c.args.job.now (option_copied c.args.index) (g.T.Tree.snapshot c.args.tree.now)
    (g.T.Tree.failed c.args.tree.now) (g.T.Tree.failed c.csearch_stored.new.tree)
    (search_outputs g.O.Sink.model g.E.Sink.model c.args.out.now c.csearch_stored.new.out c.args.err.now c.csearch_stored.new.err)
    unread.1.0 unread.1.1

pub returns-in-Err-clause-searches : goal.returns-in-Err-clause-searches
returns-in-Err-clause-searches g c = sound_search c.args.job.now (option_copied c.args.index) _ _ _ _ _
    (returns-in-Err-clause-selective g c)
