use Rattle.std.proofs.Common.{◌-◌, ◌+◌, drop}
use Rattle.cs_merge.proofs.WrittenBelowLemmas.{rise_taken}
use Rattle.cs_merge.proofs.merging_lists.write_ids.Goals as goal

pub ids-requires-clause-rise : goal.ids-requires-clause-rise
ids-requires-clause-rise c = rise_taken _ _ (c.args.at + c.count_within.result - c.args.at) (drop c.args.at c.args.ids.now)
    c.requires.rise
