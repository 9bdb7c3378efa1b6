-- One print after another.
pub use Rattle.cs_tree.proofs.SinkOutputLemmas.{keeps_same, keeps_then}

pub ruleset printing = (keeps_same, keeps_then)
