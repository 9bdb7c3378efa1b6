-- The index of a history: its names, and whether a job built it.
use Rattle.std.specs.Prelude.{ℕ, List}
use Rattle.std.specs.FinMap as map
use Rattle.cs_history.specs.History.{History, existing, files_of}

-- the indexed names, in their order
abbrev pub indexed_names : History → List (List ℕ)
indexed_names history = map.keys (files_of history)

-- A job built the index. Otherwise it is an existing one, whose names may be in another order.
abbrev pub IsBuiltByJobs : History → Type 0
IsBuiltByJobs (existing bytes parts) = ⊥
IsBuiltByJobs history = Unit {0}
