-- What a history starts from.
-- docs/PROMISES.md, "Histories".
use Rattle.cs_history.specs.History.{History, nothing, existing, ◌⊳◌}
use Rattle.cs_history.specs.WellFormed.{IsStartIndex}

-- if the history starts from an existing index, that index is a start index (`IsStartIndex`)
abbrev pub HasStartIndex : History → Type 0
HasStartIndex nothing = Unit {0}
HasStartIndex (existing bytes parts) = IsStartIndex bytes parts
HasStartIndex (update ⊳ before) = HasStartIndex before
