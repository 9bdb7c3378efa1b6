use Rattle.std.proofs.Common.{◌≡◌, ◌≤◌, length}
use Rattle.cs_trigram.specs.FastPath.{LinesFit, column_after}
use Rattle.cs_trigram.proofs.position.column_after.Given as goal

-- the rest of the bytes decides
abbrev pub invariant-lines : goal.invariant-lines
invariant-lines l = record {
  within : l.column ≤ l.most;
  fit : LinesFit l.most l.column l.rest → LinesFit l.most l.initial.column l.initial.rest;
  end_column : column_after l.column l.rest ≡ column_after l.initial.column l.initial.rest;
}

abbrev pub decreases-lines : goal.decreases-lines
decreases-lines l = length l.rest
