use Rattle.std.proofs.Common.{◌≡◌, ◌≤◌, ◌*◌, ◌^◌, ◌-◌, ◌++◌, take, length}
use Rattle.cs_index.specs.Encoding.{varint, varint_within}
use Rattle.cs_index.proofs.writing.strings.encode_varint.Given as goal

-- the bytes so far, then those of the rest
abbrev pub invariant-groups : goal.invariant-groups
invariant-groups l = record {
  bound : l.len ≤ 4;
  whole : length l.bytes ≡ 5;
  small : l.rest * 128 ^ l.len ≤ l.n;
  so_far : varint l.n ≡ take l.len l.bytes ++ varint_within (5 - l.len) l.rest;
}

abbrev pub decreases-groups : goal.decreases-groups
decreases-groups l = 4 - l.len
