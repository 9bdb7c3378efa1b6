use Rattle.std.proofs.Common.{◌≡◌, ℕ, ◌<◌, ◌≤◌, true, length}
use Rattle.cs_prefilter.specs.Prefixes.{MayFollowAny, TestsByte}
use Rattle.cs_prefilter.proofs.PrefixLemmas.{byte_of}
use Rattle.cs_prefilter.proofs.comparing.Prefix.of.Given as goal

abbrev pub invariant-loop-index : goal.invariant-loop-index
invariant-loop-index l = record {
  tests : (i : ℕ) → i < l.index → TestsByte l.word i (byte_of l.mask l.bytes l.is_whole i);
  mask_long : length l.mask ≡ 8;
  bytes_long : length l.bytes ≡ 8;
  short : l.is_whole ≡ true → length l.word.sets.items ≤ 8;
  any : l.is_whole ≡ true → MayFollowAny l.word;
}
