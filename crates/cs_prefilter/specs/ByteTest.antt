-- Tests of a byte by one comparison.
use Rattle.std.specs.Prelude.{◌≡◌, ◌↔◌, ℕ, ◌<◌, Bool, true, false, List, bit_or}
use Rattle.cs_syntax.specs.Matching.{member}
use Rattle.cs_prefilter.specs.declared.probe.ByteTest.{ByteTest}

-- the members of the set, and no other bytes, pass the test
abbrev pub IsTestOf : List Bool → ByteTest → Type 0
IsTestOf set test = (b : ℕ) → b < 256 → (member set b ≡ true) ↔ (bit_or b test.mask ≡ test.byte)

-- the mask, or none
abbrev pub used_mask : Bool → ByteTest → ℕ
used_mask true test = test.mask
used_mask false test = 0
