use Rattle.std.proofs.Common.{ℕ, ◌≡◌, ◌<◌, sym, bit_or, true≢false, arith}
use Rattle.std.proofs.lemmas.Nat.{le_or_r, or_of_8}
use Rattle.cs_prefilter.proofs.comparing.byte_test.Goals as goal

-- all bytes pass the test of all bits
all_pass : (b : ℕ) → b < 256 → bit_or b 255 ≡ 255
all_pass b small = omega (arith, le_or_r b 255, or_of_8 b 255 small (omega arith))

pub returns-in-None-of : goal.returns-in-None-of
returns-in-None-of c = record {
  small = (omega arith, omega arith);
  passes = λ b small has. all_pass b small;
  exact = λ e. absurd (true≢false (sym e));
}

pub returns-in-None : goal.returns-in-None
returns-in-None c = record {
  small = (omega arith, omega arith);
  passes = λ b small has. all_pass b small;
  exact = λ e b small passes d within. absurd (omega (arith, within, c.in-None.ensures.lookup, c.deref.ensures.len));
}
