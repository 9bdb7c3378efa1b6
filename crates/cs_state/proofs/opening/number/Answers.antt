use Rattle.std.proofs.Common.{arith}
use Rattle.std.proofs.lemmas.Nat.{be_bytes_8}
use Rattle.cs_state.specs.StateFile.{eight_bytes}
use Rattle.cs_state.proofs.opening.number.Goals as goal

pub returns : goal.returns
unfolding eight_bytes
returns c = be_bytes_8 c.args.bytes.now c.from_be_bytes.result c.requires (λ i. let fits = c.type_inv.bytes i in omega (arith, fits)) c.from_be_bytes.ensures
