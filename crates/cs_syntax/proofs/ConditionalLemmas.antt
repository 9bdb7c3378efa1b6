-- The value of a conditional.
use Rattle.std.proofs.Common.{◌≡◌, Bool, true, false, cond}

pub when_true : {A : Type 0} {b : Bool} {x y : A} (z : A) → b ≡ true → x ≡ y → x ≡ cond b y z
when_true z e f = rw e f

pub when_false : {A : Type 0} {b : Bool} {x z : A} (y : A) → b ≡ false → x ≡ z → x ≡ cond b y z
when_false y e f = rw e f
