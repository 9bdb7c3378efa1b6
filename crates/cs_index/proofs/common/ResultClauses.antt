-- Clauses on a `Result`, from facts that hold for both variants.
use Rattle.std.proofs.Common.{◌≡◌, sym, true, false}
use Rattle.std.proofs.lemmas.Bool.{true≢false}
use Rattle.std.specs.Prelude.{Result, Ok, Err, IfOk, OnErr, OnOk, is_err}

pub any_err : {T E P : Type 0} (r : Result T E) → P → OnErr r P
any_err (Ok x) p = tt
any_err (Err e) p = p

pub both_ok : {T E : Type 0} (r : Result T E) (P Q R : T → Type 0) → ((x : T) → P x → Q x → R x) → IfOk r P → IfOk r Q → IfOk r R
both_ok (Ok x) P Q R f p q = f x p q
both_ok (Err e) P Q R f p q = tt

pub of_err : {T E P : Type 0} (r : Result T E) → OnErr r P → is_err r ≡ true → P
of_err (Ok x) p is = absurd (true≢false (sym is))
of_err (Err e) p is = p

pub of_ok : {T E P : Type 0} (r : Result T E) → OnOk r P → is_err r ≡ false → P
of_ok (Ok x) p is = p
of_ok (Err e) p is = absurd (true≢false is)

pub on_ok : {T E P Q : Type 0} (r : Result T E) → (P → Q) → OnOk r P → OnOk r Q
on_ok (Ok x) f p = f p
on_ok (Err e) f p = tt
