-- One stage after another.
use Rattle.std.proofs.Common.{◌≡◌, ap, ◌∙◌}
use Rattle.std.specs.Prelude.{◌≢◌, Result, Ok, Err, IfOk, IfErr}
use Rattle.cs_command.specs.Values.{and_then}
use Rattle.cs_command.specs.declared.fault.RequestFault.{RequestFault}
use Rattle.cs_command.specs.declared.fault.RequestFault.TheVariants.{Memory}

pub and_then_ok : {A B : Type 0} (result : Result A RequestFault) (next : A → Result B RequestFault) (value : A) → result ≡ Ok value
    → and_then result next ≡ next value
unfolding and_then
and_then_ok result next value is = ap (λ r. and_then r next) is

pub and_then_err : {A B : Type 0} (result : Result A RequestFault) (next : A → Result B RequestFault) (fault : RequestFault) → result ≡ Err fault
    → and_then result next ≡ Err fault
unfolding and_then
and_then_err result next fault is = ap (λ r. and_then r next) is

-- what is said of a last stage is said of all
pub ok_after : {A : Type 0} (wanted next result : Result A RequestFault) → wanted ≡ next → IfOk result (λ x. next ≡ Ok x)
    → IfOk result (λ x. wanted ≡ Ok x)
ok_after wanted next (Ok x) is h = is ∙ h
ok_after wanted next (Err fault) is h = tt

pub err_after : {A : Type 0} (wanted next result : Result A RequestFault) → wanted ≡ next → IfErr result (λ fault. fault ≢ Memory → next ≡ Err fault)
    → IfErr result (λ fault. fault ≢ Memory → wanted ≡ Err fault)
err_after wanted next (Ok x) is h = tt
err_after wanted next (Err fault) is h = λ known. is ∙ h known
