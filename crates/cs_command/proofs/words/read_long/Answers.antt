use Rattle.std.proofs.Common.{◌≡◌, ◌≢◌, ◌<◌, subst, arith}
use Rattle.std.specs.Prelude.{Result, Ok, Err, IfOk, IfErr}
use Rattle.cs_command.specs.Words.{Reading, reading}
use Rattle.cs_command.specs.declared.words.ItemFault.{ItemFault}
use Rattle.cs_command.specs.declared.words.ItemFault.TheVariants.{Memory}
use Rattle.cs_command.proofs.WordLemmas.{name_alone, name_equals}
use Rattle.cs_command.proofs.words.read_long.Goals as goal

is_ascii : 61 < 128
is_ascii = omega arith

pub returns-in-None : goal.returns-in-None
returns-in-None c =
    let e = name_alone c.args.items.now.items c.args.index c.args.text.now _ c.name_option.ensures (c.in-None.ensures.byte is_ascii (λ w o h. h)) in
    subst (λ (read : Result Reading ItemFault). record {
      reads : IfOk c.read_name.result (λ after. read ≡ Ok (reading c.read_name.new.items.items after));
      fault : IfErr c.read_name.result (λ fault. fault ≢ Memory → read ≡ Err fault);
    }) e c.read_name.ensures

pub returns-in-Some : goal.returns-in-Some
returns-in-Some c =
    let split = c.in-Some.ensures.byte is_ascii (λ w o h. h) in
    let e = name_equals c.args.items.now.items c.args.index c.args.text.now c.in-Some.name.now _ split.0 c.name_option-in-Some.ensures split.2 in
    subst (λ (read : Result Reading ItemFault). record {
      reads : IfOk c.read_equals.result (λ after. read ≡ Ok (reading c.read_equals.new.items.items after));
      fault : IfErr c.read_equals.result (λ fault. fault ≢ Memory → read ≡ Err fault);
    }) e c.read_equals.ensures
