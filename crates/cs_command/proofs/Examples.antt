-- Worked rows of what words ask for.
use Rattle.std.proofs.Common.{◌≡◌, true, false, [], ◌∷◌, ◌++◌, refl}
use Rattle.std.specs.Prelude.{Some, None, Ok, Err, codes}
use Rattle.std.specs.Str.{chars, is_utf8}
use lib.Utf8.{encode}
use Rattle.cs_syntax.specs.ByteKinds.{byte_kind_of}
use Rattle.cs_syntax.specs.Items.{next_token}
use Rattle.cs_command.specs.Words.{after_letters, items_after}
use Rattle.cs_command.specs.LetterCase.{case_after}
use Rattle.cs_command.specs.Settings.{no_switches, with_switch}
use Rattle.cs_command.specs.declared.settings.Task.TheVariants.{Files, Update}
use Rattle.cs_command.specs.declared.named.Switch.TheVariants.{NoState, NoUpdate, Unrestricted}
use Rattle.cs_command.specs.declared.words.ItemFault.TheVariants.{Unknown}
use Rattle.cs_command.specs.declared.words.WordItem.TheVariants.{Switch}
use Rattle.cs_syntax.specs.declared.fault.PatternFault.TheVariants.{StrayClose}
use Rattle.cs_command.specs.Choices.{hidden, depth, glob, may_update, of_type}
use Rattle.cs_command.specs.Lines.{lines_of}
use Rattle.cs_command.specs.Options.{options_after, part_of}
use Rattle.cs_command.specs.Patterns.{has_capital, has_capital_after, joined}
use Rattle.cs_command.specs.Requests.{request_of}
use Rattle.cs_command.specs.Values.{and_then, number_of}
use Rattle.cs_command.specs.WordLines.{part_lines}
use Rattle.cs_command.specs.declared.fault.RequestFault.TheVariants.{Item, NoNumber, NoColour, NoPattern, BadPattern}

numbers : (number_of (codes "12") ≡ Some 12) × (number_of (codes "+3") ≡ Some 3) × (number_of (codes "") ≡ None)
    × (number_of (codes "1x") ≡ None) × (number_of (codes "18446744073709551616") ≡ None)
numbers = (refl, refl, refl, refl, refl)

capitals : (has_capital false (codes "aB") ≡ true) × (has_capital false (codes "a\\W") ≡ false) × (has_capital true (codes "a\\W") ≡ true)
    × (has_capital false (codes "\\\\B") ≡ true)
unfolding has_capital_after
capitals = (refl, refl, refl, refl)

-- the names of files need no pattern, so the operand is a path
files : request_of (codes "--files" ∷ codes "-d2" ∷ codes "src" ∷ codes "--hidden" ∷ codes "-g" ∷ codes "*.c" ∷ codes "-Tmd" ∷ [])
    ≡ Ok (record {
      switches = record no_switches { task = Files; files = record { hidden = true; ignored = false; binary = false } };
      limits = record { most = None; before = None; after = None; around = None };
      colour = None;
      choices = hidden ∷ depth 2 ∷ glob (codes "*.c") ∷ of_type (codes "md") true ∷ [];
      updates = false;
      paths = 2 ∷ [];
      pattern = None;
    })
unfolding after_letters items_after options_after and_then case_after chars is_utf8 encode
files = refl

-- an update needs no pattern; a state that is not read is not updated
updates : (request_of (codes "--update" ∷ codes "src" ∷ [])
    ≡ Ok (record {
      switches = record no_switches { task = Update };
      limits = record { most = None; before = None; after = None; around = None };
      colour = None;
      choices = [];
      updates = true;
      paths = 1 ∷ [];
      pattern = None;
    })) × ((with_switch (with_switch no_switches NoState) NoUpdate).state ≡ record { read = false; updated = false })
    × (may_update no_switches (Switch Unrestricted ∷ []) ≡ false)
unfolding after_letters items_after options_after and_then case_after chars is_utf8 encode
updates = (refl, refl, refl)

-- of an option the last value counts; an error of an option comes before one of a value, and that before one of a pattern
faults :
    (request_of (codes "-m" ∷ codes "x" ∷ codes "--nope" ∷ []) ≡ Err (Item (Unknown 2 2)))
    × (request_of (codes "-m" ∷ codes "x" ∷ codes "a)" ∷ []) ≡ Err (NoNumber (part_of 1 0)))
    × (request_of (codes "-mx" ∷ codes "--color=red" ∷ codes "-m1" ∷ []) ≡ Err (NoColour (part_of 1 8)))
    × (request_of (codes "-n" ∷ []) ≡ Err NoPattern)
    × (request_of (codes "-ea" ∷ codes "-e" ∷ codes "b)" ∷ []) ≡ Err (BadPattern (part_of 2 0) (record { fault = StrayClose; at = 1 })))
unfolding after_letters items_after options_after and_then case_after joined chars is_utf8 encode next_token byte_kind_of
faults = (refl, refl, refl, refl, refl)

-- an error is at its offset in the whole value, and after a newline at the end a line follows
lines : (part_lines (part_of 0 2) (codes "a\n\nbc\n")
    ≡ record { part = part_of 0 2; at = 0; text = codes "a" } ∷ record { part = part_of 0 2; at = 2; text = [] }
    ∷ record { part = part_of 0 2; at = 3; text = codes "bc" } ∷ record { part = part_of 0 2; at = 6; text = [] } ∷ [])
    × (request_of (codes "-ea\nb)" ∷ []) ≡ Err (BadPattern (part_of 0 2) (record { fault = StrayClose; at = 3 })))
unfolding after_letters items_after options_after and_then case_after joined chars is_utf8 encode next_token byte_kind_of
lines = (refl, refl)

-- the caret is below the parenthesis; the first character has two bytes
caret : lines_of (codes "-x" ∷ (195 ∷ 169 ∷ 41 ∷ []) ∷ []) (BadPattern (part_of 1 0) (record { fault = StrayClose; at = 2 }))
    ≡ codes "cs: bad pattern: a parenthesis closes no group\n  " ++ 195 ∷ 169 ∷ 41 ∷ codes "\n   ^\n"
unfolding chars is_utf8 encode
caret = refl
