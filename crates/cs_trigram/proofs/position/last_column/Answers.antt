use Rattle.std.proofs.Common.{◌≡◌, ◌+◌, sym, ◌∙◌, drop, get_or, arith, length-drop}
use Rattle.std.proofs.lemmas.Bool.{eqb-true, eq-eqb}
use Rattle.std.proofs.lemmas.List.{get_or-drop}
use Rattle.cs_trigram.proofs.FastPathLemmas.{column-rest, column-no_newline}
use Rattle.cs_trigram.proofs.position.last_column.Goals as goal

pub returns-in-Some-clause-end_column : goal.returns-in-Some-clause-end_column
returns-in-Some-clause-end_column c =
    let bytes = c.args.bytes.now in
    let offset = c.in-Some.offset in
    let last = c.in-Some.ensures in
    let newline : get_or bytes offset 0 ≡ 10 = eqb-true (get_or bytes offset 0) 10 last.1 in
    sym (column-rest c.args.column bytes offset last.0.high newline
    ∙ column-no_newline 0 (drop (offset + 1) bytes)
    (λ i within is. last.0.after (offset + 1 + i) (omega arith) (omega (arith, within, length-drop (offset + 1) bytes))
    (eq-eqb (get_or bytes (offset + 1 + i) 0) 10 (sym (get_or-drop (offset + 1) bytes i 0) ∙ is)))
    ∙ omega (arith, length-drop (offset + 1) bytes))

pub returns-in-None-clause-end_column : goal.returns-in-None-clause-end_column
returns-in-None-clause-end_column c =
    let bytes = c.args.bytes.now in
    sym (column-no_newline c.args.column bytes (λ i within is. c.in-None.ensures i (omega arith) within (eq-eqb (get_or bytes i 0) 10 is)))
