use Rattle.std.proofs.Common.{true, false, sym, ◌∙◌, ap}
use Rattle.cs_syntax.specs.ClassState.{is_in_items}
use Rattle.cs_syntax.specs.Classes.{items_from}
use Rattle.cs_syntax.proofs.ListLemmas.{tail_is}
use Rattle.cs_syntax.proofs.ClassLemmas.{class_parsed, have-read}
use Rattle.cs_syntax.proofs.classes.class.Goals as goal

pub returns-then-starts_with_byte-clause-value : goal.returns-then-starts_with_byte-clause-value
returns-then-starts_with_byte-clause-value c = λ _.
    let fold = c.args.fold in
    let rest = c.args.rest.now in
    let v = c.in_ok-ranges.ensures.value in
    class_parsed fold true rest v.0 _ _ (sym c.starts_with_byte.ensures ∙ c.if-starts_with_byte.true)
    (ap (items_from 0 2 true) (sym (tail_is rest 1)) ∙ v.1)
    (c.in_ok-set.ensures (is_in_items fold v.0) (have-read fold v.0 _ _ c.deref.ensures.value v.2))

pub returns-clause-value : goal.returns-clause-value
returns-clause-value c = λ _.
    let fold = c.args.fold in
    let v = c.in_ok-ranges-2.ensures.value in
    class_parsed fold false c.args.rest.now v.0 _ _ (sym c.starts_with_byte.ensures ∙ c.if-starts_with_byte.false) v.1
    (c.in_ok-set-2.ensures (is_in_items fold v.0) (have-read fold v.0 _ _ c.deref-2.ensures.value v.2))
