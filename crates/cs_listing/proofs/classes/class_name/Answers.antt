use Rattle.std.proofs.Common.{rules, tests, ◌≡◌, ◌<◌, ◌++◌, [], ◌∷◌, length, false, arith}
use Rattle.cs_listing.proofs.ClassLemmas.{closes, name_ends, none_closed, closes_at_end, closes_by_last, closes_none}
use Rattle.cs_listing.proofs.classes.class_name.Goals as goal
use Rattle.cs_listing.proofs.classes.class_name.Goals.{in_default-split_last-via-in-Some-eq58-default+else-inner-rest, in_default-split_last-via-in-Some+in_default, in_default-split_last-via-in_default}

pub returns-in-Some-eq58-default : goal.returns-in-Some-eq58-default
returns-in-Some-eq58-default c =
    let inner = c.before-inner.result.now in
    let name = c.in-Some-eq58-default.name.now in
    let last : inner ≡ name ++ 58 ∷ [] = search (rules, tests) in
    let less : length inner < length c.in-Some.rest.now = search (rules, tests) in
    name_ends c.args.text.now c.in-Some.rest.now inner name c.in-Some.ensures.cases.0 c.in-Some.ensures.cases.1 c.before-inner.ensures last less

pub returns-in_default-split_last : goal.returns-in_default-split_last
returns-in_default-split_last c =
    let inner = c.before-inner.result.now in
    let rest = c.in-Some.rest.now in
    let not_closed : closes inner rest ≡ false = elim c.in_default-split_last.branch [
      | in_default-split_last-via-in-Some-eq58-default+else-inner-rest w ↦ closes_at_end inner rest (search (rules, tests))
      | in_default-split_last-via-in-Some+in_default w ↦ closes_by_last inner rest _ _ w.in_default-split_last.in-Some-own.ensures.0.0 (search (rules, tests))
      | in_default-split_last-via-in_default w ↦ closes_none inner rest w.in_default-split_last.in-None-own.ensures.0
    ] in
    (omega arith, none_closed c.args.text.now rest inner c.in-Some.ensures.cases.1 c.before-inner.ensures not_closed)
