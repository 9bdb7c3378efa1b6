use Rattle.std.proofs.Common.{◌≡◌, ◌-◌, Bool, List, length, take, drop, sym, ◌∙◌, ap, subst, arith, length-drop}
use Rattle.std.proofs.lemmas.List.{take_all}
use Rattle.cs_prefilter.specs.WordAt.{with_newline}
use Rattle.cs_prefilter.specs.Words.{RunEndsAt}
use Rattle.cs_prefilter.proofs.runs.Runs.keep.Goals as goal

pub returns-clause-best : goal.returns-clause-best
returns-clause-best c = λ line j e has.
    let old = c.args.self.now in
    let sets = c.deref.result.now in
    let all : take (length sets - old.start) (drop old.start sets) ≡ drop old.start sets =
    take_all _ (drop old.start sets) (omega (arith, length-drop old.start sets)) in
    c.offer.ensures.best line (c.in_ok-words.ensures (with_newline line) j
    (subst (λ (s : List (List Bool)). RunEndsAt (with_newline line) old.before s j)
    (ap (drop old.start) (sym c.deref.ensures.value) ∙ sym all) e)) has
