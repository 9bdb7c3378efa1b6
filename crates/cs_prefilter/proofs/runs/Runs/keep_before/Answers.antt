use Rattle.std.proofs.Common.{suc}
use Rattle.std.proofs.lemmas.List.{drop-append-le}
use Rattle.std.proofs.Common.{◌≡◌, ◌++◌, ◌∷◌, [], Bool, List, drop, sym, ap, subst, ◌∙◌, arith}
use Rattle.cs_prefilter.specs.WordAt.{with_newline}
use Rattle.cs_prefilter.specs.Words.{RunEndsAt}
use Rattle.cs_prefilter.proofs.RunLemmas.{to_next}
use Rattle.cs_prefilter.proofs.runs.Runs.keep_before.Goals as goal

pub returns-clause-best : goal.returns-clause-best
returns-clause-best c = λ line j e is has.
    let old = c.args.self.now in
    let set = c.args.set.now in
    let same : drop old.start c.push.new.self.items ≡ drop old.start old.sets.items ++ set ∷ [] =
    ap (drop old.start) c.in_ok-push.ensures.items ∙ drop-append-le old.start old.sets.items (set ∷ []) (omega (arith, old.within)) in
    c.in_ok-keep.ensures.best line (suc j)
    (subst (λ (sets : List (List Bool)). RunEndsAt (with_newline line) old.before sets (suc j)) (sym same) (to_next line old j e set is)) has
