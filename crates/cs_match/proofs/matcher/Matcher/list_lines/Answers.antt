use Rattle.std.proofs.Common.{◌≡◌, ◌++◌, length, take, drop, sym, ap, subst, ◌∙◌, arith}
use Rattle.std.proofs.Math.Seq.{take-append_seam}
use Rattle.cs_match.specs.Automaton.{Automaton}
use Rattle.cs_match.specs.Deciding.{Decides}
use Rattle.cs_match.proofs.matcher.Matcher.list_lines.Goals as goal

pub returns-clause-listed : goal.returns-clause-listed
returns-clause-listed c = λ has_match decides.
    let own = c.list_lines-lines.new.ends in
    let count = c.list_lines-lines.result.count in
    let rest = drop (length own) c.self.inside.ends.items in
    let all : c.self.inside.ends.len ≡ length own = omega (arith, c.list_lines-lines.auto.ends, c.deref_mut.ensures.len) in
    ap (λ n. take count (take n (own ++ rest))) all ∙ ap (take count) (take-append_seam own rest)
    ∙ c.list_lines-lines.ensures.lists.listed.listed has_match (subst (λ (a : Automaton). Decides has_match a.tree) (sym c.self.view_is) decides)
