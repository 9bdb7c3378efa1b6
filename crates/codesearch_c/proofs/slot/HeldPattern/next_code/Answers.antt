use Rattle.std.proofs.Common.{rules, ap, ◌∙◌, subst}
use Rattle.cs_syntax.specs.Matching.{Tree}
use Rattle.cs_match.specs.Cached.{IsCacheOf}
use Rattle.codesearch_c.specs.Compiled.{Compiled}
use Rattle.codesearch_c.specs.MatchingLines.{IsFirstLine}
use Rattle.codesearch_c.proofs.MatchingLineLemmas.{decides_program}
use Rattle.codesearch_c.proofs.slot.HeldPattern.next_code.Goals as goal

pub invariant_of-self-2 : goal.invariant_of-self-2
invariant_of-self-2 c = (
  c.self.invariant.0,
  c.self.invariant.1,
  subst (λ (tree : Tree). IsCacheOf tree c.into_cache.result) (c.first_line-found.ensures.same ∙ c.in-Ok.ensures.tree) c.into_cache.ensures,
  c.self.invariant.3,
)

pub returns-clause-code : goal.returns-clause-code
returns-clause-code c =
    let first : IsFirstLine c.args.self.now.pattern c.args.block.now c.args.from c.first_line-found.result = λ has_match decides.
    c.first_line-found.ensures.found has_match
    (decides_program has_match _ _ _ _ c.in-Ok.ensures.tree c.self.invariant.0
    (ap (λ (p : Compiled). p.pattern) c.self.view_is) decides) in
    search rules
