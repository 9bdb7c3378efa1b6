use Rattle.std.proofs.Common.{refl, ap, ◌∙◌, subst}
use Rattle.cs_syntax.specs.Matching.{Tree}
use Rattle.cs_match.specs.Cached.{IsCacheOf}
use Rattle.codesearch_c.specs.Compiled.{Compiled}
use Rattle.codesearch_c.proofs.MatchingLineLemmas.{decides_program}
use Rattle.codesearch_c.proofs.slot.HeldPattern.count_code.Goals as goal

pub invariant_of-self-2 : goal.invariant_of-self-2
invariant_of-self-2 c = (
  c.self.invariant.0,
  c.self.invariant.1,
  subst (λ (tree : Tree). IsCacheOf tree c.into_cache.result) (c.count_lines.ensures.same ∙ c.in-Ok.ensures.tree) c.into_cache.ensures,
  c.self.invariant.3,
)

pub returns-clause-code : goal.returns-clause-code
returns-clause-code c = record {
  counted = λ _. (
    (λ has_match decides. c.count_lines.ensures.found has_match
        (decides_program has_match _ _ _ _ c.in-Ok.ensures.tree c.self.invariant.0
        (ap (λ (p : Compiled). p.pattern) c.self.view_is) decides)),
    refl,
  );
  kept = λ is. let e = is in cc;
}
