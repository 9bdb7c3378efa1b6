use mir.Val.{to_z, of_z}
use Rattle.std.proofs.Common.{Bool, true, false, IsTrue, List, ℕ, ℤ, ◌≡◌, ◌↔◌, rules, refl, sym, ap, subst, w32, ◌∙◌}
use Rattle.std.specs.Prelude.{pos}
use Rattle.core.specs.Int.{from_bool}
use Rattle.cs_syntax.specs.Matching.{Tree, HasMatch}
use Rattle.cs_match.specs.Cached.{IsCacheOf}
use Rattle.codesearch_c.specs.Compiled.{Compiled}
use Rattle.codesearch_c.specs.Patterns.{IsMatchCode}
use Rattle.codesearch_c.proofs.slot.HeldPattern.match_code.Goals as goal

answers : (found : Bool) (pattern : Tree) (line : List ℕ) (code : ℤ) → code ≡ pos (from_bool found) →
    IsTrue found ↔ HasMatch pattern line → IsMatchCode pattern line code
answers true pattern line code is decided = record {
  yes = λ _. decided.0 refl;
  no = λ zero. absurd (let e = sym is ∙ zero in cc);
  only = λ other _. absurd (other is);
}
answers false pattern line code is decided = record {
  yes = λ one. absurd (let e = sym is ∙ one in cc);
  no = λ _ has. let e = decided.1 has in cc;
  only = λ _ other. absurd (other is);
}

pub invariant_of-self-2 : goal.invariant_of-self-2
invariant_of-self-2 c = (
  c.self.invariant.0,
  c.self.invariant.1,
  subst (λ (tree : Tree). IsCacheOf tree c.into_cache.result) (c.is_match-found.ensures.same ∙ c.in-Ok.ensures.tree) c.into_cache.ensures,
  c.self.invariant.3,
)

pub returns-clause-code : goal.returns-clause-code
returns-clause-code c =
    let alike = c.self.invariant.0 c.args.line.now in
    let r : Bool = c.is_match-found.result in
    let found = subst (λ (tree : Tree). IsTrue r ↔ HasMatch tree c.args.line.now) c.in-Ok.ensures.tree
    c.is_match-found.ensures.found in
    let is : to_z w32 (of_z w32 c.from.result) ≡ pos (from_bool r) = search rules in
    answers r _ _ _ is (subst (λ (tree : Tree). IsTrue r ↔ HasMatch tree c.args.line.now)
    (ap (λ (p : Compiled). p.pattern) c.self.view_is) (λ yes. alike.0 (found.0 yes), λ has. found.1 (alike.1 has)))
