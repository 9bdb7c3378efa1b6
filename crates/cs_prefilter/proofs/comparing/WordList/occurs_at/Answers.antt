use Rattle.std.proofs.Common.{ap, sym, subst, ◌∙◌, ◌↔◌, get_or, bit_or, refl, true≢false}
use Rattle.std.specs.Prelude.{IsTrue}
use Rattle.std.proofs.lemmas.List.{get_or_default}
use Rattle.cs_prefilter.specs.declared.word.Word.{Word}
use Rattle.cs_prefilter.specs.declared.comparing.Prefix.{Prefix}
use Rattle.cs_prefilter.specs.WordAt.{WordAt}
use Rattle.cs_prefilter.specs.Prefixes.{IsPrefixOf}
use Rattle.cs_prefilter.proofs.comparing.WordList.occurs_at.Goals as goal

pub returns-then-eight_at-prefix-clause-found : goal.returns-then-eight_at-prefix-clause-found
returns-then-eight_at-prefix-clause-found c d =
    let words = c.args.self.now.words.items in
    let prefix = c.index-prefix.result.now in
    let is : IsPrefixOf (get_or words c.args.index d) prefix = subst (λ (f : Prefix). IsPrefixOf (get_or words c.args.index d) f)
    (sym c.index-prefix.ensures) (c.args.self.now.prefixed.each c.args.index d prefix c.requires.index) in (
      λ f. absurd (true≢false (sym f)),
      λ occurs. absurd (c.if-eight_at-prefix.true (ap (λ n. bit_or n prefix.mask) c.eight_at.ensures
          ∙ is.passes c.args.text.now c.args.offset (λ i. (c.type_inv.text i).fits) occurs)),
    )

pub returns-then-prefix-clause-found : goal.returns-then-prefix-clause-found
returns-then-prefix-clause-found c d =
    let words = c.args.self.now.words.items in
    let prefix = c.index-prefix.result.now in
    let is : IsPrefixOf (get_or words c.args.index d) prefix = subst (λ (f : Prefix). IsPrefixOf (get_or words c.args.index d) f)
    (sym c.index-prefix.ensures) (c.args.self.now.prefixed.each c.args.index d prefix c.requires.index) in (
      λ t. is.whole c.if-prefix.true c.args.text.now c.args.offset (λ i. (c.type_inv.text i).fits) c.requires.within
          (ap (λ n. bit_or n prefix.mask) (sym c.eight_at.ensures) ∙ c.if-eight_at-prefix.false),
      λ t. refl,
    )

pub returns-clause-found : goal.returns-clause-found
returns-clause-found c d =
    let words = c.args.self.now.words.items in
    subst (λ (w : Word). (IsTrue c.occurs.result) ↔ WordAt c.args.text.now c.args.offset w)
    (c.index.ensures ∙ get_or_default words c.args.index c.index.result.now d c.requires.index) c.occurs.ensures.found
