use Rattle.std.proofs.Common.{◌≡◌, ◌+◌, ◌∙◌, ◌⊎◌, ap, sym, subst, ℕ, List, true, Option, Some, inl, inr, get_or}
use Rattle.std.specs.Prelude.{IfSome}
use Rattle.cs_trigram.specs.Trigram.{has}
use Rattle.cs_index.proofs.candidates.FormValues.{has_item, some_map}
use Rattle.cs_index.proofs.reading.rows.rarest_of.Goals as goal

pub loop-number-preserved : goal.loop-number-preserved
loop-number-preserved c =
    let numbers : List ℕ = c.args.numbers.now in
    let index : ℕ = c.loop-number.number-index in
    record {
      within = c.rarer-rarest.ensures.within;
      there = some_map c.rarer-rarest.result (λ at. (c.loop-number.rarest ≡ Some at) ⊎
          (get_or numbers index 0 ≡ 2 + at)) (λ at. has numbers (2 + at) ≡ true) (λ at which. elim which [
            | inl before ↦ subst (λ (r : Option ℕ). IfSome r (λ k. has numbers (2 + k) ≡ true)) before c.loop-number.invariant.there
            | inr here ↦ ap (has numbers) (sym here) ∙ has_item numbers index 0 c.loop-number-test.true
          ]) c.rarer-rarest.ensures.either;
    }
