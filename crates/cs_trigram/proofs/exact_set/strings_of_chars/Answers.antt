use Rattle.std.proofs.Common.{true, ℕ, List, [], false, take, subst, sym, ◌∙◌, arith, take_all}
use Rattle.std.proofs.lemmas.Bool.{and_parts, false≢true}
use Rattle.std.proofs.lemmas.List.{take_more}
use Rattle.cs_syntax.specs.CharRanges.{AreCanonical}
use Rattle.cs_syntax.specs.Characters.{is_scalar}
use Rattle.cs_syntax.specs.Matching.{one_char}
use Rattle.cs_syntax.proofs.CharSetLemmas.{canonical_range_at}
use Rattle.cs_trigram.specs.MayMatch.{MayMatch}
use Rattle.cs_trigram.specs.Analysis.{IsEnumeration}
use Rattle.cs_trigram.proofs.EnumerationLemmas.{no_enumeration, enumeration_same}
use Rattle.cs_trigram.proofs.exact_set.strings_of_chars.Goals as goal

pub loop-range-init : goal.loop-range-init
loop-range-init c =
    subst (λ (ws : List (List ℕ)). IsEnumeration ws (MayMatch true (one_char []))) (sym c.new-strings.ensures.items)
    (enumeration_same [] (λ w. ⊥) (MayMatch true (one_char [])) no_enumeration (λ w p. absurd p)
    (λ w h. false≢true (and_parts (is_scalar h.0) false h.1).1))

pub add_range-requires : goal.add_range-requires
add_range-requires c =
    canonical_range_at 0 _ c.loop-range.range-index
    (subst AreCanonical (sym c.runs-range-items.ensures.runs) c.runs-range-items.ensures.maximal) c.loop-range-test.true

pub loop-range-preserved : goal.loop-range-preserved
loop-range-preserved c =
    let ranges = c.runs-range-items.result.now in
    let i = c.loop-range.range-index in
    subst (λ (rs : List (ℕ × ℕ)). IsEnumeration c.add_range.new.strings.items (MayMatch true (one_char rs)))
    (sym (take_more ranges i (0, 0) c.loop-range-test.true))
    (c.in_ok-add_range.ensures (take i ranges) c.loop-range.invariant)

pub returns : goal.returns
returns c =
    subst (λ (rs : List (ℕ × ℕ)). IsEnumeration c.loop-range.strings.items (MayMatch true (one_char rs)))
    (take_all c.loop-range.range-index c.runs-range-items.result.now (omega arith) ∙ c.runs-range-items.ensures.runs) c.loop-range.invariant
