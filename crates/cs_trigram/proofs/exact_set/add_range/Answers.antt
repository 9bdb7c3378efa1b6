use Rattle.std.proofs.Common.{true, ◌≡◌, ◌+◌, ℕ, List, subst, sym, arith}
use Rattle.std.specs.Prelude.{encode_utf8}
use Rattle.cs_syntax.specs.Characters.{is_scalar}
use Rattle.cs_syntax.specs.Matching.{one_char}
use Rattle.cs_trigram.specs.Analysis.{IsEnumeration}
use Rattle.cs_trigram.specs.MayMatch.{MayMatch}
use Rattle.cs_trigram.proofs.EnumerationLemmas.{enumeration_same, enumeration_full, numbers_none, numbers_next}
use Rattle.cs_trigram.proofs.CharStringLemmas.{IsCharBelow, char_string, char_below}
use Rattle.cs_trigram.proofs.exact_set.add_range.Goals as goal

pub loop-n-init : goal.loop-n-init
loop-n-init c = record {
  from = omega arith;
  to = omega (arith, c.requires.0);
  strings = λ ranges s. numbers_none is_scalar encode_utf8 c.args.range.0 (MayMatch true (one_char ranges)) _ s;
}

pub loop-n-preserved : goal.loop-n-preserved
loop-n-preserved c = record {
  from = omega (arith, c.loop-n.invariant.from);
  to = omega (arith, c.loop-n-test.true);
  strings = λ ranges s.
      subst (λ (ws : List (List ℕ)). IsEnumeration ws (IsCharBelow ranges c.args.range (c.loop-n.n + 1))) (sym c.in_ok-add_char.ensures)
      (numbers_next is_scalar encode_utf8 c.args.range.0 (MayMatch true (one_char ranges)) _ c.loop-n.n
      c.loop-n.invariant.from (c.loop-n.invariant.strings ranges s));
}

pub returns-then-len-gt-MAX_EXACT : goal.returns-then-len-gt-MAX_EXACT
returns-then-len-gt-MAX_EXACT c = λ ranges s.
    enumeration_full _ _ _ (omega arith) (c.loop-n.invariant.strings ranges s)
    (λ w h. char_string ranges c.args.range c.loop-n.n w c.loop-n.invariant.to h)

pub returns : goal.returns
returns c = λ ranges s.
    let end : c.loop-n.n ≡ c.args.range.1 + 1 = omega (arith, c.loop-n.invariant.to) in
    enumeration_same _ _ _ (subst (λ n. IsEnumeration c.loop-n.strings.items (IsCharBelow ranges c.args.range n)) end
    (c.loop-n.invariant.strings ranges s))
    (λ w h. char_string ranges c.args.range (c.args.range.1 + 1) w (omega arith) h) (char_below ranges c.args.range)
