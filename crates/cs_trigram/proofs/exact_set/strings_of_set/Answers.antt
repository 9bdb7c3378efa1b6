use Rattle.std.proofs.Common.{true, ℕ, List, ◌+◌, [], ◌∷◌, subst, sym, arith}
use Rattle.cs_syntax.specs.Matching.{one_of, member}
use Rattle.cs_trigram.specs.Analysis.{IsEnumeration}
use Rattle.cs_trigram.specs.MayMatch.{MayMatch}
use Rattle.cs_trigram.proofs.EnumerationLemmas.{no_enumeration, enumeration_same, enumeration_full, numbers_none, numbers_next}
use Rattle.cs_trigram.proofs.CharStringLemmas.{IsByteBelow, byte_string, byte_below}
use Rattle.cs_trigram.proofs.exact_set.strings_of_set.Goals as goal

pub loop-byte-init : goal.loop-byte-init
loop-byte-init c =
    subst (λ (ws : List (List ℕ)). IsEnumeration ws (IsByteBelow c.args.set.now 0)) (sym c.in_ok-strings.ensures.items)
    (numbers_none (member c.args.set.now) (λ b. b ∷ []) 0 (λ w. ⊥) [] no_enumeration)

pub loop-byte-preserved : goal.loop-byte-preserved
loop-byte-preserved c =
    subst (λ (ws : List (List ℕ)). IsEnumeration ws (IsByteBelow c.args.set.now (c.loop-byte.byte + 1))) (sym c.in_ok-add_byte.ensures)
    (numbers_next (member c.args.set.now) (λ b. b ∷ []) 0 (λ w. ⊥) c.loop-byte.strings.items c.loop-byte.byte
    (omega arith) c.loop-byte.invariant)

pub returns-then-len-gt-MAX_EXACT : goal.returns-then-len-gt-MAX_EXACT
returns-then-len-gt-MAX_EXACT c = enumeration_full _ _ (MayMatch true (one_of c.args.set.now)) (omega arith)
    c.loop-byte.invariant (byte_string c.args.set.now c.loop-byte.byte)

pub returns : goal.returns
returns c =
    enumeration_same _ _ (MayMatch true (one_of c.args.set.now)) c.loop-byte.invariant (byte_string c.args.set.now c.loop-byte.byte)
    (λ w h. byte_below c.args.set.now c.loop-byte.byte w (omega arith) h)
