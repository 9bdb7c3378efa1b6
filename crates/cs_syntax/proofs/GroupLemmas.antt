-- The flags of a group.
use Rattle.std.proofs.Common.{◌≡◌, ℕ, ◌+◌, ◌-◌, Bool, true, false, List, length, take, drop, sym, ap, ap₂, ◌∙◌}
use Rattle.std.specs.Prelude.{codes, if◌then◌else◌}
use Rattle.std.specs.List.{prefix_len}
use Rattle.std.proofs.lemmas.List.{take_rest}
use Rattle.cs_syntax.specs.NumberList.{has}
use Rattle.cs_syntax.specs.Tokens.{PatternItem, Token, starts_with_byte}
use Rattle.cs_syntax.specs.Groups.{with_set, after_flags, cleared_flags, set_flags}
use Rattle.cs_syntax.specs.declared.items.Flags.{Flags}
use Rattle.cs_syntax.proofs.ConditionalLemmas.{when_true, when_false}

-- the token after n leading flags to set
abbrev flags_by : Flags → List ℕ → ℕ → Token PatternItem
flags_by flags text n =
    let set = with_set (take n text) flags in
    if starts_with_byte 45 (drop n text) then cleared_flags set (n + 2) (drop (n + 1) text) else after_flags set (n + 1) (drop n text)

module _ (flags set : Flags) (text : List ℕ) (n : ℕ) (dash : Bool) (token : Token PatternItem)
    (count : n ≡ prefix_len (has (codes "imsU")) text) (is_set : set ≡ with_set (take n text) flags)
    (tested : dash ≡ starts_with_byte 45 (take (length text - n) (drop n text))) where
  at_dash : (b : Bool) → dash ≡ b → starts_with_byte 45 (drop n text) ≡ b
  at_dash b e = ap (starts_with_byte 45) (sym (take_rest text n)) ∙ sym tested ∙ e

  whole : flags_by flags text n ≡ set_flags flags text
  whole = ap (flags_by flags text) count

  pub set_flags-dash : dash ≡ true → token
      ≡ cleared_flags set (n + 2) (take (length text - (n + 1)) (drop (n + 1) text)) → token ≡ set_flags flags text
  set_flags-dash here is =
      let e : token ≡ flags_by flags text n = when_true _ (at_dash true here)
      (is ∙ ap₂ (λ fs rest. cleared_flags fs (n + 2) rest) is_set (take_rest text (n + 1))) in
      e ∙ whole

  pub set_flags-end : dash ≡ false → token ≡ after_flags set (n + 1) (take (length text - n) (drop n text)) → token ≡ set_flags flags text
  set_flags-end gone is =
      let e : token ≡ flags_by flags text n = when_false _ (at_dash false gone)
      (is ∙ ap₂ (λ fs rest. after_flags fs (n + 1) rest) is_set (take_rest text n)) in
      e ∙ whole
