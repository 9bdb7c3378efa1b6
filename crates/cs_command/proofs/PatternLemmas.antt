-- Texts and their patterns.
use Rattle.std.proofs.Common.{◌≡◌, ℕ, ◌+◌, ◌<◌, ◌≤◌, Bool, true, false, ◌||◌, List, [], ◌∷◌, length, drop, get_or, map, refl, ap, ◌∙◌, arith}
use Rattle.std.specs.Prelude.{if◌then◌else◌, Result, Ok, Err}
use Rattle.std.proofs.lemmas.Bool.{le-ltb}
use Rattle.std.proofs.lemmas.List.{at_drop_all, at_drop_more}
use Rattle.cs_syntax.specs.Matching.{Tree}
use Rattle.cs_syntax.specs.Joining.{either, pattern_of}
use Rattle.cs_syntax.specs.Weight.{max_weight, weight}
use Rattle.cs_syntax.specs.declared.fault.PatternFault.TheVariants.{TooLarge}
use Rattle.cs_command.specs.declared.settings.PatternStyle.{PatternStyle}
use Rattle.cs_command.specs.Patterns.{is_capital, escapes, has_capital_after, pattern_at, located, joined}
use Rattle.cs_command.specs.WordLines.{LineView, line_view}
use Rattle.cs_command.specs.declared.fault.RequestFault.{RequestFault}
use Rattle.cs_command.specs.declared.word_lines.WordLine.{WordLine}
use Rattle.cs_command.proofs.StageLemmas.{and_then_ok, and_then_err}

-- ---- capital letters

pub no_byte : (literal escaped : Bool) (bytes : List ℕ) → length bytes ≡ 0 → has_capital_after literal escaped bytes ≡ false
unfolding has_capital_after
no_byte literal escaped [] none = refl
no_byte literal escaped (byte ∷ bytes) none = absurd (omega (arith, none))

pub capital_byte : (literal escaped : Bool) (byte : ℕ) (bytes : List ℕ) → is_capital escaped byte ≡ true
    → has_capital_after literal escaped (byte ∷ bytes) ≡ true
unfolding has_capital_after
capital_byte literal escaped byte bytes is = ap (λ b. b || has_capital_after literal (escapes literal escaped byte) bytes) is

pub other_byte : (literal escaped : Bool) (byte : ℕ) (bytes : List ℕ) → is_capital escaped byte ≡ false
    → has_capital_after literal escaped (byte ∷ bytes) ≡ has_capital_after literal (escapes literal escaped byte) bytes
unfolding has_capital_after
other_byte literal escaped byte bytes is = ap (λ b. b || has_capital_after literal (escapes literal escaped byte) bytes) is

-- ---- regular expressions

light : (t : Tree) → weight t ≤ max_weight → pattern_of t ≡ Ok t
light t h = ap (λ b. if b then Err (record { fault = TooLarge; at = 0 }) else Ok t) (le-ltb max_weight (weight t) h)

-- ---- joined patterns

module _ (style : PatternStyle) (fold : Bool) where
  -- the lines from one on
  abbrev joined_from : Tree → List WordLine → Result Tree RequestFault
  joined_from t lines = joined style fold t (map line_view lines)

  pub no_line : (t : Tree) (lines : List WordLine) (i : ℕ) → length lines ≤ i → joined_from t (drop i lines) ≡ Ok t
  unfolding joined
  no_line t lines i end = at_drop_all (joined_from t) lines i end

  module _ (t : Tree) (lines : List WordLine) (i : ℕ) (none : WordLine) (low : i < length lines) where
    abbrev one : LineView
    one = line_view (get_or lines i none)

    pub next_line : (u both : Tree) → pattern_at style fold one ≡ Ok u → located one (pattern_of (either t u)) ≡ Ok both
        → joined_from t (drop i lines) ≡ joined_from both (drop (i + 1) lines)
    unfolding joined
    next_line u both parsed is = at_drop_more (joined_from t) lines i none low ∙ and_then_ok _ _ u parsed ∙ and_then_ok _ _ both is

    pub bad_line : (fault : RequestFault) → pattern_at style fold one ≡ Err fault → joined_from t (drop i lines) ≡ Err fault
    unfolding joined
    bad_line fault parsed = at_drop_more (joined_from t) lines i none low ∙ and_then_err _ _ fault parsed

    pub large_line : (u : Tree) (fault : RequestFault) → pattern_at style fold one ≡ Ok u
        → located one (pattern_of (either t u)) ≡ Err fault → joined_from t (drop i lines) ≡ Err fault
    unfolding joined
    large_line u fault parsed is =
        at_drop_more (joined_from t) lines i none low ∙ and_then_ok _ _ u parsed ∙ and_then_err _ _ fault is
