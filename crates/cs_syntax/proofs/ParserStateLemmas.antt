-- The parser's state at the start and at the end of a text, and the stack of open groups.
use Rattle.std.proofs.Common.{◌≡◌, ℕ, ◌≤◌, List, [], ◌∷◌, ◌++◌, Bool, length, drop, reverse, refl, ap, arith, drop_of_length-le}
use Rattle.std.proofs.lemmas.List.{reverse-append}
use Rattle.cs_syntax.specs.Parsing.{parse_result, flags_at_start, parse_suffix}
use Rattle.cs_syntax.specs.ParserState.{ParserState, at_start, parse_from_state, parse_at_end}
use Rattle.cs_syntax.specs.declared.items.Before.TheVariants.{Start}
use Rattle.cs_syntax.specs.declared.parser.GroupFrame as frame_type
use Rattle.cs_syntax.proofs.PartialGroupLemmas.{whole_parse_start}

pub nothing_open : (os : List frame_type.GroupFrame) → length os ≡ 0 → os ≡ []
nothing_open [] h = refl
nothing_open (o ∷ os) h = absurd (omega arith)

pub one_more_open : (os : List frame_type.GroupFrame) (o : frame_type.GroupFrame) → reverse (os ++ o ∷ []) ≡ o ∷ reverse os
one_more_open os o = reverse-append os (o ∷ [])

pub parse_from_state-end : (s : ParserState) (text : List ℕ) (offset : ℕ) → length text ≤ offset →
    parse_from_state s 0 offset (drop offset text) ≡ parse_at_end s
unfolding parse_from_state parse_at_end
parse_from_state-end s text offset le = ap (λ (t : List ℕ). parse_from_state s 0 offset t) (drop_of_length-le text {i = offset} le)

pub parse_from_state-start : (text : List ℕ) (fold : Bool) → parse_from_state (at_start fold) 0 0 text ≡ parse_result text fold
unfolding parse_from_state
parse_from_state-start text fold = whole_parse_start (parse_suffix 0 0 Start [] (flags_at_start fold) text)
