-- Two patterns with a bar between them: `s|t`.
-- docs/PATTERNS.md, "Items".
use Rattle.std.specs.Prelude.{ℕ, zero, suc, ◌≡◌, ◌⊎◌, ◌↔◌, Bool, true, ◌&&◌, ◌||◌, not, List, [], ◌∷◌, nat_eq, drop, is_some}
use Rattle.cs_syntax.specs.Matching.{Tree, MatchesSpan}
use Rattle.cs_syntax.specs.Tokens.{item, fault, group_start, group_end, flags_from_here, starts_with_byte}
use Rattle.cs_syntax.specs.Items.{next_token}
use Rattle.cs_syntax.specs.Classes.{name_length}
use Rattle.cs_syntax.specs.Parsing.{flags_at_start}
use Rattle.cs_syntax.specs.declared.items.Flags.{Flags}

-- The flags at the end of the text, whose first `skip` bytes belong to the previous item. `outer` has the flags to
-- restore at the end of each open group, the innermost first.
abbrev pub final_flags : ℕ → List Flags → Flags → List ℕ → Flags
final_flags skip outer flags [] = flags
final_flags (suc skip) outer flags (b ∷ text) = final_flags skip outer flags text
final_flags zero outer flags (b ∷ text) =
    elim (next_token flags b text) [
      | fault k distance ↦ flags
      | item x len ↦
          elim x [
            | group_start inner ↦ final_flags len (flags ∷ outer) inner text
            | group_end ↦ elim outer [ [] ↦ flags | f ∷ fs ↦ final_flags len fs f text ]
            | flags_from_here new ↦ final_flags len outer new text
            | _ ↦ final_flags len outer flags text
          ]
    ]

-- each `[:` of the text is followed by a `:]`
abbrev pub class_names_end : List ℕ → Bool
class_names_end [] = true
class_names_end (b ∷ text) =
    (not (nat_eq b 91 && starts_with_byte 58 text) || is_some (name_length (drop 1 text))) && class_names_end text

-- The text can be followed by a bar: it leaves the flags unchanged, and no class name in it can extend past its end.
pub record IsSelfContained (fold : Bool) (text : List ℕ) : Type 0 where
  pub flags : final_flags 0 [] (flags_at_start fold) text ≡ flags_at_start fold
  pub names : class_names_end text ≡ true

-- the first tree matches exactly the spans that one of the two others matches
abbrev pub MatchesEither : Tree → Tree → Tree → Type 0
MatchesEither z x y =
    (line : List ℕ) (i j : ℕ) → MatchesSpan line z i j ↔ (MatchesSpan line x i j ⊎ MatchesSpan line y i j)
