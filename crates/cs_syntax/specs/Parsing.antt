-- The parse of a text: a tree, or the leftmost syntax error. The parse of a suffix is defined from the parse of the
-- shorter suffix after its first item. docs/PATTERNS.md, "Patterns" and "Syntax errors".
use Rattle.std.specs.Prelude.{ℕ, zero, suc, ◌+◌, ◌≡◌, Bool, false, List, [], ◌∷◌, length, Option, nat_eq, if◌then◌else◌}
use Rattle.std.specs.List.{fold}
use Rattle.cs_syntax.specs.Matching.{Tree, Trees, alt, rep, none, more}
use Rattle.cs_syntax.specs.Tokens.{sequence, atom, repeat, bar, group_start, group_end, flags_from_here, item, fault}
use Rattle.cs_syntax.specs.Items.{next_token}
use Rattle.cs_syntax.specs.declared.items.Flags.{Flags}
use Rattle.cs_syntax.specs.declared.items.Before.{Before}
use Rattle.cs_syntax.specs.declared.items.Before.TheVariants.{Start, Operand, Repeated}
use Rattle.cs_syntax.specs.declared.fault.PatternFault.{PatternFault}
use Rattle.cs_syntax.specs.declared.fault.PatternFault.TheVariants.{NoOperand, StackedRepeat, OpenGroup, StrayClose, TooDeep, TooLarge, Memory}

-- The rest of one group, up to its `)`: the atoms before the next bar, the branches after that bar, and the leading
-- repeat operators, whose operand comes before the rest.
pub record Level : Type 0 where
  pub atoms : Trees
  pub branches : Trees
  pub repeats : List (ℕ × Option ℕ)

-- the group ends here
abbrev pub empty_level : Level
empty_level = record { atoms = none; branches = none; repeats = [] }

-- the alternation of at least one branch; a single branch is itself
abbrev pub alternation : Tree → Trees → Tree
alternation t none = t
alternation t (more u us) = alt (more t (more u us))

-- the tree of a whole group
abbrev pub whole_group : Level → Tree
whole_group l = alternation (sequence l.atoms) l.branches

-- an atom before the rest of the group: it is inside its repeats, the first one innermost
abbrev pub with_atom : Tree → Level → Level
with_atom t l =
    let repeated = fold (λ u r. rep u r.0 r.1) t l.repeats in
    record { atoms = more repeated l.atoms; branches = l.branches; repeats = [] }

-- a repeat operator before the rest of the group
abbrev pub with_repeat : ℕ → Option ℕ → Level → Level
with_repeat n m l = record l { repeats = (n, m) ∷ l.repeats }

-- a bar before the rest of the group: the atoms up to the next bar become a branch
abbrev pub with_bar : Level → Level
with_bar l = record { atoms = none; branches = more (sequence l.atoms) l.branches; repeats = [] }

-- The parse of a suffix: the rests of the open groups, the innermost first, and of the text itself; or the first syntax
-- error.
pub data SuffixParse : Type 0 where
  levels : Level → List Level → SuffixParse
  syntax_error : PatternFault → ℕ → SuffixParse

-- an item before the suffix that stays in the current group
abbrev pub inside : (Level → Level) → SuffixParse → SuffixParse
inside f (levels l ls) = levels (f l) ls
inside f (syntax_error k offset) = syntax_error k offset

-- a `)` before the suffix: one more group ends there
abbrev pub with_close : SuffixParse → SuffixParse
with_close (levels l ls) = levels empty_level (l ∷ ls)
with_close (syntax_error k offset) = syntax_error k offset

-- a `(` before the suffix: the group up to its `)` is an atom of the enclosing group
abbrev pub with_open : SuffixParse → SuffixParse
with_open (levels l []) = syntax_error OpenGroup 0  -- unreachable: there is one level more than open groups
with_open (levels l (outer ∷ ls)) = levels (with_atom (whole_group l) outer) ls
with_open (syntax_error k offset) = syntax_error k offset

-- an open group: the offset of its `(`, and the flags before it
pub record Group : Type 0 where
  pub offset : ℕ
  pub flags : Flags

-- the greatest number of groups that are open at once
abbrev pub max_open_groups : ℕ
max_open_groups = 200

-- the empty suffix: no group may be open
abbrev pub at_end : List Group → SuffixParse
at_end [] = levels empty_level []
at_end (g ∷ gs) = syntax_error OpenGroup g.offset

-- `parse_suffix skip offset before groups flags text`: the parse of the suffix `text` at `offset`, whose first `skip`
-- bytes belong to the previous item
abbrev pub parse_suffix : ℕ → ℕ → Before → List Group → Flags → List ℕ → SuffixParse
parse_suffix skip offset before groups flags [] = at_end groups
parse_suffix (suc skip) offset before groups flags (b ∷ text) = parse_suffix skip (offset + 1) before groups flags text
parse_suffix zero offset before groups flags (b ∷ text) =
    elim (next_token flags b text) [
      | fault k distance ↦ syntax_error k (offset + distance)
      | item x len ↦
          elim x [
            | atom t ↦ inside (with_atom t) (parse_suffix len (offset + 1) Operand groups flags text)
            | repeat n m ↦
                elim before [
                  | Start ↦ syntax_error NoOperand offset
                  | Repeated ↦ syntax_error StackedRepeat offset
                  | Operand ↦ inside (with_repeat n m) (parse_suffix len (offset + 1) Repeated groups flags text)
                ]
            | bar ↦ inside with_bar (parse_suffix len (offset + 1) Start groups flags text)
            | group_start inner ↦
                if nat_eq (length groups) max_open_groups then syntax_error TooDeep offset
                else
                let group : Group = record { offset = offset; flags = flags } in
                with_open (parse_suffix len (offset + 1) Start (group ∷ groups) inner text)
            | group_end ↦
                elim groups [
                  | [] ↦ syntax_error StrayClose offset
                  | g ∷ gs ↦ with_close (parse_suffix len (offset + 1) Operand gs g.flags text)
                ]
            | flags_from_here new ↦ parse_suffix len (offset + 1) Start groups new text
          ]
    ]

-- the parse of a text: a tree, or a syntax error at an offset
pub data ParseResult : Type 0 where
  tree : Tree → ParseResult
  rejected : PatternFault → ℕ → ParseResult

-- a whole text has one level
abbrev pub answer : SuffixParse → ParseResult
answer (levels l ls) = tree (whole_group l)
answer (syntax_error k offset) = rejected k offset

-- the flags at the start of the text
abbrev pub flags_at_start : Bool → Flags
flags_at_start fold = record { fold = fold; dot_all = false }

-- the parse of the text; with `fold` an ASCII letter matches both of its cases
abbrev pub parse_result : List ℕ → Bool → ParseResult
parse_result text fold = answer (parse_suffix 0 0 Start [] (flags_at_start fold) text)

-- the text parses as the tree
abbrev pub ParsesAs : List ℕ → Bool → Tree → Type 0
ParsesAs text fold t = parse_result text fold ≡ tree t

-- the leftmost syntax error of the text, and its offset
abbrev pub HasSyntaxError : List ℕ → Bool → PatternFault → ℕ → Type 0
HasSyntaxError text fold k offset = parse_result text fold ≡ rejected k offset

-- the syntax errors: all variants except `TooLarge` and `Memory`
abbrev pub IsTextFault : PatternFault → Type 0
IsTextFault TooLarge = ⊥
IsTextFault Memory = ⊥
IsTextFault _ = Unit {0}
