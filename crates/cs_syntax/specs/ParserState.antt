-- The state of the parser after a prefix of the text, and its step for an item.
use Rattle.std.specs.Prelude.{ℕ, ◌≡◌, ◌⊎◌, Bool, true, false, List, [], ◌∷◌, Option, map, reverse, drop, length, nat_eq}
use Rattle.cs_syntax.specs.Matching.{Trees, none, more}
use Rattle.cs_syntax.specs.NodeList.{trees_of}
use Rattle.cs_syntax.specs.Tokens.{PatternItem, atom, repeat, bar, group_start, group_end, flags_from_here}
use Rattle.cs_syntax.specs.Parsing.{ParseResult, rejected, Group, flags_at_start, max_open_groups, at_end, parse_suffix}
use Rattle.cs_syntax.specs.PartialGroups.{PartialGroup, whole_parse, with_last_atom, with_last_atom_repeated, with_last_branch, tree_so_far, empty_group}
use Rattle.cs_syntax.specs.declared.items.Before.{Before}
use Rattle.cs_syntax.specs.declared.items.Before.TheVariants.{Start, Operand, Repeated}
use Rattle.cs_syntax.specs.declared.parser.GroupBuilder.{GroupBuilder}
use Rattle.cs_syntax.specs.declared.items.Flags.{Flags}
use Rattle.cs_syntax.specs.declared.fault.PatternFault.{PatternFault}
use Rattle.cs_syntax.specs.declared.fault.PatternFault.TheVariants.{NoOperand, StackedRepeat, StrayClose, TooDeep, Memory}
use Rattle.cs_syntax.specs.declared.fault.PatternError.{PatternError}
use Rattle.cs_syntax.specs.declared.parser.GroupFrame.{GroupFrame}
use Rattle.cs_syntax.specs.declared.parser.Parser.{Parser}

-- A stack frame: the partial tree of an enclosing group, the offset of the `(` at which it was suspended, and the flags
-- there.
pub record PendingGroup : Type 0 where
  pub offset : ℕ
  pub flags : Flags
  pub so_far : PartialGroup

-- The enclosing groups, the innermost first; the partial tree of the current group; the kind of the previous item; the
-- flags.
pub record ParserState : Type 0 where
  pub enclosing : List PendingGroup
  pub so_far : PartialGroup
  pub before : Before
  pub flags : Flags

-- the state at the start of the text
abbrev pub at_start : Bool → ParserState
at_start fold = record { enclosing = []; so_far = empty_group; before = Start; flags = flags_at_start fold }

-- the open group of a frame
abbrev pub group_of : PendingGroup → Group
group_of w = record { offset = w.offset; flags = w.flags }

-- The parse of the whole text, given the state and the suffix `text` at `offset`. The first `skip` bytes of the suffix
-- have been read.
unfoldable pub parse_from_state : ParserState → ℕ → ℕ → List ℕ → ParseResult
parse_from_state s skip offset text =
    whole_parse (map (λ w. w.so_far) s.enclosing) s.so_far
    (parse_suffix skip offset s.before (map group_of s.enclosing) s.flags text)

-- the result of an item: a new state, or a syntax error at the item
pub data Step : Type 0 where
  goes_on : ParserState → Step
  stops : PatternFault → Step

abbrev pub step_repeat : Before → ℕ → Option ℕ → ParserState → Step
step_repeat Start n m s = stops NoOperand
step_repeat Repeated n m s = stops StackedRepeat
step_repeat Operand n m s =
    goes_on (record s { so_far = with_last_atom_repeated n m s.so_far; before = Repeated })

abbrev pub step_open : Bool → Flags → ℕ → ParserState → Step
step_open true inner offset s = stops TooDeep
step_open false inner offset s =
    let w : PendingGroup = record { offset = offset; flags = s.flags; so_far = s.so_far } in
    goes_on (record { enclosing = w ∷ s.enclosing; so_far = empty_group; before = Start; flags = inner })

abbrev pub step_close : List PendingGroup → ParserState → Step
step_close [] s = stops StrayClose
step_close (w ∷ ws) s =
    let outer = with_last_atom w.so_far (tree_so_far s.so_far) in
    goes_on (record { enclosing = ws; so_far = outer; before = Operand; flags = w.flags })

abbrev pub step : PatternItem → ℕ → ParserState → Step
step (atom t) offset s = goes_on (record s { so_far = with_last_atom s.so_far t; before = Operand })
step (repeat n m) offset s = step_repeat s.before n m s
step bar offset s = goes_on (record s { so_far = with_last_branch s.so_far; before = Start })
step (group_start inner) offset s = step_open (nat_eq (length s.enclosing) max_open_groups) inner offset s
step group_end offset s = step_close s.enclosing s
step (flags_from_here new) offset s = goes_on (record s { before = Start; flags = new })

-- the partial group of a builder
abbrev pub partial_group : GroupBuilder → PartialGroup
partial_group d = record { branches = trees_of d.branches.items; atoms = trees_of d.atoms.items }

abbrev pub pending_group : GroupFrame → PendingGroup
pending_group o = record { offset = o.offset; flags = o.flags; so_far = partial_group o.outer }

unfoldable pub state_of : Parser → ParserState
state_of p =
    record {
      enclosing = map pending_group (reverse p.open.items);
      so_far = partial_group p.builder;
      before = p.before;
      flags = p.flags;
    }

-- the parse of the whole text, given the parser after the prefix up to `offset`
abbrev pub parse_from : Parser → List ℕ → ℕ → ParseResult
parse_from p text offset = parse_from_state (state_of p) 0 offset (drop offset text)

-- the parse of the whole text, given the state at its end
unfoldable pub parse_at_end : ParserState → ParseResult
parse_at_end s =
    whole_parse (map (λ w. w.so_far) s.enclosing) s.so_far (at_end (map group_of s.enclosing))

-- after an operand, the current branch has a last atom
abbrev pub IsOperand : Before → Trees → Type 0
IsOperand Start us = Unit {0}
IsOperand Repeated us = Unit {0}
IsOperand Operand none = ⊥
IsOperand Operand (more u us) = Unit {0}

abbrev pub HasOperand : ParserState → Type 0
HasOperand s = IsOperand s.before s.so_far.atoms

-- an allocation failed
abbrev pub IsOutOfMemory : PatternError → Type 0
IsOutOfMemory e = (e.fault ≡ Memory) × (e.at ≡ 0)

-- the error is an allocation failure, or the syntax error of the parse
abbrev pub IsErrorOf : ParseResult → PatternError → Type 0
IsErrorOf r e = IsOutOfMemory e ⊎ (r ≡ rejected e.fault e.at)

-- the error is an allocation failure, or the syntax error of the step, at the offset
abbrev pub IsErrorAt : Step → ℕ → PatternError → Type 0
IsErrorAt s offset e = IsOutOfMemory e ⊎ ((s ≡ stops e.fault) × (e.at ≡ offset))

-- the item takes the parser from the old state to the new one
abbrev pub Advances : PatternItem → ℕ → Parser → Parser → Type 0
Advances x offset old new = step x offset (state_of old) ≡ goes_on (state_of new)

-- the error is the syntax error of the item in this state, or an allocation failure
abbrev pub FailsWith : PatternItem → ℕ → Parser → PatternError → Type 0
FailsWith x offset old e = IsErrorAt (step x offset (state_of old)) offset e
