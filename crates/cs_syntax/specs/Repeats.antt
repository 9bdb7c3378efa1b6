-- Repeat operators: `*`, `+`, `?` and counts in braces.
-- docs/PATTERNS.md, "Repeats"; the RE2 syntax page, "Repetitions".
use Rattle.std.specs.Prelude.{ℕ, ◌+◌, Bool, false, ◌||◌, ◌&&◌, List, Option, Some, None, nat_lt, nat_eq, take, drop, if◌then◌else◌}
use Rattle.cs_syntax.specs.ByteSet.{char_set}
use Rattle.cs_syntax.specs.Matching.{one_of}
use Rattle.cs_syntax.specs.Numbers.{count_digits, number_of_digits}
use Rattle.cs_syntax.specs.Tokens.{PatternItem, Token, item, fault, atom, repeat, starts_with_byte}
use Rattle.cs_syntax.specs.declared.items.Number.{Number}
use Rattle.cs_syntax.specs.declared.items.RepeatCounts.{RepeatCounts}
use Rattle.cs_syntax.specs.declared.fault.PatternFault.TheVariants.{BadRepeat}

-- A repeat operator with `len` bytes after its first. A `?` after it (lazy) belongs to it and does not change the tree.
abbrev pub lazy : ℕ → Option ℕ → ℕ → List ℕ → Token PatternItem
lazy n m len rest = item (repeat n m) (len + (if starts_with_byte 63 (drop len rest) then 1 else 0))

-- the leading decimal number, which has no leading zero
abbrev pub number : List ℕ → Option Number
number text =
    let len = count_digits 10 text in
    if nat_eq len 0 || (nat_lt 1 len && starts_with_byte 48 text) then None
    else Some (record { value = number_of_digits 10 (take len text); len = len })

-- after `{n,`: `}` or `m}`
abbrev pub counts_to : Number → List ℕ → Option RepeatCounts
counts_to n rest =
    if starts_with_byte 125 rest then Some (record { least = n.value; most = None; len = n.len + 2 })
    else elim (number rest) [
      | None ↦ None
      | Some m ↦
          if starts_with_byte 125 (drop m.len rest)
          then Some (record { least = n.value; most = Some m.value; len = n.len + 2 + m.len })
          else None
    ]

-- after `{n`: `}`, `,}` or `,m}`
abbrev pub counts_from : Number → List ℕ → Option RepeatCounts
counts_from n rest =
    if starts_with_byte 125 rest then Some (record { least = n.value; most = Some n.value; len = n.len + 1 })
    else if starts_with_byte 44 rest then counts_to n (drop 1 rest)
    else None

-- after `{`: `n}`, `n,}` or `n,m}`, and its length
abbrev pub counts : List ℕ → Option RepeatCounts
counts text = elim (number text) [ None ↦ None | Some n ↦ counts_from n (drop n.len text) ]

-- the greatest count of a repeat, as in RE2
abbrev pub max_repeat : ℕ
max_repeat = 1000

-- a count is above the limit, or the second is below the first
abbrev pub is_bad : RepeatCounts → Bool
is_bad c =
    nat_lt max_repeat c.least || elim c.most [ None ↦ false | Some m ↦ nat_lt max_repeat m || nat_lt m c.least ]

-- after `{`, which is a literal if no counts follow
abbrev pub brace : List ℕ → Token PatternItem
brace rest =
    elim (counts rest) [
      | None ↦ item (atom (one_of (char_set false 123))) 0
      | Some c ↦ if is_bad c then fault BadRepeat 0 else lazy c.least c.most c.len rest
    ]
