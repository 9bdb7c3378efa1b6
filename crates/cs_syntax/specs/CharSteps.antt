-- Characters of a line, found byte by byte. The unfinished character before an offset is kept as the number of bytes
-- that it needs, and as the block or the interval of numbers in which it lies.
-- The Unicode standard, table 3-7.
use Rattle.std.specs.Prelude.{ℕ, zero, suc, ◌≡◌, ◌+◌, ◌-◌, ◌*◌, ◌%◌, ◌^◌, Bool, true, false, ◌&&◌, not, List, nat_eq, nat_le, nat_lt, slice_index, if◌then◌else◌}
use Rattle.cs_syntax.specs.Characters.{is_scalar, has_char, MatchesChar}
use Rattle.cs_syntax.specs.Cuts.{floor}
use Rattle.cs_syntax.specs.declared.char_step.Unfinished.{Unfinished}
use Rattle.cs_syntax.specs.declared.char_step.CharStep.{CharStep}
use Rattle.cs_syntax.specs.declared.char_step.CharStep.TheVariants.{Single, Begins, Inside, Completes, Nothing}

-- no character is unfinished
abbrev pub finished : Unfinished
finished = record { needed = 0; low = 0 }

-- a cut lies inside the block of 64 ^ needed numbers from `start` on
abbrev pub is_split : List ℕ → ℕ → ℕ → Bool
is_split cuts needed start = not (nat_eq (floor cuts start) (floor cuts (start + (64 ^ needed - 1))))

-- A character that needs this many bytes, so it lies in the block of 64 ^ needed numbers from `start` on. `low` is where
-- the block begins, or where the interval begins that has the whole block: then it matters no more where in it the
-- block lies. The block from there on is not split either, which tells the two apart.
abbrev pub unfinished_in : List ℕ → ℕ → ℕ → Unfinished
unfinished_in cuts needed start =
    record { needed = needed; low = if is_split cuts needed start then start else floor cuts start }

-- the least character with this many continuation bytes, if there is one
abbrev pub least_with : ℕ → ℕ
least_with zero = 0
least_with (suc zero) = 0x80
least_with (suc (suc zero)) = 0x800
least_with (suc (suc (suc zero))) = 0x10000
least_with (suc (suc (suc (suc k)))) = 0x110000

-- a character of the block from `start` on that needs this many bytes more: with none it is complete
abbrev pub reached : List ℕ → ℕ → ℕ → CharStep
reached cuts zero start = Completes (floor cuts start)
reached cuts (suc needed) start = Inside (unfinished_in cuts (suc needed) start)

-- the block is one of characters, and none of them has a shorter encoding
abbrev pub is_allowed : ℕ → ℕ → Bool
is_allowed needed start = is_scalar start && nat_le (least_with (suc needed)) start

-- the unfinished character with one byte more
abbrev pub with_byte : List ℕ → ℕ → ℕ → CharStep
with_byte cuts needed start = if is_allowed needed start then reached cuts needed start else Nothing

-- over a continuation byte
abbrev pub continued : List ℕ → ℕ → ℕ → ℕ → CharStep
continued cuts zero low b = Nothing
continued cuts (suc needed) low b =
    with_byte cuts needed (if is_split cuts (suc needed) low then low + b % 64 * 64 ^ needed else low)

-- over a lead byte
abbrev pub led_by : List ℕ → ℕ → CharStep
led_by cuts b =
    if nat_lt b 0xc2 then Nothing
    else if nat_lt b 0xe0 then Begins (unfinished_in cuts 1 ((b - 0xc0) * 64))
    else if nat_lt b 0xf0 then Begins (unfinished_in cuts 2 ((b - 0xe0) * 64 ^ 2))
    else if nat_lt b 0xf5 then Begins (unfinished_in cuts 3 ((b - 0xf0) * 64 ^ 3))
    else Nothing

-- what the byte b does after the unfinished character `at`
abbrev pub char_step : List ℕ → Unfinished → ℕ → CharStep
char_step cuts at b =
    if nat_lt b 0x80 then Single b else if nat_lt b 0xc0 then continued cuts at.needed at.low b else led_by cuts b

-- the unfinished character after the step
abbrev pub unfinished_after : CharStep → Unfinished
unfinished_after (Begins at) = at
unfinished_after (Inside at) = at
unfinished_after step = finished

-- the unfinished character before offset i of the line
abbrev pub unfinished : List ℕ → List ℕ → ℕ → Unfinished
unfinished cuts line zero = finished
unfinished cuts line (suc i) = unfinished_after (char_step cuts (unfinished cuts line i) (slice_index line i))

-- the step over the byte at offset i of the line
abbrev pub char_step_at : List ℕ → List ℕ → ℕ → CharStep
char_step_at cuts line i = char_step cuts (unfinished cuts line i) (slice_index line i)

-- A set of characters as one position with two bits. *Begun*: it was entered where the unfinished character begins.
abbrev pub begun_after : Bool → Bool → CharStep → Bool
begun_after enter begun (Begins at) = enter
begun_after enter begun (Inside at) = begun
begun_after enter begun step = false

-- *Taken*: a member has just ended, and the set was entered where it begins.
abbrev pub taken_after : List (ℕ × ℕ) → Bool → Bool → CharStep → Bool
taken_after ranges enter begun (Single b) = enter && has_char ranges b
taken_after ranges enter begun (Completes low) = begun && has_char ranges low
taken_after ranges enter begun step = false

-- the two bits before offset i of the line; `enter` says at which offsets the set is entered
abbrev pub begun_at : List ℕ → List ℕ → (ℕ → Bool) → ℕ → Bool
begun_at cuts line enter zero = false
begun_at cuts line enter (suc i) = begun_after (enter i) (begun_at cuts line enter i) (char_step_at cuts line i)

abbrev pub taken_at : List ℕ → List ℕ → List (ℕ × ℕ) → (ℕ → Bool) → ℕ → Bool
taken_at cuts line ranges enter zero = false
taken_at cuts line ranges enter (suc i) =
    taken_after ranges (enter i) (begun_at cuts line enter i) (char_step_at cuts line i)

-- a member ends at offset j that begins where the set was entered
abbrev pub MatchesEntered : List ℕ → List (ℕ × ℕ) → (ℕ → Bool) → ℕ → Type 0
MatchesEntered line ranges enter j = (e : ℕ) × (enter e ≡ true) × MatchesChar line ranges e j
