-- A set of characters that is stepped byte by byte is taken where a member ends that begins where the set was entered.
use Rattle.std.proofs.Common.{◌≡◌, ℕ, zero, suc, ◌+◌, ◌-◌, ◌*◌, ◌/◌, ◌%◌, ◌^◌, ◌<◌, ◌≤◌, ◌⊎◌, inl, inr, Bool, true, false, ◌&&◌, not, List, [], ◌∷◌, ◌++◌, length, get_or, refl, sym, ap, ap₂, subst, true≢false, ◌∙◌, arith}
use Rattle.std.specs.Prelude.{nat_le, nat_lt, nat_eq, ◌↔◌, if◌then◌else◌}
use Rattle.std.specs.List.{Contains}
use Rattle.std.specs.Char.{encode_utf8}
use Rattle.std.proofs.Math.Nat.{pow-suc, one-le-pow, mul-le-mul_right, div-div-eq-div-mul}
use Rattle.std.proofs.lemmas.Bool.{cases_lt, cases_Bool, and_parts, cond-true, cond-false}
use Rattle.std.proofs.lemmas.Bool.Decides.{nat_tests}
use Rattle.cs_syntax.specs.Characters.{is_scalar, has_char, OccursBetween}
use Rattle.cs_syntax.specs.Cuts.{utf8_cuts, Divide, floor}
use Rattle.cs_syntax.specs.CharSteps.{finished, is_split, unfinished_in, least_with, with_byte, continued, reached, is_allowed, led_by, char_step, unfinished_after, unfinished, char_step_at, begun_after, taken_after, begun_at, taken_at, MatchesEntered}
use Rattle.cs_syntax.specs.declared.char_step.Unfinished.{Unfinished}
use Rattle.cs_syntax.specs.declared.char_step.CharStep.{CharStep}
use Rattle.cs_syntax.specs.declared.char_step.CharStep.TheVariants.{Single, Begins, Inside, Completes, Nothing}
use Rattle.cs_syntax.proofs.CutLemmas.{floor_members, floor_le, floor_mono, floor_floor, cut_tells, utf8_cut, is_scalar_floor, has_char_floor}
use Rattle.cs_syntax.proofs.CharSetLemmas.{scalar_cases}
use Rattle.cs_syntax.proofs.EncodingLemmas.{encoding, one_byte, two_bytes, three_bytes, four_bytes, occurs_join, occurs_split, occurs_byte, byte_occurs}

-- ---- blocks

-- the part of a block that one byte more leaves
module _ (r n d : ℕ) where
  part_start : n * 64 ^ suc r + d * 64 ^ r ≡ (n * 64 + d) * 64 ^ r
  part_start = let p = pow-suc 64 r in ap (λ (size : ℕ). n * size + d * 64 ^ r) p ∙ grind arith

  part_above : n * 64 ^ suc r ≤ (n * 64 + d) * 64 ^ r
  part_above = let e = part_start in omega (arith, e)

  part_within : d < 64 → (n * 64 + d) * 64 ^ r + 64 ^ r ≤ n * 64 ^ suc r + 64 ^ suc r
  part_within lt =
      let p = pow-suc 64 r in
      let h : (d + 1) * 64 ^ r ≤ 64 * 64 ^ r = mul-le-mul_right (64 ^ r) (omega arith) in
      let e = part_start in omega (arith, p, h, e)

size_pos : (r : ℕ) → 1 ≤ 64 ^ r
size_pos r = one-le-pow r 64 (omega arith)

split_no : (cuts : List ℕ) (needed start : ℕ) → is_split cuts needed start ≡ false → floor cuts start
    ≡ floor cuts (start + (64 ^ needed - 1))
split_no cuts needed start e = grind (arith, nat_tests)

no_split : (cuts : List ℕ) (needed start : ℕ) → floor cuts start ≡ floor cuts (start + (64 ^ needed - 1)) →
    is_split cuts needed start ≡ false
no_split cuts needed start e = grind (arith, nat_tests)

low_split : (cuts : List ℕ) (needed start : ℕ) → is_split cuts needed start ≡ true → (unfinished_in cuts needed start).low ≡ start
low_split cuts needed start e = cond-true (is_split cuts needed start) _ _ e

low_whole : (cuts : List ℕ) (needed start : ℕ) → is_split cuts needed start ≡ false →
    (unfinished_in cuts needed start).low ≡ floor cuts start
low_whole cuts needed start e = cond-false (is_split cuts needed start) _ _ e

-- numbers within a range whose ends have the same greatest cut have that cut too
squeeze : (cuts : List ℕ) (low n high : ℕ) → low ≤ n → n ≤ high → floor cuts low ≡ floor cuts high → floor cuts n ≡ floor cuts low
squeeze cuts low n high from to e =
    let a = floor_mono cuts low n from in
    let b = floor_mono cuts n high to in omega (arith, a, b, e)

least_cut : (k : ℕ) → Contains utf8_cuts (least_with k)
least_cut zero = (0, omega arith, refl)
least_cut (suc zero) = (1, omega arith, refl)
least_cut (suc (suc zero)) = (2, omega arith, refl)
least_cut (suc (suc (suc zero))) = (5, omega arith, refl)
least_cut (suc (suc (suc (suc k)))) = (6, omega arith, refl)

reached_alike : (cuts : List ℕ) (r m n : ℕ) → floor cuts m ≡ floor cuts n → (unfinished_in cuts r m).low
    ≡ (unfinished_in cuts r n).low → reached cuts r m ≡ reached cuts r n
reached_alike cuts zero m n e g = ap Completes e
reached_alike cuts (suc r) m n e g = ap (λ (low : ℕ). Inside (record { needed = suc r; low = low })) g

step_continued : (cuts : List ℕ) (at : Unfinished) (b : ℕ) → 128 ≤ b → b < 192 → char_step cuts at b ≡ continued cuts at.needed at.low b
step_continued cuts at b from to = grind (arith, nat_tests)

module _ (cuts : List ℕ) (ranges : List (ℕ × ℕ)) (divide : Divide cuts ranges) where
  allowed_floor : (r n : ℕ) → is_allowed r (floor cuts n) ≡ is_allowed r n
  allowed_floor r n =
      ap₂ ◌&&◌ (is_scalar_floor cuts ranges divide n)
      (cut_tells cuts (least_with (suc r)) n (utf8_cut cuts ranges divide (least_with (suc r)) (least_cut (suc r))))

  -- in an interval it does not matter which block it is
  whole_part : (r n d : ℕ) → d < 64 → is_split cuts (suc r) (n * 64 ^ suc r) ≡ false →
      with_byte cuts r (floor cuts (n * 64 ^ suc r)) ≡ with_byte cuts r ((n * 64 + d) * 64 ^ r)
  whole_part r n d lt whole =
      let start = n * 64 ^ suc r in
      let part = (n * 64 + d) * 64 ^ r in
      let last = start + (64 ^ suc r - 1) in
      let ends : floor cuts start ≡ floor cuts last = split_no cuts (suc r) start whole in
      let above : start ≤ part = part_above r n d in
      let within : part + 64 ^ r ≤ start + 64 ^ suc r = part_within r n d lt in
      let some = size_pos r in
      let below : floor cuts start ≤ start = floor_le cuts start in
      let at_part : floor cuts part ≡ floor cuts start = squeeze cuts start part last above (omega (arith, within, some)) ends in
      let part_end : floor cuts (part + (64 ^ r - 1)) ≡ floor cuts start = squeeze cuts start (part + (64 ^ r - 1)) last
      (omega (arith, above)) (omega (arith, within, some)) ends in
      let low = floor cuts start in
      let at_low : floor cuts low ≡ low = floor_floor cuts start in
      let low_end : floor cuts (low + (64 ^ r - 1)) ≡ floor cuts low = squeeze cuts low (low + (64 ^ r - 1)) last
      (omega arith) (omega (arith, above, within, some, below)) (at_low ∙ ends) in
      let part_whole : is_split cuts r part ≡ false = no_split cuts r part (at_part ∙ sym part_end) in
      let low_is_whole : is_split cuts r low ≡ false = no_split cuts r low (sym low_end) in
      let same_low : (unfinished_in cuts r low).low ≡ (unfinished_in cuts r part).low =
      low_whole cuts r low low_is_whole ∙ at_low ∙ sym at_part ∙ sym (low_whole cuts r part part_whole) in
      let step : reached cuts r low ≡ reached cuts r part = reached_alike cuts r low part (at_low ∙ sym at_part) same_low in
      let test : is_allowed r low ≡ is_allowed r part = ap (is_allowed r) (sym at_part) ∙ allowed_floor r part in
      ap₂ (λ (b : Bool) (s : CharStep). if b then s else Nothing) test step

  -- over a continuation byte the unfinished character of block n is that of one of the 64 blocks in it
  continued_block : (r n b : ℕ) → continued cuts (suc r) (unfinished_in cuts (suc r) (n * 64 ^ suc r)).low b
      ≡ with_byte cuts r ((n * 64 + b % 64) * 64 ^ r)
  continued_block r n b =
      let start = n * 64 ^ suc r in
      let from = λ (low : ℕ). continued cuts (suc r) low b in
      elim (cases_Bool (is_split cuts (suc r) start)) [
        | inl split ↦
            ap from (low_split cuts (suc r) start split)
            ∙ ap (with_byte cuts r) (cond-true (is_split cuts (suc r) start) _ _ split ∙ part_start r n (b % 64))
        | inr whole ↦
            let low = floor cuts start in
            let last = start + (64 ^ suc r - 1) in
            let below : low ≤ start = floor_le cuts start in
            let at_low : floor cuts low ≡ low = floor_floor cuts start in
            let low_end : floor cuts (low + (64 ^ suc r - 1)) ≡ floor cuts low =
            squeeze cuts low (low + (64 ^ suc r - 1)) last (omega arith) (omega (arith, below))
            (at_low ∙ split_no cuts (suc r) start whole) in
            ap from (low_whole cuts (suc r) start whole)
            ∙ ap (with_byte cuts r) (cond-false (is_split cuts (suc r) low) _ _ (no_split cuts (suc r) low (sym low_end)))
            ∙ whole_part r n (b % 64) (omega arith) whole
      ]

  step_inside : (at : Unfinished) (r n b : ℕ) → at ≡ unfinished_in cuts (suc r) (n * 64 ^ suc r) → 128 ≤ b → b < 192 →
      char_step cuts at b ≡ with_byte cuts r ((n * 64 + b % 64) * 64 ^ r)
  step_inside at r n b e from to = step_continued cuts at b from to
      ∙ ap (λ (u : Unfinished). continued cuts u.needed u.low b) e ∙ continued_block r n b

with_byte_allowed : (cuts : List ℕ) (r start : ℕ) → is_allowed r start ≡ true → with_byte cuts r start ≡ reached cuts r start
with_byte_allowed cuts r start e = cond-true (is_allowed r start) _ _ e

-- ---- lead bytes

-- the lead bytes of encodings with t continuation bytes begin here
abbrev lead_of : ℕ → ℕ
lead_of zero = 0
lead_of (suc zero) = 192
lead_of (suc (suc zero)) = 224
lead_of (suc (suc (suc t))) = 240

-- lead_of t + n is a lead byte of an encoding with t continuation bytes
abbrev IsLead : ℕ → ℕ → Type 0
IsLead zero n = ⊥
IsLead (suc zero) n = (2 ≤ n) × (n < 32)
IsLead (suc (suc zero)) n = n < 16
IsLead (suc (suc (suc zero))) n = n < 5
IsLead (suc (suc (suc (suc t)))) n = ⊥

step_single : (cuts : List ℕ) (at : Unfinished) (b : ℕ) → b < 128 → char_step cuts at b ≡ Single b
step_single cuts at b lt = grind (arith, nat_tests)

step_led : (cuts : List ℕ) (at : Unfinished) (b : ℕ) → 192 ≤ b → char_step cuts at b ≡ led_by cuts b
step_led cuts at b le = grind (arith, nat_tests)

led_before : (cuts : List ℕ) (b : ℕ) → b < 194 → led_by cuts b ≡ Nothing
led_before cuts b lt = grind (arith, nat_tests)

led_one : (cuts : List ℕ) (b : ℕ) → 194 ≤ b → b < 224 → led_by cuts b ≡ Begins (unfinished_in cuts 1 ((b - 192) * 64))
led_one cuts b from to = grind (arith, nat_tests)

led_two : (cuts : List ℕ) (b : ℕ) → 224 ≤ b → b < 240 → led_by cuts b ≡ Begins (unfinished_in cuts 2 ((b - 224) * 64 ^ 2))
led_two cuts b from to = grind (arith, nat_tests)

led_three : (cuts : List ℕ) (b : ℕ) → 240 ≤ b → b < 245 → led_by cuts b ≡ Begins (unfinished_in cuts 3 ((b - 240) * 64 ^ 3))
led_three cuts b from to = grind (arith, nat_tests)

led_after : (cuts : List ℕ) (b : ℕ) → 245 ≤ b → led_by cuts b ≡ Nothing
led_after cuts b from = grind (arith, nat_tests)

-- what a lead byte begins
abbrev Leads : List ℕ → ℕ → ℕ → Type 0
Leads cuts t b = (n : ℕ) × IsLead t n × (b ≡ lead_of t + n) × (led_by cuts b ≡ Begins (unfinished_in cuts t (n * 64 ^ t)))

lead_cases : (cuts : List ℕ) (b : ℕ) → (led_by cuts b ≡ Nothing) ⊎ ((t : ℕ) × Leads cuts t b)
lead_cases cuts b =
    elim (cases_lt b 194) [
      | inl none ↦ inl (led_before cuts b none)
      | inr one_on ↦
          elim (cases_lt b 224) [
            | inl one ↦ inr (1, (b - 192, (omega arith, omega arith), omega arith, led_one cuts b one_on one))
            | inr two_on ↦
                elim (cases_lt b 240) [
                  | inl two ↦ inr (2, (b - 224, omega arith, omega arith, led_two cuts b two_on two))
                  | inr three_on ↦
                      elim (cases_lt b 245) [
                        | inl three ↦ inr (3, (b - 240, omega arith, omega arith, led_three cuts b three_on three))
                        | inr past ↦ inl (led_after cuts b past)
                      ]
                ]
          ]
    ]

lead_begins : (cuts : List ℕ) (t n : ℕ) → IsLead t n → led_by cuts (lead_of t + n) ≡ Begins (unfinished_in cuts t (n * 64 ^ t))
lead_begins cuts zero n h = absurd h
lead_begins cuts (suc zero) n h =
    let same : 192 + n - 192 ≡ n = omega arith in
    led_one cuts (192 + n) (omega (arith, h.0)) (omega (arith, h.1)) ∙ ap (λ (m : ℕ). Begins (unfinished_in cuts 1 (m * 64))) same
lead_begins cuts (suc (suc zero)) n h =
    let same : 224 + n - 224 ≡ n = omega arith in
    led_two cuts (224 + n) (omega arith) (omega (arith, h)) ∙ ap (λ (m : ℕ). Begins (unfinished_in cuts 2 (m * 64 ^ 2))) same
lead_begins cuts (suc (suc (suc zero))) n h =
    let same : 240 + n - 240 ≡ n = omega arith in
    led_three cuts (240 + n) (omega arith) (omega (arith, h)) ∙ ap (λ (m : ℕ). Begins (unfinished_in cuts 3 (m * 64 ^ 3))) same
lead_begins cuts (suc (suc (suc (suc t)))) n h = absurd h

lead_high : (t n : ℕ) → IsLead t n → 192 ≤ lead_of t + n
lead_high zero n h = absurd h
lead_high (suc zero) n h = omega arith
lead_high (suc (suc zero)) n h = omega arith
lead_high (suc (suc (suc t))) n h = omega arith

lead_few : (t n : ℕ) → IsLead t n → (t ≡ suc (t - 1)) × (t ≤ 3)
lead_few zero n h = absurd h
lead_few (suc zero) n h = (omega arith, omega arith)
lead_few (suc (suc zero)) n h = (omega arith, omega arith)
lead_few (suc (suc (suc zero))) n h = (omega arith, omega arith)
lead_few (suc (suc (suc (suc t)))) n h = absurd h

-- no number with t continuation bytes lies above
abbrev upper : ℕ → ℕ
upper zero = 128
upper (suc zero) = 2048
upper (suc (suc zero)) = 65536
upper (suc (suc (suc t))) = 2097152

lead_short : (t n : ℕ) → IsLead t n → n * 64 ^ t + 64 ^ t ≤ upper t
lead_short zero n h = absurd h
lead_short (suc zero) n h = omega (arith, h.1)
lead_short (suc (suc zero)) n h = omega (arith, h)
lead_short (suc (suc (suc zero))) n h = omega (arith, h)
lead_short (suc (suc (suc (suc t)))) n h = absurd h

-- a character whose encoding has t continuation bytes
record IsLong (t c : ℕ) : Type 0 where
  some : 1 ≤ t
  few : t ≤ 3
  scalar : is_scalar c ≡ true
  long : least_with t ≤ c
  short : c < upper t

encoded : (t c : ℕ) → IsLong t c → encode_utf8 c ≡ encoding (lead_of t) t c
encoded zero c h = absurd (omega (arith, h.some))
encoded (suc zero) c h = two_bytes c (omega (arith, h.long)) (omega (arith, h.short))
encoded (suc (suc zero)) c h = three_bytes c (omega (arith, h.long)) (omega (arith, h.short))
encoded (suc (suc (suc zero))) c h = four_bytes c (omega (arith, h.long))
encoded (suc (suc (suc (suc t)))) c h = absurd (omega (arith, h.few))

long_cases : (c : ℕ) → is_scalar c ≡ true → 128 ≤ c → (t : ℕ) × IsLong t c
long_cases c scalar multibyte =
    elim (cases_lt c 2048) [
      | inl two ↦ (1, record { some = omega arith; few = omega arith; scalar = scalar; long = multibyte; short = two })
      | inr past_two ↦
          elim (cases_lt c 65536) [
            | inl three ↦ (2, record { some = omega arith; few = omega arith; scalar = scalar; long = past_two; short = three })
            | inr four ↦ (
              3,
              record {
                some = omega arith;
                few = omega arith;
                scalar = scalar;
                long = four;
                short =
                    grind (arith, scalar_cases c);
              },
            )
          ]
    ]

-- the block of a character, at each number of bytes
long_lead : (t c : ℕ) → IsLong t c → IsLead t (c / 64 ^ t)
long_lead zero c h = absurd (omega (arith, h.some))
long_lead (suc zero) c h = (omega (arith, h.long), omega (arith, h.short))
long_lead (suc (suc zero)) c h = omega (arith, h.short)
long_lead (suc (suc (suc zero))) c h = let scalar = h.scalar in grind (arith, scalar_cases c)
long_lead (suc (suc (suc (suc t)))) c h = absurd (omega (arith, h.few))

long_allowed : (t r c : ℕ) → IsLong t c → suc r ≤ t → is_allowed r (c / 64 ^ r * 64 ^ r) ≡ true
long_allowed t zero c h le =
    let same : c ≡ c / 64 ^ 0 * 64 ^ 0 = omega arith in
    let first : 128 ≤ c = at_least t c h in
    let test : nat_le 128 c ≡ true = grind (arith, nat_tests) in
    ap (is_allowed 0) (sym same) ∙ ap₂ ◌&&◌ h.scalar test
  where
    at_least : (t c : ℕ) → IsLong t c → 128 ≤ c
    at_least zero c h = absurd (omega (arith, h.some))
    at_least (suc zero) c h = h.long
    at_least (suc (suc zero)) c h = omega (arith, h.long)
    at_least (suc (suc (suc zero))) c h = omega (arith, h.long)
    at_least (suc (suc (suc (suc t)))) c h = absurd (omega (arith, h.few))
long_allowed zero (suc r) c h le = absurd (omega arith)
long_allowed (suc zero) (suc r) c h le = absurd (omega arith)
long_allowed (suc (suc zero)) (suc zero) c h le =
    let scalar = h.scalar in
    let long : 2048 ≤ c = h.long in grind (arith, nat_tests, scalar_cases c)
long_allowed (suc (suc zero)) (suc (suc r)) c h le = absurd (omega arith)
long_allowed (suc (suc (suc t))) (suc zero) c h le =
    let scalar = h.scalar in
    let long : 2048 ≤ c = long_three t c h in grind (arith, nat_tests, scalar_cases c)
  where
    long_three : (t c : ℕ) → IsLong (suc (suc (suc t))) c → 2048 ≤ c
    long_three zero c h = omega (arith, h.long)
    long_three (suc t) c h = absurd (omega (arith, h.few))
long_allowed (suc (suc (suc zero))) (suc (suc zero)) c h le =
    let scalar = h.scalar in
    let long : 65536 ≤ c = h.long in grind (arith, nat_tests, scalar_cases c)
long_allowed (suc (suc (suc (suc t)))) (suc (suc zero)) c h le = absurd (omega (arith, h.few))
long_allowed t (suc (suc (suc r))) c h le = absurd (omega (arith, h.few))

-- ---- along a line

module _ (cuts line : List ℕ) (ranges : List (ℕ × ℕ)) (divide : Divide cuts ranges) (enter : ℕ → Bool) where
  -- a character began, and this is its block so far
  record IsOpen (i : ℕ) : Type 0 where
    start : ℕ
    total : ℕ
    read : ℕ
    needed : ℕ
    block : ℕ
    lengths : read + suc needed ≡ total
    few : total ≤ 3
    bytes : OccursBetween line (encoding (lead_of total) read block) start i
    code : unfinished cuts line i ≡ unfinished_in cuts (suc needed) (block * 64 ^ suc needed)
    long : (read ≡ 0) ⊎ (least_with total ≤ block * 64 ^ suc needed)
    short : block * 64 ^ suc needed + 64 ^ suc needed ≤ upper total
    begun : begun_at cuts line enter i ≡ enter start

  abbrev IsKnown : ℕ → Type 0
  IsKnown i = (unfinished cuts line i ≡ finished) ⊎ IsOpen i

  abbrev byte : ℕ → ℕ
  byte i = get_or line i 0

  -- the block after one continuation byte more
  abbrev part : (i : ℕ) → IsOpen i → ℕ
  part i h = h.block * 64 + byte i % 64

  part_bytes : (i : ℕ) (h : IsOpen i) → i < length line → 128 ≤ byte i → byte i < 192 →
      OccursBetween line (encoding (lead_of h.total) (suc h.read) (part i h)) h.start (suc i)
  part_bytes i h inside from to =
      let block : part i h / 64 ≡ h.block = omega arith in
      let last : 128 + part i h % 64 ≡ byte i = omega arith in
      let P : List ℕ → Type 0 = λ bs. OccursBetween line bs h.start (suc i) in
      subst P (ap₂ (λ (m b : ℕ). encoding (lead_of h.total) h.read m ++ b ∷ []) (sym block) (sym last))
      (occurs_join line (encoding (lead_of h.total) h.read h.block) (byte i ∷ []) h.start i (suc i) h.bytes (byte_occurs line i inside))

  part_long : (i : ℕ) (h : IsOpen i) → is_allowed h.needed (part i h * 64 ^ h.needed) ≡ true → least_with h.total ≤ part i h * 64 ^ h.needed
  part_long i h allowed =
      elim h.long [
        | inl first ↦
            let all : suc h.needed ≡ h.total = omega (arith, h.lengths, first) in
            let N = part i h * 64 ^ h.needed in
            let test : nat_le (least_with (suc h.needed)) N ≡ true =
            (and_parts (is_scalar N) (nat_le (least_with (suc h.needed)) N) allowed).1 in
            let least : least_with (suc h.needed) ≤ part i h * 64 ^ h.needed = grind (arith, nat_tests, test) in
            subst (λ (t : ℕ). least_with t ≤ part i h * 64 ^ h.needed) all least
        | inr later ↦ omega (arith, later, part_above h.needed h.block (byte i % 64))
      ]

  open_step : (i : ℕ) (h : IsOpen i) → 128 ≤ byte i → byte i < 192 → char_step_at cuts line i
      ≡ with_byte cuts h.needed (part i h * 64 ^ h.needed)
  open_step i h from to = step_inside cuts ranges divide (unfinished cuts line i) h.needed h.block (byte i) h.code from to

  open_after : (i : ℕ) (h : IsOpen i) → i < length line → 128 ≤ byte i → byte i < 192 → (needed : ℕ) → h.needed ≡ suc needed →
      is_allowed h.needed (part i h * 64 ^ h.needed) ≡ true → char_step_at cuts line i
      ≡ Inside (unfinished_in cuts (suc needed) (part i h * 64 ^ suc needed)) → IsOpen (suc i)
  open_after i h inside from to needed more allowed step =
      let N = part i h * 64 ^ h.needed in
      let small : byte i % 64 < 64 = omega arith in
      let within : N + 64 ^ h.needed ≤ upper h.total = omega (arith, h.short, part_within h.needed h.block (byte i % 64) small) in
      let code : unfinished cuts line (suc i) ≡ unfinished_in cuts (suc needed) (part i h * 64 ^ suc needed) = ap unfinished_after step in
      let long : least_with h.total ≤ part i h * 64 ^ suc needed =
      subst (λ (r : ℕ). least_with h.total ≤ part i h * 64 ^ r) more (part_long i h allowed) in
      let short : part i h * 64 ^ suc needed + 64 ^ suc needed ≤ upper h.total =
      subst (λ (r : ℕ). part i h * 64 ^ r + 64 ^ r ≤ upper h.total) more within in
      let begun : begun_at cuts line enter (suc i) ≡ enter h.start =
      ap (begun_after (enter i) (begun_at cuts line enter i)) step ∙ h.begun in
      record {
        start = h.start;
        total = h.total;
        read = suc h.read;
        needed = needed;
        block = part i h;
        lengths = omega (arith, h.lengths, more);
        few = h.few;
        bytes = part_bytes i h inside from to;
        code = code;
        long = inr long;
        short = short;
        begun = begun;
      }

  opened : (i t n : ℕ) → i < length line → IsLead t n → byte i ≡ lead_of t + n → char_step_at cuts line i
      ≡ Begins (unfinished_in cuts t (n * 64 ^ t)) → IsOpen (suc i)
  opened i t n inside lead is step =
      let few = lead_few t n lead in
      let code : unfinished cuts line (suc i) ≡ unfinished_in cuts t (n * 64 ^ t) = ap unfinished_after step in
      record {
        start = i;
        total = t;
        read = 0;
        needed = t - 1;
        block = n;
        lengths = omega (arith, few.0);
        few = few.1;
        bytes = subst (λ (b : ℕ). OccursBetween line (b ∷ []) i (suc i)) is (byte_occurs line i inside);
        code = subst (λ (r : ℕ). unfinished cuts line (suc i) ≡ unfinished_in cuts r (n * 64 ^ r)) few.0 code;
        long = inl refl;
        short = subst (λ (r : ℕ). n * 64 ^ r + 64 ^ r ≤ upper t) few.0 (lead_short t n lead);
        begun = ap (begun_after (enter i) (begun_at cuts line enter i)) step;
      }

  -- a character is complete
  complete : (i : ℕ) (h : IsOpen i) → i < length line → 128 ≤ byte i → byte i < 192 → h.needed ≡ 0 →
      is_allowed h.needed (part i h * 64 ^ h.needed) ≡ true →
      OccursBetween line (encode_utf8 (part i h * 64 ^ h.needed)) h.start (suc i)
  complete i h inside from to none allowed =
      let N = part i h * 64 ^ h.needed in
      let same : N ≡ part i h = ap (λ (r : ℕ). part i h * 64 ^ r) none ∙ omega arith in
      let small : byte i % 64 < 64 = omega arith in
      let within : N + 64 ^ h.needed ≤ upper h.total = omega (arith, h.short, part_within h.needed h.block (byte i % 64) small) in
      let some = size_pos h.needed in
      let long : IsLong h.total N = record {
        some = omega (arith, h.lengths);
        few = h.few;
        scalar = (and_parts (is_scalar N) (nat_le (least_with (suc h.needed)) N) allowed).0;
        long = part_long i h allowed;
        short = omega (arith, within, some);
      } in
      let all : suc h.read ≡ h.total = omega (arith, h.lengths, none) in
      subst (λ (bs : List ℕ). OccursBetween line bs h.start (suc i))
      (ap₂ (λ (k n : ℕ). encoding (lead_of h.total) k n) all (sym same) ∙ sym (encoded h.total N long)) (part_bytes i h inside from to)

  abbrev taken_by : ℕ → CharStep → Bool
  taken_by i step = taken_after ranges (enter i) (begun_at cuts line enter i) step

  -- what the byte at offset i does
  data Kind (i : ℕ) : Type 0 where
    nothing : char_step_at cuts line i ≡ Nothing → Kind i
    single : byte i < 128 → char_step_at cuts line i ≡ Single (byte i) → Kind i
    more : (step : CharStep) → char_step_at cuts line i ≡ step → taken_by i step ≡ false → IsOpen (suc i) → Kind i
    last : (c e : ℕ) → char_step_at cuts line i ≡ Completes (floor cuts c) → begun_at cuts line enter i ≡ enter e →
        OccursBetween line (encode_utf8 c) e (suc i) → Kind i

  kind_open : (i : ℕ) (h : IsOpen i) → i < length line → 128 ≤ byte i → byte i < 192 → Kind i
  kind_open i h inside from to =
      let N = part i h * 64 ^ h.needed in
      let step = open_step i h from to in
      elim (cases_Bool (is_allowed h.needed N)) [
        | inl allowed ↦ by h.needed refl allowed (step ∙ with_byte_allowed cuts h.needed N allowed)
        | inr dropped ↦ nothing (step ∙ cond-false (is_allowed h.needed N) _ _ dropped)
      ]
    where
      by : (needed : ℕ) → h.needed ≡ needed → is_allowed h.needed (part i h * 64 ^ h.needed) ≡ true →
          char_step_at cuts line i ≡ reached cuts h.needed (part i h * 64 ^ h.needed) → Kind i
      by zero e allowed step =
          let N = part i h * 64 ^ h.needed in
          last N h.start (step ∙ ap (λ (r : ℕ). reached cuts r N) e) h.begun (complete i h inside from to e allowed)
      by (suc needed) e allowed step =
          let all = step ∙ ap (λ (r : ℕ). reached cuts r (part i h * 64 ^ r)) e in
          more (Inside (unfinished_in cuts (suc needed) (part i h * 64 ^ suc needed))) all refl
          (open_after i h inside from to needed e allowed all)

  kind_led : (i : ℕ) → i < length line → 192 ≤ byte i → Kind i
  kind_led i inside from =
      let led = step_led cuts (unfinished cuts line i) (byte i) from in
      elim (lead_cases cuts (byte i)) [
        | inl none ↦ nothing (led ∙ none)
        | inr lead ↦ more (Begins (unfinished_in cuts lead.0 (lead.1.0 * 64 ^ lead.0))) (led ∙ lead.1.3) refl
            (opened i lead.0 lead.1.0 inside lead.1.1 lead.1.2 (led ∙ lead.1.3))
      ]

  kind : (i : ℕ) → i < length line → IsKnown i → Kind i
  kind i inside known =
      elim (cases_lt (byte i) 128) [
        | inl ascii ↦ single ascii (step_single cuts (unfinished cuts line i) (byte i) ascii)
        | inr from ↦
            elim (cases_lt (byte i) 192) [
              | inl to ↦
                  elim known [
                    | inl none ↦ nothing (ap (λ (u : Unfinished). char_step cuts u (byte i)) none
                        ∙ step_continued cuts finished (byte i) from to)
                    | inr begun ↦ kind_open i begun inside from to
                  ]
              | inr lead ↦ kind_led i inside lead
            ]
      ]

  known : (i : ℕ) → i ≤ length line → IsKnown i
  known zero le = inl refl
  known (suc i) le =
      elim (kind i (omega arith) (known i (omega arith))) [
        | nothing e ↦ inl (ap unfinished_after e)
        | single ascii e ↦ inl (ap unfinished_after e)
        | more step e none later ↦ inr later
        | last c from e begun text ↦ inl (ap unfinished_after e)
      ]

  taken_matched : (j : ℕ) → j ≤ length line → taken_at cuts line ranges enter j ≡ true → MatchesEntered line ranges enter j
  taken_matched zero le h = absurd (true≢false (sym h))
  taken_matched (suc i) le h =
      elim (kind i (omega arith) (known i (omega arith))) [
        | nothing e ↦ absurd (true≢false (sym h ∙ ap (taken_by i) e))
        | single ascii e ↦
            let both = and_parts (enter i) (has_char ranges (byte i)) (sym (ap (taken_by i) e) ∙ h) in
            let text = subst (λ (bs : List ℕ). OccursBetween line bs i (suc i)) (sym (one_byte (byte i) ascii))
            (byte_occurs line i (omega arith)) in
            (i, both.0, (byte i, both.1, text))
        | more step e none later ↦ absurd (true≢false (sym h ∙ ap (taken_by i) e ∙ none))
        | last c from e begun text ↦
            let both = and_parts (begun_at cuts line enter i) (has_char ranges (floor cuts c)) (sym (ap (taken_by i) e) ∙ h) in
            (from, sym begun ∙ both.0, (c, sym (has_char_floor cuts ranges divide c) ∙ both.1, text))
      ]

  -- ---- a member is taken

  abbrev Reads : ℕ → ℕ → ℕ → ℕ → Type 0
  Reads needed n e i = (unfinished cuts line i ≡ unfinished_in cuts needed (n * 64 ^ needed)) × (begun_at cuts line enter i ≡ enter e)

  -- inside a character the unfinished character describes it
  reads : (t c : ℕ) → IsLong t c → (k r n e i : ℕ) → OccursBetween line (encoding (lead_of t) k n) e i → k + suc r ≡ t →
      n ≡ c / 64 ^ suc r → Reads (suc r) n e i
  reads t c long zero r n e i h lengths block =
      let at = occurs_byte line (lead_of t + n) e i h in
      let all : t ≡ suc r = omega (arith, lengths) in
      let lead : IsLead t n = subst (IsLead t) (ap (λ (m : ℕ). c / 64 ^ m) all ∙ sym block) (long_lead t c long) in
      let step : char_step_at cuts line e ≡ Begins (unfinished_in cuts t (n * 64 ^ t)) =
      ap (char_step cuts (unfinished cuts line e)) at.1 ∙ step_led cuts (unfinished cuts line e) (lead_of t + n)
      (lead_high t n lead) ∙ lead_begins cuts t n lead in
      subst (Reads (suc r) n e) (sym at.2)
      (subst (λ (m : ℕ). Reads m n e (suc e)) all (ap unfinished_after step, ap (begun_after (enter e) (begun_at cuts line enter e)) step))
  reads t c long (suc k) r n e i h lengths block =
      let cut = occurs_split line (encoding (lead_of t) k (n / 64)) ((128 + n % 64) ∷ []) e i h in
      let l = cut.0 in
      let above : n / 64 ≡ c / 64 ^ suc (suc r) =
      ap (λ (m : ℕ). m / 64) block ∙ div-div-eq-div-mul c (64 ^ suc r) 64 ∙ ap (λ (m : ℕ). c / m) (sym (pow-suc 64 (suc r))) in
      let before = reads t c long k (suc r) (n / 64) e l cut.1 (omega (arith, lengths)) above in
      let at = occurs_byte line (128 + n % 64) l i cut.2 in
      let last = 128 + n % 64 in
      let whole : n / 64 * 64 + last % 64 ≡ n = omega arith in
      let allowed : is_allowed (suc r) (n * 64 ^ suc r) ≡ true =
      ap (λ (m : ℕ). is_allowed (suc r) (m * 64 ^ suc r)) block ∙ long_allowed t (suc r) c long (omega (arith, lengths)) in
      let step : char_step_at cuts line l ≡ Inside (unfinished_in cuts (suc r) (n * 64 ^ suc r)) =
      ap (char_step cuts (unfinished cuts line l)) at.1
      ∙ step_inside cuts ranges divide (unfinished cuts line l) (suc r) (n / 64) last before.0 (omega arith) (omega arith)
      ∙ ap (λ (m : ℕ). with_byte cuts (suc r) (m * 64 ^ suc r)) whole ∙ with_byte_allowed cuts (suc r) (n * 64 ^ suc r) allowed in
      subst (Reads (suc r) n e) (sym at.2) (
        ap unfinished_after step,
        ap (begun_after (enter l) (begun_at cuts line enter l)) step ∙ before.1,
      )

  taken_matches_long : (t c e j : ℕ) → IsLong t c → has_char ranges c ≡ true → enter e ≡ true →
      OccursBetween line (encoding (lead_of t) t c) e j → taken_at cuts line ranges enter j ≡ true
  taken_matches_long zero c e j long member entered h = absurd (omega (arith, long.some))
  taken_matches_long (suc k) c e j long member entered h =
      let cut = occurs_split line (encoding (lead_of (suc k)) k (c / 64)) ((128 + c % 64) ∷ []) e j h in
      let l = cut.0 in
      let before = reads (suc k) c long k 0 (c / 64) e l cut.1 (omega arith) refl in
      let at = occurs_byte line (128 + c % 64) l j cut.2 in
      let last = 128 + c % 64 in
      let whole : (c / 64 * 64 + last % 64) * 64 ^ 0 ≡ c = omega arith in
      let same : c ≡ c / 64 ^ 0 * 64 ^ 0 = omega arith in
      let allowed : is_allowed 0 c ≡ true = ap (is_allowed 0) same ∙ long_allowed (suc k) 0 c long (omega arith) in
      let step : char_step_at cuts line l ≡ Completes (floor cuts c) =
      ap (char_step cuts (unfinished cuts line l)) at.1
      ∙ step_inside cuts ranges divide (unfinished cuts line l) 0 (c / 64) last before.0 (omega arith) (omega arith)
      ∙ ap (with_byte cuts 0) whole ∙ with_byte_allowed cuts 0 c allowed in
      let taken : taken_at cuts line ranges enter (suc l) ≡ true =
      ap (taken_by l) step ∙ ap₂ ◌&&◌ (before.1 ∙ entered) (has_char_floor cuts ranges divide c ∙ member) in
      subst (λ (i : ℕ). taken_at cuts line ranges enter i ≡ true) (sym at.2) taken

  entered_taken : (j : ℕ) → MatchesEntered line ranges enter j → taken_at cuts line ranges enter j ≡ true
  entered_taken j (e, entered, (c, member, h)) =
      let scalar = (and_parts (is_scalar c) _ member).0 in
      elim (cases_lt c 128) [
        | inl ascii ↦
            let at = occurs_byte line c e j (subst (λ (bs : List ℕ). OccursBetween line bs e j) (one_byte c ascii) h) in
            let step : char_step_at cuts line e ≡ Single c = ap (char_step cuts (unfinished cuts line e)) at.1
            ∙ step_single cuts (unfinished cuts line e) c ascii in
            subst (λ (k : ℕ). taken_at cuts line ranges enter k ≡ true) (sym at.2) (ap (taken_by e) step ∙ ap₂ ◌&&◌ entered member)
        | inr multibyte ↦
            let long = long_cases c scalar multibyte in
            taken_matches_long long.0 c e j long.1 member entered
            (subst (λ (bs : List ℕ). OccursBetween line bs e j) (encoded long.0 c long.1) h)
      ]

pub taken_matches : (cuts line : List ℕ) (ranges : List (ℕ × ℕ)) → Divide cuts ranges → (enter : ℕ → Bool) (j : ℕ) → j ≤ length line →
    taken_at cuts line ranges enter j ≡ true ↔ MatchesEntered line ranges enter j
taken_matches cuts line ranges divide enter j le =
    (taken_matched cuts line ranges divide enter j le, entered_taken cuts line ranges divide enter j)

-- ---- the order of the cuts does not matter

module _ (xs ys : List ℕ) (same : (n : ℕ) → floor xs n ≡ floor ys n) where
  split_same : (needed start : ℕ) → is_split xs needed start ≡ is_split ys needed start
  split_same needed start = ap₂ (λ (m n : ℕ). not (nat_eq m n)) (same start) (same (start + (64 ^ needed - 1)))

  unfinished_same : (needed start : ℕ) → unfinished_in xs needed start ≡ unfinished_in ys needed start
  unfinished_same needed start =
      ap₂ (λ (split : Bool) (low : ℕ). record { needed = needed; low = if split then start else low })
      (split_same needed start) (same start)

  reached_same : (needed start : ℕ) → reached xs needed start ≡ reached ys needed start
  reached_same zero start = ap Completes (same start)
  reached_same (suc needed) start = ap Inside (unfinished_same (suc needed) start)

  continued_same : (needed low b : ℕ) → continued xs needed low b ≡ continued ys needed low b
  continued_same zero low b = refl
  continued_same (suc needed) low b =
      let start = λ (split : Bool). if split then low + b % 64 * 64 ^ needed else low in
      ap (λ (split : Bool). with_byte xs needed (start split)) (split_same (suc needed) low)
      ∙ ap (λ (s : CharStep). if is_allowed needed (start (is_split ys (suc needed) low)) then s else Nothing)
      (reached_same needed (start (is_split ys (suc needed) low)))

  led_same : (b : ℕ) → led_by xs b ≡ led_by ys b
  led_same b =
      let steps = λ (one two three : Unfinished).
      if nat_lt b 0xc2 then Nothing else if nat_lt b 0xe0 then Begins one else if nat_lt b 0xf0 then Begins two else
      if nat_lt b 0xf5 then Begins three else Nothing in
      ap₂ (λ (one two : Unfinished). steps one two (unfinished_in xs 3 ((b - 0xf0) * 64 ^ 3)))
      (unfinished_same 1 ((b - 0xc0) * 64)) (unfinished_same 2 ((b - 0xe0) * 64 ^ 2))
      ∙ ap (steps (unfinished_in ys 1 ((b - 0xc0) * 64)) (unfinished_in ys 2 ((b - 0xe0) * 64 ^ 2)))
      (unfinished_same 3 ((b - 0xf0) * 64 ^ 3))

  char_step_same : (at : Unfinished) (b : ℕ) → char_step xs at b ≡ char_step ys at b
  char_step_same at b =
      ap₂ (λ (inside led : CharStep). if nat_lt b 0x80 then Single b else if nat_lt b 0xc0 then inside else led)
      (continued_same at.needed at.low b) (led_same b)

pub char_step_members : (xs ys : List ℕ) → ((k : ℕ) → Contains xs k ↔ Contains ys k) → (at : Unfinished) (b : ℕ) →
    char_step xs at b ≡ char_step ys at b
char_step_members xs ys same = char_step_same xs ys (floor_members xs ys same)
