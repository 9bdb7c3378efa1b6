-- Neighbouring continuation bytes that no digit of a cut tells apart do the same to each unfinished character.
use Rattle.std.proofs.Common.{◌≡◌, ℕ, zero, suc, ◌+◌, ◌-◌, ◌*◌, ◌/◌, ◌%◌, ◌^◌, ◌<◌, ◌≤◌, inl, inr, Bool, false, ◌&&◌, List, [], ◌∷◌, refl, sym, ap, ap₂, true≢false, ◌∙◌, arith}
use Rattle.std.specs.Prelude.{nat_lt, if◌then◌else◌}
use Rattle.std.specs.List.{Contains}
use Rattle.std.proofs.Math.Nat.{pow-suc, one-le-pow}
use Rattle.std.proofs.lemmas.Bool.{cases_lt, cases_Bool, cond-true, cond-false}
use Rattle.std.proofs.lemmas.Bool.Decides.{nat_tests}
use Rattle.std.proofs.lemmas.List.Elements.{Contains-append_right}
use Rattle.cs_syntax.specs.Cuts.{utf8_cuts, Divide, floor}
use Rattle.cs_syntax.specs.CharSteps.{finished, is_split, unfinished_in, least_with, with_byte, continued, reached, is_allowed, led_by, char_step, unfinished_after}
use Rattle.cs_syntax.specs.declared.char_step.Unfinished.{Unfinished}
use Rattle.cs_syntax.specs.declared.char_step.CharStep.{CharStep}
use Rattle.cs_syntax.specs.declared.char_step.CharStep.TheVariants.{Inside, Completes, Nothing}
use Rattle.cs_syntax.proofs.CutLemmas.{floor_le, floor_mono, floor_same, floor_floor, cut_tells, utf8_cut, is_scalar_floor}
use Rattle.cs_match.specs.Digits.{IsBlock, IsNoDigit}
use Rattle.cs_match.specs.ByteClasses.{StepAlike}

-- ---- blocks that no cut splits

split_no : (cuts : List ℕ) (needed start : ℕ) → is_split cuts needed start ≡ false → floor cuts start
    ≡ floor cuts (start + (64 ^ needed - 1))
split_no cuts needed start e = grind (arith, nat_tests)

no_split : (cuts : List ℕ) (needed start : ℕ) → floor cuts start ≡ floor cuts (start + (64 ^ needed - 1)) →
    is_split cuts needed start ≡ false
no_split cuts needed start e = grind (arith, nat_tests)

-- the block from the greatest cut on is not split either
whole_low : (cuts : List ℕ) (needed start : ℕ) → is_split cuts needed start ≡ false → is_split cuts needed (floor cuts start) ≡ false
whole_low cuts needed start whole =
    let low = floor cuts start in
    let ends = split_no cuts needed start whole in
    let below : low ≤ start = floor_le cuts start in
    let same : floor cuts low ≡ low = floor_floor cuts start in
    let from = floor_mono cuts low (low + (64 ^ needed - 1)) (omega arith) in
    let to = floor_mono cuts (low + (64 ^ needed - 1)) (start + (64 ^ needed - 1)) (omega (arith, below)) in
    no_split cuts needed low (omega (arith, ends, same, from, to))

-- nor is a smaller block from there on
whole_part : (cuts : List ℕ) (r start : ℕ) → is_split cuts (suc r) start ≡ false → is_split cuts r start ≡ false
whole_part cuts r start whole =
    let ends = split_no cuts (suc r) start whole in
    let size = pow-suc 64 r in
    let some = one-le-pow r 64 (omega arith) in
    let from = floor_mono cuts start (start + (64 ^ r - 1)) (omega arith) in
    let to = floor_mono cuts (start + (64 ^ r - 1)) (start + (64 ^ suc r - 1)) (omega (arith, size, some)) in
    no_split cuts r start (omega (arith, ends, from, to))

-- ---- the blocks of unfinished characters

block_finished : (cuts : List ℕ) → IsBlock cuts finished
block_finished cuts = record { multiple = λ split. (0, refl) }

block_whole : (cuts : List ℕ) (needed start : ℕ) → is_split cuts needed start ≡ false → IsBlock cuts (unfinished_in cuts needed start)
block_whole cuts needed start whole =
    let low : (unfinished_in cuts needed start).low ≡ floor cuts start = cond-false (is_split cuts needed start) _ _ whole in
    record { multiple = λ split. absurd (true≢false (sym split ∙ ap (is_split cuts needed) low ∙ whole_low cuts needed start whole)) }

block_in : (cuts : List ℕ) (needed start n : ℕ) → start ≡ n * 64 ^ needed → IsBlock cuts (unfinished_in cuts needed start)
block_in cuts needed start n e =
    elim (cases_Bool (is_split cuts needed start)) [
      | inl split ↦ record { multiple = λ _. (n, cond-true (is_split cuts needed start) _ _ split ∙ e) }
      | inr whole ↦ block_whole cuts needed start whole
    ]

block_reached : (cuts : List ℕ) (r start : ℕ) → IsBlock cuts (unfinished_in cuts r start) → IsBlock cuts (unfinished_after (reached cuts r start))
block_reached cuts zero start is = block_finished cuts
block_reached cuts (suc r) start is = is

block_with : (cuts : List ℕ) (r start : ℕ) → IsBlock cuts (unfinished_in cuts r start) → IsBlock cuts (unfinished_after (with_byte cuts r start))
block_with cuts r start is =
    elim (cases_Bool (is_allowed r start)) [
      | inl allowed ↦ rw allowed (block_reached cuts r start is)
      | inr not ↦ rw not (block_finished cuts)
    ]

block_continued : (cuts : List ℕ) (needed low b : ℕ) → IsBlock cuts (record { needed = needed; low = low }) →
    IsBlock cuts (unfinished_after (continued cuts needed low b))
block_continued cuts zero low b is = block_finished cuts
block_continued cuts (suc r) low b is =
    elim (cases_Bool (is_split cuts (suc r) low)) [
      | inl split ↦
          let n = (is.multiple split).0 in
          let size = pow-suc 64 r in
          let start : low + b % 64 * 64 ^ r ≡ (n * 64 + b % 64) * 64 ^ r =
          ap (λ (l : ℕ). l + b % 64 * 64 ^ r) ((is.multiple split).1 ∙ ap (λ (s : ℕ). n * s) size) ∙ grind arith in
          rw split (block_with cuts r (low + b % 64 * 64 ^ r) (block_in cuts r (low + b % 64 * 64 ^ r) (n * 64 + b % 64) start))
      | inr whole ↦ rw whole (block_with cuts r low (block_whole cuts r low (whole_part cuts r low whole)))
    ]

block_led : (cuts : List ℕ) (b : ℕ) → IsBlock cuts (unfinished_after (led_by cuts b))
block_led cuts b =
    elim (cases_Bool (nat_lt b 0xc2)) [
      | inl none ↦ rw none (block_finished cuts)
      | inr one_on ↦
          elim (cases_Bool (nat_lt b 0xe0)) [
            | inl one ↦ rw (one_on, one) (block_in cuts 1 ((b - 0xc0) * 64) (b - 0xc0) refl)
            | inr two_on ↦
                elim (cases_Bool (nat_lt b 0xf0)) [
                  | inl two ↦ rw (one_on, two_on, two) (block_in cuts 2 ((b - 0xe0) * 64 ^ 2) (b - 0xe0) refl)
                  | inr three_on ↦
                      elim (cases_Bool (nat_lt b 0xf5)) [
                        | inl three ↦ rw (one_on, two_on, three_on, three) (block_in cuts 3 ((b - 0xf0) * 64 ^ 3) (b - 0xf0) refl)
                        | inr past ↦ rw (one_on, two_on, three_on, past) (block_finished cuts)
                      ]
                ]
          ]
    ]

-- a step leads from a whole block to another
pub block_after : (cuts : List ℕ) (at : Unfinished) (b : ℕ) → IsBlock cuts at → IsBlock cuts (unfinished_after (char_step cuts at b))
block_after cuts at b is =
    elim (cases_Bool (nat_lt b 0x80)) [
      | inl single ↦ rw single (block_finished cuts)
      | inr multibyte ↦
          elim (cases_Bool (nat_lt b 0xc0)) [
            | inl later ↦ rw (multibyte, later) (block_continued cuts at.needed at.low b is)
            | inr lead ↦ rw (multibyte, lead) (block_led cuts b)
          ]
    ]

-- ---- numbers between which no cut lies

low_floor : (cuts : List ℕ) (low n : ℕ) → ((cut : ℕ) → Contains cuts cut → low < cut → cut ≤ n → ⊥) → floor cuts n ≤ low
low_floor [] low n clear = omega arith
low_floor (cut ∷ cuts) low n clear =
    let rest = low_floor cuts low n (λ k h. clear k (Contains-append_right (cut ∷ []) cuts k h)) in
    elim (cases_lt low cut) [
      | inl above ↦
          elim (cases_lt n cut) [
            | inl past ↦ grind (arith, nat_tests)
            | inr within ↦ absurd (clear cut (0, omega arith, refl) above within)
          ]
      | inr below ↦ grind (arith, nat_tests)
    ]

least_cut : (k : ℕ) → Contains utf8_cuts (least_with k)
least_cut zero = (0, omega arith, refl)
least_cut (suc zero) = (1, omega arith, refl)
least_cut (suc (suc zero)) = (2, omega arith, refl)
least_cut (suc (suc (suc zero))) = (5, omega arith, refl)
least_cut (suc (suc (suc (suc k)))) = (6, omega arith, refl)

reached_alike : (cuts : List ℕ) (r m n : ℕ) → floor cuts m ≡ floor cuts n → is_split cuts r m ≡ false →
    is_split cuts r n ≡ false → reached cuts r m ≡ reached cuts r n
reached_alike cuts zero m n e first second = ap Completes e
reached_alike cuts (suc r) m n e first second =
    ap (λ (low : ℕ). Inside (record { needed = suc r; low = low }))
    (cond-false (is_split cuts (suc r) m) _ _ first ∙ e ∙ sym (cond-false (is_split cuts (suc r) n) _ _ second))

module _ (cuts : List ℕ) (divide : Divide cuts []) where
  allowed_floor : (r n : ℕ) → is_allowed r (floor cuts n) ≡ is_allowed r n
  allowed_floor r n =
      ap₂ ◌&&◌ (is_scalar_floor cuts [] divide n)
      (cut_tells cuts (least_with (suc r)) n (utf8_cut cuts [] divide (least_with (suc r)) (least_cut (suc r))))

  -- two blocks that no cut splits or separates
  with_alike : (r m n : ℕ) → m ≤ n → ((cut : ℕ) → Contains cuts cut → m < cut → cut ≤ n + (64 ^ r - 1) → ⊥) →
      with_byte cuts r m ≡ with_byte cuts r n
  with_alike r m n le clear =
      let same : (k : ℕ) → m ≤ k → k ≤ n + (64 ^ r - 1) → floor cuts m ≡ floor cuts k =
      λ k from to. floor_same cuts m k from (low_floor cuts m k (λ cut h above below. clear cut h above (omega (arith, below, to)))) in
      let both : floor cuts m ≡ floor cuts n = same n le (omega arith) in
      let first : is_split cuts r m ≡ false = no_split cuts r m (same (m + (64 ^ r - 1)) (omega arith) (omega (arith, le))) in
      let second : is_split cuts r n ≡ false = no_split cuts r n (sym both ∙ same (n + (64 ^ r - 1)) (omega (arith, le)) (omega arith)) in
      let test : is_allowed r m ≡ is_allowed r n = sym (allowed_floor r m) ∙ ap (is_allowed r) both ∙ allowed_floor r n in
      ap₂ (λ (b : Bool) (s : CharStep). if b then s else Nothing) test (reached_alike cuts r m n both first second)

  -- a character needs at most three bytes more
  with_none : (r m : ℕ) → with_byte cuts (suc (suc (suc r))) m ≡ Nothing
  with_none r m =
      let never : is_allowed (suc (suc (suc r))) m ≡ false = grind (arith, nat_tests) in
      cond-false (is_allowed (suc (suc (suc r))) m) _ _ never

  module _ (b : ℕ) (from : 128 ≤ b) (to : suc b < 192)
      (clear : (cut : ℕ) → Contains cuts cut → IsNoDigit cut 1 (suc b) × IsNoDigit cut 64 (suc b) × IsNoDigit cut 4096 (suc b)) where
    part_alike : (r n low : ℕ) → low ≡ n * 64 ^ suc r → with_byte cuts r (low + b % 64 * 64 ^ r) ≡ with_byte cuts r (low + suc b % 64 * 64 ^ r)
    part_alike zero n low e =
        with_alike 0 (low + b % 64 * 64 ^ 0) (low + suc b % 64 * 64 ^ 0) (omega arith)
        (λ cut h above below. (clear cut h).0.0 (omega (arith, e, above, below, from, to)))
    part_alike (suc zero) n low e =
        with_alike 1 (low + b % 64 * 64 ^ 1) (low + suc b % 64 * 64 ^ 1) (omega arith)
        (λ cut h above below. elim (cases_lt (cut / 64) (n * 64 + b % 64 + 1)) [
          | inl first ↦
              let whole : cut % 64 ≡ 0 = (clear cut h).1.1 (omega (arith, e, above, below, from, to, first)) in
              absurd (omega (arith, e, above, below, first, whole))
          | inr second ↦ (clear cut h).1.0 (omega (arith, e, above, below, from, to, second))
        ])
    part_alike (suc (suc zero)) n low e =
        with_alike 2 (low + b % 64 * 64 ^ 2) (low + suc b % 64 * 64 ^ 2) (omega arith)
        (λ cut h above below. elim (cases_lt (cut / 4096) (n * 64 + b % 64 + 1)) [
          | inl first ↦
              let whole : cut % 4096 ≡ 0 = (clear cut h).2.1 (omega (arith, e, above, below, from, to, first)) in
              absurd (omega (arith, e, above, below, first, whole))
          | inr second ↦ (clear cut h).2.0 (omega (arith, e, above, below, from, to, second))
        ])
    part_alike (suc (suc (suc r))) n low e =
        with_none r (low + b % 64 * 64 ^ suc (suc (suc r))) ∙ sym (with_none r (low + suc b % 64 * 64 ^ suc (suc (suc r))))

    continued_alike : (needed low : ℕ) → IsBlock cuts (record { needed = needed; low = low }) →
        continued cuts needed low b ≡ continued cuts needed low (suc b)
    continued_alike zero low is = refl
    continued_alike (suc r) low is =
        elim (cases_Bool (is_split cuts (suc r) low)) [
          | inl split ↦ rw split (part_alike r (is.multiple split).0 low (is.multiple split).1)
          | inr whole ↦ rw whole refl
        ]

step_continued : (cuts : List ℕ) (at : Unfinished) (b : ℕ) → 128 ≤ b → b < 192 → char_step cuts at b ≡ continued cuts at.needed at.low b
step_continued cuts at b from to = grind (arith, nat_tests)

step_led : (cuts : List ℕ) (at : Unfinished) (b : ℕ) → 192 ≤ b → char_step cuts at b ≡ led_by cuts b
step_led cuts at b le = grind (arith, nat_tests)

-- what a continuation byte does
pub digits_alike : (cuts : List ℕ) → Divide cuts [] → (b : ℕ) → (suc b ≡ 128 → ⊥) → suc b < 192 →
    ((cut : ℕ) → Contains cuts cut → IsNoDigit cut 1 (suc b) × IsNoDigit cut 64 (suc b) × IsNoDigit cut 4096 (suc b)) →
    StepAlike cuts b (suc b)
digits_alike cuts divide b other to clear at is =
    elim (cases_lt (suc b) 128) [
      | inl single ↦ inl single
      | inr multibyte ↦
          elim (cases_lt b 128) [
            | inl last ↦ absurd (other (omega (arith, multibyte, last)))
            | inr from ↦ inr (step_continued cuts at b from (omega (arith, to))
                ∙ continued_alike cuts divide b from to clear at.needed at.low is
                ∙ sym (step_continued cuts at (suc b) (omega (arith, multibyte)) to))
          ]
    ]

-- what a first byte does
pub lead_alike : (cuts : List ℕ) (b : ℕ) → 192 ≤ b → char_step cuts finished b ≡ char_step cuts finished (suc b) → StepAlike cuts b (suc b)
lead_alike cuts b from e at is =
    inr (step_led cuts at b from ∙ sym (step_led cuts finished b from) ∙ e
    ∙ step_led cuts finished (suc b) (omega (arith, from)) ∙ sym (step_led cuts at (suc b) (omega (arith, from))))
