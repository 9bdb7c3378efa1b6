-- The text of a line.
use Rattle.std.proofs.Common.{◌≡◌, refl, ℕ, zero, suc, ◌+◌, ◌-◌, Bool, true, false, ◌||◌, ◌&&◌, not, cond, ltb, List, [], ◌∷◌, ◌++◌, length, take, sym, ap, ◌∙◌, subst, arith, rules, tests, length-append, length-take}
use Rattle.std.specs.Prelude.{Option, Some, None, MatchOption, nat_eq, nat_lt, bytes_eq}
use Rattle.std.specs.List.{IsLastAndRest, before_first, position_or_len, position}
use Rattle.std.proofs.lemmas.Bool.Decides.{nat_tests}
use Rattle.std.proofs.lemmas.List.{take_all, take-append-le}
use Rattle.cs_listing.specs.Classes.{ends_with_byte}
use Rattle.cs_listing.specs.RuleFiles.{without_last, trimmed_after}

-- ---- the last byte

pub ends_at_last : (b last : ℕ) (rest : List ℕ) → ends_with_byte b (rest ++ last ∷ []) ≡ nat_eq last b
ends_at_last b last [] = refl
ends_at_last b last (x ∷ []) = refl
ends_at_last b last (x ∷ y ∷ rest) = ends_at_last b last (y ∷ rest)

pub take_start : (rest : List ℕ) (last : ℕ) → take (length (rest ++ last ∷ []) - 1) (rest ++ last ∷ []) ≡ rest
take_start rest last =
    let len : length (rest ++ last ∷ []) - 1 ≡ length rest = omega (arith, length-append rest (last ∷ [])) in
    ap (λ n. take n (rest ++ last ∷ [])) len ∙ take-append-le (length rest) rest (last ∷ []) (omega arith) ∙ take_all (length rest) rest (omega arith)

-- the last byte is this one, or not
pub last_taken : (b last : ℕ) (text rest : List ℕ) → IsLastAndRest text last rest → nat_eq last b ≡ true → rest ≡ without_last b text
last_taken b last text rest h is =
    sym (ap (without_last b) h.0 ∙ ap (λ t. cond t (take (length (rest ++ last ∷ []) - 1) (rest ++ last ∷ [])) (rest ++ last ∷ []))
    (ends_at_last b last rest ∙ is) ∙ take_start rest last)

pub last_kept : (b last : ℕ) (text rest : List ℕ) → IsLastAndRest text last rest → nat_eq last b ≡ false → text ≡ without_last b text
last_kept b last text rest h is =
    sym (ap (λ t. cond t (take (length text - 1) text) text) (ap (ends_with_byte b) h.0 ∙ ends_at_last b last rest ∙ is))

-- ---- spaces at the end

-- how many bytes stay, if so many were to stay before and so many of the rest stay
abbrev pub stays : ℕ → ℕ → ℕ → ℕ
stays kept at zero = kept
stays kept at (suc n) = at + suc n

stays_more : (kept at : ℕ) (n : ℕ) → stays kept at (suc n) ≡ stays (at + 1) (at + 1) n
stays_more kept at zero = omega arith
stays_more kept at (suc n) = omega arith

stays_blank : (t : List ℕ) (b kept at : ℕ) → stays kept at (length (cond (bytes_eq t []) [] (b ∷ t))) ≡ stays kept (at + 1) (length t)
stays_blank [] b kept at = refl
stays_blank (x ∷ t) b kept at = omega arith

stays_byte : (is_space is_quoting : Bool) (b kept at : ℕ) (rest : List ℕ) → (is_space ≡ true → is_quoting ≡ false) →
    stays kept at (length (cond (is_space && bytes_eq (trimmed_after false rest) []) [] (b ∷ trimmed_after is_quoting rest)))
    ≡ stays (cond (not is_space) (at + 1) kept) (at + 1) (length (trimmed_after is_quoting rest))
stays_byte false is_quoting b kept at rest h = stays_more kept at (length (trimmed_after is_quoting rest))
stays_byte true false b kept at rest h = stays_blank (trimmed_after false rest) b kept at
stays_byte true true b kept at rest h = let e : true ≡ false = h refl in cc

space_quotes_not : (b : ℕ) → nat_eq b 32 ≡ true → nat_eq b 92 ≡ false
space_quotes_not b is = grind (arith, nat_tests)

-- one more byte of a line
pub stays_step : (is_quoted : Bool) (b kept at : ℕ) (rest : List ℕ) →
    stays kept at (length (trimmed_after is_quoted (b ∷ rest)))
    ≡ stays (cond (is_quoted || not (nat_eq b 32)) (at + 1) kept) (at + 1) (length (trimmed_after (not is_quoted && nat_eq b 92) rest))
stays_step true b kept at rest = stays_more kept at (length (trimmed_after false rest))
stays_step false b kept at rest = stays_byte (nat_eq b 32) (nat_eq b 92) b kept at rest (space_quotes_not b)

cut_step : (c : Bool) (b : ℕ) (line tail : List ℕ) → take (length tail) line ≡ tail →
    take (length (cond c [] (b ∷ tail))) (b ∷ line) ≡ cond c [] (b ∷ tail)
cut_step true b line tail h = refl
cut_step false b line tail h = ap (λ t. b ∷ t) h

-- what stays is the beginning of the line
pub cut : (is_quoted : Bool) (line : List ℕ) → take (length (trimmed_after is_quoted line)) line ≡ trimmed_after is_quoted line
cut is_quoted [] = take_all 0 [] (omega arith)
cut true (b ∷ line) = ap (λ t. b ∷ t) (cut false line)
cut false (b ∷ line) =
    cut_step (nat_eq b 32 && bytes_eq (trimmed_after false line) []) b line (trimmed_after (nat_eq b 92) line) (cut (nat_eq b 92) line)

-- ---- the bytes before a NUL

before_by : (test : ℕ → Bool) (xs : List ℕ) (is_before : Bool) → ltb (position_or_len test xs) (length xs) ≡ is_before →
    MatchOption (cond is_before (Some (position_or_len test xs)) None) (xs ≡ before_first test xs) (λ end. take end xs ≡ before_first test xs)
before_by test xs true e = refl
before_by test xs false e = sym (take_all (position_or_len test xs) xs (search (rules, tests)))

pub before_at : (test : ℕ → Bool) (xs : List ℕ) (r : Option ℕ) → r ≡ position test xs →
    MatchOption r (xs ≡ before_first test xs) (λ end. take end xs ≡ before_first test xs)
before_at test xs r e = subst (λ o. MatchOption o (xs ≡ before_first test xs) (λ end. take end xs ≡ before_first test xs)) (sym e)
    (before_by test xs (ltb (position_or_len test xs) (length xs)) refl)

-- ---- a slash at the end

shorter_by : (ends : Bool) (b : ℕ) (text : List ℕ) → ends_with_byte b text ≡ ends →
    nat_lt (length (cond ends (take (length text - 1) text) text)) (length text) ≡ ends
shorter_by true b [] e = cc
shorter_by true b (x ∷ text) e = let len = length-take (length (x ∷ text) - 1) (x ∷ text) in grind (arith, nat_tests)
shorter_by false b text e = grind (arith, nat_tests)

pub shorter : (b : ℕ) (text : List ℕ) → nat_lt (length (without_last b text)) (length text) ≡ ends_with_byte b text
shorter b text = shorter_by (ends_with_byte b text) b text refl
