-- A star before a byte takes all bytes up to where that byte is next.
use Rattle.std.proofs.Common.{◌≡◌, ◌≢◌, refl, ℕ, zero, suc, ◌+◌, ◌-◌, ◌*◌, ◌≤◌, ◌<◌, ◌||◌, ◌&&◌, List, [], ◌∷◌, length, get_or, drop, sym, ap, ◌∙◌, arith}
use Rattle.std.specs.Prelude.{Option, Some, None, unwrap_or}
use Rattle.std.proofs.Math.Nat.{mul-le-mul_right}
use Rattle.std.proofs.lemmas.Bool.{eq-eqb, ne_eqb}
use Rattle.memchr.specs.Find.{IsFirstByte, is_byte}
use Rattle.cs_listing.specs.Globs.{GlobToken, byte, star, matches_name}
use Rattle.cs_listing.specs.Models.{tokens_of}
use Rattle.cs_listing.specs.declared.glob.Token.{Token}

star_over : (b : ℕ) (tokens : List GlobToken) (name : List ℕ) (n : ℕ) → ((k : ℕ) → k < n → b ≢ get_or name k 0) →
    matches_name (star ∷ byte b ∷ tokens) name ≡ matches_name (star ∷ byte b ∷ tokens) (drop n name)
star_over b tokens name zero none = refl
star_over b tokens [] (suc n) none = refl
star_over b tokens (c ∷ name) (suc n) none =
    ap (λ t. t && matches_name tokens name || matches_name (star ∷ byte b ∷ tokens) name) (ne_eqb b c (none 0 (omega arith)))
    ∙ star_over b tokens name n (λ k less. none (suc k) (omega (arith, less)))

none_before : (b : ℕ) (name : List ℕ) (found : Option ℕ) → IsFirstByte (is_byte b) name found →
    (k : ℕ) → k < unwrap_or found (length name) → b ≢ get_or name k 0
none_before b name None nowhere k less is = nowhere k (omega arith) less (eq-eqb (get_or name k 0) b (sym is))
none_before b name (Some at) found k less is = found.0.before k (omega arith) less (eq-eqb (get_or name k 0) b (sym is))

pub up_to_byte : (tokens later : List Token) (b n : ℕ) (name : List ℕ) (found : Option ℕ) → tokens_of tokens ≡ byte b ∷ tokens_of later →
    IsFirstByte (is_byte b) name found → n ≡ unwrap_or found (length name) →
    matches_name (star ∷ tokens_of tokens) name ≡ matches_name (star ∷ tokens_of tokens) (drop n name)
up_to_byte tokens later b n name found first finds e =
    ap (λ t. matches_name (star ∷ t) name) first
    ∙ star_over b (tokens_of later) name n (λ k less. none_before b name found finds k (omega (arith, less, e)))
    ∙ ap (λ t. matches_name (star ∷ t) (drop n name)) (sym first)

-- ---- the work, from a later byte on

pub jump_paid : (from more rest w : ℕ) → more ≤ from → rest ≤ more → (more - rest) + rest * (w + 1) ≤ from * (w + 1)
jump_paid from more rest w shorter less =
    let all = mul-le-mul_right (w + 1) shorter in let skipped = mul-le-mul_right w less in omega (arith, all, skipped, less)

pub jump_falls : (from rest n left later : ℕ) → rest ≤ from → later + 1 ≡ left → rest * (n + 1) + later < from * (n + 1) + left
jump_falls from rest n left later less e = let all = mul-le-mul_right (n + 1) less in omega (arith, all, e)

pub next_jump_paid : (from more rest w : ℕ) → more + 1 ≡ from → rest ≤ more → (more - rest) + rest * (w + 1) + w + 1 ≤ from * (w + 1)
next_jump_paid from more rest w e less =
    let all = mul-le-mul_right w less in omega (arith, all, less, ap (λ n. n * (w + 1)) e)

pub next_jump_falls : (from more rest n left after : ℕ) → more + 1 ≡ from → rest ≤ more → after ≤ n → rest * (n + 1) + after < from * (n + 1) + left
next_jump_falls from more rest n left after e less fewer =
    let all = mul-le-mul_right n less in omega (arith, all, less, fewer, ap (λ k. k * (n + 1)) e)
