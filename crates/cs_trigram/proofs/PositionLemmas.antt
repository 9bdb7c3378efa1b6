-- Positions and broken rules after one more byte.
use Rattle.std.proofs.Common.{◌≡◌, ◌≤◌, ◌<◌, ℕ, ◌+◌, ◌-◌, true, false, not, cond, List, [], ◌∷◌, ◌++◌, length, drop, take, get_or, Option, Some, None, Result, Ok, Err, refl, sym, ap, ◌∙◌, arith, length-append, length-drop, append_assoc}
use Rattle.std.specs.List.{prefix_len, suffix_len, last_or}
use Rattle.std.specs.Prelude.{nat_eq, unwrap_or}
use Rattle.std.proofs.lemmas.List.{reverse-append, append-nil, take_more, take-append-drop}
use Rattle.std.proofs.Math.Seq.{take-add}
use Rattle.std.proofs.lemmas.List.Sums.{suffix_len-le-length}
use Rattle.cs_trigram.specs.declared.scan.Limits.{Limits}
use Rattle.cs_trigram.specs.declared.scan.Reason.{Reason}
use Rattle.cs_trigram.specs.Text.{last_byte, line_so_far, rule_broken, first_broken}
use Rattle.std.specs.Option.{option_or}
use Rattle.cs_trigram.specs.declared.position.TextPosition.{TextPosition}
use Rattle.cs_trigram.specs.Position.{IsPositionAfter, Validates}

pub last_byte-push : (prefix : List ℕ) (b : ℕ) → last_byte (prefix ++ b ∷ []) ≡ b
last_byte-push prefix b = ap (λ last. unwrap_or last 0) (last_or-push None prefix)
  where
    last_or-push : (before : Option ℕ) (prefix : List ℕ) → last_or before (prefix ++ b ∷ []) ≡ Some b
    last_or-push before [] = refl
    last_or-push before (a ∷ prefix) = last_or-push (Some a) prefix

pub length-line : (prefix : List ℕ) → length (line_so_far prefix) ≡ suffix_len (λ b. not (nat_eq b 10)) prefix
length-line prefix =
    let most = suffix_len-le-length (λ b. not (nat_eq b 10)) prefix in
    length-drop (length prefix - suffix_len (λ b. not (nat_eq b 10)) prefix) prefix ∙ omega (arith, most)

-- a newline ends the line, and any other byte makes it longer
pub length-line-push : (prefix : List ℕ) (b : ℕ) → length (line_so_far (prefix ++ b ∷ []))
    ≡ cond (nat_eq b 10) 0 (length (line_so_far prefix) + 1)
length-line-push prefix b =
    length-line (prefix ++ b ∷ [])
    ∙ ap (prefix_len (λ b. not (nat_eq b 10))) (reverse-append prefix (b ∷ []))
    ∙ elim (nat_eq b 10) as (λ t. cond (not t) (1 + suffix_len (λ b. not (nat_eq b 10)) prefix) 0
    ≡ cond t 0 (length (line_so_far prefix) + 1)) [
      | true ↦ refl
      | false ↦ omega (arith, length-line prefix)
    ]

pub first_broken-append : (most : Limits) (prefix xs ys : List ℕ) → first_broken most prefix (xs ++ ys)
    ≡ option_or (first_broken most prefix xs) (first_broken most (prefix ++ xs) ys)
first_broken-append most prefix [] ys = ap (λ f. first_broken most f ys) (sym (append-nil prefix))
first_broken-append most prefix (x ∷ xs) ys =
    ap (option_or (rule_broken most prefix x)) (first_broken-append most (prefix ++ x ∷ []) xs ys
    ∙ ap (λ f. option_or (first_broken most (prefix ++ x ∷ []) xs) (first_broken most f ys))
    (append_assoc prefix (x ∷ []) xs))
    ∙ option_or_assoc (rule_broken most prefix x) (first_broken most (prefix ++ x ∷ []) xs) (first_broken most (prefix ++ (x ∷ xs)) ys)
  where
    option_or_assoc : (a b c : Option Reason) → option_or a (option_or b c) ≡ option_or (option_or a b) c
    option_or_assoc None b c = refl
    option_or_assoc (Some r) b c = refl

-- the position after one more byte
pub IsPositionAfter-push : (position : TextPosition) (prefix : List ℕ) (b : ℕ) → IsPositionAfter position prefix →
    IsPositionAfter (record {
      count = position.count + 1;
      column = cond (nat_eq b 10) 0 (position.column + 1);
      before =
          b;
    }) (prefix ++ b ∷ [])
IsPositionAfter-push position prefix b is_after = record {
  count = omega (arith, is_after.count, length-append prefix (b ∷ []));
  column = ap (λ n. cond (nat_eq b 10) 0 (n + 1)) is_after.column ∙ sym (length-line-push prefix b);
  before = sym (last_byte-push prefix b);
}

-- bytes that break no rule, and then some more
pub Validates-append : (most : Limits) (prefix xs ys : List ℕ) (answer : Result TextPosition Reason) →
    first_broken most prefix xs ≡ None → Validates most (prefix ++ xs) ys answer →
    Validates most prefix (xs ++ ys) answer
Validates-append most prefix xs ys (Ok next) first then = (
  first_broken-append most prefix xs ys ∙ ap (λ r. option_or r (first_broken most (prefix ++ xs) ys)) first ∙ then.0,
  rw (← append_assoc prefix xs ys) then.1,
)
Validates-append most prefix xs ys (Err reason) first then =
    first_broken-append most prefix xs ys ∙ ap (λ r. option_or r (first_broken most (prefix ++ xs) ys)) first ∙ then

-- a byte that breaks a rule, and then some more
pub Validates-stop : (most : Limits) (prefix xs ys : List ℕ) (reason : Reason) → first_broken most prefix xs
    ≡ Some reason → first_broken most prefix (xs ++ ys) ≡ Some reason
Validates-stop most prefix xs ys reason first = first_broken-append most prefix xs ys
    ∙ ap (λ r. option_or r (first_broken most (prefix ++ xs) ys)) first

-- the bytes before an index and the byte there
pub Validates-more : (most : Limits) (prefix bytes : List ℕ) (i : ℕ) (answer : Result TextPosition Reason) →
    i < length bytes → first_broken most prefix (take i bytes) ≡ None → Validates most (prefix ++ take i bytes)
    (get_or bytes i 0 ∷ []) answer → Validates most prefix (take (i + 1) bytes) answer
Validates-more most prefix bytes i answer within first then =
    rw (take_more bytes i 0 within) (Validates-append most prefix (take i bytes) (get_or bytes i 0 ∷ []) answer first then)

-- the first byte that breaks a rule decides
pub first_broken-on_the_way : (most : Limits) (prefix bytes : List ℕ) (i : ℕ) (reason : Reason) →
    first_broken most prefix (take i bytes) ≡ Some reason → first_broken most prefix bytes ≡ Some reason
first_broken-on_the_way most prefix bytes i reason first =
    ap (first_broken most prefix) (sym (take-append-drop i bytes)) ∙ Validates-stop most prefix (take i bytes) (drop i bytes) reason first

-- the bytes before an offset and a chunk from there on
pub Validates-chunk : (most : Limits) (prefix bytes : List ℕ) (offset end : ℕ) (answer : Result TextPosition Reason) →
    offset ≤ end → first_broken most prefix (take offset bytes) ≡ None → Validates most (prefix ++ take offset bytes)
    (take (end - offset) (drop offset bytes)) answer → Validates most prefix (take end bytes) answer
Validates-chunk most prefix bytes offset end answer order first then =
    let split : end ≡ offset + (end - offset) = omega (arith, order) in
    let whole : take end bytes ≡ take offset bytes ++ take (end - offset) (drop offset bytes) =
    ap (λ n. take n bytes) split ∙ take-add offset (end - offset) bytes
    in
    rw whole (Validates-append most prefix (take offset bytes) (take (end - offset) (drop offset bytes)) answer first then)
