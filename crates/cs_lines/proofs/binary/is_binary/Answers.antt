use Rattle.std.proofs.Common.{◌≡◌, ◌<◌, ℕ, suc, Bool, true, false, nat_eq, ◌||◌, List, [], ◌∷◌, length, take, get_or, min, refl, sym, ap, ◌∙◌, arith}
use Rattle.std.proofs.lemmas.List.{take_min}
use Rattle.std.proofs.lemmas.List.Folds.{list_any_at}
use Rattle.std.specs.List.{list_any}
use Rattle.cs_lines.proofs.binary.is_binary.Goals as goal

by_first : (t rest : Bool) → (t ≡ true → ⊥) → rest ≡ false → (t || rest) ≡ false
by_first true rest wrong none = absurd (wrong refl)
by_first false rest wrong none = none

-- a text in which a search finds no NUL
none_found : (hay : List ℕ) → ((k : ℕ) → k < length hay → nat_eq (get_or hay k 0) 0 ≡ true → ⊥) → list_any (λ b. nat_eq b 0) hay ≡ false
none_found [] h = refl
none_found (x ∷ hay) h =
    by_first (nat_eq x 0) (list_any (λ b. nat_eq b 0) hay) (h 0 (omega arith)) (none_found hay (λ k low e. h (suc k) (omega arith) e))

-- the first bytes of a text
same : (text : List ℕ) (len : ℕ) → len ≡ min 8000 (length text) →
    list_any (λ b. nat_eq b 0) (take len text) ≡ list_any (λ b. nat_eq b 0) (take 8000 text)
same text len is = ap (λ n. list_any (λ b. nat_eq b 0) (take n text)) is ∙ ap (list_any (λ b. nat_eq b 0)) (take_min 8000 text)

pub returns-in-Some : goal.returns-in-Some
returns-in-Some c =
    sym (list_any_at (λ b. nat_eq b 0) (take c.min-len.result c.args.text.now) c.in-Some.field-0 0 c.in-Some.ensures.0.high c.in-Some.ensures.1)
    ∙ same c.args.text.now c.min-len.result c.min-len.ensures

pub returns-in-None : goal.returns-in-None
returns-in-None c =
    sym (none_found (take c.min-len.result c.args.text.now) (λ k low e. c.in-None.ensures k (omega arith) low e))
    ∙ same c.args.text.now c.min-len.result c.min-len.ensures
