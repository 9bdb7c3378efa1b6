-- The texts of numbers and stamps.
use Rattle.std.proofs.Common.{◌≡◌, ◌∙◌, ◌<◌, ◌⊎◌, inl, inr, ℕ, zero, suc, ◌+◌, ◌-◌, ◌*◌, ◌/◌, ◌%◌, eqb, Bool, true, false, if◌then◌else◌, List, [], ◌∷◌, ◌++◌, append_assoc, append-nil, get_or, drop, refl, sym, ap, arith, Bor, Option, Some, None, Result, Ok, Err}
use Rattle.std.specs.Prelude.{◌↔◌, IfNone, IfSome, OnOk}
use Rattle.std.specs.Result.{is_ok}
use Rattle.std.proofs.lemmas.Bool.{eqb-true, eq-eqb}
use Rattle.std.proofs.lemmas.List.{append_cancel_left}
use Rattle.cs_tree.specs.declared.tree.Stamp.{Stamp}
use Rattle.cs_state.specs.Known.{HasNumbers}
use Rattle.cs_state.specs.StampedNames.{number_text, number_within, stamp_text}
use Rattle.cs_state.proofs.SumLemmas.{some_items}

-- the least number of more than so many digits
abbrev pub limit : ℕ → ℕ
limit zero = 1
limit (suc room) = 64 * limit room

-- a number is 0, or has a least digit and others
pub digits : (room n : ℕ) → ((n ≡ 0) × (number_within (suc room) n ≡ 33 ∷ []))
    ⊎ ((0 < n) × (number_within (suc room) n ≡ (48 + n % 64) ∷ number_within room (n / 64)))
unfolding number_within
digits room n = either (eqb n 0) refl where
  either : (none : Bool) → eqb n 0 ≡ none → ((n ≡ 0) × (number_within (suc room) n ≡ 33 ∷ []))
      ⊎ ((0 < n) × (number_within (suc room) n ≡ (48 + n % 64) ∷ number_within room (n / 64)))
  either true e = inl (eqb-true n 0 e, ap (λ b. if b then 33 ∷ [] else (48 + n % 64) ∷ number_within room (n / 64)) e)
  either false e = inr (some_items n e, ap (λ b. if b then 33 ∷ [] else (48 + n % 64) ∷ number_within room (n / 64)) e)

-- the text of a number and what follows it say both
number_same : (room n m : ℕ) (u v : List ℕ) → n < limit room → m < limit room → number_within room n ++ u ≡ number_within room m ++ v →
    (n ≡ m) × (u ≡ v)
unfolding number_within
number_same zero n m u v small short e = (omega (arith, small, short), ap (drop 1) e)
number_same (suc room) n m u v small short e = elim (digits room n) [
  | inl none ↦ elim (digits room m) [
    | inl lacks ↦ (none.0 ∙ sym lacks.0, ap (drop 1) ((λ i. sym none.1 i ++ u) ∙ e ∙ (λ i. lacks.1 i ++ v)))
    | inr some ↦
        let h = ap (λ (l : List ℕ). get_or l 0 0) ((λ i. sym none.1 i ++ u) ∙ e ∙ (λ i. some.1 i ++ v)) in
        absurd (omega (arith, h))
  ]
  | inr many ↦ elim (digits room m) [
    | inl lacks ↦
        let h = ap (λ (l : List ℕ). get_or l 0 0) ((λ i. sym many.1 i ++ u) ∙ e ∙ (λ i. lacks.1 i ++ v)) in
        absurd (omega (arith, h))
    | inr some ↦
        let both = (λ i. sym many.1 i ++ u) ∙ e ∙ (λ i. some.1 i ++ v) in
        let h = ap (λ (l : List ℕ). get_or l 0 0) both in
        let more = number_same room (n / 64) (m / 64) u v (omega (arith, small)) (omega (arith, short)) (ap (drop 1) both) in
        let high = more.0 in
        (omega (arith, h, high), more.1)
  ]
]

pub text_same : (n m : ℕ) (u v : List ℕ) → n < 18446744073709551616 → m < 18446744073709551616 → number_text n ++ u ≡ number_text m ++ v →
    (n ≡ m) × (u ≡ v)
unfolding number_text
text_same n m u v small short e = number_same 11 n m u v (omega (arith, small)) (omega (arith, short)) e

-- a stamp has one text
pub stamp_same : (a b : Stamp) → HasNumbers a → HasNumbers b → stamp_text a ≡ stamp_text b → a ≡ b
stamp_same a b p q e =
    let device = text_same a.device b.device _ _ p.0 q.0 e in
    let inode = text_same a.inode b.inode _ _ p.1 q.1 device.1 in
    let size = text_same a.size b.size _ _ p.2 q.2 inode.1 in
    let modified = text_same a.modified b.modified _ _ p.3 q.3 size.1 in
    let changed = text_same a.changed b.changed [] [] p.4 q.4
    (append-nil (number_text a.changed) ∙ modified.1 ∙ sym (append-nil (number_text b.changed))) in
    λ i. record { device = device.0 i; inode = inode.0 i; size = size.0 i; modified = modified.0 i; changed = changed.0 i }

pub text_is : (n : ℕ) → number_text n ≡ number_within 11 n
unfolding number_text
text_is n = refl

pub no_digit : (n : ℕ) → number_within 0 n ≡ 33 ∷ []
unfolding number_within
no_digit n = refl

-- the text of a number in a loop over its digits
pub at_end : (room n : ℕ) → (room ≡ 0) ⊎ (n ≡ 0) → number_within room n ≡ 33 ∷ []
unfolding number_within
at_end zero n ends = refl
at_end (suc room) n (inl none) = absurd (omega (arith, none))
at_end (suc room) n (inr none) = ap (λ b. if b then 33 ∷ [] else (48 + n % 64) ∷ number_within room (n / 64)) (eq-eqb n 0 none)

pub one_digit : (room n : ℕ) → 0 < room → 0 < n → number_within room n ≡ (48 + n % 64) ∷ number_within (room - 1) (n / 64)
one_digit zero n some many = absurd (omega (arith, some))
one_digit (suc room) n some many = elim (digits room n) [
  | inl none ↦ let zero' = none.0 in absurd (omega (arith, zero', many))
  | inr more ↦ let e : room ≡ suc room - 1 = omega arith in more.1 ∙ ap (λ r. (48 + n % 64) ∷ number_within r (n / 64)) e
]

-- ---- reading a number

-- the text begins with the number where what is left of it begins with what is left of the number
abbrev pub Reads : List ℕ → List ℕ → List ℕ → ℕ → ℕ → Type 0
Reads text number rest room left = (more : List ℕ) → (text ≡ number ++ more) ↔ (rest ≡ number_within room left ++ more)

module _ (text number rest : List ℕ) (room left : ℕ) (reads : Reads text number rest room left) where
  module _ (d : ℕ) (some : 0 < room) (many : 0 < left) (is : d ≡ 48 + left % 64) where
    shape : number_within room left ≡ d ∷ number_within (room - 1) (left / 64)
    shape = one_digit room left some many ∙ ap (λ b. b ∷ number_within (room - 1) (left / 64)) (sym is)

    pub reads_digit : (next : List ℕ) (after : ℕ) → after ≡ room - 1 → rest ≡ d ∷ next → Reads text number next after (left / 64)
    reads_digit next after one cons more =
        let same = ap (λ r. number_within r (left / 64) ++ more) one in (
          λ whole. ap (drop 1) (sym cons ∙ (reads more).0 whole ∙ ap (λ (l : List ℕ). l ++ more) shape) ∙ sym same,
          λ part. (reads more).1 (cons ∙ ap (λ (l : List ℕ). d ∷ l) (part ∙ same) ∙ ap (λ (l : List ℕ). l ++ more) (sym shape)),
        )

    pub has_digit : (more : List ℕ) → text ≡ number ++ more → rest ≡ d ∷ (number_within (room - 1) (left / 64) ++ more)
    has_digit more whole = (reads more).0 whole ∙ ap (λ (l : List ℕ). l ++ more) shape

  module _ (ends : (room ≡ 0) ⊎ (left ≡ 0)) where
    last : (more : List ℕ) → number_within room left ++ more ≡ 33 ∷ more
    last more = ap (λ (l : List ℕ). l ++ more) (at_end room left ends)

    pub reads_end : (found : Option (Bor (List ℕ))) → IfSome found (λ more. rest ≡ 33 ∷ more.now) → IfSome found (λ more. text ≡ number ++ more.now)
    reads_end None is = tt
    reads_end (Some more) is = (reads more.now).1 (is ∙ sym (last more.now))

    pub has_end : (found : Option (Bor (List ℕ))) → IfNone found ((more : List ℕ) → ¬ (rest ≡ 33 ∷ more)) →
        IfNone found ((more : List ℕ) → ¬ (text ≡ number ++ more))
    has_end None none = λ more whole. none more ((reads more).0 whole ∙ last more)
    has_end (Some more) none = tt

-- ---- writing a number

pub pushed : (old new all : List ℕ) (d room after left : ℕ) → old ++ number_within room left ≡ all → 0 < room → 0 < left → d ≡ 48 + left % 64 →
    after ≡ room - 1 → new ≡ old ++ d ∷ [] → new ++ number_within after (left / 64) ≡ all
pushed old new all d room after left so_far some many is one grown =
    (λ i. grown i ++ number_within (one i) (left / 64)) ∙ append_assoc old (d ∷ []) (number_within (room - 1) (left / 64))
    ∙ ap (λ b. old ++ b ∷ number_within (room - 1) (left / 64)) is ∙ ap (λ l. old ++ l) (sym (one_digit room left some many)) ∙ so_far

pub ended : {T E : Type 0} (result : Result T E) (old new all : List ℕ) (room left : ℕ) → old ++ number_within room left ≡ all →
    (room ≡ 0) ⊎ (left ≡ 0) → new ≡ (if is_ok result then old ++ 33 ∷ [] else old) → OnOk result (new ≡ all)
ended (Ok done) old new all room left so_far ends grown = grown ∙ ap (λ l. old ++ l) (sym (at_end room left ends)) ∙ so_far
ended (Err fault) old new all room left so_far ends grown = tt

-- ---- reading a stamp

pub any_none : {X : Type 0} {P : Type 0} (found : Option X) → P → IfNone found P
any_none None p = p
any_none (Some x) p = tt

abbrev pub after_modified : Stamp → List ℕ → List ℕ
after_modified stamp rest = number_text stamp.changed ++ rest

abbrev pub after_size : Stamp → List ℕ → List ℕ
after_size stamp rest = number_text stamp.modified ++ after_modified stamp rest

abbrev pub after_inode : Stamp → List ℕ → List ℕ
after_inode stamp rest = number_text stamp.size ++ after_size stamp rest

abbrev pub after_device : Stamp → List ℕ → List ℕ
after_device stamp rest = number_text stamp.inode ++ after_inode stamp rest

pub grouped : (stamp : Stamp) (rest : List ℕ) → stamp_text stamp ++ rest ≡ number_text stamp.device ++ after_device stamp rest
grouped stamp rest = simp append_assoc

pub cut : (text number rest other : List ℕ) → text ≡ number ++ rest → text ≡ number ++ other → rest ≡ other
cut text number rest other is too = append_cancel_left number rest other (sym is ∙ too)

pub any_if : {X : Type 0} {P Q : Type 0} (found : Option X) → (P → Q) → IfNone found P → IfNone found Q
any_if None so p = so p
any_if (Some x) so p = tt
