-- The groups of rows, joined, are the rows one after another, with what is printed before each.
use Rattle.std.proofs.Common.{◌≡◌, ℕ, zero, suc, ◌+◌, ◌-◌, ◌<◌, ◌⊎◌, inl, inr, take, drop, Bool, true, false, cond, nat_eq, List, [], ◌∷◌, ◌++◌, map, refl, sym, ap, ◌∙◌, arith, append_assoc, append-nil}
use Rattle.std.specs.List.{flat_map}
use Rattle.cs_lines.specs.Contexts.{Row, with_row, groups_of}
use Rattle.cs_lines.specs.Shown.{joined}
use Rattle.cs_lines.specs.Spacing.{Progress, before_row, spaced, printed}

-- a row begins the first group
abbrev pub Begins : Row → List (List Row) → Type 0
Begins row groups = (group : List Row) × (more : List (List Row)) × (groups ≡ (row ∷ group) ∷ more)

pub begins : (row : Row) (groups : List (List Row)) → Begins row (with_row row groups)
begins row [] = ([], [], refl)
begins row ([] ∷ groups) = ([], groups, refl)
begins row ((next ∷ group) ∷ groups) = by_number (nat_eq next.number (row.number + 1))
  where
    by_number : (t : Bool) → Begins row (cond t ((row ∷ next ∷ group) ∷ groups) ((row ∷ []) ∷ (next ∷ group) ∷ groups))
    by_number true = (next ∷ group, groups, refl)
    by_number false = ([], (next ∷ group) ∷ groups, refl)

joined_head : (between a b : List ℕ) (groups : List (List ℕ)) → joined between ((a ++ b) ∷ groups) ≡ a ++ joined between (b ∷ groups)
joined_head between a b [] = refl
joined_head between a b (next ∷ groups) = append_assoc a b (between ++ joined between (next ∷ groups))

module _ (opening gap : List ℕ) (bytes : Row → List ℕ) where
  abbrev in_order : Bool → ℕ → List Row → List ℕ
  in_order shown next rows = spaced opening gap bytes shown next rows

  abbrev texts : List (List Row) → List (List ℕ)
  texts groups = map (λ group. flat_map bytes group) groups

  joined_step : (t : Bool) (row next : Row) (group : List Row) (more : List (List Row)) (rest : List ℕ) →
      joined gap (texts ((next ∷ group) ∷ more)) ≡ rest →
      joined gap (texts (cond t ((row ∷ next ∷ group) ∷ more) ((row ∷ []) ∷ (next ∷ group) ∷ more)))
      ≡ bytes row ++ (cond t [] gap ++ rest)
  joined_step true row next group more rest e =
      joined_head gap (bytes row) (flat_map bytes (next ∷ group)) (texts more) ∙ ap (λ r. bytes row ++ r) e
  joined_step false row next group more rest e =
      ap (λ r. r ++ (gap ++ joined gap (texts ((next ∷ group) ∷ more)))) (append-nil (bytes row))
      ∙ ap (λ r. bytes row ++ (gap ++ r)) e

  -- the groups that begin with a row
  pub joined_rows : (row : Row) (rows : List Row) → joined gap (texts (groups_of (row ∷ rows)))
      ≡ bytes row ++ in_order true (row.number + 1) rows
  joined_rows row [] = refl
  joined_rows row (next ∷ rows) =
      let b = begins next (groups_of rows) in
      ap (λ (groups : List (List Row)). joined gap (texts (with_row row groups))) b.2
      ∙ joined_step (nat_eq next.number (row.number + 1)) row next b.0 b.1 (bytes next ++ in_order true (next.number + 1) rows)
      (sym (ap (λ (groups : List (List Row)). joined gap (texts groups)) b.2) ∙ joined_rows next rows)

  -- rows after rows
  pub printed_append : (rows more : List Row) (p : Progress) → printed opening gap bytes p (rows ++ more)
      ≡ printed opening gap bytes (printed opening gap bytes p rows) more
  printed_append [] more p = refl
  printed_append (row ∷ rows) more p = printed_append rows more _

  pub printed_given : (rows : List Row) (p : Progress) → (printed opening gap bytes p rows).given ≡ p.given ++ in_order p.shown p.next rows
  printed_given [] p = sym (append-nil p.given)
  printed_given (row ∷ rows) p =
      let before = before_row opening gap p.shown p.next row.number in
      let rest = in_order true (row.number + 1) rows in
      printed_given rows (record { given = p.given ++ (before ++ bytes row); shown = true; next = row.number + 1 })
      ∙ append_assoc p.given (before ++ bytes row) rest
      ∙ ap (λ r. p.given ++ r) (append_assoc before (bytes row) rest)

-- the first of some lines
module _ (left : ℕ) (some : 0 < left) (ls lines : List (List ℕ)) (line : List ℕ) (is : ls ≡ line ∷ lines) where
  pred : left ≡ suc (left - 1)
  pred = omega arith

  pub take_step : take left ls ≡ line ∷ take (left - 1) lines
  take_step = ap (λ (l : List (List ℕ)). take left l) is ∙ ap (λ n. take n (line ∷ lines)) pred

  pub drop_step : drop left ls ≡ drop (left - 1) lines
  drop_step = ap (λ (l : List (List ℕ)). drop left l) is ∙ ap (λ n. drop n (line ∷ lines)) pred

take_none : (n : ℕ) → take n (let none : List (List ℕ) = [] in none) ≡ []
take_none zero = refl
take_none (suc n) = refl

drop_none : (n : ℕ) → drop n (let none : List (List ℕ) = [] in none) ≡ []
drop_none zero = refl
drop_none (suc n) = refl

pub take_one : (left : ℕ) (line : List ℕ) → 0 < left → take left (line ∷ []) ≡ line ∷ []
take_one left line some = take_step left some (line ∷ []) [] line refl ∙ ap (λ (l : List (List ℕ)). line ∷ l) (take_none (left - 1))

-- no line is left, or none is wanted
pub take_ended : (left : ℕ) (ls : List (List ℕ)) → (left ≡ 0) ⊎ (ls ≡ []) → take left ls ≡ []
take_ended left ls (inl none) = ap (λ n. take n ls) none
take_ended left ls (inr none) = ap (λ (l : List (List ℕ)). take left l) none ∙ take_none left

pub drop_ended : (left : ℕ) (ls : List (List ℕ)) → (left ≡ 0) ⊎ (ls ≡ []) → drop left ls ≡ ls
drop_ended left ls (inl none) = ap (λ n. drop n ls) none
drop_ended left ls (inr none) = ap (λ (l : List (List ℕ)). drop left l) none ∙ drop_none left ∙ sym none
