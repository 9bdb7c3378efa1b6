-- A walk ends: each step that goes on makes it lighter.
use Rattle.std.specs.Prelude.{Option, Some, None, String, string_bytes}
use Rattle.std.specs.List.{AllByRecursion}
use Rattle.std.specs.BTreeSet.{BTreeSet, contains_text}
use Rattle.std.specs.declared.alloc.Global.{Global}
use Rattle.std.proofs.Common.{◌≡◌, ℕ, true, ◌+◌, ◌-◌, ◌*◌, ◌^◌, ◌<◌, ◌≤◌, ◌⊎◌, inl, inr, List, [], ◌∷◌, ◌++◌, length, ap, sym, ◌∙◌, arith, pow_pos, pow-add}
use Rattle.std.proofs.Math.Nat.{mul-lt-mul_of_pos_right, eq-or-lt_of_le}
use Rattle.std.proofs.lemmas.List.{length-append}
use Rattle.cs_tree.specs.Clean.{longest_path}
use Rattle.cs_listing.specs.Walk.{weight, walk_weight, unread_in, KeepsReports, ComesNearer}
use Rattle.cs_listing.specs.declared.fault.Unread.{Unread}
use Rattle.cs_listing.specs.declared.walk.Frame.{Frame}
use Rattle.cs_listing.specs.declared.walk.Walk.{Walk}
use Rattle.cs_listing.specs.declared.walk.Found.{Found}
use Rattle.cs_listing.specs.declared.walk.Found.TheVariants as found

-- what an entry of a folder weighs at a level
abbrev unit_at : ℕ → ℕ
unit_at level = 2 ^ (65 * (4097 - level))

weight-append : (level : ℕ) (xs ys : List Frame) → weight level (xs ++ ys) ≡ weight level xs + weight (level + length xs) ys
weight-append level [] ys =
    let same : level ≡ level + length {A = Frame} [] = omega arith in
    omega (arith, ap (λ n. weight n ys) same)
weight-append level (x ∷ xs) ys =
    let rest = weight-append (level + 1) xs ys in
    let same : level + 1 + length xs ≡ level + length (x ∷ xs) = omega arith in
    omega (arith, rest, ap (λ n. weight n ys) same)

last_weight : (xs : List Frame) (x : Frame) → weight 0 (xs ++ x ∷ []) ≡ weight 0 xs + (length x.entries.items + 1) * unit_at (length xs)
last_weight xs x =
    let same : 0 + length xs ≡ length xs = omega arith in
    omega (arith, weight-append 0 xs (x ∷ []), ap (λ n. weight n (x ∷ [])) same)

once_more : (n u : ℕ) → (n + 1) * u ≡ n * u + u
once_more n u = omega arith

-- a folder is left
pub leaves_lighter : (xs all : List Frame) (x : Frame) → all ≡ xs ++ x ∷ [] → weight 0 xs < weight 0 all
leaves_lighter xs all x is =
    omega (
      arith,
      ap (weight 0) is,
      last_weight xs x,
      once_more (length x.entries.items) (unit_at (length xs)),
      pow_pos (65 * (4097 - length xs)),
    )

-- an entry is taken
takes_lighter : (xs : List Frame) (x y : Frame) → length x.entries.items ≡ length y.entries.items + 1 →
    weight 0 (xs ++ y ∷ []) + unit_at (length xs) ≡ weight 0 (xs ++ x ∷ [])
takes_lighter xs x y less =
    omega (
      arith,
      last_weight xs x,
      last_weight xs y,
      ap (λ n. (n + 1) * unit_at (length xs)) less,
      once_more (length y.entries.items + 1) (unit_at (length xs)),
    )

-- a folder has fewer entries than an entry of the folder above weighs
opens_lighter : (level n : ℕ) → n < 2 ^ 64 → level + 1 ≤ 4097 → (n + 1) * unit_at (level + 1) < unit_at level
opens_lighter level n few within =
    let wide : unit_at level ≡ 2 ^ 65 * unit_at (level + 1) =
    ap (λ k. 2 ^ k) (let e : 65 * (4097 - level) ≡ 65 + 65 * (4097 - (level + 1)) = omega (arith, within) in e)
    ∙ pow-add 2 65 (65 * (4097 - (level + 1))) in
    let bound : n + 1 < 2 ^ 65 = omega (arith, few) in
    omega (arith, wide, mul-lt-mul_of_pos_right bound (pow_pos (65 * (4097 - (level + 1)))))

pub visits_lighter : (xs all mid later : List Frame) (x y : Frame) → all ≡ xs ++ x ∷ [] → mid ≡ xs ++ y ∷ [] →
    length x.entries.items ≡ length y.entries.items + 1 →
    (later ≡ mid) ⊎ ((length mid ≤ longest_path) × ((z : Frame) × (later ≡ mid ++ z ∷ []))) → weight 0 later < weight 0 all
visits_lighter xs all mid later x y is at less (inl same) =
    omega (arith, ap (weight 0) is, ap (weight 0) (same ∙ at), takes_lighter xs x y less, pow_pos (65 * (4097 - length xs)))
visits_lighter xs all mid later x y is at less (inr opened) =
    let count : length mid ≡ length xs + 1 = omega (arith, ap length at, length-append xs (y ∷ [])) in
    omega (
      arith,
      ap (weight 0) is,
      ap (weight 0) opened.1.1,
      last_weight mid opened.1.0,
      ap (weight 0) at,
      takes_lighter xs x y less,
      ap (λ n. (length opened.1.0.entries.items + 1) * unit_at n) count,
      opens_lighter (length xs) (length opened.1.0.entries.items) (few opened.1.0) (omega (arith, count, opened.0)),
    )
  where
    few : (z : Frame) → length z.entries.items < 2 ^ 64
    few z = omega (arith, z.entries.ok.0, z.entries.ok.1, z.entries.small)

all_alike : (first old : BTreeSet (String Global)) → KeepsReports first old → (others : List Unread) →
    AllByRecursion (λ other. contains_text old (string_bytes other.path) ≡ true) others →
    AllByRecursion (λ other. contains_text first (string_bytes other.path) ≡ true) others
all_alike first old kept [] all = tt
all_alike first old kept (other ∷ others) all =
    (sym (kept (string_bytes other.path)) ∙ all.0, all_alike first old kept others all.1)

-- one more call, of a walk that has come nearer or is still the same
pub nearer : (first old new : Walk) (given : Option Found) → walk_weight old ≤ walk_weight first →
    (walk_weight old ≡ walk_weight first → unread_in old ≡ unread_in first) → KeepsReports first.reported old.reported →
    ComesNearer old new given → ComesNearer first new given
nearer first old new None within same kept comes = tt
nearer first old new (Some (found.File file)) within same kept comes = omega (arith, within, comes)
nearer first old new (Some (found.Unread unread)) within same kept (inl lighter) = inl (omega (arith, within, lighter))
nearer first old new (Some (found.Unread unread)) within same kept (inr left) =
    either (eq-or-lt_of_le within)
  where
    either : (walk_weight old ≡ walk_weight first) ⊎ (walk_weight old < walk_weight first) → ComesNearer first new (Some (found.Unread unread))
    either (inl e) = inr (
      left.0 ∙ e,
      (left.1.0, sym (same e) ∙ left.1.1, all_alike first.reported old.reported kept left.1.0 left.1.2),
    )
    either (inr less) = inl (omega (arith, less, left.0))
