-- Reads of a source that is watched for a NUL and counted.
use Rattle.std.proofs.Common.{◌≡◌, ◌≤◌, ◌-◌, min, arith, append_assoc, ◌||◌, ◌++◌, [], ◌∷◌, zero, suc, ℕ, Bool, true, false, List, Option, None, Some, length, take, refl, sym, ap, ◌∙◌, nat_eq, option_map, is_some, ◌+◌}
use Rattle.std.proofs.lemmas.Bool.{false≢true}
use Rattle.std.proofs.lemmas.List.{length-append, length-take, take_all, take_min}
use Rattle.cs_tree.specs.StreamModels.{SourceModel}
use Rattle.cs_tree.specs.Transfers.{Consumes}
use Rattle.cs_lines.specs.Shown.{is_binary}
use Rattle.cs_update.specs.Reads.{has_nul, is_missing}

pub take_none : (n : ℕ) → take {A = ℕ} n [] ≡ []
take_none zero = refl
take_none (suc n) = refl

or_assoc : (x y z : Bool) → ((x || y) || z) ≡ (x || (y || z))
or_assoc true y z = refl
or_assoc false y z = refl

none_left : (n : ℕ) → 0 ≡ 0 - suc n
none_left n = omega arith

all_left : (n : ℕ) → n ≡ n - 0
all_left n = omega arith

one_less : (left n : ℕ) → left - n ≡ suc left - suc n
one_less left n = omega arith

-- the first bytes of two parts
first_of_both : (left : ℕ) (a b : List ℕ) → has_nul (take left (a ++ b)) ≡ (has_nul (take left a) || has_nul (take (left - length a) b))
first_of_both left [] b = ap (λ n. has_nul (take n b)) (all_left left) ∙ ap (λ none. has_nul none || has_nul (take (left - 0) b)) (sym (take_none left))
first_of_both zero (x ∷ a) b = ap (λ n. has_nul (take n b)) (none_left (length a))
first_of_both (suc left) (x ∷ a) b =
    ap (λ more. nat_eq x 0 || more) (first_of_both left a b)
    ∙ sym (or_assoc (nat_eq x 0) (has_nul (take left a)) (has_nul (take (left - length a) b)))
    ∙ ap (λ n. (nat_eq x 0 || has_nul (take left a)) || has_nul (take n b)) (one_less left (length a))

-- the bytes among the first ones that are read at once
pub first_bytes : (left len : ℕ) (bytes : List ℕ) → left ≤ 8000 → len ≡ min left (length bytes) → is_binary (take len bytes) ≡ has_nul (take left bytes)
first_bytes left len bytes most is =
    ap has_nul (take_all 8000 (take len bytes) (omega (arith, length-take len bytes, is, most)))
    ∙ ap (λ n. has_nul (take n bytes)) is ∙ ap has_nul (take_min left bytes)

abbrev pub ahead : Bool → ℕ → Option SourceModel → Option Bool
ahead seen left model = option_map (λ (source : SourceModel). seen || has_nul (take left source.bytes)) model

pub nul_kept : (model later : Option SourceModel) (bytes : List ℕ) (left less : ℕ) (seen now found : Bool) → Consumes model later bytes →
    less ≡ left - length bytes → now ≡ (seen || has_nul (take left bytes)) → ahead seen left model ≡ Some found → ahead now less later ≡ Some found
nul_kept None later bytes left less seen now found read fewer more is = absurd (false≢true (ap is_some is))
nul_kept (Some source) None bytes left less seen now found read fewer more is = absurd read
nul_kept (Some source) (Some rest) bytes left less seen now found read fewer more is =
    (λ i. Some (more i || has_nul (take (fewer i) rest.bytes)))
    ∙ ap Some (or_assoc seen (has_nul (take left bytes)) (has_nul (take (left - length bytes) rest.bytes)))
    ∙ ap (λ both. Some (seen || both)) (sym (first_of_both left bytes rest.bytes))
    ∙ ap (λ all. Some (seen || has_nul (take left all))) (sym read.0) ∙ is

-- ---- the number of bytes

abbrev pub expected : Option ℕ → Option SourceModel → Option Bool
expected missing model = option_map (λ (source : SourceModel). is_missing missing (length source.bytes)) model

pub count_kept : (model later : Option SourceModel) (bytes : List ℕ) (missing now : Option ℕ) (found : Bool) → Consumes model later bytes →
    ((rest : ℕ) → is_missing now rest ≡ is_missing missing (length bytes + rest)) →
    expected missing model ≡ Some found → expected now later ≡ Some found
count_kept None later bytes missing now found read fewer is = absurd (false≢true (ap is_some is))
count_kept (Some source) None bytes missing now found read fewer is = absurd read
count_kept (Some source) (Some rest) bytes missing now found read fewer is =
    ap Some (fewer (length rest.bytes))
    ∙ ap (λ n. Some (is_missing missing n)) (sym (length-append bytes rest.bytes) ∙ sym (ap length read.0)) ∙ is

-- ---- reads one after another

pub more_read : (model now later : Option SourceModel) (a b : List ℕ) → Consumes model now a → Consumes now later b → Consumes model later (a ++ b)
more_read None now later a b p q = tt
more_read (Some source) None later a b p q = absurd p
more_read (Some source) (Some was) None a b p q = absurd q
more_read (Some source) (Some was) (Some rest) a b p q =
    (p.0 ∙ ap (λ (r : List ℕ). a ++ r) q.0 ∙ sym (append_assoc a b rest.bytes), p.1 ∙ q.1)
