-- Rows of the definitions of `Braces`, as bash expands them where braces match. All texts have one decision, so their order is of no
-- account.
use Rattle.std.proofs.Common.{◌≡◌, refl, ℕ, List, [], ◌∷◌, ◌++◌}
use Rattle.std.specs.Prelude.{Some, None, codes, length, replicate, option_map, unwrap_or, flat_map}
use Rattle.cs_listing.specs.Braces.{alternatives, globs_in}
use Rattle.cs_listing.specs.Rules.{Rule}

two : alternatives (codes "*.{c,h}") ≡ Some (codes "*.c" ∷ codes "*.h" ∷ [])
two = refl

two_pairs : alternatives (codes "{a,b}{c,d}") ≡ Some (codes "ac" ∷ codes "bc" ∷ codes "ad" ∷ codes "bd" ∷ [])
two_pairs = refl

pairs_in_pairs : alternatives (codes "a{b,c{d,e}f}g") ≡ Some (codes "abg" ∷ codes "acdfg" ∷ codes "acefg" ∷ [])
pairs_in_pairs = refl

empty_alternative : alternatives (codes "a{,b}") ≡ Some (codes "a" ∷ codes "ab" ∷ [])
empty_alternative = refl

no_braces : alternatives (codes "a,b") ≡ Some (codes "a,b" ∷ [])
no_braces = refl

-- as rg has it; a shell keeps these braces
one_alternative : alternatives (codes "a{b}") ≡ Some (codes "ab" ∷ [])
one_alternative = refl

quoted_braces : alternatives (codes "\\{a,b\\}") ≡ Some (codes "\\{a,b\\}" ∷ [])
quoted_braces = refl

quoted_comma : alternatives (codes "{a\\,b,c}") ≡ Some (codes "a\\,b" ∷ codes "c" ∷ [])
quoted_comma = refl

braces_in_a_class : alternatives (codes "[{,]{a,b}") ≡ Some (codes "[{,]a" ∷ codes "[{,]b" ∷ [])
braces_in_a_class = refl

class_in_braces : alternatives (codes "{[,}],b}") ≡ Some (codes "[,}]" ∷ codes "b" ∷ [])
class_in_braces = refl

not_closed : alternatives (codes "a{b,c") ≡ None
not_closed = refl

-- a class that does not end takes the rest
not_closed_after_a_class : alternatives (codes "{a,[b}") ≡ None
not_closed_after_a_class = refl

not_open : alternatives (codes "a}") ≡ None
not_open = refl

-- 1,024 texts
too_many : alternatives (flat_map (λ (t : List ℕ). t) (replicate 10 (codes "{a,b}"))) ≡ None
too_many = refl

not_too_many : option_map length (alternatives (flat_map (λ (t : List ℕ). t) (replicate 9 (codes "{a,b}")))) ≡ Some 512
not_too_many = refl

-- ---- rules

abbrev rules_for : List ℕ → List Rule
rules_for text = unwrap_or (globs_in text) []

as_two_globs : rules_for (codes "!{/a,b}/") ≡ rules_for (codes "!/a/") ++ rules_for (codes "!b/")
as_two_globs = refl

mark_in_braces : globs_in (codes "{!a,b}") ≡ Some (rules_for (codes "\\!a") ++ rules_for (codes "b"))
mark_in_braces = refl

-- ---- globs that can match nothing

slash_alone : globs_in (codes "/") ≡ None
slash_alone = refl

mark_alone : globs_in (codes "!") ≡ None
mark_alone = refl

class_without_an_end : globs_in (codes "[") ≡ None
class_without_an_end = refl

empty_name : globs_in (codes "a//b") ≡ None
empty_name = refl

no_alternative : globs_in (codes "{a,}") ≡ None
no_alternative = refl
