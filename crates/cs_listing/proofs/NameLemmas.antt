-- Stars in names: what a star could match from an offset on, it can match from an earlier one.
use Rattle.std.proofs.Common.{◌≡◌, refl, ℕ, ◌+◌, Bool, true, false, ◌||◌, ◌&&◌, List, [], ◌∷◌, length, sym, ap, ◌∙◌}
use Rattle.std.specs.List.{IsFirstAndRest}
use Rattle.cs_listing.specs.Globs.{GlobToken, byte, any, class, star, accepts_byte, matches_name}
use Rattle.cs_listing.specs.Models.{token_of, tokens_of}
use Rattle.cs_listing.specs.declared.glob.Token.{Token}

pub or_true : (a b : Bool) → b ≡ true → (a || b) ≡ true
or_true true b is = refl
or_true false b is = is

pub or_false : (a : Bool) → (a || false) ≡ a
or_false true = refl
or_false false = refl

-- one of both is true
pub or_cases : {P : Type 0} (a b : Bool) → (a || b) ≡ true → (a ≡ true → P) → (b ≡ true → P) → P
or_cases true b is left right = left refl
or_cases false b is left right = right is

-- a disjunction whose second part follows from the first
pub or_absorbs : (a b : Bool) → (b ≡ true → a ≡ true) → (a || b) ≡ a
or_absorbs true b is = refl
or_absorbs false false is = refl
or_absorbs false true is = sym (is refl)

-- what a match after a star leaves for later: the star takes the next byte
abbrev pub matches_later : List GlobToken → List ℕ → Bool
matches_later tokens [] = false
matches_later tokens (b ∷ name) = matches_name (star ∷ tokens) name

pub star_split : (tokens : List GlobToken) (name : List ℕ) →
    matches_name (star ∷ tokens) name ≡ (matches_name tokens name || matches_later tokens name)
star_split tokens [] = sym (or_false (matches_name tokens []))
star_split tokens (b ∷ name) = refl

pub later_is_match : (tokens : List GlobToken) (name : List ℕ) → matches_later tokens name ≡ true → matches_name (star ∷ tokens) name ≡ true
later_is_match tokens name is = star_split tokens name ∙ or_true (matches_name tokens name) (matches_later tokens name) is

-- a star takes one more byte
pub star_absorbs : (tokens : List GlobToken) (b : ℕ) (name : List ℕ) → matches_name (star ∷ tokens) name ≡ true →
    matches_name (star ∷ tokens) (b ∷ name) ≡ true
star_absorbs tokens b name is = or_true (matches_name tokens (b ∷ name)) (matches_name (star ∷ tokens) name) is

-- two stars are one
pub star_twice : (tokens : List GlobToken) (name : List ℕ) → matches_name (star ∷ star ∷ tokens) name ≡ true →
    matches_name (star ∷ tokens) name ≡ true
star_twice tokens [] is = is
star_twice tokens (b ∷ name) is =
    or_cases (matches_name (star ∷ tokens) (b ∷ name)) (matches_name (star ∷ star ∷ tokens) name) is (λ now. now)
    (λ later. star_absorbs tokens b name (star_twice tokens name later))

-- a token that takes one byte
pub record TakesByte (token : GlobToken) : Type 0 where
  pub at_end : (tokens : List GlobToken) → matches_name (token ∷ tokens) [] ≡ false
  pub at_byte : (tokens : List GlobToken) (b : ℕ) (name : List ℕ) →
      matches_name (token ∷ tokens) (b ∷ name) ≡ (accepts_byte token b && matches_name tokens name)

pub takes_byte : (token : GlobToken) (b : ℕ) → accepts_byte token b ≡ true → TakesByte token
takes_byte (byte own) b is = record { at_end = λ _. refl; at_byte = λ _ _ _. refl }
takes_byte any b is = record { at_end = λ _. refl; at_byte = λ _ _ _. refl }
takes_byte (class negated ranges) b is = record { at_end = λ _. refl; at_byte = λ _ _ _. refl }
takes_byte star b is = cc

pub and_right : (a b : Bool) → (a && b) ≡ true → b ≡ true
and_right true b is = is
and_right false b is = cc

-- What matches after a star and one more token leaves, after one byte, a match after the star.
star_skips : (token : GlobToken) (tokens : List GlobToken) → TakesByte token → (b : ℕ) (name : List ℕ) →
    matches_name (star ∷ token ∷ tokens) (b ∷ name) ≡ true → matches_name (star ∷ tokens) name ≡ true
star_skips token tokens one b [] is =
    or_cases (matches_name (token ∷ tokens) (b ∷ [])) (matches_name (token ∷ tokens) []) is
    (λ now. and_right (accepts_byte token b) (matches_name tokens []) (sym (one.at_byte tokens b []) ∙ now))
    (λ later. let e : false ≡ true = sym (one.at_end tokens) ∙ later in cc)
star_skips token tokens one b (c ∷ name) is =
    or_cases (matches_name (token ∷ tokens) (b ∷ c ∷ name)) (matches_name (star ∷ token ∷ tokens) (c ∷ name)) is
    (λ now. star_split tokens (c ∷ name) ∙ ap (λ t. t || matches_later tokens (c ∷ name))
    (and_right (accepts_byte token b) (matches_name tokens (c ∷ name)) (sym (one.at_byte tokens b (c ∷ name)) ∙ now)))
    (λ later. star_absorbs tokens c name (star_skips token tokens one c name later))

-- the first token takes the first byte
pub name_byte : (tokens later : List Token) (token : Token) (name rest : List ℕ) (b : ℕ) → IsFirstAndRest tokens token later →
    IsFirstAndRest name b rest → accepts_byte (token_of token) b ≡ true →
    (matches_name (tokens_of tokens) name ≡ matches_name (tokens_of later) rest)
    × (matches_name (star ∷ tokens_of tokens) name ≡ true → matches_name (star ∷ tokens_of later) rest ≡ true)
    × (length later + 1 ≡ length tokens) × (length rest + 1 ≡ length name)
name_byte tokens later token name rest b first bytes is =
    let one = takes_byte (token_of token) b is in
    let ts = ap tokens_of first.0 in (
      ap (λ t. matches_name t name) ts ∙ ap (matches_name (token_of token ∷ tokens_of later)) bytes.0
          ∙ one.at_byte (tokens_of later) b rest ∙ ap (λ t. t && matches_name (tokens_of later) rest) is,
      λ all. star_skips (token_of token) (tokens_of later) one b rest
          (sym (ap (λ t. matches_name (star ∷ t) name) ts ∙ ap (matches_name (star ∷ token_of token ∷ tokens_of later)) bytes.0) ∙ all),
      first.1,
      bytes.1,
    )

-- At a star, an earlier one need not take more.
pub star_again : (left later : List GlobToken) (rest : List ℕ) (whole earlier : Bool) → left ≡ star ∷ later →
    whole ≡ (matches_name left rest || earlier) → (earlier ≡ true → matches_name (star ∷ left) rest ≡ true) →
    whole ≡ (matches_name later rest || matches_later later rest)
star_again left later rest whole earlier e same absorbed =
    same ∙ or_absorbs (matches_name left rest) earlier
    (λ is. ap (λ t. matches_name t rest) e
    ∙ star_twice later rest (sym (ap (λ t. matches_name (star ∷ t) rest) e) ∙ absorbed is))
    ∙ ap (λ t. matches_name t rest) e ∙ star_split later rest
