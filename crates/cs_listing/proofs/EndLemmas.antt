-- The last token of some tokens, and the last byte of a name.
use Rattle.std.proofs.Common.{◌≡◌, ◌≢◌, refl, ℕ, ◌+◌, true, false, ◌||◌, List, [], ◌∷◌, ◌++◌, length, sym, ap, ◌∙◌, arith}
use Rattle.std.specs.List.{IsLastAndRest}
use Rattle.std.proofs.lemmas.Bool.{and_parts, and_from, false≢true, false_from_ne_true}
use Rattle.std.proofs.lemmas.List.{map-append, nil_from_length}
use Rattle.cs_listing.specs.Globs.{GlobToken, byte, any, class, star, accepts_byte, matches_name}
use Rattle.cs_listing.specs.MatchWork.{token_work, tokens_work}
use Rattle.cs_listing.specs.Models.{token_of, tokens_of}
use Rattle.cs_listing.specs.declared.glob.Token.{Token}
use Rattle.cs_listing.specs.declared.glob.Token.TheVariants.{Byte, Any, Class, Star}
use Rattle.cs_listing.proofs.NameLemmas.{TakesByte, or_true, or_cases, and_right}

pub takes_one : (token : GlobToken) → token ≢ star → TakesByte token
takes_one (byte own) other = record { at_end = λ _. refl; at_byte = λ _ _ _. refl }
takes_one any other = record { at_end = λ _. refl; at_byte = λ _ _ _. refl }
takes_one (class negated ranges) other = record { at_end = λ _. refl; at_byte = λ _ _ _. refl }
takes_one star other = absurd (other refl)

-- a token that takes a byte matches no empty name, after whatever tokens
none_at_end : (tokens : List GlobToken) (last : GlobToken) → TakesByte last → matches_name (tokens ++ last ∷ []) [] ≡ false
none_at_end [] last one = one.at_end []
none_at_end (star ∷ tokens) last one = none_at_end tokens last one
none_at_end (byte own ∷ tokens) last one = refl
none_at_end (any ∷ tokens) last one = refl
none_at_end (class negated ranges ∷ tokens) last one = refl

one_left : (name : List ℕ) (b : ℕ) → matches_name [] (name ++ b ∷ []) ≡ false
one_left [] b = refl
one_left (c ∷ name) b = refl

module _ (last : GlobToken) (one : TakesByte last) where
  -- the last token takes the last byte, and the others match the rest
  abbrev EndsSo : List GlobToken → List ℕ → ℕ → Type 0
  EndsSo tokens name b = (accepts_byte last b ≡ true) × (matches_name tokens name ≡ true)

  after_first : (first : GlobToken) (tokens : List GlobToken) → TakesByte first →
      ((name : List ℕ) (b : ℕ) → matches_name (tokens ++ last ∷ []) (name ++ b ∷ []) ≡ true → EndsSo tokens name b) →
      (name : List ℕ) (b : ℕ) → matches_name (first ∷ (tokens ++ last ∷ [])) (name ++ b ∷ []) ≡ true → EndsSo (first ∷ tokens) name b
  after_first first tokens own ih [] b is =
      absurd (false≢true (sym (none_at_end tokens last one)
      ∙ and_right (accepts_byte first b) (matches_name (tokens ++ last ∷ []) []) (sym (own.at_byte (tokens ++ last ∷ []) b []) ∙ is)))
  after_first first tokens own ih (c ∷ name) b is =
      let parts = and_parts (accepts_byte first c) (matches_name (tokens ++ last ∷ []) (name ++ b ∷ []))
      (sym (own.at_byte (tokens ++ last ∷ []) c (name ++ b ∷ [])) ∙ is) in
      let rest = ih name b parts.1 in
      (rest.0, own.at_byte tokens c name ∙ and_from (accepts_byte first c) (matches_name tokens name) parts.0 rest.1)

  ends_so : (tokens : List GlobToken) (name : List ℕ) (b : ℕ) → matches_name (tokens ++ last ∷ []) (name ++ b ∷ []) ≡ true → EndsSo tokens name b
  ends_so [] [] b is = and_parts (accepts_byte last b) (matches_name [] []) (sym (one.at_byte [] b []) ∙ is)
  ends_so [] (c ∷ name) b is =
      absurd (false≢true (sym (one_left name b)
      ∙ and_right (accepts_byte last c) (matches_name [] (name ++ b ∷ [])) (sym (one.at_byte [] c (name ++ b ∷ [])) ∙ is)))
  ends_so (star ∷ tokens) [] b is =
      or_cases (matches_name (tokens ++ last ∷ []) (b ∷ [])) (matches_name (tokens ++ last ∷ []) []) is (λ now. ends_so tokens [] b now)
      (λ later. absurd (false≢true (sym (none_at_end tokens last one) ∙ later)))
  ends_so (star ∷ tokens) (c ∷ name) b is =
      or_cases (matches_name (tokens ++ last ∷ []) (c ∷ (name ++ b ∷ []))) (matches_name (star ∷ (tokens ++ last ∷ [])) (name ++ b ∷ [])) is
      (λ now. let rest = ends_so tokens (c ∷ name) b now in
      (rest.0, ap (λ t. t || matches_name (star ∷ tokens) name) rest.1))
      (λ later. let rest = ends_so (star ∷ tokens) name b later in
      (rest.0, or_true (matches_name tokens (c ∷ name)) (matches_name (star ∷ tokens) name) rest.1))
  ends_so (byte own ∷ tokens) name b is =
      after_first (byte own) tokens (record { at_end = λ _. refl; at_byte = λ _ _ _. refl }) (λ n c at. ends_so tokens n c at) name b is
  ends_so (any ∷ tokens) name b is =
      after_first any tokens (record { at_end = λ _. refl; at_byte = λ _ _ _. refl }) (λ n c at. ends_so tokens n c at) name b is
  ends_so (class negated ranges ∷ tokens) name b is =
      after_first (class negated ranges) tokens (record { at_end = λ _. refl; at_byte = λ _ _ _. refl }) (λ n c at. ends_so tokens n c at) name b is

-- ---- by the lists of the code

module _ (tokens before : List Token) (token : Token) (name : List ℕ) (last : IsLastAndRest tokens token before)
    (other : token_of token ≢ star) where
  tokens_are : tokens_of tokens ≡ tokens_of before ++ token_of token ∷ []
  tokens_are = ap tokens_of last.0 ∙ map-append token_of before (token ∷ [])

  pub no_bytes : length name ≡ 0 → matches_name (tokens_of tokens) name ≡ false
  no_bytes empty = ap (λ ts. matches_name ts name) tokens_are
      ∙ ap (matches_name (tokens_of before ++ token_of token ∷ [])) (nil_from_length name empty)
      ∙ none_at_end (tokens_of before) (token_of token) (takes_one (token_of token) other)

  module _ (rest : List ℕ) (b : ℕ) (bytes : IsLastAndRest name b rest) where
    ends : matches_name (tokens_of tokens) name ≡ true → (accepts_byte (token_of token) b ≡ true) × (matches_name (tokens_of before) rest ≡ true)
    ends is = ends_so (token_of token) (takes_one (token_of token) other) (tokens_of before) rest b
        (sym (ap (λ ts. matches_name ts name) tokens_are ∙ ap (matches_name (tokens_of before ++ token_of token ∷ [])) bytes.0) ∙ is)

    pub other_byte : accepts_byte (token_of token) b ≡ false → matches_name (tokens_of tokens) name ≡ false
    other_byte differs = false_from_ne_true (matches_name (tokens_of tokens) name) (λ is. false≢true (sym differs ∙ (ends is).0))

    pub same_byte : matches_name (tokens_of tokens) name ≡ true → matches_name (tokens_of before) rest ≡ true
    same_byte is = (ends is).1

work_with : (tokens : List GlobToken) (last : GlobToken) → tokens_work (tokens ++ last ∷ []) ≡ tokens_work tokens + token_work last
work_with [] last = omega arith
work_with (first ∷ tokens) last = omega (arith, work_with tokens last)

pub last_work : (tokens before : List Token) (token : Token) → IsLastAndRest tokens token before →
    tokens_work (tokens_of tokens) ≡ tokens_work (tokens_of before) + token_work (token_of token)
last_work tokens before token last =
    ap (λ ts. tokens_work (tokens_of ts)) last.0 ∙ ap tokens_work (map-append token_of before (token ∷ []))
    ∙ work_with (tokens_of before) (token_of token)

pub no_star : (token : Token) → token ≢ Star → token_of token ≢ star
no_star (Byte b) other = λ e. cc
no_star Any other = λ e. cc
no_star (Class negated ranges) other = λ e. cc
no_star Star other = absurd (other refl)
