-- The tokens of a text, one after the other, and the elements between slashes.
use Rattle.std.proofs.Common.{◌≡◌, refl, ℕ, zero, suc, ◌-◌, ◌≤◌, ◌<◌, true, false, List, [], ◌∷◌, ◌++◌, length, drop, sym, ap, ◌∙◌, subst, arith, append_assoc, ◌&&◌}
use Rattle.std.specs.Prelude.{All, nat_le}
use Rattle.std.specs.List.{slice_split, list_all}
use Rattle.std.proofs.lemmas.Bool.Decides.{nat_tests}
use Rattle.std.proofs.lemmas.List.{map-append, append-nil, length-map}
use Rattle.std.proofs.lemmas.List.Elements.{All-push}
use Rattle.std.proofs.lemmas.List.Splits.{slice_split_none, slice_split_at, length-slice_split}
use Rattle.std.proofs.lemmas.List.Folds.{list_all-map}
use Rattle.cs_listing.specs.Globs.{GlobToken, Element}
use Rattle.cs_listing.specs.GlobText.{first_token, tokens_after, tokens_in, is_slash, is_star, is_double_star, element, last_element, elements_of}
use Rattle.cs_listing.specs.Models.{token_of, tokens_of}
use Rattle.cs_listing.specs.Reading.{ReadsToken}
use Rattle.cs_listing.specs.declared.glob.Token.{Token}

after_drop : (n : ℕ) (text : List ℕ) → tokens_after n text ≡ tokens_in (drop n text)
after_drop zero text = refl
after_drop (suc n) [] = refl
after_drop (suc n) (b ∷ text) = after_drop n text

drop_one : (n b : ℕ) (text : List ℕ) → 0 < n → tokens_after (n - 1) text ≡ tokens_in (drop n (b ∷ text))
drop_one zero b text some = absurd (omega (arith, some))
drop_one (suc n) b text some = ap (λ k. tokens_after k text) (omega arith) ∙ after_drop n text

-- a token, and those of the rest
pub tokens_step : (text : List ℕ) (read : Token × ℕ) → ReadsToken (first_token text) text read →
    tokens_in text ≡ token_of read.0 ∷ tokens_in (drop read.1 text)
tokens_step [] read h = absurd (omega (arith, h.1, h.2))
tokens_step (b ∷ text) read h =
    ap (λ t. t.0 ∷ tokens_after (t.1 - 1) text) h.0 ∙ ap (λ ts. token_of read.0 ∷ ts) (drop_one read.1 b text h.1)

-- ---- elements

abbrev pub NoSlash : List GlobToken → Type 0
NoSlash tokens = All (λ token. is_slash token ≡ false) tokens

elements_more : (tokens : List GlobToken) (others : List (List GlobToken)) → 0 < length others →
    elements_of (tokens ∷ others) ≡ element tokens ∷ elements_of others
elements_more tokens [] some = absurd (omega (arith, some))
elements_more tokens (next ∷ others) some = refl

-- an element ends at a slash
pub element_ends : (tokens : List GlobToken) (token : GlobToken) (later : List GlobToken) → NoSlash tokens → is_slash token ≡ true →
    elements_of (slice_split is_slash (tokens ++ token ∷ later)) ≡ element tokens ∷ elements_of (slice_split is_slash later)
element_ends tokens token later none is =
    ap elements_of (slice_split_at is_slash tokens token later none is)
    ∙ elements_more tokens (slice_split is_slash later) (omega (arith, length-slice_split is_slash later))

-- the last element ends the text
pub element_last : (tokens : List GlobToken) → NoSlash tokens → elements_of (slice_split is_slash tokens) ≡ last_element tokens
element_last tokens none = ap elements_of (slice_split_none is_slash tokens none)

-- ---- what is read of a text: whole elements, and the tokens of one that goes on

module _ (whole before : List Element) (pending : List Token) (rest : List ℕ) (read : Token × ℕ)
    (same : whole ≡ before ++ elements_of (slice_split is_slash (tokens_of pending ++ tokens_in rest)))
    (reads : ReadsToken (first_token rest) rest read) where
  -- one more token of an element
  pub token_more : (after : List Token) → after ≡ pending ++ read.0 ∷ [] →
      whole ≡ before ++ elements_of (slice_split is_slash (tokens_of after ++ tokens_in (drop read.1 rest)))
  token_more after e =
      same ∙ ap (λ ts. before ++ elements_of (slice_split is_slash (tokens_of pending ++ ts))) (tokens_step rest read reads)
      ∙ ap (λ ts. before ++ elements_of (slice_split is_slash ts))
      (sym (append_assoc (tokens_of pending) (token_of read.0 ∷ []) (tokens_in (drop read.1 rest))))
      ∙ ap (λ ts. before ++ elements_of (slice_split is_slash (ts ++ tokens_in (drop read.1 rest))))
      (sym (ap tokens_of e ∙ map-append token_of pending (read.0 ∷ [])))

  -- a slash, which ends an element
  pub element_more : NoSlash (tokens_of pending) → is_slash (token_of read.0) ≡ true → (own : Element) →
      own ≡ element (tokens_of pending) →
      whole ≡ (before ++ own ∷ []) ++ elements_of (slice_split is_slash (tokens_in (drop read.1 rest)))
  element_more none is own e =
      let later = tokens_in (drop read.1 rest) in
      same ∙ ap (λ ts. before ++ elements_of (slice_split is_slash (tokens_of pending ++ ts))) (tokens_step rest read reads)
      ∙ ap (λ es. before ++ es) (element_ends (tokens_of pending) (token_of read.0) later none is)
      ∙ ap (λ x. before ++ x ∷ elements_of (slice_split is_slash later)) (sym e)
      ∙ sym (append_assoc before (own ∷ []) (elements_of (slice_split is_slash later)))

-- the end of the text
pub elements_end : (whole before : List Element) (pending : List Token) (rest : List ℕ) → length rest ≡ 0 →
    whole ≡ before ++ elements_of (slice_split is_slash (tokens_of pending ++ tokens_in rest)) → NoSlash (tokens_of pending) →
    whole ≡ before ++ last_element (tokens_of pending)
elements_end whole before pending [] len same none =
    same ∙ ap (λ ts. before ++ elements_of (slice_split is_slash ts)) (append-nil (tokens_of pending))
    ∙ ap (λ es. before ++ es) (element_last (tokens_of pending) none)
elements_end whole before pending (b ∷ rest) len same none = absurd (omega (arith, len))

pub no_slash_none : NoSlash []
no_slash_none = λ k d less. absurd (omega (arith, less))

pub no_slash_more : (pending after : List Token) (token : Token) → NoSlash (tokens_of pending) → is_slash (token_of token) ≡ false →
    after ≡ pending ++ token ∷ [] → NoSlash (tokens_of after)
no_slash_more pending after token none is e =
    subst NoSlash (sym (ap tokens_of e ∙ map-append token_of pending (token ∷ [])))
    (All-push (λ token. is_slash token ≡ false) (tokens_of pending) (token_of token) none is)

-- whether tokens are `**`, of two or more
pub stars_all : (tokens : List Token) → 2 ≤ length tokens → is_double_star (tokens_of tokens) ≡ list_all (λ token. is_star (token_of token)) tokens
stars_all tokens long =
    let enough : nat_le 2 (length (tokens_of tokens)) ≡ true = grind (arith, nat_tests, length-map tokens token_of) in
    ap (λ t. t && list_all is_star (tokens_of tokens)) enough ∙ list_all-map is_star token_of tokens
