-- Incremental encoding: of each string, how many bytes it shares with the string before it, and its other bytes.
-- Witten, Moffat and Bell, "Managing Gigabytes", section 4.1.
use Rattle.std.specs.Prelude.{◌≡◌, ℕ, ◌^◌, ◌≤◌, List, [], ◌∷◌, ◌++◌, length, map, take, drop}
use Rattle.std.specs.List.{concat}
use Rattle.cs_index.specs.declared.writing.strings.StringCode.{StringCode}
use Rattle.cs_index.specs.Encoding.{with_nul}

-- a string, from the one before it and the other bytes of the strings
abbrev pub text_of : List ℕ → StringCode → List ℕ → List ℕ
text_of last code rests = take code.shared last ++ take code.rest rests

-- the strings
abbrev pub texts_from : List ℕ → List StringCode → List ℕ → List (List ℕ)
texts_from last [] rests = []
texts_from last (code ∷ codes) rests = text_of last code rests ∷ texts_from (text_of last code rests) codes (drop code.rest rests)

-- the last string, where `last` comes before the first one
abbrev pub last_text : List ℕ → List StringCode → List ℕ → List ℕ
last_text last [] rests = last
last_text last (code ∷ codes) rests = last_text (text_of last code rests) codes (drop code.rest rests)

-- there are as many bytes as the codes say, and no others
abbrev pub AreCodes : List ℕ → List StringCode → List ℕ → Type 0
AreCodes last [] rests = rests ≡ []
AreCodes last (code ∷ codes) rests =
    (code.shared ≤ length last) × (code.rest ≤ length rests) × AreCodes (text_of last code rests) codes (drop code.rest rests)

-- The representation invariant of `Strings`.
pub record IsCoded (codes : List StringCode) (rests last : List ℕ) (len : ℕ) : Type 0 where
  pub are : AreCodes [] codes rests
  pub last_is : last ≡ last_text [] codes rests
  pub counted : len ≡ length (concat (map with_nul (texts_from [] codes rests)))
  pub bound : len ≤ 2 ^ 60
