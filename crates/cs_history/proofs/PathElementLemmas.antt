-- Paths as their elements, joined by slashes.
use Rattle.std.proofs.Common.{◌≡◌, ℕ, suc, ◌+◌, ◌<◌, cond, eqb, true, List, [], ◌∷◌, ◌++◌, length, drop, get_or, refl, sym, ap, subst, ◌∙◌, inl, inr, arith, append_assoc, length-append, IsUtf8}
use Rattle.cs_history.proofs.Common.{cases_Bool, cond_both, eqb-true, take_at, drop_at, is_normalized, slash, AllByRecursion, onto_first, NoNul, elements}
use Rattle.std.proofs.lemmas.Str.{IsUtf8-append, IsUtf8-nil, IsUtf8-take, IsUtf8-drop, encode_ascii, IsCharBoundary-before_ascii, IsCharBoundary-after_ascii}

-- a clean path: UTF-8, and normalized
abbrev pub IsClean : List ℕ → Type 0
IsClean path = IsUtf8 path × (is_normalized path ≡ true)

-- the elements joined by slashes
abbrev pub text_of : List (List ℕ) → List ℕ
text_of [] = []
text_of (name ∷ []) = name
text_of (name ∷ next ∷ names) = name ++ slash ∷ text_of (next ∷ names)

-- ---- a path is its elements joined

text_onto : (b : ℕ) (names : List (List ℕ)) → text_of (onto_first b names) ≡ b ∷ text_of names
text_onto b [] = refl
text_onto b (name ∷ []) = refl
text_onto b (name ∷ next ∷ names) = refl

text_empty : (text : List ℕ) → text_of ([] ∷ elements text) ≡ slash ∷ text_of (elements text)
text_empty [] = refl
text_empty (b ∷ rest) = cond_both (eqb b slash) ([] ∷ elements rest) (onto_first b (elements rest))
    (λ es. text_of ([] ∷ es) ≡ slash ∷ text_of es) (λ _. refl) (λ _. onto b (elements rest))
  where
    onto : (b : ℕ) (es : List (List ℕ)) → text_of ([] ∷ onto_first b es) ≡ slash ∷ text_of (onto_first b es)
    onto b [] = refl
    onto b (e ∷ es) = refl

pub text_back : (text : List ℕ) → text_of (elements text) ≡ text
text_back [] = refl
text_back (b ∷ rest) =
    elim (cases_Bool (eqb b slash)) [
      | inl here ↦
          ap (λ t. text_of (cond t ([] ∷ elements rest) (onto_first b (elements rest)))) here
          ∙ text_empty rest
          ∙ ap (λ t. slash ∷ t) (text_back rest)
          ∙ ap (λ c. c ∷ rest) (sym (eqb-true b slash here))
      | inr apart ↦
          ap (λ t. text_of (cond t ([] ∷ elements rest) (onto_first b (elements rest)))) apart
          ∙ text_onto b (elements rest)
          ∙ ap (λ t. b ∷ t) (text_back rest)
    ]

-- ---- what holds for each element holds for the path, and vice versa

nul_append : (a b : List ℕ) → NoNul a → NoNul b → NoNul (a ++ b)
nul_append [] b f g = g
nul_append (x ∷ a) b f g = (f.0, nul_append a b f.1 g)

nul_prefix : (a b : List ℕ) → NoNul (a ++ b) → NoNul a
nul_prefix [] b f = tt
nul_prefix (x ∷ a) b f = (f.0, nul_prefix a b f.1)

nul_back : (a b : List ℕ) → NoNul (a ++ b) → NoNul b
nul_back [] b f = f
nul_back (x ∷ a) b f = nul_back a b f.1

pub slash_utf8 : IsUtf8 (slash ∷ [])
slash_utf8 = (slash ∷ [], (refl, ap (λ bytes. bytes ++ []) (encode_ascii slash (omega arith))))

at_seam : (a b : List ℕ) → get_or (a ++ slash ∷ b) (length a) 0 ≡ slash
at_seam [] b = refl
at_seam (x ∷ a) b = at_seam a b

utf8_prefix : (a b : List ℕ) → IsUtf8 (a ++ slash ∷ b) → IsUtf8 a
utf8_prefix a b h =
    let long : length (a ++ slash ∷ b) ≡ length a + suc (length b) = length-append a (slash ∷ b) in
    let ascii : get_or (a ++ slash ∷ b) (length a) 0 < 128 = let e = at_seam a b in omega (arith, e) in
    subst IsUtf8 (take_at a (slash ∷ b) (length a) refl)
    (IsUtf8-take (a ++ slash ∷ b) (length a) h
    (IsCharBoundary-before_ascii (a ++ slash ∷ b) (length a) (omega (arith, long)) ascii))

utf8_back : (a b : List ℕ) → IsUtf8 (a ++ slash ∷ b) → IsUtf8 b
utf8_back a b h =
    let long : length (a ++ slash ∷ b) ≡ length a + suc (length b) = length-append a (slash ∷ b) in
    let ascii : get_or (a ++ slash ∷ b) (length a) 0 < 128 = let e = at_seam a b in omega (arith, e) in
    let rest : drop (length a + 1) (a ++ slash ∷ b) ≡ b = ap (drop (length a + 1)) (sym (append_assoc a (slash ∷ []) b))
    ∙ drop_at (a ++ slash ∷ []) b (length a + 1) (length-append a (slash ∷ [])) in
    subst IsUtf8 rest (IsUtf8-drop (a ++ slash ∷ b) (length a + 1) h
    (IsCharBoundary-after_ascii (a ++ slash ∷ b) (length a) h (omega (arith, long)) ascii))

-- UTF-8 without NUL, as the elements of a path and the path itself
pub record IsPart (text : List ℕ) : Type 0 where
  pub no_nul : NoNul text
  pub utf8 : IsUtf8 text

pub part_appended : (a b : List ℕ) → IsPart a → IsPart b → IsPart (a ++ slash ∷ b)
part_appended a b f g = record {
  no_nul = nul_append a (slash ∷ b) f.no_nul (omega arith, g.no_nul);
  utf8 = IsUtf8-append a (slash ∷ b) f.utf8 (IsUtf8-append (slash ∷ []) b slash_utf8 g.utf8);
}

part_prefix : (a b : List ℕ) → IsPart (a ++ slash ∷ b) → IsPart a
part_prefix a b h = record { no_nul = nul_prefix a (slash ∷ b) h.no_nul; utf8 = utf8_prefix a b h.utf8 }

part_back : (a b : List ℕ) → IsPart (a ++ slash ∷ b) → IsPart b
part_back a b h = record { no_nul = (nul_back a (slash ∷ b) h.no_nul).1; utf8 = utf8_back a b h.utf8 }

pub part_empty : IsPart []
part_empty = record { no_nul = tt; utf8 = IsUtf8-nil }

pub parts_text : (names : List (List ℕ)) → AllByRecursion IsPart names → IsPart (text_of names)
parts_text [] all = part_empty
parts_text (name ∷ []) all = all.0
parts_text (name ∷ next ∷ names) all = part_appended name (text_of (next ∷ names)) all.0 (parts_text (next ∷ names) all.1)

text_parts : (names : List (List ℕ)) → IsPart (text_of names) → AllByRecursion IsPart names
text_parts [] h = tt
text_parts (name ∷ []) h = (h, tt)
text_parts (name ∷ next ∷ names) h = (
  part_prefix name (text_of (next ∷ names)) h,
  text_parts (next ∷ names)
      (part_back name (text_of (next ∷ names)) h),
)

pub text_from_parts : (text : List ℕ) → AllByRecursion IsPart (elements text) → IsPart text
text_from_parts text all = subst IsPart (text_back text) (parts_text (elements text) all)

pub parts_of_text : (text : List ℕ) → IsPart text → AllByRecursion IsPart (elements text)
parts_of_text text h = text_parts (elements text) (subst IsPart (sym (text_back text)) h)
