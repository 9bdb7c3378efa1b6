-- Paths split at their slashes.
use Rattle.std.specs.Prelude.{bytes_eq}
use Rattle.std.specs.Path.{slash}
use lib.Utf8.{encode}
use Rattle.cs_tree.specs.Folders.{stem_of, last_element}
use Rattle.std.proofs.Common.{◌≡◌, ◌≢◌, ℕ, zero, suc, ◌+◌, ◌-◌, ◌<◌, Bool, true, false, not, ◌&&◌, ◌||◌, List, [], ◌∷◌, ◌++◌, length, take, drop, get_or, refl, sym, ap, subst, ◌∙◌, eqb, cond, Option, Some, None, Bor, arith, length-append, take-append-drop}
use Rattle.std.proofs.lemmas.Bool.{or_parts, ne_eqb}
use Rattle.std.proofs.lemmas.List.Sums.{suffix_len_is}
use Rattle.std.proofs.Math.Seq.{drop-append-add, get_or-append-add}
use Rattle.std.proofs.lemmas.Str.Pattern.{split_parts, IsSplitOnceResult, NoCharPasses-char}
use Rattle.std.specs.List.{list_any, list_all, suffix_len, onto_first}
use Rattle.std.specs.Option.{MatchOption}
use Rattle.std.specs.Str.Pattern.{RFindsChar, SplitsAroundMatch}
use Rattle.cs_tree.specs.Clean.{elements}
use Rattle.cs_tree.specs.Proper.{is_proper, is_proper_path}

pub stem-other : (folder : List ℕ) → bytes_eq folder (slash ∷ []) ≡ false → stem_of folder ≡ folder
stem-other folder other = ap (λ b. cond b [] folder) other

-- ---- slashes

abbrev pub NoSlash : List ℕ → Type 0
NoSlash text = list_any (λ b. eqb b slash) text ≡ false

pub no_slash : (text : List ℕ) → ((i : ℕ) → i < length text → get_or text i 0 ≢ slash) → NoSlash text
no_slash [] h = refl
no_slash (b ∷ text) h = ap (λ t. t || list_any (λ x. eqb x slash) text) (ne_eqb b slash (h zero (omega arith)))
    ∙ no_slash text (λ i l. h (suc i) (omega (arith, l)))

pub no_slash_parts : (b : ℕ) (text : List ℕ) → NoSlash (b ∷ text) → (eqb b slash ≡ false) × NoSlash text
no_slash_parts b text h = or_parts (eqb b slash) (list_any (λ x. eqb x slash) text) h

-- there is a first element
pub record HasFirst (pieces : List (List ℕ)) : Type 0 where
  pub first : List ℕ
  pub later : List (List ℕ)
  pub is : pieces ≡ first ∷ later

pub elements-some : (text : List ℕ) → HasFirst (elements text)
elements-some [] = record { first = []; later = []; is = refl }
elements-some (b ∷ text) = either (eqb b slash) (elements-some text)
  where
    either : (t : Bool) → HasFirst (elements text) → HasFirst (cond t ([] ∷ elements text) (onto_first b (elements text)))
    either true some = record { first = []; later = elements text; is = refl }
    either false some = record { first = b ∷ some.first; later = some.later; is = ap (onto_first b) some.is }

onto_first-append : (b : ℕ) (xs ys : List (List ℕ)) (first : List ℕ) (later : List (List ℕ)) → xs ≡ first ∷ later →
    onto_first b (xs ++ ys) ≡ onto_first b xs ++ ys
onto_first-append b xs ys first later e = subst (λ zs. onto_first b (zs ++ ys) ≡ onto_first b zs ++ ys) (sym e) refl

-- the elements before a slash and after it
pub elements-append : (prefix rest : List ℕ) → elements (prefix ++ slash ∷ rest) ≡ elements prefix ++ elements rest
elements-append [] rest = refl
elements-append (b ∷ prefix) rest = either (elements-append prefix rest) (eqb b slash)
  where
    some : HasFirst (elements prefix)
    some = elements-some prefix

    either : elements (prefix ++ slash ∷ rest) ≡ elements prefix ++ elements rest → (t : Bool) →
        cond t ([] ∷ elements (prefix ++ slash ∷ rest)) (onto_first b (elements (prefix ++ slash ∷ rest)))
        ≡ cond t ([] ∷ elements prefix) (onto_first b (elements prefix)) ++ elements rest
    either more true = ap (λ es. [] ∷ es) more
    either more false = ap (onto_first b) more ∙ onto_first-append b (elements prefix) (elements rest) some.first some.later some.is

pub elements-one : (text : List ℕ) → NoSlash text → elements text ≡ text ∷ []
elements-one [] h = refl
elements-one (b ∷ text) h =
    let parts = no_slash_parts b text h in
    ap (λ t. cond t ([] ∷ elements text) (onto_first b (elements text))) parts.0 ∙ ap (onto_first b) (elements-one text parts.1)

-- ---- the last slash

-- a text with its last slash
pub record LastSlash (path prefix name : List ℕ) : Type 0 where
  pub whole : path ≡ prefix ++ slash ∷ name
  pub last : NoSlash name

apart_without : (path : List ℕ) → ((i : ℕ) → i < length path → get_or path i 0 ≢ slash) →
    (bytes_eq path (slash ∷ []) || is_proper_path path) ≡ false
apart_without [] h = refl
apart_without (b ∷ rest) h = ap (λ t. (t && bytes_eq rest []) || (t && list_all is_proper (elements rest)))
    (ne_eqb b slash (h zero (omega arith)))

abbrev pub RSplitSays : List ℕ → Option (Bor (List ℕ) × Bor (List ℕ)) → Type 0
RSplitSays path result = MatchOption result ((bytes_eq path (slash ∷ []) || is_proper_path path) ≡ false)
    (λ parts. LastSlash path parts.0.now parts.1.now)

pub rsplit_says : (path : List ℕ) (result : Option (Bor (List ℕ) × Bor (List ℕ))) →
    MatchOption result (RFindsChar slash path None) (λ x. SplitsAroundMatch (RFindsChar slash) path x.0.now x.1.now) →
    RSplitSays path result
unfolding encode
rsplit_says path None h = apart_without path (λ i. NoCharPasses-char slash path i h (omega arith))
rsplit_says path (Some x) h = record {
  whole = sym (take-append-drop h.0 path) ∙ ap (λ back. take h.0 path ++ back) h.2.1.split
      ∙ ap (λ prefix. prefix ++ slash ∷ drop h.1 path) (sym h.3) ∙ ap (λ back. x.0.now ++ slash ∷ back) (sym h.4);
  last = subst NoSlash (sym h.4) (no_slash (drop h.1 path) (λ i l. NoCharPasses-char slash (drop h.1 path) i h.2.0 (omega arith) l));
}

free_at : (text : List ℕ) → NoSlash text → (k : ℕ) → k < length text → not (eqb (get_or text k 0) slash) ≡ true
free_at [] h k l = absurd (omega (arith, l))
free_at (b ∷ text) h zero l = ap not (no_slash_parts b text h).0
free_at (b ∷ text) h (suc k) l = free_at text (no_slash_parts b text h).1 k (omega (arith, l))

-- the distance of the last slash from the end
pub from_end : (prefix name : List ℕ) → NoSlash name → suffix_len (λ b. not (eqb b slash)) (prefix ++ slash ∷ name)
    ≡ length (prefix ++ slash ∷ name) - (length prefix + 1)
from_end prefix name h =
    suffix_len_is (λ b. not (eqb b slash)) (prefix ++ slash ∷ name) (length prefix + 1) 0
    (omega (arith, length-append prefix (slash ∷ name)))
    (λ k above below.
    let at : length prefix + suc (k - (length prefix + 1)) ≡ k = omega (arith, above) in
    subst (λ j. not (eqb (get_or (prefix ++ slash ∷ name) j 0) slash) ≡ true) at
    (ap (λ b. not (eqb b slash)) (get_or-append-add prefix (slash ∷ name) (suc (k - (length prefix + 1))) 0)
    ∙ free_at name h (k - (length prefix + 1)) (omega (arith, below, above, length-append prefix (slash ∷ name)))))
    (λ _. ap (λ b. not (eqb b slash)) (ap (λ j. get_or (prefix ++ slash ∷ name) j 0) {x = length prefix + 1 - 1} {y =
    length prefix + 0} (omega arith) ∙ get_or-append-add prefix (slash ∷ name) 0 0))

pub last_element-last : (path prefix name : List ℕ) → LastSlash path prefix name → last_element path ≡ name
last_element-last path prefix name h =
    ap last_element h.whole
    ∙ ap (λ n. drop n (prefix ++ slash ∷ name)) (let far = from_end prefix name h.last in let long =
    length-append prefix (slash ∷ name) in rest far long)
    ∙ drop-append-add prefix (slash ∷ name) 1
  where
    rest : suffix_len (λ b. not (eqb b slash)) (prefix ++ slash ∷ name) ≡ length (prefix ++ slash ∷ name)
        - (length prefix + 1) → length (prefix ++ slash ∷ name) ≡ length prefix + length (slash ∷ name) →
        length (prefix ++ slash ∷ name) - suffix_len (λ b. not (eqb b slash)) (prefix ++ slash ∷ name) ≡ length prefix
        + 1
    rest far long = omega (arith, far, long)

-- ---- the first slash

abbrev pub SplitSays : List ℕ → Option (Bor (List ℕ) × Bor (List ℕ)) → Type 0
SplitSays text result = MatchOption result (elements text ≡ text ∷ []) (λ parts. elements text ≡ parts.0.now ∷ elements parts.1.now)

pub split_says : (text : List ℕ) (result : Option (Bor (List ℕ) × Bor (List ℕ))) → IsSplitOnceResult slash text result →
    SplitSays text result
split_says text None h = elements-one text (no_slash text (split_parts slash text None h (omega arith)))
split_says text (Some x) h =
    let parts = split_parts slash text (Some x) h (omega arith) in
    ap elements parts.0 ∙ elements-append x.0.now x.1.now
    ∙ ap (λ es. es ++ elements x.1.now) (elements-one x.0.now (no_slash x.0.now parts.1))

-- a proper path begins with a slash
pub unclean : (path : List ℕ) → ((rest : List ℕ) → path ≢ slash ∷ rest) → is_proper_path path ≡ false
unclean [] h = refl
unclean (b ∷ rest) h = ap (λ t. t && list_all is_proper (elements rest)) (ne_eqb b slash (λ e. h rest (ap (λ x. x ∷ rest) e)))

-- one more element
pub proper_more : (text element later : List ℕ) → elements text ≡ element ∷ elements later → is_proper element ≡ true →
    list_all is_proper (elements text) ≡ list_all is_proper (elements later)
proper_more text element later e h = ap (list_all is_proper) e ∙ ap (λ t. t && list_all is_proper (elements later)) h

pub proper_last : (text : List ℕ) → elements text ≡ text ∷ [] → list_all is_proper (elements text) ≡ is_proper text
proper_last text e = ap (list_all is_proper) e ∙ elim (is_proper text) as (λ b. (b && true) ≡ b) [ true ↦ refl | false ↦ refl ]
