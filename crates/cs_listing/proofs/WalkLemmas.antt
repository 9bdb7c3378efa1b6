-- Which files are to come while a walk takes a file, visits a folder, and leaves one.
use Rattle.std.specs.Prelude.{bytes_eq, Option, Some, None}
use Rattle.std.proofs.Common.{◌≡◌, ◌≢◌, refl, ℕ, Bool, true, false, ◌&&◌, ◌||◌, if◌then◌else◌, List, [], ◌∷◌, ◌++◌, drop, reverse, sym, ap, subst, ◌∙◌, inl, inr}
use Rattle.std.proofs.lemmas.List.{reverse-append, reverse-reverse}
use Rattle.std.proofs.lemmas.Bool.{cases_Bool, true≢false}
use Rattle.std.specs.Cmp.Lexicographic.{bytes_decides}
use Rattle.cs_tree.specs.Elements.{is_among, is_element}
use Rattle.cs_listing.specs.Listing.{Settings, TreeItems, has_more, is_listed, after, is_found, is_found_at}
use Rattle.cs_listing.specs.FolderReads.{key_of}
use Rattle.cs_listing.specs.Walk.{comes_by, comes_after, is_to_come}
use Rattle.cs_listing.proofs.KeyLemmas.{keys_apart, key_is_none, same_eq, apart_eq}

pub reverse_cons : {A : Type 0} (x : A) (xs : List A) → reverse (x ∷ xs) ≡ reverse xs ++ x ∷ []
reverse_cons x xs = reverse-append (x ∷ []) xs

-- ---- what follows a prefix

pub after_prefix : (prefix path : List (List ℕ)) → after prefix (prefix ++ path) ≡ Some path
after_prefix [] path = refl
after_prefix (first ∷ prefix) path =
    ap (λ b. if b then after prefix (prefix ++ path) else None) (same_eq first) ∙ after_prefix prefix path

pub after_is : (prefix path rest : List (List ℕ)) → after prefix path ≡ Some rest → path ≡ prefix ++ rest
after_is [] path rest is = cc
after_is (first ∷ prefix) [] rest is = cc
after_is (first ∷ prefix) (name ∷ path) rest is =
    elim (cases_Bool (bytes_eq first name)) [
      | inl same ↦
          let on : after prefix path ≡ Some rest = sym (ap (λ b. if b then after prefix path else None) same) ∙ is in
          let tail = after_is prefix path rest on in
          let head : first ≡ name = (bytes_decides first name).0 same in
          cc
      | inr apart ↦ let no : None ≡ Some rest = sym (ap (λ b. if b then after prefix path else None) apart) ∙ is in cc
    ]

-- what follows one more name
abbrev pub after_name : List ℕ → Option (List (List ℕ)) → Option (List (List ℕ))
after_name name None = None
after_name name (Some []) = None
after_name name (Some (first ∷ path)) = if bytes_eq name first then Some path else None

pub after_more : (prefix : List (List ℕ)) (name : List ℕ) (path : List (List ℕ)) →
    after (prefix ++ name ∷ []) path ≡ after_name name (after prefix path)
after_more [] name [] = refl
after_more [] name (first ∷ path) = refl
after_more (one ∷ prefix) name [] = refl
after_more (one ∷ prefix) name (first ∷ path) =
    elim (bytes_eq one first) as (λ b. (if b then after (prefix ++ name ∷ []) path else None)
    ≡ after_name name (if b then after prefix path else None)) [
      | true ↦ after_more prefix name path
      | false ↦ refl
    ]

-- ---- one folder

and_false : (a : Bool) → (a && false) ≡ false
and_false true = refl
and_false false = refl

or_false : (a : Bool) → (a || false) ≡ a
or_false true = refl
or_false false = refl

nothing_comes : (settings : Settings) (items : TreeItems) (above : List (List ℕ)) (rest : Option (List (List ℕ))) →
    comes_after settings items above [] rest ≡ false
nothing_comes settings items above None = refl
nothing_comes settings items above (Some []) = refl
nothing_comes settings items above (Some (name ∷ path)) = and_false (is_element name)

-- a folder without entries is left
pub leaves : (settings : Settings) (items : TreeItems) (above : List (List ℕ)) (frames : List (List (List ℕ))) (path : List (List ℕ)) →
    is_to_come settings items above ([] ∷ frames) path ≡ is_to_come settings items (drop 1 above) frames path
leaves settings items above frames path =
    ap (λ b. b || is_to_come settings items (drop 1 above) frames path) (nothing_comes settings items above (after (reverse above) path))

-- the entries of a folder are what a search of it lists
abbrev pub AreAll : Settings → TreeItems → List (List ℕ) → List (List ℕ) → Type 0
AreAll settings items above keys = (name : List ℕ) (path : List (List ℕ)) →
    comes_by settings items above keys (name ∷ path) ≡ is_listed settings items above (name ∷ path)

pub all_found : (settings : Settings) (items : TreeItems) (start : List (List ℕ)) (keys : List (List ℕ)) →
    AreAll settings items (reverse start) keys → (path : List (List ℕ)) →
    is_to_come settings items (reverse start) (keys ∷ []) path ≡ is_found settings items start path
all_found settings items start keys all path =
    or_false (comes_after settings items (reverse start) keys (after (reverse (reverse start)) path))
    ∙ ap (λ s. comes_after settings items (reverse start) keys (after s path)) (reverse-reverse start)
    ∙ by_rest (after start path)
  where
    by_rest : (rest : Option (List (List ℕ))) → comes_after settings items (reverse start) keys rest
        ≡ is_found_at settings items (reverse start) rest
    by_rest None = refl
    by_rest (Some []) = refl
    by_rest (Some (name ∷ rest)) = all name rest

-- ---- a folder is visited

module _ (settings : Settings) (items : TreeItems) (above : List (List ℕ)) (name : List ℕ) (entered keys : List (List ℕ))
    (good : is_element name ≡ true) (all : AreAll settings items (name ∷ above) entered) where
  -- below the folder
  below_it : (path : List (List ℕ)) →
      (comes_by settings items (name ∷ above) entered path || comes_by settings items above keys (name ∷ path))
      ≡ comes_by settings items above (key_of true name ∷ keys) (name ∷ path)
  below_it [] =
      ap (λ b. is_element name && ((b || is_among keys name) && is_listed settings items (name ∷ above) []))
      (sym (apart_eq (key_of true name) name (key_is_none name)))
  below_it (first ∷ path) =
      let listed = is_listed settings items (name ∷ above) (first ∷ path) in
      let other = is_among keys (key_of true name) in
      ap (λ b. b || (is_element name && (other && listed))) (all first path)
      ∙ ap (λ b. listed || (b && (other && listed))) good
      ∙ absorbed listed other
      ∙ sym (ap (λ b. b && ((bytes_eq (key_of true name) (key_of true name) || other) && listed)) good
      ∙ ap (λ b. (b || other) && listed) (same_eq (key_of true name)))
    where
      absorbed : (l o : Bool) → (l || (o && l)) ≡ l
      absorbed true o = refl
      absorbed false o = and_false o

  -- beside the folder
  beside_it : (first : List ℕ) (path : List (List ℕ)) → bytes_eq name first ≡ false →
      comes_by settings items above keys (first ∷ path) ≡ comes_by settings items above (key_of true name ∷ keys) (first ∷ path)
  beside_it first path apart =
      elim (cases_Bool (is_element first)) [
        | inl fine ↦
            ap (λ b. is_element first && ((b || is_among keys (key_of (has_more path) first)) && is_listed settings items (first ∷ above) path))
            (sym (apart_eq (key_of true name) (key_of (has_more path) first) (λ same.
            true≢false (sym (subst (λ n. bytes_eq name n ≡ true) (keys_apart true (has_more path) name first good fine same).0 (same_eq name)) ∙ apart))))
        | inr bad ↦
            ap (λ b. b && (is_among keys (key_of (has_more path) first) && is_listed settings items (first ∷ above) path)) bad
            ∙ sym (ap (λ b. b && (is_among (key_of true name ∷ keys) (key_of (has_more path) first) && is_listed settings items (first ∷ above) path)) bad)
      ]

  by_rest : (rest : Option (List (List ℕ))) →
      (comes_after settings items (name ∷ above) entered (after_name name rest) || comes_after settings items above keys rest)
      ≡ comes_after settings items above (key_of true name ∷ keys) rest
  by_rest None = refl
  by_rest (Some []) = refl
  by_rest (Some (first ∷ path)) =
      elim (cases_Bool (bytes_eq name first)) [
        | inl same ↦
            ap (λ b. comes_after settings items (name ∷ above) entered (if b then Some path else None) || comes_by settings items above keys (first ∷ path)) same
            ∙ subst (λ n. (comes_by settings items (name ∷ above) entered path || comes_by settings items above keys (n ∷ path))
            ≡ comes_by settings items above (key_of true name ∷ keys) (n ∷ path)) ((bytes_decides name first).0 same) (below_it path)
        | inr apart ↦
            ap (λ b. comes_after settings items (name ∷ above) entered (if b then Some path else None) || comes_by settings items above keys (first ∷ path)) apart
            ∙ beside_it first path apart
      ]

  pub visits : (frames : List (List (List ℕ))) (path : List (List ℕ)) →
      is_to_come settings items (name ∷ above) (entered ∷ keys ∷ frames) path
      ≡ is_to_come settings items above ((key_of true name ∷ keys) ∷ frames) path
  visits frames path =
      let rest = after (reverse above) path in
      let more = is_to_come settings items (drop 1 above) frames path in
      ap (λ r. comes_after settings items (name ∷ above) entered r || (comes_after settings items above keys rest || more))
      (ap (λ p. after p path) (reverse_cons name above) ∙ after_more (reverse above) name path)
      ∙ sym (or_assoc (comes_after settings items (name ∷ above) entered (after_name name rest)) (comes_after settings items above keys rest) more)
      ∙ ap (λ b. b || more) (by_rest rest)
    where
      or_assoc : (a b c : Bool) → ((a || b) || c) ≡ (a || (b || c))
      or_assoc true b c = refl
      or_assoc false b c = refl

-- ---- a file is taken

module _ (settings : Settings) (items : TreeItems) (above : List (List ℕ)) (name : List ℕ) (keys : List (List ℕ))
    (good : is_element name ≡ true) where
  same_after : (rest : Option (List (List ℕ))) → rest ≢ Some (name ∷ []) →
      comes_after settings items above keys rest ≡ comes_after settings items above (name ∷ keys) rest
  same_after None other = refl
  same_after (Some []) other = refl
  same_after (Some (first ∷ path)) other =
      elim (cases_Bool (is_element first)) [
        | inl fine ↦
            ap (λ b. is_element first && ((b || is_among keys (key_of (has_more path) first)) && is_listed settings items (first ∷ above) path))
            (sym (apart_eq name (key_of (has_more path) first) (λ same.
            let parts = keys_apart false (has_more path) name first good fine same in
            other (ap (λ p. Some p) (ap (λ n. n ∷ path) (sym parts.0) ∙ ap (λ p. name ∷ p) (no_more path (sym parts.1)))))))
        | inr bad ↦
            ap (λ b. b && (is_among keys (key_of (has_more path) first) && is_listed settings items (first ∷ above) path)) bad
            ∙ sym (ap (λ b. b && (is_among (name ∷ keys) (key_of (has_more path) first) && is_listed settings items (first ∷ above) path)) bad)
      ]
    where
      no_more : (path : List (List ℕ)) → has_more path ≡ false → path ≡ []
      no_more [] is = refl
      no_more (n ∷ p) is = cc

  pub kept : (frames : List (List (List ℕ))) (other : List (List ℕ)) → other ≢ reverse above ++ name ∷ [] →
      is_to_come settings items above (keys ∷ frames) other ≡ is_to_come settings items above ((name ∷ keys) ∷ frames) other
  kept frames other apart =
      ap (λ b. b || is_to_come settings items (drop 1 above) frames other)
      (same_after (after (reverse above) other) (λ is. apart (after_is (reverse above) other (name ∷ []) is)))

  pub taken : (frames : List (List (List ℕ))) → is_listed settings items (name ∷ above) [] ≡ true →
      is_to_come settings items above ((name ∷ keys) ∷ frames) (reverse above ++ name ∷ []) ≡ true
  taken frames listed =
      ap (λ r. comes_after settings items above (name ∷ keys) r || is_to_come settings items (drop 1 above) frames (reverse above ++ name ∷ []))
      (after_prefix (reverse above) (name ∷ []))
      ∙ ap (λ b. (b && ((bytes_eq name name || is_among keys name) && is_listed settings items (name ∷ above) []))
      || is_to_come settings items (drop 1 above) frames (reverse above ++ name ∷ [])) good
      ∙ ap (λ b. ((b || is_among keys name) && is_listed settings items (name ∷ above) [])
      || is_to_come settings items (drop 1 above) frames (reverse above ++ name ∷ [])) (same_eq name)
      ∙ ap (λ b. b || is_to_come settings items (drop 1 above) frames (reverse above ++ name ∷ [])) listed
