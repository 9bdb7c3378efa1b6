-- The texts that trees may match.
use Rattle.std.proofs.Common.{◌≡◌, ℕ, zero, suc, ◌+◌, ◌<◌, List, [], ◌∷◌, ◌++◌, length, refl, sym, ◌∙◌, ap, subst, inl, inr, arith, append_assoc, length-append}
use Rattle.std.specs.Prelude.{Bool, true, false, Option, encode_utf8}
use Rattle.std.proofs.lemmas.List.{append-nil}
use Rattle.cs_syntax.specs.TreeList.{append}
use Rattle.cs_syntax.specs.Matching.{Tree, Trees, one_of, one_char, cat, alt, rep, none, more}
use Rattle.cs_trigram.specs.MayMatch.{IsRepeated, MayMatch, MayMatchSequence, MayMatchBranch, HasMembers, HaveMembers}

-- the string occurs in the text
abbrev pub OccursIn : List ℕ → List ℕ → Type 0
OccursIn string text = (before after : List ℕ) × (text ≡ before ++ (string ++ after))

-- ---- repeats

module _ (P : List ℕ → Type 0) where
  pub repeated_text : (text : List ℕ) → P text → (k : ℕ) → (whole : List ℕ) × IsRepeated P k whole
  repeated_text text p zero = ([], refl)
  repeated_text text p (suc k) = let r = repeated_text text p k in (text ++ r.0, (text, r.0, p, r.1, refl))

  pub repeated_empty : P [] → (k : ℕ) → IsRepeated P k []
  repeated_empty p zero = refl
  repeated_empty p (suc k) = ([], [], p, repeated_empty p k, refl)

  pub repeated_both : (k l : ℕ) (u v : List ℕ) → IsRepeated P k u → IsRepeated P l v → IsRepeated P (k + l) (u ++ v)
  repeated_both zero l u v a b =
      let same : l ≡ 0 + l = omega arith in
      subst (λ n. IsRepeated P n (u ++ v)) same (subst (λ (x : List ℕ). IsRepeated P l (x ++ v)) (sym a) b)
  repeated_both (suc k) l u v a b =
      let same : suc (k + l) ≡ suc k + l = omega arith in
      subst (λ n. IsRepeated P n (u ++ v)) same
      (a.0, a.1 ++ v, a.2, repeated_both k l a.1 v a.3 b, ap (λ (x : List ℕ). x ++ v) a.4 ∙ append_assoc a.0 a.1 v)

  -- one of more texts than bytes is empty
  pub some_empty : (k : ℕ) (text : List ℕ) → length text < k → IsRepeated P k text → P []
  some_empty zero text lt r = absurd (omega arith)
  some_empty (suc k) text lt r = by r.0 r.2 (ap length r.4 ∙ length-append r.0 r.1) (λ le. some_empty k r.1 le r.3)
    where
      by : (first : List ℕ) → P first → length text ≡ length first + length r.1 → (length r.1 < k → P []) → P []
      by [] p e rest = p
      by (b ∷ first) p e rest = rest (omega (arith, e, lt))

pub repeated_as : (P Q : List ℕ → Type 0) → ((text : List ℕ) → P text → Q text) → (k : ℕ) (text : List ℕ) →
    IsRepeated P k text → IsRepeated Q k text
repeated_as P Q to zero text r = r
repeated_as P Q to (suc k) text r = (r.0, r.1, to r.0 r.2, repeated_as P Q to k r.1 r.3, r.4)

-- ---- some text, if each set has a member

mutual
  pub text_of : (t : Tree) → HasMembers t → (text : List ℕ) × MayMatch false t text
  text_of (one_of set) h = (h.0 ∷ [], (h.0, h.1, refl))
  text_of (one_char ranges) h = (encode_utf8 h.0, (h.0, h.1, refl))
  text_of (cat ts) h = text_of_all ts h
  text_of (alt none) h = absurd h
  text_of (alt (more t ts)) h = let r = text_of t h.0 in (r.0, inl r.1)
  text_of (rep x n m) h =
      let r = text_of x h in
      let w = repeated_text (MayMatch false x) r.0 r.1 n in
      (w.0, (n, omega arith, tt, w.1))
  text_of leaf h = ([], refl)

  pub text_of_all : (ts : Trees) → HaveMembers ts → (text : List ℕ) × MayMatchSequence false ts text
  text_of_all none h = ([], refl)
  text_of_all (more t ts) h =
      let r = text_of t h.0 in
      let rest = text_of_all ts h.1 in
      (r.0 ++ rest.0, (r.0, rest.0, r.1, rest.1, refl))

pub branches_have_members : (ts : Trees) → HasMembers (alt ts) → HaveMembers ts
branches_have_members none h = absurd h
branches_have_members (more t ts) h = h

-- ---- exact strings

mutual
  pub exact_may_match : (t : Tree) (w : List ℕ) → MayMatch true t w → MayMatch false t w
  exact_may_match (cat ts) w h = exact_may_match_all ts w h
  exact_may_match (alt ts) w h = exact_may_match_some ts w h
  exact_may_match (rep x n m) w h =
      (h.0, h.1, tt, repeated_as (MayMatch true x) (MayMatch false x) (λ v e. exact_may_match x v e) h.0 w h.3)
  exact_may_match leaf w h = h

  pub exact_may_match_all : (ts : Trees) (w : List ℕ) → MayMatchSequence true ts w → MayMatchSequence false ts w
  exact_may_match_all none w h = h
  exact_may_match_all (more t ts) w h = (h.0, h.1, exact_may_match t h.0 h.2, exact_may_match_all ts h.1 h.3, h.4)

  pub exact_may_match_some : (ts : Trees) (w : List ℕ) → MayMatchBranch true ts w → MayMatchBranch false ts w
  exact_may_match_some none w h = absurd h
  exact_may_match_some (more t ts) w h = elim h [ inl a ↦ inl (exact_may_match t w a) | inr b ↦ inr (exact_may_match_some ts w b) ]

-- ---- sequences

pub members_of_rest : (a b : Trees) → HaveMembers (append a b) → HaveMembers b
members_of_rest none b h = h
members_of_rest (more t a) b h = members_of_rest a b h.1

pub sequence_of_both : (bounded : Bool) (a b : Trees) (u v : List ℕ) → MayMatchSequence bounded a u → MayMatchSequence bounded b v →
    MayMatchSequence bounded (append a b) (u ++ v)
sequence_of_both bounded none b u v x y = subst (λ (w : List ℕ). MayMatchSequence bounded b (w ++ v)) (sym x) y
sequence_of_both bounded (more t a) b u v x y =
    (x.0, x.1 ++ v, x.2, sequence_of_both bounded a b x.1 v x.3 y, ap (λ (w : List ℕ). w ++ v) x.4 ∙ append_assoc x.0 x.1 v)

-- an exact string of a leading run occurs in some text of the sequence
pub run_within : (ts run after : Trees) (w : List ℕ) → ts ≡ append run after → HaveMembers ts → MayMatchSequence true run w →
    (whole : List ℕ) × MayMatchSequence false ts whole × OccursIn w whole
run_within ts run after w is h exact =
    let rest = text_of_all after (members_of_rest run after (subst HaveMembers is h)) in (
      w ++ rest.0,
      subst (λ (x : Trees). MayMatchSequence false x (w ++ rest.0)) (sym is)
          (sequence_of_both false run after w rest.0 (exact_may_match_all run w exact) rest.1),
      ([], rest.0, refl),
    )

-- a text of the last parts occurs in some text of the sequence, and so does one of the first part
pub rest_within : (t : Tree) (ts : Trees) (w : List ℕ) → HasMembers t → MayMatchSequence false ts w →
    (whole : List ℕ) × MayMatchSequence false (more t ts) whole × OccursIn w whole
rest_within t ts w h m =
    let first = text_of t h in
    (first.0 ++ w, (first.0, w, first.1, m, refl), (first.0, [], ap (λ (x : List ℕ). first.0 ++ x) (sym (append-nil w))))

pub first_within : (t : Tree) (ts : Trees) (w : List ℕ) → HaveMembers ts → MayMatch false t w →
    (whole : List ℕ) × MayMatchSequence false (more t ts) whole × OccursIn w whole
first_within t ts w h m =
    let rest = text_of_all ts h in
    (w ++ rest.0, (w, rest.0, m, rest.1, refl), ([], rest.0, refl))

-- a text of an iteration occurs in some text of the repeat
pub iteration_within : (x : Tree) (n : ℕ) (m : Option ℕ) (w : List ℕ) → MayMatch false x w →
    (whole : List ℕ) × MayMatch false (rep x n m) whole × OccursIn w whole
iteration_within x n m w is =
    let rest = repeated_text (MayMatch false x) w is n in
    (w ++ rest.0, (suc n, omega arith, tt, (w, rest.0, is, rest.1, refl)), ([], rest.0, refl))
