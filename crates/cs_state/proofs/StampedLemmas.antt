-- The laws of stamped names.
use Rattle.std.proofs.Common.{◌≡◌, ◌≢◌, ◌∙◌, ℕ, suc, ◌<◌, true, List, [], ◌∷◌, ◌++◌, append_assoc, get_or, drop, length, length-append, refl, sym, ap, subst, arith}
use Rattle.std.specs.Prelude.{◌↔◌}
use Rattle.std.specs.declared.cmp.Ordering.{Ordering}
use Rattle.std.specs.declared.cmp.Ordering.TheVariants.{Less, Equal, Greater}
use Rattle.std.specs.List.{AllByRecursion}
use Rattle.std.specs.Ordering.{nat_cmp, ordering_then}
use Rattle.std.specs.Path.{slash}
use Rattle.cs_tree.specs.Cover.{covers}
use Rattle.cs_tree.specs.Covering.{Covers, itself, below, root}
use Rattle.cs_tree.specs.NameOrder.{bytes_cmp}
use Rattle.cs_tree.proofs.CoverLemmas.{covers_from, covers_says}
use Rattle.cs_state.specs.Known.{HasNumbers, Kept, Known, indexed, binary, apart}
use Rattle.cs_state.specs.StampedNames.{IsLearnable, IsUnmarked, cover_of, kind_byte, name_of, stamp_text, stamped}
use Rattle.cs_state.proofs.NumberLemmas.{stamp_same}

-- ---- the parts of a name

-- the first byte 1 ends one path alone
pub mark_unique : (a b x y : List ℕ) → IsUnmarked a → IsUnmarked b → a ++ 1 ∷ x ≡ b ++ 1 ∷ y → (a ≡ b) × (x ≡ y)
mark_unique [] [] x y p q e = (refl, ap (drop 1) e)
mark_unique [] (c ∷ b) x y p q e = let h = ap (λ (l : List ℕ). get_or l 0 0) e in absurd (q.0 (sym h))
mark_unique (c ∷ a) [] x y p q e = let h = ap (λ (l : List ℕ). get_or l 0 0) e in absurd (p.0 h)
mark_unique (c ∷ a) (d ∷ b) x y p q e =
    let h = ap (λ (l : List ℕ). get_or l 0 0) e in
    let more = mark_unique a b x y p.1 q.1 (ap (drop 1) e) in ((λ i. h i ∷ more.0 i), more.1)

-- the last byte is that of one text
pub last_unique : (x y : List ℕ) (k l : ℕ) → x ++ k ∷ [] ≡ y ++ l ∷ [] → (x ≡ y) × (k ≡ l)
last_unique [] [] k l e = (refl, ap (λ (l : List ℕ). get_or l 0 0) e)
last_unique [] (c ∷ y) k l e = let h = ap length e in let a = length-append y (l ∷ []) in absurd (omega (arith, h, a))
last_unique (c ∷ x) [] k l e = let h = ap length e in let a = length-append x (k ∷ []) in absurd (omega (arith, h, a))
last_unique (c ∷ x) (d ∷ y) k l e =
    let h = ap (λ (l : List ℕ). get_or l 0 0) e in
    let more = last_unique x y k l (ap (drop 1) e) in ((λ i. h i ∷ more.0 i), more.1)

kind_unique : (k l : Kept) → kind_byte k ≡ kind_byte l → k ≡ l
kind_unique indexed indexed e = refl
kind_unique binary binary e = refl
kind_unique apart apart e = refl
kind_unique indexed binary e = absurd (omega (arith, e))
kind_unique indexed apart e = absurd (omega (arith, e))
kind_unique binary indexed e = absurd (omega (arith, e))
kind_unique binary apart e = absurd (omega (arith, e))
kind_unique apart indexed e = absurd (omega (arith, e))
kind_unique apart binary e = absurd (omega (arith, e))

pub parts_unique : (a b x y : List ℕ) (k l : Kept) → IsUnmarked a → IsUnmarked b → name_of a x k ≡ name_of b y l → (a ≡ b) × (x ≡ y) × (k ≡ l)
parts_unique a b x y k l p q e =
    let path = mark_unique a b (47 ∷ (x ++ kind_byte k ∷ [])) (47 ∷ (y ++ kind_byte l ∷ [])) p q e in
    let last = last_unique x y (kind_byte k) (kind_byte l) (ap (drop 1) path.1) in
    (path.0, last.0, kind_unique k l last.1)

pub one_file : (a b : Known) → IsLearnable a.name → IsLearnable b.name → HasNumbers a.stamp → HasNumbers b.stamp → stamped a ≡ stamped b → a ≡ b
one_file a b p q small short e =
    let parts = parts_unique a.name b.name (stamp_text a.stamp) (stamp_text b.stamp) a.kept b.kept p.unmarked q.unmarked e in
    let stamp = stamp_same a.stamp b.stamp small short parts.1 in
    λ i. record { name = parts.0 i; stamp = stamp i; kept = parts.2 i }

-- ---- order

-- the bytes of a learnable path are greater than 1
above : (path : List ℕ) → AllByRecursion (λ b. 0 < b) path → IsUnmarked path → AllByRecursion (λ b. 1 < b) path
above [] some unmarked = tt
above (b ∷ path) some unmarked =
    let first = some.0 in
    let other = unmarked.0 in
    (omega (arith, first, other), above path some.1 unmarked.1)

one_less : (c : ℕ) → 1 < c → nat_cmp 1 c ≡ Less
one_less c h = grind (arith, h)

-- one more byte before each
step : (o : Ordering) (r s : Ordering) → (r ≡ Less → s ≡ Less) → ordering_then o r ≡ Less → ordering_then o s ≡ Less
step Less r s more e = refl
step Equal r s more e = more e
step Greater r s more e = cc

pub marked_less : (path other u v : List ℕ) → AllByRecursion (λ b. 1 < b) other → bytes_cmp path other ≡ Less →
    bytes_cmp (path ++ 1 ∷ u) (other ++ 1 ∷ v) ≡ Less
marked_less [] [] u v p e = cc
marked_less [] (c ∷ other) u v p e = ap (λ o. ordering_then o (bytes_cmp u (other ++ 1 ∷ v))) (one_less c p.0)
marked_less (b ∷ path) [] u v p e = cc
marked_less (b ∷ path) (c ∷ other) u v p e =
    step (nat_cmp b c) (bytes_cmp path other) (bytes_cmp (path ++ 1 ∷ u) (other ++ 1 ∷ v)) (marked_less path other u v p.1) e

marked_before : (path other u : List ℕ) → AllByRecursion (λ b. 1 < b) other → bytes_cmp path other ≡ Less → bytes_cmp (path ++ 1 ∷ u) other ≡ Less
marked_before [] [] u p e = cc
marked_before [] (c ∷ other) u p e = ap (λ o. ordering_then o (bytes_cmp u other)) (one_less c p.0)
marked_before (b ∷ path) [] u p e = cc
marked_before (b ∷ path) (c ∷ other) u p e =
    step (nat_cmp b c) (bytes_cmp path other) (bytes_cmp (path ++ 1 ∷ u) other) (marked_before path other u p.1) e

before_marked : (path other u : List ℕ) → bytes_cmp (path ++ 1 ∷ u) other ≡ Less → bytes_cmp path other ≡ Less
before_marked [] [] u e = cc
before_marked [] (c ∷ other) u e = refl
before_marked (b ∷ path) [] u e = cc
before_marked (b ∷ path) (c ∷ other) u e =
    step (nat_cmp b c) (bytes_cmp (path ++ 1 ∷ u) other) (bytes_cmp path other) (before_marked path other u) e

pub ascends : (a b : Known) → IsLearnable a.name → IsLearnable b.name → bytes_cmp a.name b.name ≡ Less → bytes_cmp (stamped a) (stamped b) ≡ Less
ascends a b p q less = marked_less a.name b.name _ _ (above b.name q.string.1 q.unmarked) less

pub follows : (one : Known) (path : List ℕ) → IsLearnable one.name → IsLearnable path →
    (bytes_cmp (stamped one) path ≡ Less) ↔ (bytes_cmp one.name path ≡ Less)
follows one path p q = (before_marked one.name path _, marked_before one.name path _ (above path q.string.1 q.unmarked))

-- ---- covers

no_root : (path : List ℕ) → path ++ 1 ∷ [] ≡ slash ∷ [] → ⊥
no_root [] e = let h = ap (λ (l : List ℕ). get_or l 0 0) e in omega (arith, h)
no_root (b ∷ path) e = let h = ap length e in let a = length-append path (1 ∷ []) in omega (arith, h, a)

module _ (one : Known) (path : List ℕ) (p : IsLearnable one.name) (q : IsLearnable path) where
  abbrev rest : List ℕ
  rest = stamp_text one.stamp ++ kind_byte one.kept ∷ []

  own : Covers (cover_of path) (stamped one) → one.name ≡ path
  own (itself e) = sym (mark_unique path one.name [] (47 ∷ rest) q.unmarked p.unmarked e).0
  own (below r e) =
      (mark_unique one.name path (47 ∷ rest) (47 ∷ r) p.unmarked q.unmarked (e ∙ append_assoc path (1 ∷ []) (slash ∷ r))).0
  own (root r e f) = absurd (no_root path e)

  pub one_cover : (covers (cover_of path) (stamped one) ≡ true) ↔ (one.name ≡ path)
  one_cover = (
    λ yes. own (covers_says (cover_of path) (stamped one) yes),
    λ same. covers_from (cover_of path) (stamped one)
        (below rest (ap (λ (n : List ℕ). n ++ 1 ∷ 47 ∷ rest) same ∙ sym (append_assoc path (1 ∷ []) (slash ∷ rest)))),
  )

-- ---- the parts of a name that is read

-- the path has no byte 1, by index
pub unmarked_from : (path : List ℕ) → ((k : ℕ) → k < length path → get_or path k 0 ≢ 1) → IsUnmarked path
unmarked_from [] none = tt
unmarked_from (b ∷ path) none = (none 0 (omega arith), unmarked_from path (λ k l. none (suc k) (omega (arith, l))))

mark_there : (path more : List ℕ) → get_or (path ++ 1 ∷ more) (length path) 0 ≡ 1
mark_there [] more = refl
mark_there (b ∷ path) more = mark_there path more

pub no_mark : (name path text : List ℕ) (kept : Kept) → ((k : ℕ) → k < length name → get_or name k 0 ≢ 1) → name ≡ name_of path text kept → ⊥
no_mark name path text kept none is =
    let rest = 47 ∷ (text ++ kind_byte kept ∷ []) in
    let l = ap length is in
    let a = length-append path (1 ∷ rest) in
    none (length path) (omega (arith, l, a)) (ap (λ (b : List ℕ). get_or b (length path) 0) is ∙ mark_there path rest)
