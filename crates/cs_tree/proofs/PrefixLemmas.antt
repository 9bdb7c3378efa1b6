-- Prefixes of what is written, and flushes at the end.
use Rattle.std.proofs.Common.{◌≡◌, ℕ, zero, suc, ◌+◌, List, [], ◌∷◌, ◌++◌, length, take, refl, sym, ap, subst, ◌∙◌, arith, append-nil, Option, Result, Ok, Err, inl, inr}
use Rattle.std.proofs.lemmas.List.{take_all}
use Rattle.cs_tree.specs.Sinks.{SinkModel, Grows, GrowsFlushed}
use Rattle.cs_tree.proofs.GrowsLemmas.{Grows-chain, Grows-same, GrowsFlushed-chain}
use Rattle.cs_tree.specs.TakesPrefix.{TakesPrefix, EndsAfter, MayEnd}

pub prefix_none : (xs : List ℕ) (sink : Option SinkModel) → TakesPrefix xs sink sink
prefix_none xs sink = record { count = 0; grows = Grows-same sink }

pub prefix_all : (xs : List ℕ) (a b : Option SinkModel) → Grows a b xs → TakesPrefix xs a b
prefix_all xs a b grows = record { count = length xs; grows = subst (Grows a b) (sym (take_all (length xs) xs (omega arith))) grows }

-- after a failed write of the bytes, a prefix of them is written
pub prefix_written : (xs : List ℕ) (a b : Option SinkModel) (n : ℕ) → Grows a b (take n xs) → TakesPrefix xs a b
prefix_written xs a b n grows = record { count = n; grows = grows }

take_prefix : (n : ℕ) (xs ys : List ℕ) → take (length (take n xs)) (xs ++ ys) ≡ take n xs
take_prefix zero xs ys = refl
take_prefix (suc n) [] ys = refl
take_prefix (suc n) (x ∷ xs) ys = ap (λ l. x ∷ l) (take_prefix n xs ys)

take_past : (n : ℕ) (xs ys : List ℕ) → take (length xs + n) (xs ++ ys) ≡ xs ++ take n ys
take_past n [] ys = ap (λ m. take m ys) (let e : 0 + n ≡ n = omega arith in e)
take_past n (x ∷ xs) ys =
    ap (λ m. take m (x ∷ xs ++ ys)) (let e : suc (length xs) + n ≡ suc (length xs + n) = omega arith in e)
    ∙ ap (λ l. x ∷ l) (take_past n xs ys)

-- a prefix of the first bytes is a prefix of all
pub prefix_left : (xs ys : List ℕ) (a b : Option SinkModel) → TakesPrefix xs a b → TakesPrefix (xs ++ ys) a b
prefix_left xs ys a b f = record { count = length (take f.count xs); grows = subst (Grows a b) (sym (take_prefix f.count xs ys)) f.grows }

-- all first bytes, and a prefix of the others
pub prefix_right : (xs ys : List ℕ) (a b c : Option SinkModel) → Grows a b xs → TakesPrefix ys b c → TakesPrefix (xs ++ ys) a c
prefix_right xs ys a b c grows f =
    record {
      count = length xs + f.count;
      grows = subst (Grows a c) (sym (take_past f.count xs ys)) (Grows-chain a b c xs (take f.count ys) grows f.grows);
    }

-- ---- flushes at the end

-- these bytes, and then a prefix of none
pub prefix_after : (xs : List ℕ) (a b c : Option SinkModel) → Grows a b xs → TakesPrefix [] b c → TakesPrefix xs a c
prefix_after xs a b c grows prefix = subst (λ bytes. TakesPrefix bytes a c) (append-nil xs) (prefix_right xs [] a b c grows prefix)

-- nothing was written, and the call returned an error
pub ends_failed : {A E : Type 0} (a : Option SinkModel) (r : Result A E) (fault : E) → r ≡ Err fault → EndsAfter [] a a r
ends_failed a r fault is = rw is (prefix_none [] a)

-- these bytes, and then a call that writes nothing more
pub ends_after : {A E : Type 0} (xs : List ℕ) (a b c : Option SinkModel) (r : Result A E) → Grows a b xs →
    EndsAfter [] b c r → EndsAfter xs a c r
ends_after xs a b c (Ok x) grows ends = subst (GrowsFlushed a c) (append-nil xs) (GrowsFlushed-chain a b c xs [] grows ends)
ends_after xs a b c (Err e) grows ends = prefix_after xs a b c grows ends

pub may_end_after : (xs : List ℕ) (a b c : Option SinkModel) → Grows a b xs → MayEnd [] b c → MayEnd xs a c
may_end_after xs a b c grows (inl prefix) = inl (prefix_after xs a b c grows prefix)
may_end_after xs a b c grows (inr ends) = inr (subst (GrowsFlushed a c) (append-nil xs) (GrowsFlushed-chain a b c xs [] grows ends))
