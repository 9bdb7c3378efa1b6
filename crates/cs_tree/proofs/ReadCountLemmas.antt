-- Read counts over a sequence of calls.
use Rattle.std.proofs.Common.{◌≡◌, ℕ, List, length, subst, sym, ◌∙◌, refl, Option, Some, None, Result, Ok, Err, arith}
use Rattle.std.proofs.lemmas.Bool.{true≢false}
use Rattle.std.specs.Prelude.{IsSome, option_map}
use Rattle.std.specs.Result.{IsOkAnd}
use Rattle.cs_tree.specs.ConsumesAtMost.{ConsumesAtMost}
use Rattle.cs_tree.specs.Snapshot.{Snapshot, item_at}
use Rattle.cs_tree.specs.TreeAnswers.{opening_of}
use Rattle.cs_tree.specs.StreamModels.{SourceModel}
use Rattle.cs_tree.specs.ReadCounts.{ReadCounts, after_open}
use Rattle.cs_tree.specs.Reads.{ReadsWithin}
use Rattle.cs_tree.specs.TreeReaders.{HasRead, open_model}
use Rattle.cs_tree.specs.Trees.{OpensFile}
use Rattle.cs_tree.specs.declared.fault.TreeFault.{TreeFault}

pub reads_nothing : (limit : ℕ) (a : Option ReadCounts) → ReadsWithin limit a a
reads_nothing limit None = tt
reads_nothing limit (Some a) = (omega arith, refl)

pub reads_on : (limit : ℕ) (a b c : Option ReadCounts) → ReadsWithin limit a b → ReadsWithin limit b c → ReadsWithin limit a c
reads_on limit None b c first next = tt
reads_on limit (Some a) None c first next = absurd first
reads_on limit (Some a) (Some b) None first next = absurd next
reads_on limit (Some a) (Some b) (Some c) first next = (omega (arith, first.0, next.0), next.1 ∙ first.1)

-- ---- and then reads, with an upper bound

loses_within : (limit : ℕ) (a : ReadCounts) (c : Option ReadCounts) (t : SourceModel) (p : Option SourceModel)
    → ConsumesAtMost limit (Some t) p → HasRead a (length t.bytes) p c → ReadsWithin limit (Some a) c
loses_within limit a None t p loses has = absurd has
loses_within limit a (Some c) t None loses has = absurd loses
loses_within limit a (Some c) t (Some u) loses has = (omega (arith, loses.1, has.0, has.1), has.2)

-- for a modelled tree
opened_within : (limit : ℕ) (a : ReadCounts) (c : Option ReadCounts) (o p : Option SourceModel) (t : SourceModel) → o ≡ Some t
    → ConsumesAtMost limit o p → ((before : ReadCounts) → (count : ℕ) → HasRead before count o (Some (after_open a)) → HasRead before count p c)
    → ReadsWithin limit (Some a) c
opened_within limit a c o p t is loses has =
    loses_within limit a c t p (subst (λ o. ConsumesAtMost limit o p) is loses)
    (has a (length t.bytes) (subst (λ o. HasRead a (length t.bytes) o (Some (after_open a))) (sym is) (omega arith, omega arith, refl)))

opens_as : (limit : ℕ) (a : ReadCounts) (c : Option ReadCounts) (o p : Option SourceModel)
    (opening : Result SourceModel TreeFault) → IsOkAnd opening (λ file. o ≡ Some file)
    → ConsumesAtMost limit o p → ((before : ReadCounts) → (count : ℕ) → HasRead before count o (Some (after_open a)) → HasRead before count p c)
    → ReadsWithin limit (Some a) c
opens_as limit a c o p (Ok model) is loses has = opened_within limit a c o p model is loses has
opens_as limit a c o p (Err fault) is loses has = absurd is

-- A file is opened, and reads of it consume at most `limit` bytes. The snapshot is `at` before, `at1` when the file
-- is open, and `at2` after the reads.
pub reads_open : (limit : ℕ) (at at1 at2 : Option Snapshot) (path : List ℕ) (u : Unit {0}) (a b c : Option ReadCounts)
    (o p : Option SourceModel)
    → (IsSome b → IsSome at1) → OpensFile at path (Ok u) o → at1 ≡ at → b ≡ option_map after_open a
    → at2 ≡ at1 → ConsumesAtMost limit (open_model at1 o) (open_model at2 p)
    → ((before : ReadCounts) → (count : ℕ) → HasRead before count o b → HasRead before count p c) → ReadsWithin limit a c
reads_open limit at at1 at2 path u None b c o p modelled opens same counts kept loses has = tt
reads_open limit None at1 at2 path u (Some a) b c o p modelled opens same counts kept loses has =
    absurd (true≢false (sym (subst IsSome same (modelled (subst IsSome (sym counts) refl)))))
reads_open limit (Some tree) at1 at2 path u (Some a) b c o p modelled opens same counts kept loses has =
    let loses1 : ConsumesAtMost limit (open_model (Some tree) o) (open_model (Some tree) p) =
    subst (λ at. ConsumesAtMost limit (open_model at o) (open_model (Some tree) p)) same
    (subst (λ at. ConsumesAtMost limit (open_model at1 o) (open_model at p)) (kept ∙ same) loses) in
    opens_as limit a c o p (opening_of (item_at tree path)) opens loses1
    (subst (λ b. (before : ReadCounts) → (count : ℕ) → HasRead before count o b → HasRead before count p c) counts has)
