-- A scan in progress: one more block is read.
use Rattle.std.proofs.Common.{◌≡◌, ◌≤◌, ℕ, ◌+◌, List, [], ◌++◌, length, Option, Some, None, Ok, Err, take, sym, ap, subst, ◌∙◌, arith, length-append, append_assoc}
use Rattle.cs_tree.specs.Transfers.{Consumes}
use Rattle.cs_tree.specs.ConsumesAtMost.{ConsumesAtMost}
use Rattle.cs_trigram.specs.Scans.{skipped_or, scan_outcome_of, text, skipped_for, read_failed, IsScanOf}
use Rattle.cs_tree.specs.StreamModels.{SourceModel, Ending, ends, fails}
use Rattle.cs_tree.proofs.ConsumesLemmas.{Consumes_few}
use Rattle.cs_trigram.specs.declared.scan.Limits.{Limits}
use Rattle.cs_trigram.specs.declared.position.TextPosition.{TextPosition}
use Rattle.cs_trigram.specs.declared.seen_trigrams.SeenTrigrams.{SeenTrigrams}
use Rattle.cs_trigram.specs.declared.scan.Reason.{Reason}
use Rattle.cs_trigram.specs.declared.scan.Scan.TheVariants as answer
use Rattle.cs_trigram.specs.Trigram.{trigram_sequence, tri}
use Rattle.cs_trigram.specs.Text.{first_broken, too_many}
use Rattle.std.specs.Option.{option_or}
use Rattle.cs_trigram.specs.Position.{IsPositionAfter, Validates}
use Rattle.cs_trigram.specs.SeenTrigrams.{HasSeen, HasSeenBytes, SeesMore}
use Rattle.cs_trigram.specs.Blocks.{last_two, Carries}
use Rattle.cs_trigram.proofs.PositionLemmas.{Validates-append, Validates-stop}
use Rattle.cs_trigram.proofs.SplitTrigramLemmas.{sequence-append, Carries-same}

-- The bytes read so far break no rule, the position is the one after them, their trigrams are collected, and
-- the buffer has the last two of them.
pub record HasReadText (most : Limits) (model later : Option SourceModel) (position : TextPosition) (found : SeenTrigrams)
    (buffer : List ℕ) : Type 0 where
  pub prefix : List ℕ
  pub unbroken : first_broken most [] prefix ≡ None
  pub lost : Consumes model later prefix
  pub is_after : IsPositionAfter position prefix
  pub has_seen : HasSeenBytes most.trigrams found prefix
  pub carries : Carries buffer prefix

Consumes-chain : (a b c : Option SourceModel) (xs ys : List ℕ) → Consumes a b xs → Consumes b c ys → Consumes a c (xs ++ ys)
Consumes-chain None b c xs ys h k = tt
Consumes-chain (Some a) None c xs ys h k = absurd h
Consumes-chain (Some a) (Some b) None xs ys h k = absurd k
Consumes-chain (Some a) (Some b) (Some c) xs ys h k = (h.0 ∙ ap (λ rest. xs ++ rest) k.0 ∙ sym (append_assoc xs ys c.bytes), h.1 ∙ k.1)

-- one more block that breaks no rule; its bytes follow the last two before it
pub HasReadText-more : (most : Limits) (model mid later : Option SourceModel) (position next : TextPosition)
    (found more : SeenTrigrams) (buffer filled carried block bytes : List ℕ) →
    HasReadText most model mid position found buffer → Consumes mid later block → take 2 filled ≡ take 2 buffer →
    ((prefix : List ℕ) → IsPositionAfter position prefix → Validates most prefix block (Ok next)) →
    ((prefix : List ℕ) → position.count ≡ length prefix → Carries filled prefix → bytes ≡ last_two prefix ++ block) →
    SeesMore found more (trigram_sequence bytes) →
    ((prefix : List ℕ) → Carries filled prefix → Carries carried (prefix ++ block)) →
    HasReadText most model later next more carried
HasReadText-more most model mid later position next found more buffer filled carried block bytes reads lost same passes is keeps carries =
    let prefix = reads.prefix in
    let validated : Validates most prefix block (Ok next) = passes prefix reads.is_after in
    let whole : Validates most [] (prefix ++ block) (Ok next) = Validates-append most [] prefix block (Ok next) reads.unbroken validated in
    let before : Carries filled prefix = Carries-same buffer filled prefix same reads.carries in
    let windows : trigram_sequence (prefix ++ block) ≡ trigram_sequence prefix ++ trigram_sequence bytes =
    sequence-append prefix block ∙ ap (λ bs. trigram_sequence prefix ++ trigram_sequence bs)
    (sym (is prefix reads.is_after.count before)) in
    record {
      prefix = prefix ++ block;
      unbroken = whole.0;
      lost = Consumes-chain model mid later prefix block reads.lost lost;
      is_after = whole.1;
      has_seen = subst (HasSeen most.trigrams more) (sym windows) (keeps most.trigrams (trigram_sequence prefix) reads.has_seen);
      carries = carries prefix before;
    }

skipped_for-broken : (most : Limits) (bytes : List ℕ) (ending : Ending) (reason : Reason) → first_broken most [] bytes
    ≡ Some reason → skipped_for reason ≡ scan_outcome_of most bytes ending
skipped_for-broken most bytes ends reason broken =
    sym (ap (λ r. skipped_or (option_or r (too_many most (tri bytes))) (text (tri bytes) (length bytes))) broken)
skipped_for-broken most bytes fails reason broken = sym (ap (λ r. skipped_or r read_failed) broken)

-- a block that breaks a rule
pub IsScanOf-broken : {T : Type 0} (set : T → List ℕ) (most : Limits) (model mid later : Option SourceModel)
    (position : TextPosition) (found : SeenTrigrams) (buffer block : List ℕ) (reason : Reason) →
    HasReadText most model mid position found buffer → Consumes mid later block →
    ((prefix : List ℕ) → IsPositionAfter position prefix → Validates most prefix block (Err reason)) →
    IsScanOf most model (Ok (answer.Skip reason)) set
IsScanOf-broken set most None mid later position found buffer block reason reads lost breaks = tt
IsScanOf-broken set most (Some model) None later position found buffer block reason reads lost breaks = absurd reads.lost
IsScanOf-broken set most (Some model) (Some mid) None position found buffer block reason reads lost breaks = absurd lost
IsScanOf-broken set most (Some model) (Some mid) (Some later) position found buffer block reason reads lost breaks =
    let prefix = reads.prefix in
    let bytes : model.bytes ≡ (prefix ++ block) ++ later.bytes = reads.lost.0 ∙ ap (λ rest. prefix ++ rest) lost.0
    ∙ sym (append_assoc prefix block later.bytes) in
    let here : first_broken most [] (prefix ++ block) ≡ Some reason = Validates-append most [] prefix block (Err reason)
    reads.unbroken (breaks prefix reads.is_after) in
    skipped_for-broken most model.bytes model.ending reason (ap (first_broken most []) bytes
    ∙ Validates-stop most [] (prefix ++ block) later.bytes reason here)

-- a scan that stops at a block has consumed at most one byte more than the limit
pub ConsumesAtMost-more : (most : Limits) (model mid later : Option SourceModel) (position : TextPosition)
    (found : SeenTrigrams) (buffer numbers block : List ℕ) →
    HasReadText most model mid position found buffer → Consumes mid later block → position.count + length block
    ≤ most.bytes + 1 → ConsumesAtMost (most.bytes + 1) model later
ConsumesAtMost-more most model mid later position found buffer numbers block reads lost short =
    Consumes_few model later (reads.prefix ++ block) (most.bytes + 1)
    (Consumes-chain model mid later reads.prefix block reads.lost lost)
    (omega (arith, length-append reads.prefix block, reads.is_after.count, short))
