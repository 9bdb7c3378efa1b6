-- Errors of jobs, one after another.
use Rattle.std.proofs.Common.{◌≡◌, ℕ, ◌<◌, List, [], ◌∷◌, ◌++◌, length, sym, ◌∙◌, inl, inr, arith, is_some, string_bytes}
use Rattle.cs_history.proofs.Common.{true≢false, eqb-true, length-map, clean_fault, Snapshot, History, given_texts, after, history_after, IndexJob, Reply}
use Rattle.std.proofs.lemmas.List.Quantifiers.{position-Some}
use Rattle.cs_history.specs.Replies.{NeedsIndex, IsFirstBad, IsRightReply, AreRightReplies}
use Rattle.std.proofs.lemmas.Option.{same_Some}

pub right_more : (before : History) (jobs : List IndexJob) (trees : List Snapshot) (replies : List Reply)
    (job : IndexJob) (tree : Snapshot) (reply : Reply) → length trees ≡ length jobs → length replies ≡ length jobs →
    AreRightReplies before jobs trees replies → IsRightReply (history_after before jobs trees replies) job tree reply →
    AreRightReplies before (jobs ++ job ∷ []) (trees ++ tree ∷ []) (replies ++ reply ∷ [])
right_more before [] [] [] job tree reply e f right h = (h, tt)
right_more before [] [] (r ∷ rs) job tree reply e f right h = absurd (omega (arith, f))
right_more before [] (t ∷ ts) rs job tree reply e f right h = absurd (omega (arith, e))
right_more before (j ∷ js) [] rs job tree reply e f right h = absurd (omega (arith, e))
right_more before (j ∷ js) (t ∷ ts) [] job tree reply e f right h = absurd (omega (arith, f))
right_more before (j ∷ js) (t ∷ ts) (r ∷ rs) job tree reply e f right h =
    (right.0, right_more (after before j t r) js ts rs job tree reply (omega (arith, e)) (omega (arith, f)) right.1 h)

pub index_or_path : (job : IndexJob) (path_index : ℕ) → NeedsIndex job → IsFirstBad job path_index → ⊥
index_or_path job path_index (inl lists) bad = true≢false (sym lists ∙ bad.unlisted)
index_or_path job path_index (inr alone) bad =
    let none : length job.paths.items ≡ 0 = eqb-true (length job.paths.items) 0 alone.1 in
    let bound : length (given_texts job) ≡ length job.paths.items = length-map job.paths.items string_bytes in
    let within : path_index < length (given_texts job) =
    (position-Some (λ text. is_some (clean_fault (string_bytes job.cwd) text)) (given_texts job) path_index []
    bad.first).0 in
    omega (arith, none, bound, within)

pub one_path : (job : IndexJob) (path_index other : ℕ) → IsFirstBad job path_index → IsFirstBad job other → path_index ≡ other
one_path job path_index other a b = same_Some path_index other (sym a.first ∙ b.first)
