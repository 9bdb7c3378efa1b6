-- Bytes that are sent to an output one after the other.
use Rattle.std.proofs.Common.{◌≡◌, ◌∙◌, ◌++◌, ℕ, List, [], ap, sym, append_assoc}
use Rattle.std.proofs.lemmas.List.{append-nil}
use Rattle.cs_index.specs.Sending.{IsSentOn}

pub sent_nothing : (sent given : List ℕ) → IsSentOn sent sent given given
sent_nothing sent given = record { bytes = []; grew = sym (append-nil sent); got = sym (append-nil given) }

pub sent_more : (start sent later before given after : List ℕ) → IsSentOn start sent before given →
    IsSentOn sent later given after → IsSentOn start later before after
sent_more start sent later before given after one next = record {
  bytes = one.bytes ++ next.bytes;
  grew = next.grew ∙ ap (λ bs. bs ++ next.bytes) one.grew ∙ append_assoc start one.bytes next.bytes;
  got = next.got ∙ ap (λ bs. bs ++ next.bytes) one.got ∙ append_assoc before one.bytes next.bytes;
}

-- what was sent from the beginning is what was given
pub sent_from_none : (start sent before given : List ℕ) → start ≡ [] → IsSentOn start sent before given →
    given ≡ before ++ sent
sent_from_none start sent before given none is =
    is.got ∙ ap (λ bs. before ++ bs) (sym (is.grew ∙ ap (λ bs. bs ++ is.bytes) none))
