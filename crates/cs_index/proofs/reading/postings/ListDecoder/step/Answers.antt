use Rattle.std.proofs.Common.{◌++◌, List, ℕ, None, Some, drop, inl, inr}
use Rattle.cs_index.proofs.stored.ListPieces.{closed, next_id, read_more, refused, unread}
use Rattle.cs_index.proofs.reading.postings.ListDecoder.step.Goals as goal
use Rattle.cs_index.proofs.reading.postings.ListDecoder.step.Goals.{then-delta-eq0-via-then-delta-eq0, then-delta-eq0-via-else-delta-eq0+then-delta-self}

pub returns-in_default : goal.returns-in_default
returns-in_default c more ahead =
    let d = c.args.self.now in
    let bytes : List ℕ = c.args.bytes.now in
    unread d.name_count d.left d.next (bytes ++ more) (read_more bytes more None ahead c.in_default.ensures.value)

pub returns-then-self-eq0 : goal.returns-then-self-eq0
returns-then-self-eq0 c more ahead =
    let d = c.args.self.now in
    let bytes : List ℕ = c.args.bytes.now in
    closed d.name_count d.left d.next c.in-Some.delta (bytes ++ more) (drop c.in-Some.len bytes ++ more)
    c.if-self-eq0.true (read_more bytes more (Some (c.in-Some.delta, drop c.in-Some.len bytes)) ahead c.in-Some.ensures.value)

pub returns-then-delta-eq0 : goal.returns-then-delta-eq0
returns-then-delta-eq0 c more ahead =
    let d = c.args.self.now in
    let bytes : List ℕ = c.args.bytes.now in
    refused d.name_count d.left d.next c.in-Some.delta (bytes ++ more) (drop c.in-Some.len bytes ++ more)
    c.if-self-eq0.false c.requires (read_more bytes more (Some (c.in-Some.delta, drop c.in-Some.len bytes)) ahead c.in-Some.ensures.value)
    (elim c.then-delta-eq0.branch [
      | then-delta-eq0-via-then-delta-eq0 w ↦ inl w.if-delta-eq0.true
      | then-delta-eq0-via-else-delta-eq0+then-delta-self w ↦ inr w.if-delta-self.true
    ])

pub returns : goal.returns
returns c =
    next_id c.args.self.now c.in-Some.delta c.in-Some.len c.args.bytes.now c.if-self-eq0.false c.requires
    c.in-Some.ensures.value c.in-Some.ensures.within c.if-delta-eq0.false c.if-delta-self.false
