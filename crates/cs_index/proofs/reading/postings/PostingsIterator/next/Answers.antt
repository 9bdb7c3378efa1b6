use Rattle.std.proofs.Common.{◌-◌, ◌∙◌, refl, ap, [], ℕ, Bool, List, Result, length, take, drop, arith}
use Rattle.std.proofs.lemmas.List.{take_rest}
use Rattle.cs_index.specs.declared.fault.IndexFault.{IndexFault}
use Rattle.cs_index.specs.PostingLists.{Ids}
use Rattle.cs_index.specs.Postings.{ids_given}
use Rattle.cs_index.proofs.postings.ReadStep.{step_ok, step_end}
use Rattle.cs_index.proofs.reading.postings.PostingsIterator.next.Goals as goal

pub returns-in-Id-clause-steps : goal.returns-in-Id-clause-steps
returns-in-Id-clause-steps c =
    let s = c.self.inside in
    step_ok s.has_ended s.decoder s.bytes.now c.args.self.now c.if-self.false c.self.view_is c.in-Id.id c.in-Id.len
    (take (length s.bytes.now - c.in-Id.len) (drop c.in-Id.len s.bytes.now)) (take_rest s.bytes.now c.in-Id.len) c.in-Id.ensures

pub returns-in-Id-clause-goes : goal.returns-in-Id-clause-goes
returns-in-Id-clause-goes c =
    let s = c.self.inside in
    let step = step_ok s.has_ended s.decoder s.bytes.now c.args.self.now c.if-self.false c.self.view_is c.in-Id.id
    c.in-Id.len (take (length s.bytes.now - c.in-Id.len) (drop c.in-Id.len s.bytes.now)) (take_rest s.bytes.now c.in-Id.len)
    c.in-Id.ensures in
    let less = ap (λ (xs : List (Result ℕ IndexFault)). length xs) step in
    record { on = λ _. (tt, tt, omega (arith, less)); keeps = tt; rests = λ _. tt }

-- the items of a list without ids
abbrev at_end : Bool → List (Result ℕ IndexFault)
at_end whole = let r : Ids = record { ids = []; whole = whole } in ids_given r

pub returns-then-is_whole-clause-steps : goal.returns-then-is_whole-clause-steps
returns-then-is_whole-clause-steps c =
    let s = c.self.inside in (
      step_end s.has_ended s.decoder s.bytes.now c.args.self.now c.if-self.false c.self.view_is c.in-End.is_whole c.in-End.ensures
          ∙ ap at_end c.if-is_whole.true,
      refl,
    )

pub returns-else-is_whole-clause-steps : goal.returns-else-is_whole-clause-steps
returns-else-is_whole-clause-steps c =
    let s = c.self.inside in
    step_end s.has_ended s.decoder s.bytes.now c.args.self.now c.if-self.false c.self.view_is c.in-End.is_whole c.in-End.ensures
    ∙ ap at_end c.if-is_whole.false

pub returns-else-is_whole-clause-goes : goal.returns-else-is_whole-clause-goes
returns-else-is_whole-clause-goes c =
    let less = ap (λ (xs : List (Result ℕ IndexFault)). length xs) (returns-else-is_whole-clause-steps c) in
    record { on = λ _. (tt, tt, omega (arith, less)); keeps = tt; rests = λ _. tt }
