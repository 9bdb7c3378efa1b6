-- What a slot holds may go to another thread: it is numbers and boxes, and counters of steps, which own nothing.
use denote.Param.Send.{IsSend, owning_send, sendable}
use Rattle.std.proofs.Crossing.{crosses}
use Rattle.cs_syntax.specs.contracts.node.Pattern as Pattern
use Rattle.cs_syntax.proofs.node.Node.TheLaws.TheKnot as node
use Rattle.cs_syntax.proofs.char_step.Unfinished.TheSendSync as unfinished
use Rattle.cs_syntax.proofs.char_step.Cuts.TheSendSync as cuts
use Rattle.cs_trigram.specs.contracts.queries.Query as Query
use Rattle.cs_trigram.proofs.queries.Query.TheLaws.TheKnot as query
use Rattle.cs_trigram.proofs.scanner.Scanner.TheSendSync as scanner
use Rattle.cs_index.proofs.writing.builder.Builder.TheSendSync as builder
use Rattle.cs_tree.specs.contracts.steps.Steps as Steps
use Rattle.cs_prefilter.proofs.prefilter.Prefilter.TheSendSync as prefilter
use Rattle.cs_match.specs.contracts.spans.pass.Pass as Pass
use Rattle.cs_match.specs.contracts.matcher.cache.Cache as Cache
use Rattle.cs_match.specs.contracts.program.Program as Program
use Rattle.cs_match.proofs.parts.Fragment.TheLaws.TheKnot as part
use Rattle.cs_match.proofs.position_set.PositionSet.TheSendSync as positions
use Rattle.cs_match.proofs.glushkov.Scratch.TheSendSync as scratch
use Rattle.cs_match.proofs.dfa.StateCache.TheSendSync as states
use Rattle.cs_match.proofs.pacing.Pacing.TheSendSync as pacing
use Rattle.cs_match.proofs.position.Position.TheSendSync as position
use Rattle.cs_match.proofs.byte_classes.ByteClasses.TheSendSync as classes
use Rattle.cs_match.proofs.state.LookBehind.TheSendSync as behind
use Rattle.codesearch_c.specs.contracts.slot.HeldPattern as HeldPattern
use Rattle.codesearch_c.specs.contracts.slot.HeldBuilder as HeldBuilder
use Rattle.codesearch_c.specs.contracts.slot.Held as Held

steps_send : IsSend (Steps.the_field).row
steps_send = owning_send Steps.the_type tt (λ d. tt) (λ k x w. tt)

pass_send : IsSend (Pass.the_field).row
pass_send = search (sendable, steps_send, positions.the_send, unfinished.the_field_send, scratch.the_field_send) depth 20

cache_send : IsSend (Cache.the_field).row
cache_send = search (sendable, crosses, steps_send, states.the_field_send, pacing.the_field_send) depth 20

pattern_send : IsSend (Pattern.the_field).row
pattern_send = search (sendable, crosses, node.crosses) depth 20

program_send : IsSend (Program.the_field).row
program_send =
    search (
      sendable,
      crosses,
      node.crosses,
      part.crosses,
      position.the_field_send,
      behind.the_field_send,
      classes.the_field_send,
      cuts.the_send,
      prefilter.the_send,
    ) depth 20

query_send : IsSend (Query.the_field).row
query_send = search (sendable, crosses, query.crosses) depth 20

held_pattern_send : IsSend (HeldPattern.the_field).row
held_pattern_send = search (sendable, crosses, pattern_send, query_send, program_send, cache_send, pass_send) depth 20

held_builder_send : IsSend (HeldBuilder.the_field).row
held_builder_send = search (sendable, builder.the_send, scanner.the_send) depth 20

pub held_send : IsSend Held.the_row
held_send = search (sendable, crosses, held_pattern_send, held_builder_send) depth 20
