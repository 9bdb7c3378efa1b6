use Rattle.std.proofs.Common.{◌≡◌, ◌∙◌, ◌<◌, [], None, ap, subst, length, List, ℕ, arith}
use Rattle.cs_index.specs.PostingLists.{entries_of}
use Rattle.std.proofs.lemmas.Result.{IfOk-weaker}
use Rattle.std.specs.List.{AllByRecursion}
use Rattle.cs_index.specs.Encoding.{IsString, encoding_of}
use Rattle.cs_index.specs.Written.{Written, entries_written, with_sent}
use Rattle.cs_index.specs.WrittenLists.{with_postings}
use Rattle.cs_index.specs.declared.writing.builder.Builder.TheInside.{Inside}
use Rattle.cs_trigram.specs.TrigramSets.{trigram_count}
use Rattle.cs_index.specs.Buckets.{ids_in_buckets, bucket_postings, BucketPostings}
use Rattle.cs_index.specs.Gathering.{lists_below}
use Rattle.cs_index.specs.BuilderInvariant.{bucket_lists, built_of}
use Rattle.cs_index.specs.Built.{Built}
use Rattle.cs_index.proofs.writer.SentOn.{sent_from_none, sent_more}
use Rattle.cs_index.proofs.writer.WrittenSteps.{postings_more}
use Rattle.cs_index.proofs.encoding.InvertedLists.{length-entries_of}
use Rattle.cs_index.proofs.writer.BuilderAdd.{names_entries}
use Rattle.cs_index.proofs.writing.builder.Builder.finish_into.Goals as goal

-- no posting list of these paths and names is written
abbrev empty : Inside → Written
empty b = record { paths = b.paths; names = b.names; lists = []; last_trigram = None; sent = [] }

whole : (b : Inside) (now : Built) (output : Written) → built_of b ≡ now →
    output ≡ with_sent (with_postings (empty b) (bucket_lists b)) output.sent →
    encoding_of output.paths (entries_written output) ≡ encoding_of now.paths now.entries
whole b now output view is =
    let more = postings_more (empty b) (bucket_lists b) in
    ap (λ (l : Written). encoding_of l.paths (entries_written l)) is
    ∙ (λ i. encoding_of (more.0 i) (entries_of 0 (more.1 i) (more.2 i)))
    ∙ ap (λ (built : Built). encoding_of built.paths built.entries) view

pub of-sections-requires-clause-each_name : goal.of-sections-requires-clause-each_name
of-sections-requires-clause-each_name g c = subst (AllByRecursion IsString)
    (names_entries 0 c.self.inside.names (bucket_lists c.self.inside))
    c.self.invariant.built.each_name

pub of-sections-requires-clause-bound : goal.of-sections-requires-clause-bound
of-sections-requires-clause-bound g c =
    let many = length-entries_of 0 c.self.inside.names (bucket_lists c.self.inside) in
    omega (arith, many, c.self.invariant.built.bound)

-- the lists of the buckets are written
wrote : (b : Inside) (now : Built) (buckets : List BucketPostings) (start output : Written) → built_of b ≡ now → buckets ≡ b.buckets.items →
    start ≡ empty b → output ≡ with_sent (with_postings start
    (lists_below trigram_count (ids_in_buckets (bucket_postings buckets)))) output.sent →
    encoding_of output.paths (entries_written output) ≡ encoding_of now.paths now.entries
wrote b now buckets start output view same none is = whole b now output view
    (is ∙ (λ i. with_sent (with_postings (none i) (lists_below trigram_count (ids_in_buckets (bucket_postings (same i))))) output.sent))

pub returns-clause-ok : goal.returns-clause-ok
returns-clause-ok g c =
    let encoding = wrote c.self.inside c.args.self c.deref_mut.result.now c.of-sections.result c.write_buckets.new.sections
    c.self.view_is c.deref_mut.ensures.value c.of-sections.ensures c.in_ok-write_buckets.ensures.ok in
    IfOk-weaker c.finish_into.result _ _ (λ index is. is ∙ encoding) c.finish_into.ensures.ok

pub returns-clause-too_large : goal.returns-clause-too_large
returns-clause-too_large g c =
    let encoding = wrote c.self.inside c.args.self c.deref_mut.result.now c.of-sections.result c.write_buckets.new.sections
    c.self.view_is c.deref_mut.ensures.value c.of-sections.ensures c.in_ok-write_buckets.ensures.ok in
    λ is. subst (λ (bs : List ℕ). c.args.limit < length bs) encoding (c.finish_into.ensures.too_large is)

pub returns-clause-given : goal.returns-clause-given
returns-clause-given g c = IfOk-weaker c.finish_into.result _ _
    (λ index is. sent_from_none c.of-sections.result.sent index.bytes (g.O.Output.given c.args.out.now) _
    (ap (λ (l : Written). l.sent) c.of-sections.ensures)
    (sent_more _ _ _ _ _ _ c.in_ok-write_buckets.ensures.given is)) c.finish_into.ensures.given

pub returns-clause-keeps : goal.returns-clause-keeps
returns-clause-keeps g c = g.met.O.Output.keeps_trans _ _ _ c.in_ok-write_buckets.ensures.keeps c.finish_into.ensures.keeps
