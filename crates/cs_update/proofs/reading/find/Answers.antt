use Rattle.std.proofs.Common.{◌∙◌, subst, sym, Ok}
use Rattle.cs_trigram.specs.Scans.{AreDistinctTrigrams, IfText, IsScanOf}
use Rattle.cs_trigram.specs.Text.{limits}
use Rattle.cs_trigram.specs.Trigram.{set_of_numbers}
use Rattle.cs_update.specs.Reads.{is_missing}
use Rattle.cs_update.proofs.FoundLemmas.{apart_in, binary_in, other_in, shown_by, text_in}
use Rattle.cs_update.proofs.reading.find.Goals as goal

pub returns-then-not-is_whole : goal.returns-then-not-is_whole
returns-then-not-is_whole g c =
    let was = c.args.source.now in
    let last = c.skip_rest.new.source in
    let model = g.R.Source.model in
    let shown = shown_by _ (model was.rest) (model c.gather.new.source.rest) (model last.rest) was.has_nul last.has_nul was.left last.left
    was.missing last.missing c.args.size c.requires.unseen c.requires.left c.requires.missing c.in-Ok.ensures.bounded
    c.in_ok-skip_rest.ensures.end (λ found is. c.skip_rest.ensures.keeps.1 found (c.gather.ensures.keeps.1 found is))
    (λ found is. c.skip_rest.ensures.keeps.2 found (c.gather.ensures.keeps.2 found is)) in
    record {
      found = other_in c.args.size (model was.rest) last.has_nul (is_missing last.missing 0) shown (sym c.is_whole.ensures ∙ c.if-not-is_whole.true);
      distinct = tt;
      keeps = g.met.R.Source.keeps_trans was.rest c.gather.new.source.rest last.rest c.gather.ensures.keeps.0 c.skip_rest.ensures.keeps.0;
    }

pub returns-then-source : goal.returns-then-source
returns-then-source g c =
    let was = c.args.source.now in
    let last = c.skip_rest.new.source in
    let model = g.R.Source.model in
    let shown = shown_by _ (model was.rest) (model c.gather.new.source.rest) (model last.rest) was.has_nul last.has_nul was.left last.left
    was.missing last.missing c.args.size c.requires.unseen c.requires.left c.requires.missing c.in-Ok.ensures.bounded
    c.in_ok-skip_rest.ensures.end (λ found is. c.skip_rest.ensures.keeps.1 found (c.gather.ensures.keeps.1 found is))
    (λ found is. c.skip_rest.ensures.keeps.2 found (c.gather.ensures.keeps.2 found is)) in
    record {
      found = binary_in c.args.size (model was.rest) last.has_nul (is_missing last.missing 0) shown
          (sym c.is_whole.ensures ∙ c.if-not-is_whole.false) c.if-source.true;
      distinct = tt;
      keeps = g.met.R.Source.keeps_trans was.rest c.gather.new.source.rest last.rest c.gather.ensures.keeps.0 c.skip_rest.ensures.keeps.0;
    }

pub returns-in-Text : goal.returns-in-Text
returns-in-Text g c =
    let was = c.args.source.now in
    let last = c.skip_rest.new.source in
    let model = g.R.Source.model in
    let shown = shown_by _ (model was.rest) (model c.gather.new.source.rest) (model last.rest) was.has_nul last.has_nul was.left last.left
    was.missing last.missing c.args.size c.requires.unseen c.requires.left c.requires.missing c.in-Ok.ensures.bounded
    c.in_ok-skip_rest.ensures.end (λ found is. c.skip_rest.ensures.keeps.1 found (c.gather.ensures.keeps.1 found is))
    (λ found is. c.skip_rest.ensures.keeps.2 found (c.gather.ensures.keeps.2 found is)) in
    record {
      found = text_in (λ trigrams. set_of_numbers trigrams.now) c.args.size c.in-Text.trigrams c.in-Text.bytes (model was.rest)
          last.has_nul (is_missing last.missing 0) shown (sym c.is_whole.ensures ∙ c.if-not-is_whole.false) c.if-source.false
          (subst (λ scan. IsScanOf limits (model was.rest) (Ok scan) (λ trigrams. set_of_numbers trigrams.now))
          c.in-Text.is c.in-Ok.ensures.model);
      distinct = subst (λ scan. IfText scan (λ trigrams. AreDistinctTrigrams trigrams.now)) c.in-Text.is c.in-Ok.ensures.trigrams;
      keeps = g.met.R.Source.keeps_trans was.rest c.gather.new.source.rest last.rest c.gather.ensures.keeps.0 c.skip_rest.ensures.keeps.0;
    }

pub returns-in-Skip : goal.returns-in-Skip
returns-in-Skip g c =
    let was = c.args.source.now in
    let last = c.skip_rest.new.source in
    let model = g.R.Source.model in
    let shown = shown_by _ (model was.rest) (model c.gather.new.source.rest) (model last.rest) was.has_nul last.has_nul was.left last.left
    was.missing last.missing c.args.size c.requires.unseen c.requires.left c.requires.missing c.in-Ok.ensures.bounded
    c.in_ok-skip_rest.ensures.end (λ found is. c.skip_rest.ensures.keeps.1 found (c.gather.ensures.keeps.1 found is))
    (λ found is. c.skip_rest.ensures.keeps.2 found (c.gather.ensures.keeps.2 found is)) in
    record {
      found = apart_in (λ trigrams. set_of_numbers trigrams.now) c.args.size c.in-Skip.field-0 (model was.rest)
          last.has_nul (is_missing last.missing 0) shown (sym c.is_whole.ensures ∙ c.if-not-is_whole.false) c.if-source.false
          (subst (λ scan. IsScanOf limits (model was.rest) (Ok scan) (λ trigrams. set_of_numbers trigrams.now))
          c.in-Skip.is c.in-Ok.ensures.model);
      distinct = tt;
      keeps = g.met.R.Source.keeps_trans was.rest c.gather.new.source.rest last.rest c.gather.ensures.keeps.0 c.skip_rest.ensures.keeps.0;
    }
