-- The pieces of a glob, one after the other, and the texts that it stands for.
use Rattle.std.specs.Prelude.{Option, Some, None, Vec}
use Rattle.std.specs.declared.alloc.Global.{Global}
use Rattle.std.proofs.Common.{◌≡◌, refl, ℕ, zero, suc, ◌+◌, ◌-◌, ◌<◌, Bool, true, false, List, [], ◌∷◌, ◌++◌, length, take, drop, get_or, set, sym, ap, subst, ◌∙◌, arith}
use Rattle.std.proofs.Math.ListN.{get_or-map}
use Rattle.std.proofs.lemmas.List.{map-append, map-set, length-map}
use Rattle.std.proofs.lemmas.List.Edits.{map_over_more}
use Rattle.cs_tree.proofs.NameLemmas.{mapped_more}
use Rattle.cs_listing.specs.GlobText.{first_token}
use Rattle.cs_listing.specs.Braces.{pieces_after, pieces_in, with_text, with_piece, texts_at_end, texts_after}
use Rattle.cs_listing.specs.Models.{texts_of, expansion_of}
use Rattle.cs_listing.specs.Reading.{ReadsToken, ReadsPiece}
use Rattle.cs_listing.specs.declared.glob.Token.{Token}
use Rattle.cs_listing.specs.declared.braces.Expansion.{Expansion as OwnExpansion}

after_drop : (n : ℕ) (text : List ℕ) → pieces_after n text ≡ pieces_in (drop n text)
after_drop zero text = refl
after_drop (suc n) [] = refl
after_drop (suc n) (b ∷ text) = after_drop n text

drop_one : (n b : ℕ) (text : List ℕ) → 0 < n → pieces_after (n - 1) text ≡ pieces_in (drop n (b ∷ text))
drop_one zero b text some = absurd (omega (arith, some))
drop_one (suc n) b text some = ap (λ k. pieces_after k text) (omega arith) ∙ after_drop n text

-- a piece, and those of the rest
pub pieces_step : (text : List ℕ) (read : Token × ℕ) → ReadsToken (first_token text) text read →
    pieces_in text ≡ take read.1 text ∷ pieces_in (drop read.1 text)
pieces_step [] read h = absurd (omega (arith, h.1, h.2))
pieces_step (b ∷ text) read h =
    ap (λ t. take t.1 (b ∷ text) ∷ pieces_after (t.1 - 1) text) h.0
    ∙ ap (λ ps. take read.1 (b ∷ text) ∷ ps) (drop_one read.1 b text h.1)

-- what a glob stands for, by one piece more
module _ (whole : Option (List (List ℕ))) (old new : OwnExpansion) (rest : List ℕ) (read : Token × ℕ) (fits : Bool)
    (so_far : texts_after (Some (expansion_of old)) (pieces_in rest) ≡ whole) (reads : ReadsToken (first_token rest) rest read)
    (piece : ReadsPiece (with_piece (take read.1 rest) (expansion_of old)) new fits) where
  by_piece : texts_after (with_piece (take read.1 rest) (expansion_of old)) (pieces_in (drop read.1 rest)) ≡ whole
  by_piece = sym (ap (texts_after (Some (expansion_of old))) (pieces_step rest read reads)) ∙ so_far

  pub piece_fits : fits ≡ true → texts_after (Some (expansion_of new)) (pieces_in (drop read.1 rest)) ≡ whole
  piece_fits e =
      sym (ap (λ o. texts_after o (pieces_in (drop read.1 rest))) (subst (ReadsPiece (with_piece (take read.1 rest) (expansion_of old)) new) e piece))
      ∙ by_piece

  pub piece_misfits : fits ≡ false → None ≡ whole
  piece_misfits e =
      sym (ap (λ o. texts_after o (pieces_in (drop read.1 rest))) (subst (ReadsPiece (with_piece (take read.1 rest) (expansion_of old)) new) e piece))
      ∙ by_piece

pub pieces_end : (whole : Option (List (List ℕ))) (at : OwnExpansion) (rest : List ℕ) → length rest ≡ 0 →
    texts_after (Some (expansion_of at)) (pieces_in rest) ≡ whole → texts_at_end (expansion_of at) ≡ whole
pieces_end whole at [] len same = same
pieces_end whole at (b ∷ rest) len same = absurd (omega (arith, len))

-- ---- texts

abbrev pub text_of : Vec ℕ Global → List ℕ
text_of text = text.items

-- one copy more
pub copy_more : (texts before after : List (Vec ℕ Global)) (i : ℕ) (own text : Vec ℕ Global) → i < length texts →
    text ≡ get_or texts i text → own.items ≡ text.items → after ≡ before ++ own ∷ [] →
    texts_of before ≡ texts_of (take i texts) → texts_of after ≡ texts_of (take (i + 1) texts)
copy_more texts before after i own text less is same pushed so_far =
    ap texts_of pushed ∙ map-append text_of before (own ∷ []) ∙ ap (λ ts. ts ++ own.items ∷ []) so_far
    ∙ ap (λ t. texts_of (take i texts) ++ t ∷ []) same ∙ sym (mapped_more text_of texts i text less is)

-- one text more is made longer
pub text_longer : (piece : List ℕ) (texts now : List (Vec ℕ Global)) (i : ℕ) (text longer : Vec ℕ Global) → i < length texts →
    text ≡ get_or now i text → longer.items ≡ text.items ++ piece →
    texts_of now ≡ with_text piece (take i (texts_of texts)) ++ drop i (texts_of texts) →
    texts_of (set now i longer) ≡ with_text piece (take (i + 1) (texts_of texts)) ++ drop (i + 1) (texts_of texts)
text_longer piece texts now i text longer less is e so_far =
    map-set text_of now i longer ∙ ap (set (texts_of now) i) e
    ∙ map_over_more (λ (t : List ℕ). t ++ piece) (texts_of texts) (texts_of now) i text.items
    (omega (arith, less, length-map texts text_of)) so_far (ap text_of is ∙ sym (get_or-map text_of now i text))
