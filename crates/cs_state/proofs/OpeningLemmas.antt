-- The end of a state file.
use Rattle.std.proofs.Common.{◌≡◌, ◌∙◌, ◌≤◌, ◌<◌, ◌+◌, ◌-◌, ◌*◌, Option, Some, None, ◌++◌, List, ℕ, length, take, drop, append_assoc, ap, sym, arith, length-drop}
use Rattle.std.proofs.lemmas.List.{take-append-drop, take_all}
use Rattle.std.specs.Option.{IfSome}
use Rattle.cs_tree.specs.Store.{HasLength, part_of}
use Rattle.cs_state.specs.StateFile.{end_of}
use Rattle.cs_state.specs.StateForm.{HasForm}
use Rattle.cs_state.specs.Sums.{piece_count}
use Rattle.cs_state.specs.declared.state_key.StateSeal.{StateSeal}

-- the parts of a list that was split twice
halves : (whole a b : List ℕ) (n : ℕ) → a ≡ take n whole → b ≡ drop n whole → whole ≡ a ++ b
halves whole a b n one other = sym (take-append-drop n whole) ∙ (λ i. sym one i ++ sym other i)

pub end_parts : (end last rest sum more moment magic : List ℕ) → last ≡ take 8 end → rest ≡ drop 8 end → sum ≡ take 8 rest → more ≡ drop 8 rest →
    moment ≡ take 8 more → magic ≡ drop 8 more → end ≡ last ++ sum ++ moment ++ magic
end_parts end last rest sum more moment magic a b c d e f =
    halves end last rest 8 a b ∙ ap (λ l. last ++ l) (halves rest sum more 8 c d ∙ ap (λ l. sum ++ l) (halves more moment magic 8 e f))
    ∙ simp append_assoc

-- what is read at the end is all that follows
pub last_part : (bytes : List ℕ) (n at : ℕ) → at + n ≡ length bytes → drop at bytes ≡ part_of bytes at n
last_part bytes n at ends =
    let d = length-drop at bytes in
    sym (take_all n (drop at bytes) (omega (arith, d, ends)))

-- the form of the bytes of a store
module _ (len : ℕ) (end : List ℕ) (long : 41 ≤ len) (short : len < 4294967296) where
  form_of : (bytes : List ℕ) (found : Option (ℕ × StateSeal)) → length bytes ≡ len → end ≡ part_of bytes (len - 41) 41 →
      IfSome found (λ f. end ≡ end_of f.1 f.0) → IfSome found (λ f. f.0 + 8 * piece_count f.0 ≡ len - 41) →
      IfSome found (λ f. HasForm f.1 bytes f.0)
  form_of bytes None size is ends room = tt
  form_of bytes (Some f) size is ends room = record {
    short = omega (arith, size, short);
    end_is = ap (λ n. drop n bytes) room ∙ last_part bytes 41 (len - 41) (omega (arith, size, long)) ∙ sym is ∙ ends;
  }

  pub form_found : (model : Option (List ℕ)) (items : List ℕ) (found : Option (ℕ × StateSeal)) → HasLength model len → end ≡ items →
      IfSome model (λ bytes. items ≡ part_of bytes (len - 41) 41) → IfSome found (λ f. end ≡ end_of f.1 f.0) →
      IfSome found (λ f. f.0 + 8 * piece_count f.0 ≡ len - 41) → IfSome model (λ bytes. IfSome found (λ f. HasForm f.1 bytes f.0))
  form_found None items found size read is ends room = tt
  form_found (Some bytes) items found size read is ends room = form_of bytes found (sym size) (read ∙ is) ends room
