-- Bytes that open as an index decode as its content.
use Rattle.std.proofs.Common.{◌≡◌, ℕ, List, Ok, subst}
use Rattle.cs_merge.proofs.Common.{Paths, Files, Parts, decoding_is_unique, DecodesAsContent, HasContent, Opens}
use Rattle.cs_tree.specs.ByteList.{AreBytes}
use Rattle.cs_index.specs.Opening.{opening}
use Rattle.cs_index.proofs.decoding.DecodableBytesOpen.{opens_as_decoded, opened_decodes}

pub decoded_opens : (bytes : List ℕ) (paths : Paths) (files : Files) → DecodesAsContent bytes paths files → Opens bytes paths files
decoded_opens bytes paths files h = record { parts = h.parts; opened = opens_as_decoded bytes h.parts h.decodes; has = h.has }

pub opens_decoded : (bytes : List ℕ) (paths : Paths) (files : Files) → AreBytes bytes → Opens bytes paths files →
    DecodesAsContent bytes paths files
opens_decoded bytes paths files are o = record { parts = o.parts; decodes = opened_decodes bytes o.parts are o.opened; has = o.has }

pub opened_has : (bytes : List ℕ) (parts : Parts) (paths : Paths) (files : Files) → AreBytes bytes → opening bytes
    ≡ Ok parts → DecodesAsContent bytes paths files → HasContent parts paths files
opened_has bytes parts paths files are e h =
    subst (λ p. HasContent p paths files) (decoding_is_unique bytes h.parts parts h.decodes (opened_decodes bytes parts are e)) h.has
