-- 01, table of small queries: P1 to P12, the minimal image and the normal form of each word, computed from the definitions.
use mathlib.Core.Path.{◌≡◌, refl}
use mathlib.Core.List.{List, [], ◌∷◌}
use Prim.Native.Nat.{ℕ}
use native.Mathlib.Decide.{ℕ_discrete, dec_lt, dec_le}
use Rattle.meaning.specs.Gluing.{plain}
use Rattle.meaning.specs.Folding.{dec_lab, dec_mark, dec_tag, dec_any, dec_folds, dec_onto, sift, add, minimal}
use Rattle.meaning.specs.Number.{groups, read_number}
use Rattle.meaning.specs.Image.{dec_l, minimal_image}
use Rattle.meaning.specs.Normal.{normal_form}
use Rattle.meaning.specs.Word.{answered, and_then, sign_of, is_step, takes, at_end, run, read_word}

-- a word, its minimal image and its normal form
pub record Case : Type 0 where
  pub word : List ℕ
  pub least : List ℕ
  pub form : List ℕ

abbrev pub cases : List Case
cases =
    record { word = 0x01 ∷ []; least = 0x01 ∷ 0x00 ∷ 0x03 ∷ 0x00 ∷ []; form = 0x01 ∷ [] }
    ∷ record { word = 0x02 ∷ []; least = 0x02 ∷ 0x00 ∷ 0x01 ∷ 0x01 ∷ 0x00 ∷ 0x02 ∷ 0x00 ∷ []; form = 0x02 ∷ [] }
    ∷ record { word = 0x03 ∷ []; least = 0x02 ∷ 0x00 ∷ 0x02 ∷ 0x01 ∷ 0x00 ∷ 0x01 ∷ 0x00 ∷ []; form = 0x03 ∷ [] }
    ∷ record { word = 0x02 ∷ 0x03 ∷ 0x04 ∷ []; least = 0x02 ∷ 0x00 ∷ 0x03 ∷ 0x01 ∷ 0x00 ∷ 0x00 ∷ 0x00 ∷ []; form = 0x02 ∷ 0x05 ∷ [] }
    ∷ record { word = 0x03 ∷ 0x02 ∷ 0x04 ∷ []; least = 0x03 ∷ 0x00 ∷ 0x00 ∷ 0x02 ∷ 0x00 ∷ 0x01 ∷ 0x00 ∷ 0x00 ∷ 0x02 ∷ 0x00 ∷ []; form = 0x03 ∷ 0x02 ∷ 0x04 ∷ [] }
    ∷ record { word = 0x02 ∷ 0x03 ∷ 0x07 ∷ []; least = 0x00 ∷ []; form = 0x00 ∷ [] }
    ∷ record { word = 0x0A ∷ 0x0B ∷ 0x04 ∷ []; least = 0x00 ∷ []; form = 0x00 ∷ [] }
    ∷ record { word = 0x02 ∷ 0x0A ∷ 0x04 ∷ 0x05 ∷ 0x02 ∷ 0x05 ∷ 0x04 ∷ []; least = 0x02 ∷ 0x00 ∷ 0x03 ∷ 0x01 ∷ 0x02 ∷ 0x00 ∷ 0x00 ∷ []; form = 0x02 ∷ 0x0A ∷ 0x04 ∷ 0x05 ∷ [] }
    ∷ record { word = 0x02 ∷ 0x0A ∷ 0x04 ∷ 0x05 ∷ 0x02 ∷ 0x04 ∷ []; least = 0x03 ∷ 0x00 ∷ 0x01 ∷ 0x02 ∷ 0x00 ∷ 0x02 ∷ 0x00 ∷ 0x02 ∷ 0x00 ∷ 0x00 ∷ []; form = 0x02 ∷ 0x0A ∷ 0x04 ∷ 0x05 ∷ 0x02 ∷ 0x04 ∷ [] }
    ∷ record { word = 0x02 ∷ 0x05 ∷ 0x02 ∷ 0x04 ∷ 0x0A ∷ 0x04 ∷ []; least = 0x02 ∷ 0x00 ∷ 0x01 ∷ 0x01 ∷ 0x02 ∷ 0x02 ∷ 0x00 ∷ []; form = 0x02 ∷ 0x0A ∷ 0x04 ∷ [] }
    ∷ record { word = 0x0A ∷ 0x02 ∷ 0x04 ∷ 0x06 ∷ 0x0B ∷ 0x04 ∷ []; least = 0x02 ∷ 0x02 ∷ 0x00 ∷ 0x01 ∷ 0x03 ∷ 0x03 ∷ 0x00 ∷ []; form = 0x0A ∷ 0x02 ∷ 0x04 ∷ 0x06 ∷ 0x0B ∷ 0x04 ∷ [] }
    ∷ record { word = 0x02 ∷ 0x0A ∷ 0x04 ∷ 0x08 ∷ []; least = 0x02 ∷ 0x00 ∷ 0x02 ∷ 0x01 ∷ 0x02 ∷ 0x01 ∷ 0x00 ∷ []; form = 0x0A ∷ 0x03 ∷ 0x04 ∷ [] }
    ∷ []

abbrev pub Each : (Case → Type 0) → List Case → Type 0
Each P [] = Unit {0}
Each P (c ∷ cs) = P c × Each P cs

-- the word is accepted, and its expression has this minimal image and this normal form
abbrev pub Right : Case → Type 0
Right c = (and_then (read_word c.word) (λ e. answered (minimal_image (plain e))) ≡ answered c.least)
    × (and_then (read_word c.word) (λ e. answered (normal_form (plain e))) ≡ answered c.form)

-- "P1 to P12 are proved as a single table under a single theorem"
pub table : Each Right cases
unfolding ℕ_discrete dec_lt dec_le groups read_number sign_of is_step takes at_end run read_word dec_lab dec_mark dec_tag dec_any dec_folds dec_onto sift add minimal dec_l
table =
    ((refl, refl), ((refl, refl), ((refl, refl), ((refl, refl), ((refl, refl), ((refl, refl), ((refl, refl), ((refl, refl), ((refl, refl), ((refl, refl), ((refl, refl), ((refl, refl), tt))))))))))))
