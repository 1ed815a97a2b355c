-- The normal form of rows: its factors are those of the ways, and "with no factor at all the word is 1".
use mathlib.Core.Path.{◌≡◌, refl, sym, ap, ◌∙◌}
use mathlib.Core.List.{List, [], ◌∷◌}
use Prim.Native.Nat.{ℕ, ◌+◌, ◌≤◌, ◌<◌}
use native.Mathlib.Omega.{arith}
use lib.ListN.{length}
use Rattle.meaning.specs.Expression.{Expr}
use Rattle.meaning.specs.Tree.{Forest, Tag}
use Rattle.meaning.specs.Normal.{all, factors, normal, word_of}
use Rattle.rows.specs.Rows.{FirstRow, brothers, shape, map_t, tree_rows, Rows}
use Rattle.rows.proofs.Rows.{rows_top}
use Rattle.groups.specs.declared.Writer.{Writer}
use Rattle.groups.specs.Filled.{filled, Fits}
use Rattle.groups.proofs.Filled.{filled_nil}
use Rattle.branches.specs.Joining.{fill, Takes, filled_by}
use Rattle.branches.specs.Factors.{tagged}
use Rattle.branches.proofs.Joining.{word_some, fill_nil, fill_first}
use Rattle.ways.specs.Ways.{Lowest}
use Rattle.normal.specs.Forms.{QueryRows, form_at}
use Rattle.normal.proofs.Marks.{src_in_lem, tagged_rows}
use Rattle.normal.proofs.Around.{factors_rows}

-- ------------------------------------------------------------------ the word of some factors, or of none
module _ (from : ℕ) where
  fill_short : (xs : List Expr) → length (fill from from xs) ≤ length (word_of (all xs))
  fill_short [] = omega (arith, ap length (fill_nil from from))
  fill_short (x ∷ xs) = omega (arith, ap length (fill_first from x xs))

  fill_word : (xs : List Expr) → (length (fill from from xs) ≡ 0 → ⊥) → word_of (all xs) ≡ fill from from xs
  fill_word [] z = absurd (z (ap length (fill_nil from from)))
  fill_word (x ∷ xs) z = sym (fill_first from x xs)

  fill_none : (xs : List Expr) → length (fill from from xs) ≡ 0 → word_of (all xs) ≡ 1 ∷ []
  fill_none [] z = refl
  fill_none (x ∷ xs) z = absurd (omega (arith, ap length (fill_first from x xs), word_some (all (x ∷ xs))))

no_bytes : (bs : List ℕ) → length bs ≡ 0 → bs ≡ []
no_bytes [] e = refl
no_bytes (b ∷ bs) e = absurd (omega arith)

-- ------------------------------------------------------------------ rows
module _ {code mark kids span up : List ℕ} {n : ℕ} (Q : QueryRows code mark kids span up n) where
  R : Rows code mark kids span up n
  R = Q.rows

  abbrev Word : List ℕ
  Word = word_of (normal (tree_rows code mark span n))

  -- "Empty is the word 0."
  pub form_empty : n ≡ 0 → Word ≡ 0 ∷ []
  unfolding tree_rows shape brothers map_t
  form_empty e = rw e

  normal_rows : (f : ℕ → Tag) → 0 < n → normal (map_t f (shape span n)) ≡ all (factors (map_t f (shape span n)) [])
  unfolding map_t
  normal_rows f l = rw (rows_top code mark kids span up n R l).shape_is

  module _ (ne : n ≡ 0 → ⊥) {s d t : ℕ} (fs : FirstRow mark 0 s) (fd : FirstRow mark 1 d) (L : Lowest span s d t) where
    pub form_word : Word ≡ word_of (all (form_at code span s d t))
    form_word =
        ap (λ (F : Forest Tag). word_of (normal F)) (tagged_rows Q ne fs fd)
        ∙ ap word_of (normal_rows (tagged code s d) (omega arith) ∙ ap all (factors_rows R s d t (omega (arith, L.to_s.from, src_in_lem Q ne fs)) L))

    module _ (w : Writer) where
      pub form_fits : Fits w Word → Takes w.length w (form_at code span s d t)
      form_fits l = omega (arith, ap length form_word, fill_short w.length (form_at code span s d t))

      module _ {w' : Writer} (e : w' ≡ filled_by w.length w (form_at code span s d t)) where
        pub form_some : (w'.length ≡ w.length → ⊥) → w' ≡ filled w Word
        form_some z = e ∙ ap (filled w) (sym (form_word ∙ fill_word w.length (form_at code span s d t) (λ q. z (ap (λ x. x.length) e ∙ omega (arith, q)))))

        -- "With no factor at all the word is 1.": the writer is still as it was
        pub form_none : w'.length ≡ w.length → (Word ≡ 1 ∷ []) × (w' ≡ w)
        form_none z =
            let p : w'.length ≡ w.length + length (fill w.length w.length (form_at code span s d t)) = ap (λ x. x.length) e in
            let q : length (fill w.length w.length (form_at code span s d t)) ≡ 0 = omega arith in (
              form_word ∙ fill_none w.length (form_at code span s d t) q,
              e ∙ ap (filled w) (no_bytes (fill w.length w.length (form_at code span s d t)) q) ∙ filled_nil w,
            )
