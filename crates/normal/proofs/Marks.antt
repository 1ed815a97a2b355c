-- One row is s and one is d: the tree that the rows are, told by these two row numbers.
use mathlib.Core.Path.{◌≡◌, refl}
use mathlib.Core.List.{List}
use Prim.Native.Nat.{ℕ, suc, ◌+◌, ◌<◌}
use native.Mathlib.Omega.{arith}
use Rattle.meaning.specs.Tree.{Forest, bare, tree, Tag, size}
use Rattle.theory.proofs.Count.{src, dst}
use Rattle.rows.specs.Rows.{tag_at, Borne, FirstRow, Single, shape, map_t, tree_rows, Holds}
use Rattle.rows.proofs.Rows.{size_holds}
use Rattle.rows.proofs.Marks.{single_row, single_borne, single_first}
use Rattle.branches.specs.Factors.{tagged}
use Rattle.ways.specs.Ways.{Pair}
use Rattle.normal.specs.Forms.{QueryRows}

map_t_same : (f g : ℕ → Tag) (span : List ℕ) (u e : ℕ) (F : Forest ℕ) → Holds span u e F → ((i : ℕ) → i < e → f i ≡ g i) → map_t f F ≡ map_t g F
unfolding map_t
map_t_same f g span u e bare h s = refl
map_t_same f g span u e (tree i k r) h s =
    let w = size_holds span u e (tree i k r) h in
    let v = size_holds span (suc i + size k) e r h.3 in
    rw (
      s i (omega (arith, h.0)),
      map_t_same f g span (suc i) (suc i + size k) k h.2 (λ j l. s j (omega arith)),
      map_t_same f g span
          (suc i + size k) e r h.3 s,
    )

module _ {code mark kids span up : List ℕ} {n : ℕ} (Q : QueryRows code mark kids span up n) (ne : n ≡ 0 → ⊥) where
  some : 0 < n
  some = omega arith

  src_row : Single (λ u. (tag_at code mark u).src) n
  src_row = single_row src code mark span n Q.rows.laid (Q.one_src some)

  dst_row : Single (λ u. (tag_at code mark u).dst) n
  dst_row = single_row dst code mark span n Q.rows.laid (Q.one_dst some)

  -- some row is s, some row is d
  pub borne_src : Borne mark 0
  borne_src = single_borne mark 0 src_row Q.rows.few

  pub borne_dst : Borne mark 1
  borne_dst = single_borne mark 1 dst_row Q.rows.few

  pub src_in_lem : {s : ℕ} → FirstRow mark 0 s → s < n
  src_in_lem f = omega (arith, single_first mark 0 src_row f, src_row.inside)

  dst_in_lem : {d : ℕ} → FirstRow mark 1 d → d < n
  dst_in_lem f = omega (arith, single_first mark 1 dst_row f, dst_row.inside)

  pub pair_rows : {s d : ℕ} → FirstRow mark 0 s → FirstRow mark 1 d → Pair span up s d
  pair_rows fs fd = record { code = code; mark = mark; kids = kids; n = n; rows = Q.rows; s_in = src_in_lem fs; d_in = dst_in_lem fd }

  -- the tree by the rows of s and d
  pub tagged_rows : {s d : ℕ} → FirstRow mark 0 s → FirstRow mark 1 d → tree_rows code mark span n ≡ map_t (tagged code s d) (shape span n)
  unfolding tree_rows
  tagged_rows {s} {d} fs fd =
      map_t_same (tag_at code mark) (tagged code s d) span 0 n (shape span n) Q.rows.laid
      (λ u l. rw (single_first mark 0 src_row fs, single_first mark 1 dst_row fd, src_row.is u l, dst_row.is u l))
