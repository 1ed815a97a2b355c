-- The image of rows in image order is their listing. "Then the top's record: label code .., mark .., number of children, then the children's
-- records in ascending byte order": where the brothers stand in that order, the records are one pass over the nodes in image order.
use mathlib.Core.Path.{◌≡◌, refl, sym, ap, ◌∙◌}
use mathlib.Core.List.{List, [], ◌∷◌, ◌++◌, map, append_assoc}
use Prim.Native.Nat.{ℕ, zero, suc, ◌+◌, ◌<◌, ◌≤◌}
use native.Mathlib.Omega.{arith}
use lib.ListN.{length, get_or}
use Rattle.meaning.specs.Tree.{Forest, bare, tree, Tag, size, preorder}
use Rattle.meaning.specs.Image.{lab_code, mark_code, flat, records, image, ordered}
use Rattle.theory.proofs.Records.{Sorted, sorted_ordered, image_ordered}
use Rattle.rows.specs.Rows.{tag_at, shape, map_t, tree_rows, Holds, width, Counted, Rows}
use Rattle.rows.proofs.Rows.{lab_code_lem, mark_code_lem, size_map_t, width_map_t, size_holds}
use Rattle.image.specs.Listing.{head, rows_from, listing}

-- ------------------------------------------------------------------ records in image order
-- the head of a node's record
abbrev entry : Tag × Forest Tag → List ℕ
entry (a, k) = head (lab_code a.lab) (mark_code a.src a.dst) (width k)

flat_append : (f : Tag × Forest Tag → List ℕ) (xs ys : List (Tag × Forest Tag)) → flat (map f (xs ++ ys)) ≡ flat (map f xs) ++ flat (map f ys)
flat_append f [] ys = refl
flat_append f (x ∷ xs) ys = rw (flat_append f xs ys, append_assoc)

length_records : (f : Forest Tag) → Sorted f → length (records f) ≡ width f
length_records bare s = refl
length_records (tree a k r) (e, sk, sr) = ap length e ∙ ap suc (length_records r sr)

-- where the brothers are in ascending byte order, the records are the heads of the nodes in image order
flat_records : (f : Forest Tag) → Sorted f → flat (records f) ≡ flat (map entry (preorder f))
unfolding head
flat_records bare s = refl
flat_records (tree a k r) (e, sk, sr) =
    ap flat e ∙ rw (length_records k sk, flat_records k sk, flat_records r sr, flat_append entry (preorder k) (preorder r)) (simp append_assoc)

-- ------------------------------------------------------------------ rows
module _ (code mark kids : List ℕ) where
  rows_append : (j k u : ℕ) → rows_from code mark kids (j + k) u ≡ rows_from code mark kids j u ++ rows_from code mark kids k (u + j)
  unfolding rows_from
  rows_append zero k u = let y : 0 + k ≡ k = omega arith in let z : u + 0 ≡ u = omega arith in rw (y, z)
  rows_append (suc j) k u =
      let y : suc j + k ≡ suc (j + k) = omega arith in
      let z : u + suc j ≡ suc u + j = omega arith in
      rw (y, z, rows_append j k (suc u), append_assoc)

  row_entry : (u : ℕ) (k : Forest ℕ) → get_or mark u 0 ≤ 3 → get_or kids u 0 ≡ width k
      → entry (tag_at code mark u, map_t (tag_at code mark) k) ≡ head (get_or code u 0) (get_or mark u 0) (get_or kids u 0)
  row_entry u k l e = rw (lab_code_lem (get_or code u 0), mark_code_lem (get_or mark u 0) l, width_map_t (tag_at code mark) k, e)

  -- rows that are laid out as a forest list its nodes
  rows_listed : (span : List ℕ) (n u e : ℕ) (F : Forest ℕ) → ((v : ℕ) → v < n → get_or mark v 0 ≤ 3) → e ≤ n
      → Holds span u e F → Counted kids F → flat (map entry (preorder (map_t (tag_at code mark) F))) ≡ rows_from code mark kids (size F) u
  unfolding rows_from map_t
  rows_listed span n u e bare m l h c = refl
  rows_listed span n u e (tree i k r) m l (a, b, hk, hr) (c, ck, cr) =
      let s = size_holds span (suc i + size k) e r hr in
      let K = map_t (tag_at code mark) k in
      let R = map_t (tag_at code mark) r in
      rw (
        flat_append entry (preorder K) (preorder R),
        rows_listed span n (suc i) (suc i + size k) k m (omega arith) hk ck,
        rows_listed span n (suc i + size k) e r m l hr cr,
        row_entry i k (m i (omega arith)) c,
        rows_append (size k) (size r) (suc u),
        a,
      )

-- ------------------------------------------------------------------ the image
module _ (code mark kids span up : List ℕ) (n : ℕ) (R : Rows code mark kids span up n) where
  listing_image : Sorted (tree_rows code mark span n) → listing code mark kids n ≡ image (tree_rows code mark span n)
  unfolding listing tree_rows
  listing_image s =
      let z : size (shape span n) ≡ n = omega (arith, size_holds span 0 n (shape span n) R.laid) in
      sym (rw (
        flat_records (tree_rows code mark span n) s,
        rows_listed code mark kids span n 0 n (shape span n) R.marked (omega arith) R.laid R.counted,
        size_map_t (tag_at code mark) (shape span n),
        z,
      ))

  -- rows that are a tree in image order list the tree's image, in whatever order its brothers stood before
  pub image_rows : (F : Forest Tag) → tree_rows code mark span n ≡ ordered F → listing code mark kids n ≡ image F
  image_rows F e = listing_image (rw e (sorted_ordered F)) ∙ ap image e ∙ image_ordered F
