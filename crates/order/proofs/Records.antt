-- Putting brothers in order by their keys is putting them in order by their records: the forest in image order.
use mathlib.Core.Path.{◌≡◌, refl, sym, ap, ◌∙◌}
use mathlib.Core.List.{List, [], ◌++◌, append_assoc, append-nil}
use mathlib.Core.Bool.{Bool, true, false, cond}
use Prim.Native.Nat.{ℕ, suc, ◌<◌}
use native.Mathlib.Omega.{arith}
use lib.ListN.{length, get_or}
use Rattle.std.specs.Ordering.{ordering_then, is_le, nat_cmp}
use Rattle.std.specs.declared.cmp.Ordering.{Ordering}
use Rattle.std.specs.declared.cmp.Ordering.TheVariants.{Less, Equal, Greater}
use Rattle.meaning.specs.Basics.{pick}
use Rattle.meaning.specs.Tree.{Forest, bare, tree, Tag}
use Rattle.meaning.specs.Number.{num}
use Rattle.meaning.specs.Image.{dec_l, lab_code, mark_code, flat, record_of, records, place, ordered}
use Rattle.theory.proofs.Records.{Sorted, sorted_ordered}
use Rattle.rows.specs.Rows.{map_t, width}
use Rattle.rows.proofs.Rows.{width_map_t}
use Rattle.order.specs.Links.{cmp_f, cmp_t, place_by, ordered_by}
use Rattle.order.specs.Keys.{key_of}
use Rattle.order.proofs.Comparing.{then_assoc, Three, three, lower, equal, upper, cmp_l, pick_cmp}
use Rattle.order.proofs.Keys.{head_cmp, key_back}
use Rattle.order.proofs.Inserting.{Each, each_ordered_by, width_ordered_by}

-- row i, which has w children, has the key of its tag, and its numbers can be written in three bytes
pub record Keyed (key : List ℕ) (tag : ℕ → Tag) (i w : ℕ) : Type 0 where
  pub is : get_or key i 0 ≡ key_of (lab_code (tag i).lab) (mark_code (tag i).src (tag i).dst) w
  pub low : lab_code (tag i).lab < 2097152
  pub few : w < 2097152

mark_lt : (s d : Bool) → mark_code s d < 128
mark_lt false false = omega arith
mark_lt true false = omega arith
mark_lt false true = omega arith
mark_lt true true = omega arith

-- ------------------------------------------------------------------ records in the order in which the trees stand
abbrev in_turn : Forest Tag → List ℕ
in_turn bare = []
in_turn (tree a k r) = (num (lab_code a.lab) ++ (num (mark_code a.src a.dst) ++ (num (width k) ++ in_turn k))) ++ in_turn r

abbrev record_turn : Tag → Forest Tag → List ℕ
record_turn a k = num (lab_code a.lab) ++ (num (mark_code a.src a.dst) ++ (num (width k) ++ in_turn k))

-- in image order they are the records
sorted_records : (f : Forest Tag) → Sorted f → (flat (records f) ≡ in_turn f) × (length (records f) ≡ width f)
sorted_records bare s = (refl, refl)
sorted_records (tree a k r) (e, sk, sr) =
    let hk = sorted_records k sk in let hr = sorted_records r sr in
    (ap flat e ∙ rw (hk.1, hk.0, hr.0), ap length e ∙ ap suc hr.1)

record_turn_lem : (a : Tag) (k : Forest Tag) → Sorted k → record_of a (records k) ≡ record_turn a k
record_turn_lem a k s = let h = sorted_records k s in rw (h.1, h.0)

-- ------------------------------------------------------------------ comparing by keys
module _ (key : List ℕ) (tag : ℕ → Tag) where
  abbrev W : Forest ℕ → List ℕ
  W F = in_turn (map_t tag F)

  -- two records with what follows them
  record_cmp : (i j : ℕ) (k l : Forest ℕ) (x y : List ℕ) → Keyed key tag i (width k) → Keyed key tag j (width l)
      → (width k ≡ width l → cmp_l (W k ++ x) (W l ++ y) ≡ ordering_then (cmp_f key k l) (cmp_l x y))
      → cmp_l (record_turn (tag i) (map_t tag k) ++ x) (record_turn (tag j) (map_t tag l) ++ y) ≡ ordering_then (cmp_t key i k j l) (cmp_l x y)
  record_cmp i j k l x y a b ih =
      rw (width_map_t tag k, width_map_t tag l) (simp append_assoc
      (head_cmp (lc i) (mc i) (width k) (lc j) (mc j) (width l) a.low (ml i) a.few b.low (ml j) b.few (W k ++ x) (W l ++ y) ∙ go (three K L)))
    where
      lc : ℕ → ℕ
      lc u = lab_code (tag u).lab

      mc : ℕ → ℕ
      mc u = mark_code (tag u).src (tag u).dst

      ml : (u : ℕ) → mc u < 128
      ml u = mark_lt (tag u).src (tag u).dst

      K : ℕ
      K = key_of (lc i) (mc i) (width k)

      L : ℕ
      L = key_of (lc j) (mc j) (width l)

      go : Three K L → ordering_then (nat_cmp K L) (cmp_l (W k ++ x) (W l ++ y)) ≡ ordering_then (cmp_t key i k j l) (cmp_l x y)
      go (lower h e) = rw (a.is, b.is, e)
      go (upper h e) = rw (a.is, b.is, e)
      go (equal h e) = rw (a.is, b.is, e) (ih (key_back (lc i) (mc i) (width k) (lc j) (mc j) (width l) a.low (ml i) a.few b.low (ml j) b.few h))

  -- two lists of equally many brothers with what follows them
  forest_cmp : (F G : Forest ℕ) (x y : List ℕ) → Each (Keyed key tag) F → Each (Keyed key tag) G → width F ≡ width G
      → cmp_l (W F ++ x) (W G ++ y) ≡ ordering_then (cmp_f key F G) (cmp_l x y)
  unfolding map_t cmp_f
  forest_cmp bare bare x y kf kg e = refl
  forest_cmp bare (tree j l s) x y kf kg e = absurd (omega arith)
  forest_cmp (tree i k r) bare x y kf kg e = absurd (omega arith)
  forest_cmp (tree i k r) (tree j l s) x y (ki, kk, kr) (kj, kl, ks) e =
      rw (append_assoc (record_turn (tag i) (map_t tag k)) (W r) x, append_assoc (record_turn (tag j) (map_t tag l)) (W s) y)
      (record_cmp i j k l (W r ++ x) (W s ++ y) ki kj (λ q. forest_cmp k l (W r ++ x) (W s ++ y) kk kl q)
      ∙ rw (forest_cmp r s x y kr ks (omega arith)) (simp then_assoc))

  -- which of two brothers in image order goes first
  first_cmp : {A : Type 0} (i j : ℕ) (k l : Forest ℕ) (a b : A) → Each (Keyed key tag) (tree i k bare) → Each (Keyed key tag) (tree j l bare)
      → Sorted (map_t tag k) → Sorted (map_t tag l)
      → pick (dec_l (record_of (tag i) (records (map_t tag k))) (record_of (tag j) (records (map_t tag l)))) a b ≡ cond (is_le (cmp_t key i k j l)) a b
  first_cmp i j k l a b (ki, kk, ki') (kj, kl, kj') sk sl =
      pick_cmp (record_of (tag i) (records (map_t tag k))) (record_of (tag j) (records (map_t tag l))) a b
      ∙ ap (λ (o : Ordering). cond (is_le o) a b)
      ((λ v. cmp_l (record_turn_lem (tag i) (map_t tag k) sk v) (record_turn_lem (tag j) (map_t tag l) sl v))
      ∙ sym (λ v. cmp_l (append-nil (record_turn (tag i) (map_t tag k)) v) (append-nil (record_turn (tag j) (map_t tag l)) v))
      ∙ record_cmp i j k l [] [] ki kj (λ q. forest_cmp k l [] [] kk kl q) ∙ done (cmp_t key i k j l))
    where
      done : (o : Ordering) → ordering_then o (cmp_l [] []) ≡ o
      done Less = refl
      done Greater = refl
      done Equal = unfold cmp_l in refl

  place_by_lem : (i : ℕ) (k R : Forest ℕ) → Each (Keyed key tag) (tree i k R) → Sorted (map_t tag k) → Sorted (map_t tag R)
      → map_t tag (place_by key i k R) ≡ place (tag i) (map_t tag k) (map_t tag R)
  unfolding place_by map_t
  place_by_lem i k bare h sk sr = refl
  place_by_lem i k (tree j l r) (ki, kk, (kj, kl, kr)) sk (e, sl, sr) =
      go (is_le (cmp_t key i k j l)) (place_by_lem i k r (ki, kk, kr) sk sr)
      ∙ sym (first_cmp i j k l (tree (tag i) (map_t tag k) (tree (tag j) (map_t tag l) (map_t tag r))) (tree (tag j) (map_t tag l) (place (tag i) (map_t tag k) (map_t tag r)))
      (ki, kk, tt) (kj, kl, tt) sk sl)
    where
      go : (t : Bool) → map_t tag (place_by key i k r) ≡ place (tag i) (map_t tag k) (map_t tag r) → map_t tag (cond t (tree i k (tree j l r)) (tree j l (place_by key i k r)))
          ≡ cond t (tree (tag i) (map_t tag k) (tree (tag j) (map_t tag l) (map_t tag r))) (tree (tag j) (map_t tag l) (place (tag i) (map_t tag k) (map_t tag r)))
      go true ih = refl
      go false ih = ap (tree (tag j) (map_t tag l)) ih

  -- in order by keys is in image order
  pub ordered_by_lem : (F : Forest ℕ) → Each (Keyed key tag) F → map_t tag (ordered_by key F) ≡ ordered (map_t tag F)
  unfolding ordered_by map_t
  ordered_by_lem bare h = refl
  ordered_by_lem (tree i k r) (ki, kk, kr) =
      let ek = ordered_by_lem k kk in let er = ordered_by_lem r kr in
      place_by_lem i (ordered_by key k) (ordered_by key r) (rw (width_ordered_by key k) ki, each_ordered_by key (Keyed key tag) k kk, each_ordered_by key (Keyed key tag) r kr)
      (rw ek (sorted_ordered (map_t tag k))) (rw er (sorted_ordered (map_t tag r)))
      ∙ rw (ek, er)
