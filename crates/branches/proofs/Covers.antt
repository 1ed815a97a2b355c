-- Where a mark stands, told by row numbers: row x lies at or below row c exactly when c ≤ x < c + span c.
use mathlib.Core.Path.{◌≡◌, refl, ap, ◌∙◌}
use mathlib.Core.Bool.{Bool, true, false, ◌&&◌, ◌||◌, and-false}
use mathlib.Core.List.{List}
use Prim.Native.Nat.{ℕ, suc, ◌+◌, ◌≤◌, ◌<◌}
use native.Mathlib.Decide.{ℕ_discrete, dec_lt}
use native.Mathlib.Omega.{arith}
use lib.ListN.{get_or}
use lib.Dec.{leb, ltb, eqb}
use borrow.Author.Tests.{lt-ltb, le-ltb, le-leb, lt-leb, eq-eqb, ne_eqb}
use Rattle.meaning.specs.Tree.{Forest, bare, tree, Tag, size}
use Rattle.meaning.specs.Normal.{holds, in_tree, both_in, either_in}
use Rattle.rows.specs.Rows.{covers, below, map_t, Holds}
use Rattle.rows.proofs.Rows.{size_holds, Opens}
use Rattle.branches.specs.Factors.{tagged, under}

-- row x is among the rows from u up to e
abbrev between : ℕ → ℕ → ℕ → Bool
between u e x = leb u x && ltb x e

between_in : (u e x : ℕ) → u ≤ x → x < e → between u e x ≡ true
between_in u e x l m = rw (le-leb u x l, lt-ltb x e m)

between_before : (u e x : ℕ) → x < u → between u e x ≡ false
between_before u e x l = rw (lt-leb u x l)

between_behind : (u e x : ℕ) → e ≤ x → between u e x ≡ false
between_behind u e x l = rw (le-ltb x e l) (and-false (leb u x))

-- row i, the rows behind it up to m, and the rows from m up to e
between_parts : (i m e x : ℕ) → i < m → m ≤ e → (eqb i x || (between (suc i) m x || between m e x)) ≡ between i e x
between_parts i m e x l le = go (ℕ_discrete i x) (dec_lt x i) (dec_lt x m) (dec_lt x e)
  where
    go : Dec (i ≡ x) → Dec (x < i) → Dec (x < m) → Dec (x < e) → (eqb i x || (between (suc i) m x || between m e x)) ≡ between i e x
    go (yes q) a b c = rw (eq-eqb i x q, between_in i e x (omega arith) (omega arith))
    go (no q) (yes a) b c =
        rw (ne_eqb i x q, between_before (suc i) m x (omega arith), between_before m e x (omega arith), between_before i e x a)
    go (no q) (no a) (yes b) c = rw (ne_eqb i x q, between_in (suc i) m x (omega arith) b, between_in i e x (omega arith) (omega arith))
    go (no q) (no a) (no b) (yes c) =
        rw (ne_eqb i x q, between_behind (suc i) m x (omega arith), between_in m e x (omega arith) c, between_in i e x (omega arith) c)
    go (no q) (no a) (no b) (no c) =
        rw (ne_eqb i x q, between_behind (suc i) m x (omega arith), between_behind m e x (omega arith), between_behind i e x (omega arith))

-- the one row that is so is row x
module _ (q : Tag → Bool) (f : ℕ → Tag) (x : ℕ) (only : (i : ℕ) → q (f i) ≡ eqb i x) (span : List ℕ) where
  holds_between : (u e : ℕ) (F : Forest ℕ) → Holds span u e F → holds q (map_t f F) ≡ between u e x
  unfolding map_t
  holds_between u e bare h = go (dec_lt x u)
    where
      go : Dec (x < u) → false ≡ between u e x
      go (yes l) = rw (between_before u e x l)
      go (no l) = rw (between_behind u e x (omega arith))
  holds_between u e (tree i k r) (a, b, c, d) =
      let s = size_holds span (suc i + size k) e r d in
      rw (
        only i,
        holds_between (suc i) (suc i + size k) k c,
        holds_between (suc i + size k) e r d,
        between_parts i (suc i + size k) e x (omega arith) (omega arith),
        a,
      )

  pub in_covers : (c e : ℕ) → Opens span c e → in_tree q (f c) (map_t f (below span c)) ≡ covers span c x
  unfolding covers
  in_covers c e o =
      let s = o.some in
      let m : ℕ = c + get_or span c 0 in
      rw (only c, holds_between (suc c) m (below span c) o.held) (end m (omega arith))
    where
      end : (m : ℕ) → c < m → (eqb c x || between (suc c) m x) ≡ between c m x
      end m l = go (ℕ_discrete c x) (dec_lt x c)
        where
          go : Dec (c ≡ x) → Dec (x < c) → (eqb c x || between (suc c) m x) ≡ between c m x
          go (yes p) a = rw (eq-eqb c x p, between_in c m x (omega arith) (omega arith))
          go (no p) (yes a) = rw (ne_eqb c x p, between_before (suc c) m x (omega arith), between_before c m x a)
          go (no p) (no a) = rw (ne_eqb c x p, le-leb (suc c) x (omega arith), le-leb c x (omega arith))

module _ (code span : List ℕ) (x y c e : ℕ) (o : Opens span c e) where
  pub src_covers : in_tree (λ t. t.src) (tagged code x y c) (under code span x y c) ≡ covers span c x
  unfolding under
  src_covers = in_covers (λ t. t.src) (tagged code x y) x (λ i. refl) span c e o

  pub dst_covers : in_tree (λ t. t.dst) (tagged code x y c) (under code span x y c) ≡ covers span c y
  unfolding under
  dst_covers = in_covers (λ t. t.dst) (tagged code x y) y (λ i. refl) span c e o

  pub either_covers : either_in (tagged code x y c) (under code span x y c) ≡ (covers span c x || covers span c y)
  either_covers = ap (λ (b : Bool). b || in_tree (λ t. t.dst) (tagged code x y c) (under code span x y c)) src_covers
      ∙ ap (λ (b : Bool). covers span c x || b) dst_covers

  pub both_covers : both_in (tagged code x y c) (under code span x y c) ≡ (covers span c x && covers span c y)
  both_covers = ap (λ (b : Bool). b && in_tree (λ t. t.dst) (tagged code x y c) (under code span x y c)) src_covers
      ∙ ap (λ (b : Bool). covers span c x && b) dst_covers

-- a row covers exactly the rows from it on that its span reaches
pub covers_in : (span : List ℕ) (c x : ℕ) → c ≤ x → x < c + get_or span c 0 → covers span c x ≡ true
unfolding covers
covers_in span c x l m = between_in c (c + get_or span c 0) x l m

pub covers_before : (span : List ℕ) (c x : ℕ) → x < c → covers span c x ≡ false
unfolding covers
covers_before span c x l = between_before c (c + get_or span c 0) x l

pub covers_behind : (span : List ℕ) (c x : ℕ) → c + get_or span c 0 ≤ x → covers span c x ≡ false
unfolding covers
covers_behind span c x l = between_behind c (c + get_or span c 0) x l
