-- What the pair question runs: a pair is selected exactly when the nodes on the ways from s and d up to the top are laid consistently,
-- each on the parent of the place of the node below it, and each of their bits is set ("query node u with all below it can be laid with u
-- on v, marks ignored"). The nodes off the ways need no further look: the bits speak of them.
use mathlib.Core.Path.{◌≡◌, refl, sym, subst}
use mathlib.Core.Logic.{◌↔◌}
use mathlib.Core.Bool.{Bool, true, false, ◌||◌}
use mathlib.Core.Option.{Option, none, some}
use Prim.Native.Nat.{ℕ}
use Rattle.meaning.specs.Document.{Doc, In}
use Rattle.meaning.specs.Tree.{Forest, bare, tree, Tag, Under, Lays, MarkOn, OnPair, Takes}
use Rattle.meaning.specs.Normal.{holds, src_in, dst_in, either_in}
use Rattle.meaning.specs.Matching.{OnLabel}
use Rattle.theory.proofs.Look.{never}

-- what is asked only where b is true
abbrev pub OnlyIf : Bool → Type 0 → Type 0
OnlyIf true P = P
OnlyIf false P = Unit {0}

-- the trees of the forest that hold s or d are laid below v: the node on w with its bit set, s on m, d on n, and so on down the way
abbrev pub Ways : Doc → ℕ → ℕ → Forest Tag → Option ℕ → Type 0
Ways D m n bare v = Unit {0}
Ways D m n (tree b j r) v =
    OnlyIf (either_in b j) ((w : ℕ) × Under D v w × OnPair D m n b w × Lays D (OnLabel D) j (some w) × Ways D m n j (some w)) × Ways D m n r v

or_false : (a b : Bool) → (a || b) ≡ false → (a ≡ false) × (b ≡ false)
or_false false false e = (refl, refl)
or_false false true e = never cc
or_false true b e = never cc

mark_off : (b : Bool) (w m : ℕ) → b ≡ false → MarkOn b w m
mark_off b w m e = subst (λ z. MarkOn z w m) (sym e) tt

module _ (D : Doc) (m n : ℕ) where
  -- no way leads through a tree, or a forest, without marks
  off_way : (b : Tag) (j : Forest Tag) → either_in b j ≡ false
      → (b.src ≡ false) × (b.dst ≡ false) × (holds (λ t. t.src) j ≡ false) × (holds (λ t. t.dst) j ≡ false)
  off_way b j e =
      let w = or_false (src_in b j) (dst_in b j) e in
      let s = or_false b.src (holds (λ t. t.src) j) w.0 in
      let d = or_false b.dst (holds (λ t. t.dst) j) w.1 in
      (s.0, d.0, s.1, d.1)

  no_ways : (f : Forest Tag) (v : Option ℕ) → holds (λ t. t.src) f ≡ false → holds (λ t. t.dst) f ≡ false → Ways D m n f v
  no_ways bare v p q = tt
  no_ways (tree b j r) v p q =
      let s = or_false b.src (holds (λ t. t.src) j || holds (λ t. t.src) r) p in
      let d = or_false b.dst (holds (λ t. t.dst) j || holds (λ t. t.dst) r) q in
      let sj = or_false (holds (λ t. t.src) j) (holds (λ t. t.src) r) s.1 in
      let dj = or_false (holds (λ t. t.dst) j) (holds (λ t. t.dst) r) d.1 in
      (rw (s.0, sj.0, d.0, dj.0) tt, no_ways r v sj.1 dj.1)

  -- to be laid with the marks is to be laid without them, and along the ways with them
  pub lays_ways : (f : Forest Tag) (v : Option ℕ) → Lays D (OnPair D m n) f v ↔ (Lays D (OnLabel D) f v × Ways D m n f v)
  lays_ways bare v = (λ _. (tt, tt), λ _. tt)
  lays_ways (tree b j r) v =
      (λ l. down (either_in b j) (λ w. lays_ways j (some w)) (lays_ways r v) l, λ (l, x). up (either_in b j) refl (λ w. lays_ways j (some w)) (lays_ways r v) l x)
    where
      Here : Type 0
      Here = (w : ℕ) × Under D v w × OnPair D m n b w × Lays D (OnLabel D) j (some w) × Ways D m n j (some w)

      Kids : Type 0
      Kids = (w : ℕ) → Lays D (OnPair D m n) j (some w) ↔ (Lays D (OnLabel D) j (some w) × Ways D m n j (some w))

      Rest : Type 0
      Rest = Lays D (OnPair D m n) r v ↔ (Lays D (OnLabel D) r v × Ways D m n r v)

      down : (e : Bool) → Kids → Rest → Lays D (OnPair D m n) (tree b j r) v → Lays D (OnLabel D) (tree b j r) v × (OnlyIf e Here × Ways D m n r v)
      down e kids rest ((w, un, on, lj), lr) =
          (((w, un, on.0, k.0), (rest.0 lr).0), (only e, (rest.0 lr).1))
        where
          k : Lays D (OnLabel D) j (some w) × Ways D m n j (some w)
          k = (kids w).0 lj

          only : (e : Bool) → OnlyIf e Here
          only true = (w, un, on, k.0, k.1)
          only false = tt

      up : (e : Bool) → either_in b j ≡ e → Kids → Rest → Lays D (OnLabel D) (tree b j r) v → OnlyIf e Here × Ways D m n r v
          → Lays D (OnPair D m n) (tree b j r) v
      up true q kids rest (l, lr) ((w, un, on, lj, wj), wr) = ((w, un, on, (kids w).1 (lj, wj)), rest.1 (lr, wr))
      up false q kids rest ((w, un, on, lj), lr) (_, wr) =
          let o = off_way b j q in
          ((w, un, (on, mark_off b.src w m o.0, mark_off b.dst w n o.1), (kids w).1 (lj, no_ways j (some w) o.2 o.3)), rest.1 (lr, wr))

  -- "selected exactly when the nodes on the ways .. are laid consistently .. and each of their bits is set", for a tree that holds a mark
  pub takes_ways : (a : Tag) (k : Forest Tag) → either_in a k ≡ true → Takes (tree a k bare) D m n ↔ Ways D m n (tree a k bare) none
  takes_ways a k e = (λ t. ((lays_ways (tree a k bare) none).0 t).1, λ w. (lays_ways (tree a k bare) none).1 (bit (either_in a k) e w.0, w))
    where
      bit : (e : Bool) → e ≡ true → OnlyIf e ((w : ℕ) × In D w × OnPair D m n a w × Lays D (OnLabel D) k (some w) × Ways D m n k (some w))
          → Lays D (OnLabel D) (tree a k bare) none
      bit true q (w, i, on, l, ws) = ((w, i, on.0, l), tt)
      bit false q x = never cc
