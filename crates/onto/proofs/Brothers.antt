-- A loop over brothers: what it has shown of every brother before the row that comes next holds of all brothers at the end.
use mathlib.Core.Path.{◌≡◌, sym, subst, ◌∙◌}
use mathlib.Core.Logic.{◌⊎◌, inl, inr, ⊎_elim}
use mathlib.Core.List.{List}
use Prim.Native.Nat.{ℕ, suc, ◌+◌, ◌≤◌, ◌<◌}
use native.Mathlib.Omega.{arith}
use native.Mathlib.Decide.{ℕ_discrete, dec_lt}
use lib.ListN.{get_or}
use Rattle.std.proofs.Common.{Some}
use Rattle.meaning.specs.Tree.{Forest, bare, tree, size}
use Rattle.rows.specs.Rows.{below, Holds}
use Rattle.rows.specs.Brothers.{GivesBrother}
use Rattle.rows.specs.declared.brothers.Brothers.{Brothers}
use Rattle.rows.proofs.Rows.{size_holds, Opens, holds_opens}
use Rattle.onto.specs.Left.{Brother}

module _ (span : List ℕ) where
  pub brother_range : (u e : ℕ) (F : Forest ℕ) → Holds span u e F → (j : ℕ) → Brother j F → (u ≤ j) × (j < e)
  brother_range u e bare h j t = absurd t
  brother_range u e (tree i k r) h j (inl q) = let s = size_holds span u e (tree i k r) h in (omega (arith, h.0), omega (arith, h.0))
  brother_range u e (tree i k r) h j (inr t) = let z = brother_range (suc i + size k) e r h.3 j t in (omega (arith, h.0), z.1)

  pub brother_opens : (u e : ℕ) (F : Forest ℕ) → Holds span u e F → (j : ℕ) → Brother j F → Opens span j e
  brother_opens u e F h j t = let z = brother_range u e F h j t in holds_opens span u e F h j z.0 z.1

  -- where brothers begin, there is the first of them, or they end
  brother_first : (u e : ℕ) (F : Forest ℕ) → Holds span u e F → (u ≡ e) ⊎ Brother u F
  brother_first u e bare h = inl h
  brother_first u e (tree i k r) h = inr (inl h.0)

  -- behind brother a and all below it there is a later one, or they end, and none stands between
  brother_next : (u e : ℕ) (F : Forest ℕ) → Holds span u e F → (a : ℕ) → Brother a F
      → ((a + get_or span a 0 ≡ e) ⊎ Brother (a + get_or span a 0) F) × ((x : ℕ) → Brother x F → x < a + get_or span a 0 → (x < a) ⊎ (x ≡ a))
  brother_next u e bare h a t = absurd t
  brother_next u e (tree i k r) h a (inl q) =
      let z : a + get_or span a 0 ≡ suc i + size k = rw q (omega (arith, h.1)) in
      subst (λ (y : ℕ). ((y ≡ e) ⊎ Brother y (tree i k r)) × ((x : ℕ) → Brother x (tree i k r) → x < y → (x < a) ⊎ (x ≡ a))) (sym z) (
        ⊎_elim inl (λ t. inr (inr t)) (brother_first _ e r h.3),
        λ x. ⊎_elim (λ w l. inr (w ∙ sym q)) (λ t l. absurd (omega (arith, brother_range (suc i + size k) e r h.3 x t))),
      )
  brother_next u e (tree i k r) h a (inr t) =
      let w = brother_next (suc i + size k) e r h.3 a t in
      let m = (brother_range (suc i + size k) e r h.3 a t).0 in
      (⊎_elim inl (λ s. inr (inr s)) w.0, λ x. ⊎_elim (λ q l. inl (omega arith)) (w.1 x))

  -- no brother lies below a row that comes behind where they begin
  pub brother_apart : (u e : ℕ) (F : Forest ℕ) → Holds span u e F → (j : ℕ) → Brother j F → (x : ℕ) → u ≤ x → x < j → ¬ (j < x + get_or span x 0)
  brother_apart u e bare h j t x a b c = absurd t
  brother_apart u e (tree i k r) h j (inl q) x a b c = omega (arith, h.0)
  brother_apart u e (tree i k r) h j (inr t) x a b c =
      go (ℕ_discrete x i) (dec_lt x (suc i + size k)) (λ l. brother_apart (suc i + size k) e r h.3 j t x l b c)
    where
      far : suc i + size k ≤ j
      far = (brother_range (suc i + size k) e r h.3 j t).0

      go : Dec (x ≡ i) → Dec (x < suc i + size k) → (suc i + size k ≤ x → ⊥) → ⊥
      go (yes z) d f = let w : get_or span x 0 ≡ suc (size k) = rw z h.1 in omega (arith, far)
      go (no z) (yes d) f = omega (arith, far, h.0, (holds_opens span (suc i) (suc i + size k) k h.2 x (omega (arith, h.0)) d).inside)
      go (no z) (no d) f = f (omega arith)

-- ------------------------------------------------------------------ a loop over the children of row p
-- the iterator has come to a row, and P holds of each child before it
pub record Over (span : List ℕ) (p : ℕ) (P : ℕ → Type 0) (b : Brothers) : Type 0 where
  pub same : b.span.now ≡ span
  pub ends : b.end ≡ p + get_or span p 0
  pub held : Holds span (suc p) b.end (below span p)
  pub here : (b.next ≡ b.end) ⊎ Brother b.next (below span p)
  pub shown : (x : ℕ) → Brother x (below span p) → x < b.next → P x

pub over_start : {span : List ℕ} {p : ℕ} {P : ℕ → Type 0} {b : Brothers} → Holds span (suc p) (p + get_or span p 0) (below span p)
    → (b.next ≡ p + 1) × (b.end ≡ p + get_or span p 0) × (b.span.now ≡ span) → Over span p P b
over_start {span} {p} {b = b} h q =
    let n : b.next ≡ suc p = omega (arith, q.0) in
    record {
      same = q.2;
      ends = q.1;
      held = rw q.1 h;
      here = rw (n, q.1) (brother_first span _ _ (below span p) h);
      shown = λ x t l. absurd (omega (arith, n, brother_range span _ _ (below span p) h x t));
    }

module _ {span : List ℕ} {p : ℕ} {P : ℕ → Type 0} {b : Brothers} (O : Over span p P b) where
  pub over_all : b.end ≤ b.next → (x : ℕ) → Brother x (below span p) → P x
  over_all l x t = O.shown x t (omega (arith, brother_range span _ _ (below span p) O.held x t))

  module _ {c : ℕ} (b' : Brothers) (G : GivesBrother b (Some c) b') where
    -- the row that is given is the next child
    pub over_child : Brother c (below span p) × Opens span c b.end
    over_child =
        let t : Brother c (below span p) = rw G.0 (⊎_elim (λ q. absurd (omega (arith, G.1))) (λ t. t) O.here) in
        (t, brother_opens span _ _ (below span p) O.held c t)

    over_past : b'.next ≡ c + get_or span c 0
    over_past = rw O.same at G.3

    pub over_passes : c < b'.next
    over_passes = omega (arith, over_past, over_child.1.some)

    -- of the children before the one that is next then, it is the last
    pub over_split : (x : ℕ) → Brother x (below span p) → x < b'.next → (x < c) ⊎ (x ≡ c)
    over_split = rw over_past (brother_next span _ _ (below span p) O.held c over_child.0).1

    pub over_next : P c → Over span p P b'
    over_next z =
        record {
          same = rw G.2 O.same;
          ends = G.4 ∙ O.ends;
          held = rw G.4 O.held;
          here = rw (over_past, G.4) (brother_next span _ _ (below span p) O.held c over_child.0).0;
          shown = λ x t m. ⊎_elim (λ w. O.shown x t (rw G.0 at w)) (λ w. rw w z) (over_split x t m);
        }
