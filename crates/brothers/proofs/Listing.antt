-- The children of a row in a list: row after row they are put behind those that are listed, and one that goes has its place taken by the last.
-- Nothing is said of their order, so a list of k rows without one of them is a list of k - 1.
use mathlib.Core.Path.{◌≡◌, sym, ap, ◌∙◌}
use mathlib.Core.Logic.{◌⊎◌, inl, inr, ⊎_elim}
use mathlib.Core.Bool.{true, false}
use mathlib.Core.List.{List}
use Prim.Native.Nat.{ℕ, suc, ◌+◌, ◌≤◌, ◌<◌}
use native.Mathlib.Omega.{arith}
use native.Mathlib.Decide.{ℕ_discrete, dec_lt}
use lib.ListN.{length, get_or, set}
use lib.Seq.{get_or-set_same, get_or-set_other}
use Rattle.meaning.specs.Limits.{most_nodes}
use Rattle.std.proofs.Common.{Some}
use Rattle.rows.specs.Rows.{below, Holds}
use Rattle.rows.specs.Brothers.{GivesBrother}
use Rattle.rows.specs.declared.brothers.Brothers.{Brothers}
use Rattle.onto.specs.Left.{gone_at}
use Rattle.brothers.specs.Brothers.{Child, Lists, Listed}
use Rattle.onto.proofs.Left.{not_both}
use Rattle.onto.proofs.Brothers.{brother_range, Over, over_child, over_passes, over_split}

-- ------------------------------------------------------------------ lists
-- the rows that are P are those that are Q
pub lists_same : {P Q : ℕ → Type 0} {child : List ℕ} {k : ℕ} → Lists P child k → ((x : ℕ) → P x → Q x) → ((x : ℕ) → Q x → P x) → Lists Q child k
lists_same L to from = record { few = L.few; each = λ i l. to _ (L.each i l); all = λ x q. L.all x (from x q); once = L.once }

-- what stands behind the list does not matter
pub lists_store : {P : ℕ → Type 0} {child : List ℕ} {k : ℕ} (c : ℕ) → Lists P child k → Lists P (set child k c) k
lists_store {P} {child} {k} c L =
    record {
      few = L.few;
      each = λ i l. rw (same i l) (L.each i l);
      all = λ x p. let w = L.all x p in (w.0, w.1, same w.0 w.1 ∙ w.2);
      once = λ i j l m e. L.once i j l m (sym (same i l) ∙ e ∙ same j m);
    }
  where
    same : (i : ℕ) → i < k → get_or (set child k c) i 0 ≡ get_or child i 0
    same i l = get_or-set_other child k i c 0 (λ e. omega arith)

-- the row that stands behind the list, c, is listed too
lists_more : {P Q : ℕ → Type 0} {child : List ℕ} {k c : ℕ} → Lists P child k → k < most_nodes → get_or child k 0 ≡ c → ¬ P c → Q c
    → ((x : ℕ) → P x → Q x) → ((x : ℕ) → Q x → P x ⊎ (x ≡ c)) → Lists Q child (k + 1)
lists_more {P} {Q} {child} {k} {c} L l s n here to from =
    record {
      few = omega arith;
      each = λ i m. each i (dec_lt i k) m;
      all = λ x q. all x (from x q);
      once = λ i j m o. once i j (dec_lt i k) (dec_lt j k) m o;
    }
  where
    last : (i : ℕ) → ¬ (i < k) → i < k + 1 → get_or child i 0 ≡ c
    last i m o = let e : i ≡ k = omega arith in rw e s

    each : (i : ℕ) → Dec (i < k) → i < k + 1 → Q (get_or child i 0)
    each i (yes m) o = to _ (L.each i m)
    each i (no m) o = rw (last i m o) here

    all : (x : ℕ) → P x ⊎ (x ≡ c) → (i : ℕ) × (i < k + 1) × (get_or child i 0 ≡ x)
    all x (inl p) = let w = L.all x p in (w.0, omega (arith, w.1), w.2)
    all x (inr e) = (k, omega arith, s ∙ sym e)

    once : (i j : ℕ) → Dec (i < k) → Dec (j < k) → i < k + 1 → j < k + 1 → get_or child i 0 ≡ get_or child j 0 → i ≡ j
    once i j (yes m) (yes o) a b e = L.once i j m o e
    once i j (yes m) (no o) a b e = absurd (n (rw (e ∙ last j o b) at (L.each i m)))
    once i j (no m) (yes o) a b e = absurd (n (rw (sym e ∙ last i m a) at (L.each j o)))
    once i j (no m) (no o) a b e = omega arith

-- ------------------------------------------------------------------ the last takes the i-th place
-- what stands at place j then stood at place b before, which is j or the last, m
abbrev pub Whence : ℕ → ℕ → ℕ → ℕ → Type 0
Whence i m j b = ((b ≡ j) × (¬ (j ≡ i))) ⊎ ((b ≡ m) × (j ≡ i))

pub record Stood (child : List ℕ) (i m j : ℕ) : Type 0 where
  pub place : ℕ
  pub inside : place < m + 1
  pub other : ¬ (place ≡ i)
  pub whence : Whence i m j place
  pub same : get_or (set child i (get_or child m 0)) j 0 ≡ get_or child place 0

pub stood : (child : List ℕ) (i m : ℕ) → i ≤ m → m < length child → (j : ℕ) → j < m → Stood child i m j
stood child i m l n j o = go (ℕ_discrete j i)
  where
    go : Dec (j ≡ i) → Stood child i m j
    go (yes e) = record {
      place = m;
      inside = omega arith;
      other = λ z. omega arith;
      whence = inr (omega arith, e);
      same = rw e (get_or-set_same child i (get_or child m 0) 0 (omega arith));
    }
    go (no d) = record { place = j; inside = omega arith; other = d; whence = inl (omega arith, d); same = get_or-set_other child i j (get_or child m 0) 0 d }

-- the i-th of k rows is taken out, and m are left
pub lists_less : {P Q : ℕ → Type 0} {child : List ℕ} {k m : ℕ} → k ≡ m + 1 → (i : ℕ) → i ≤ m → m < length child → Lists P child k
    → ((x : ℕ) → P x → ¬ (x ≡ get_or child i 0) → Q x) → ((x : ℕ) → Q x → P x × (¬ (x ≡ get_or child i 0)))
    → Lists Q (set child i (get_or child m 0)) m
lists_less {P} {Q} {child} {k} {m} q i l s L to from =
    record {
      few = omega (arith, L.few);
      each = λ j o. each j (at j o);
      all = λ x z. all x (from x z);
      once = λ j h o r e. once j h (at j o) (at h r) o r e;
    }
  where
    at : (j : ℕ) → j < m → Stood child i m j
    at = stood child i m l s

    each : (j : ℕ) → Stood child i m j → Q (get_or (set child i (get_or child m 0)) j 0)
    each j w =
        let a : w.place < k = omega (arith, w.inside) in
        rw w.same (to _ (L.each w.place a) (λ e. w.other (L.once w.place i a (omega arith) e)))

    all : (x : ℕ) → P x × (¬ (x ≡ get_or child i 0)) → (j : ℕ) × (j < m) × (get_or (set child i (get_or child m 0)) j 0 ≡ x)
    all x (z, n) = go (L.all x z)
      where
        at_m : (y : ℕ) → y < k → get_or child y 0 ≡ x → ¬ (y ≡ i) → Dec (y ≡ m) → (j : ℕ) × (j < m) × (get_or (set child i (get_or child m 0)) j 0 ≡ x)
        at_m y a b d (yes e) = (i, omega arith, get_or-set_same child i (get_or child m 0) 0 (omega arith) ∙ (rw e at b))
        at_m y a b d (no e) = (y, omega arith, get_or-set_other child i y (get_or child m 0) 0 d ∙ b)

        go : (y : ℕ) × (y < k) × (get_or child y 0 ≡ x) → (j : ℕ) × (j < m) × (get_or (set child i (get_or child m 0)) j 0 ≡ x)
        go (y, a, b) = at_m y a b (λ e. n (sym b ∙ ap (λ h. get_or child h 0) e)) (ℕ_discrete y m)

    once : (j h : ℕ) (v : Stood child i m j) (w : Stood child i m h) → j < m → h < m
        → get_or (set child i (get_or child m 0)) j 0 ≡ get_or (set child i (get_or child m 0)) h 0 → j ≡ h
    once j h v w a b e =
        go v.whence w.whence (L.once v.place w.place (omega (arith, v.inside)) (omega (arith, w.inside)) (sym v.same ∙ e ∙ w.same))
      where
        go : Whence i m j v.place → Whence i m h w.place → v.place ≡ w.place → j ≡ h
        go (inl c) (inl d) z = sym c.0 ∙ z ∙ d.0
        go (inl c) (inr d) z = absurd (omega arith)
        go (inr c) (inl d) z = absurd (omega arith)
        go (inr c) (inr d) z = c.1 ∙ sym d.1

-- ------------------------------------------------------------------ the loop that lists the children of row p
-- a child that is still there and stands before row c
abbrev pub Before : List ℕ → List ℕ → ℕ → ℕ → ℕ → Type 0
Before mark span p c x = Child mark span p x × (x < c)

pub list_start : (mark span : List ℕ) (p : ℕ) (child : List ℕ) → Holds span (suc p) (p + get_or span p 0) (below span p)
    → Lists (Before mark span p (p + 1)) child 0
list_start mark span p child h =
    record {
      few = omega arith;
      each = λ i l. absurd (omega arith);
      all = λ x b. let z = brother_range span _ _ (below span p) h x b.0.brother in absurd (omega (arith, b.1));
      once = λ i j l. absurd (omega arith);
    }

module _ {mark span child : List ℕ} {p k : ℕ} {P : ℕ → Type 0} {b : Brothers} (O : Over span p P b) (L : Lists (Before mark span p b.next) child k) where
  pub list_all : b.end ≤ b.next → Listed mark span p child k
  list_all l = lists_same L (λ x z. z.0) (λ x t. (t, omega (arith, brother_range span _ _ (below span p) O.held x t.brother)))

  module _ {c : ℕ} (b' : Brothers) (G : GivesBrother b (Some c) b') where
    -- row c, which stands behind the list, is there
    pub list_child : gone_at mark c ≡ false → k < most_nodes → get_or child k 0 ≡ c → Lists (Before mark span p b'.next) child (k + 1)
    list_child d r h =
        lists_more L r h (λ z. omega (arith, z.1, G.0)) (record { brother = (over_child O b' G).0; there = d }, over_passes O b' G)
        (λ x z. (z.0, omega (arith, z.1, G.0, over_passes O b' G))) (λ x z. ⊎_elim (λ m. inl (z.0, omega (arith, G.0))) inr (over_split O b' G x z.0.brother z.1))

    -- row c has gone
    pub list_gone : gone_at mark c ≡ true → Lists (Before mark span p b'.next) child k
    list_gone d =
        lists_same L (λ x z. (z.0, omega (arith, z.1, G.0, over_passes O b' G)))
        (λ x z. (z.0, ⊎_elim (λ m. omega (arith, G.0)) (λ e. not_both d (rw e at z.0.there)) (over_split O b' G x z.0.brother z.1)))
