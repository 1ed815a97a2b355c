-- What is read at a row of links does not depend on the fuel, and one call of each function that compares.
use mathlib.Core.Path.{◌≡◌, refl, sym, ap, ◌∙◌}
use mathlib.Core.Logic.{◌⊎◌, inl, inr}
use mathlib.Core.List.{List}
use mathlib.Core.Bool.{Bool, true, false, cond}
use Prim.Native.Nat.{ℕ, zero, suc, ◌<◌, ◌≤◌}
use native.Mathlib.Omega.{arith}
use native.Mathlib.Decide.{ℕ_discrete}
use lib.ListN.{get_or}
use lib.Dec.{ltb}
use borrow.Author.Tests.{lt-ltb, le-ltb, ltb-true}
use Rattle.std.specs.Prelude.{Option, Some}
use Rattle.std.specs.Ordering.{ordering_then, is_ne, is_lt, is_le, nat_cmp}
use Rattle.std.specs.declared.cmp.Ordering.{Ordering}
use Rattle.std.specs.declared.cmp.Ordering.TheVariants.{Less, Equal, Greater}
use Rattle.meaning.specs.Tree.{Forest, bare, tree, size}
use Rattle.rows.specs.Rows.{no_row}
use Rattle.theory.proofs.Canon.{height}
use Rattle.order.specs.Links.{slot_of, Known, forest_from, forest_at, Linked, Finite, cmp_f, compared_at, goes_first, spot_of}
use Rattle.theory.proofs.Look.{never}

-- ------------------------------------------------------------------ slots
pub slot_row : (n p : ℕ) → p < n → p ≡ slot_of n p
slot_row n p l = sym (rw (lt-ltb p n l))

pub slot_top : (n p : ℕ) → n ≤ p → n ≡ slot_of n p
slot_top n p l = sym (rw (le-ltb p n l))

pub slot_le : (n p : ℕ) → slot_of n p ≤ n
slot_le n p = go (ltb p n) refl
  where
    go : (t : Bool) → ltb p n ≡ t → cond t p n ≤ n
    go true e = let z = ltb-true p n e in omega arith
    go false e = omega arith

slot_inj : (n x p : ℕ) → n ≤ no_row → Known n x → Known n p → slot_of n x ≡ slot_of n p → x ≡ p
slot_inj n x p h (inl a) (inl b) e = let y = slot_row n x a in let z = slot_row n p b in omega arith
slot_inj n x p h (inl a) (inr b) e = let y = slot_row n x a in let z = slot_top n p (omega arith) in absurd (omega arith)
slot_inj n x p h (inr a) (inl b) e = let y = slot_top n x (omega arith) in let z = slot_row n p b in absurd (omega arith)
slot_inj n x p h (inr a) (inr b) e = a ∙ sym b

-- p is the slot of q: x is q and has that slot, or neither
abbrev pub SameSlot : ℕ → ℕ → ℕ → ℕ → Type 0
SameSlot n x q p = ((x ≡ q) × (slot_of n x ≡ p)) ⊎ ((q ≡ x → ⊥) × (slot_of n x ≡ p → ⊥))

pub same_slot : (n x q p : ℕ) → n ≤ no_row → Known n x → Known n q → p ≡ slot_of n q → SameSlot n x q p
same_slot n x q p h kx kq ep = go (ℕ_discrete (slot_of n x) p)
  where
    go : Dec (slot_of n x ≡ p) → SameSlot n x q p
    go (yes e) = inl (slot_inj n x q h kx kq (e ∙ ep), e)
    go (no d) = inr ((λ e. d (ap (slot_of n) (sym e) ∙ sym ep)), d)

-- ------------------------------------------------------------------ reading
read_holds : (m n : ℕ) (fs ns : List ℕ) (c : ℕ) (F : Forest ℕ) → Linked n fs ns c F → size F ≤ m → forest_from m n fs ns c ≡ F
unfolding forest_from
read_holds zero n fs ns c bare h s = refl
read_holds zero n fs ns c (tree i k r) h s = absurd (omega arith)
read_holds (suc m) n fs ns c bare h s = rw (le-ltb c n h)
read_holds (suc m) n fs ns c (tree i k r) (e, l, hk, hr) s =
    rw (e, lt-ltb i n l, read_holds m n fs ns (get_or fs i 0) k hk (omega arith), read_holds m n fs ns (get_or ns i 0) r hr (omega arith))

pub read_is : (n : ℕ) (fs ns : List ℕ) (c : ℕ) (F : Forest ℕ) → Linked n fs ns c F → size F ≤ n → forest_at n fs ns c ≡ F
unfolding forest_at
read_is n fs ns c F h s = read_holds n n fs ns c F h s

pub finite_of : (n : ℕ) (fs ns : List ℕ) (c : ℕ) (F : Forest ℕ) → Linked n fs ns c F → size F ≤ n → Finite n fs ns c
finite_of n fs ns c F h s = let e = read_is n fs ns c F h s in record { holds = rw e h; small = rw e s }

read_none : (n : ℕ) (fs ns : List ℕ) (c : ℕ) → n ≤ c → forest_at n fs ns c ≡ bare
read_none n fs ns c h = read_is n fs ns c bare h (omega arith)

-- what is read at a row of the table
pub record Opens (n : ℕ) (fs ns : List ℕ) (c : ℕ) : Type 0 where
  pub reads : forest_at n fs ns c ≡ tree c (forest_at n fs ns (get_or fs c 0)) (forest_at n fs ns (get_or ns c 0))
  pub down : Finite n fs ns (get_or fs c 0)
  pub along : Finite n fs ns (get_or ns c 0)

pub opens : {n : ℕ} {fs ns : List ℕ} {c : ℕ} → Finite n fs ns c → c < n → Opens n fs ns c
opens {n} {fs} {ns} {c} w l = go (forest_at n fs ns c) refl w.holds w.small
  where
    go : (F : Forest ℕ) → forest_at n fs ns c ≡ F → Linked n fs ns c F → size F ≤ n → Opens n fs ns c
    go bare e h s = absurd (omega arith)
    go (tree i k r) e (ei, li, hk, hr) s =
        let hk' : Linked n fs ns (get_or fs c 0) k = rw ei hk in
        let hr' : Linked n fs ns (get_or ns c 0) r = rw ei hr in
        let ek = read_is n fs ns (get_or fs c 0) k hk' (omega arith) in
        let er = read_is n fs ns (get_or ns c 0) r hr' (omega arith) in
        record {
          reads = rw (ek, er, e, ei);
          down = finite_of n fs ns (get_or fs c 0) k hk' (omega arith);
          along = finite_of n fs ns (get_or ns c 0) r hr' (omega arith);
        }

height_tree : (c : ℕ) (k r F : Forest ℕ) → F ≡ tree c k r → (height k < height F) × (height r ≤ height F)
height_tree c k r F e = rw e (omega arith, omega arith)

-- later brothers are fewer, and lie no deeper
pub goes_along : {n : ℕ} {fs ns : List ℕ} {c i : ℕ} → Finite n fs ns c → c < n → i ≡ get_or ns c 0
    → Finite n fs ns i × (size (forest_at n fs ns i) < size (forest_at n fs ns c)) × (height (forest_at n fs ns i) ≤ height (forest_at n fs ns c))
goes_along w l e =
    let o = opens w l in let z = ap size o.reads in
    (rw e o.along, rw e (omega arith), rw e (height_tree _ _ _ _ o.reads).1)

-- ------------------------------------------------------------------ comparing what is read at x and y
then_ne : (o p : Ordering) → is_ne o ≡ true → ordering_then o p ≡ o
then_ne Less p e = refl
then_ne Equal p e = never cc
then_ne Greater p e = refl

is_equal : (o : Ordering) → is_ne o ≡ false → o ≡ Equal
is_equal Less e = never cc
is_equal Equal e = refl
is_equal Greater e = never cc

-- the brothers from a on and from b on are left to compare, and lie no deeper
pub record Pending (n : ℕ) (fs ns key : List ℕ) (x y a b : ℕ) : Type 0 where
  pub one : Finite n fs ns a
  pub two : Finite n fs ns b
  pub level : height (forest_at n fs ns a) ≤ height (forest_at n fs ns x)
  pub same : compared_at n fs ns key x y ≡ cmp_f key (forest_at n fs ns a) (forest_at n fs ns b)

pub pending : (n : ℕ) (fs ns key : List ℕ) (x y : ℕ) → Finite n fs ns x → Finite n fs ns y → Pending n fs ns key x y x y
unfolding compared_at
pending n fs ns key x y wx wy = record { one = wx; two = wy; level = omega arith; same = refl }

module _ {n : ℕ} {fs ns key : List ℕ} {x y a b : ℕ} (P : Pending n fs ns key x y a b) where
  pub none_none : n ≤ a → n ≤ b → Equal ≡ compared_at n fs ns key x y
  unfolding cmp_f
  none_none ha hb = sym (rw (P.same, read_none n fs ns a ha, read_none n fs ns b hb))

  pub none_some : n ≤ a → b < n → Less ≡ compared_at n fs ns key x y
  unfolding cmp_f
  none_some ha hb = sym (rw (P.same, read_none n fs ns a ha, (opens P.two hb).reads))

  pub some_none : a < n → n ≤ b → Greater ≡ compared_at n fs ns key x y
  unfolding cmp_f
  some_none ha hb = sym (rw (P.same, read_none n fs ns b hb, (opens P.one ha).reads))

  module _ (ha : a < n) (hb : b < n) where
    pub below_pending : {i j t : ℕ} → i ≡ get_or fs a 0 → j ≡ get_or fs b 0 → height (forest_at n fs ns x) ≡ t
        → (height (forest_at n fs ns i) < t) × Finite n fs ns i × Finite n fs ns j
    below_pending ei ej et =
        let o = opens P.one ha in let z = (height_tree _ _ _ _ o.reads).0 in
        (rw ei (omega (arith, z, P.level)), rw ei o.down, rw ej (opens P.two hb).down)

    abbrev k : ℕ
    k = get_or key a 0

    abbrev l : ℕ
    l = get_or key b 0

    rest : Ordering
    rest = cmp_f key (forest_at n fs ns (get_or ns a 0)) (forest_at n fs ns (get_or ns b 0))

    opened : compared_at n fs ns key x y ≡ ordering_then (nat_cmp k l) (ordering_then (cmp_f key (forest_at n fs ns (get_or fs a 0)) (forest_at n fs ns (get_or fs b 0))) rest)
    unfolding rest
    opened = P.same ∙ rw ((opens P.one ha).reads, (opens P.two hb).reads) (unfold cmp_f in refl)

    module _ {o : Ordering} (eo : o ≡ nat_cmp k l) where
      -- the keys tell
      pub by_keys : is_ne o ≡ true → o ≡ compared_at n fs ns key x y
      by_keys d = sym (rw (opened, ← eo) (then_ne o _ d))

      module _ (z : is_ne o ≡ false) {i j : ℕ} (ei : i ≡ get_or fs a 0) (ej : j ≡ get_or fs b 0) {p : Ordering} (ep : p ≡ compared_at n fs ns key i j) where
        equal : compared_at n fs ns key x y ≡ ordering_then p rest
        unfolding compared_at
        equal = rw (opened, ← eo, is_equal o z, ep, ei, ej)

        -- what lies below them tells
        pub by_kids : is_ne p ≡ true → p ≡ compared_at n fs ns key x y
        by_kids d = sym (equal ∙ then_ne p rest d)

        pub pending_next : is_ne p ≡ false → {a' b' : ℕ} → a' ≡ get_or ns a 0 → b' ≡ get_or ns b 0 → Pending n fs ns key x y a' b'
        unfolding rest
        pending_next y ea eb =
            let u = goes_along P.one ha ea in
            record { one = u.0; two = (goes_along P.two hb eb).0; level = omega (arith, u.2, P.level); same = rw (equal, is_equal p y, ea, eb) }

-- ------------------------------------------------------------------ goes first
module _ (n : ℕ) (fs ns key : List ℕ) (c q : ℕ) where
  abbrev a : ℕ
  a = get_or key c 0

  abbrev b : ℕ
  b = get_or key q 0

  -- the keys tell
  pub first_keys : (o : Ordering) → o ≡ nat_cmp a b → is_ne o ≡ true → is_lt o ≡ goes_first n fs ns key c q
  unfolding goes_first
  first_keys Less e d = sym (rw (← e))
  first_keys Equal e d = never cc
  first_keys Greater e d = sym (rw (← e))

  -- what lies below tells
  pub first_kids : {k : Ordering} → k ≡ nat_cmp a b → is_ne k ≡ false → {i j : ℕ} → i ≡ get_or fs c 0 → j ≡ get_or fs q 0 → {o : Ordering}
      → o ≡ compared_at n fs ns key i j → is_le o ≡ goes_first n fs ns key c q
  unfolding goes_first compared_at
  first_kids {k} e d ei ej eo = sym (rw (← e, is_equal k d, ← ei, ← ej, ← eo))

-- ------------------------------------------------------------------ the place of a tree in a list
-- the tree at c with k below it, the last brother p that goes before it, and the brothers from `at` on
module _ (n : ℕ) (fs ns key : List ℕ) (c : ℕ) (p : Option ℕ) (at : ℕ) where
  abbrev K : Forest ℕ
  K = forest_at n fs ns (get_or fs c 0)

  pub spot_end : n ≤ at → spot_of key c K p (forest_at n fs ns at) ≡ p
  unfolding spot_of
  spot_end h = rw (read_none n fs ns at h)

  module _ (w : Finite n fs ns at) (l : at < n) {b : Bool} (eb : b ≡ goes_first n fs ns key c at) where
    pub spot_here : b ≡ true → spot_of key c K p (forest_at n fs ns at) ≡ p
    unfolding spot_of goes_first
    spot_here e = rw ((opens w l).reads, ← eb, e)

    pub spot_on : b ≡ false → {m : ℕ} → m ≡ get_or ns at 0 → spot_of key c K p (forest_at n fs ns at) ≡ spot_of key c K (Some at) (forest_at n fs ns m)
    unfolding spot_of goes_first
    spot_on e em = rw ((opens w l).reads, ← eb, e, em)
