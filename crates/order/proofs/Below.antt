-- The rows below a row, where parents stand before their children: the forest that a table grows, read from the last row to the first. No row stands in
-- it twice, and rows before row b have nothing in common from row b on.
use mathlib.Core.Path.{◌≡◌, refl, sym, ◌∙◌}
use mathlib.Core.Logic.{inl, inr}
use mathlib.Core.List.{List, ◌∷◌}
use mathlib.Core.Bool.{Bool, true, false, cond}
use Prim.Native.Nat.{ℕ, zero, suc, ◌+◌, ◌<◌, ◌≤◌}
use native.Mathlib.Omega.{arith}
use native.Mathlib.Decide.{ℕ_discrete}
use lib.ListN.{get_or}
use lib.Dec.{eqb}
use borrow.Author.Tests.{eqb-true, eq-eqb, ne_eqb}
use Rattle.meaning.specs.Tree.{Forest, tree, size, plant}
use Rattle.rows.specs.Rows.{no_row, width}
use Rattle.rows.specs.Table.{children_of, grown, table_shape}
use Rattle.order.specs.Links.{Known, In, Apart}
use Rattle.order.specs.Sorting.{below_from}
use Rattle.order.proofs.Inserting.{Each}

pub known_later : (j b p : ℕ) → j ≤ b → Known j p → Known b p
known_later j b p h (inl l) = inl (omega arith)
known_later j b p h (inr e) = inr e

known_off : (j p : ℕ) → j < no_row → Known j p → j ≡ p → ⊥
known_off j p h (inl l) e = omega arith
known_off j p h (inr q) e = omega arith

module _ (parent : List ℕ) where
  abbrev B : ℕ → ℕ → ℕ → Forest ℕ
  B k j p = below_from parent k j p

  pub below_open : (k j p : ℕ) (t : Bool) → eqb (get_or parent j 0) p ≡ t → B (suc k) j p ≡ cond t (tree j (B k (suc j) j) (B k (suc j) p)) (B k (suc j) p)
  unfolding below_from
  below_open k j p t e = rw e

  pub in_range : (k j p x : ℕ) → In x (B k j p) → (j ≤ x) × (x < j + k)
  unfolding below_from
  in_range zero j p x h = absurd h
  in_range (suc k) j p x h = go (λ q m. let z = in_range k (suc j) q x m in (omega (arith, z.0), omega (arith, z.1))) (eqb (get_or parent j 0) p) h
    where
      go : ((q : ℕ) → In x (B k (suc j) q) → (j ≤ x) × (x < j + suc k)) → (t : Bool)
          → In x (cond t (tree j (B k (suc j) j) (B k (suc j) p)) (B k (suc j) p)) → (j ≤ x) × (x < j + suc k)
      go ih true (inl e) = (omega arith, omega arith)
      go ih true (inr (inl m)) = ih j m
      go ih true (inr (inr m)) = ih p m
      go ih false m = ih p m

  -- a row lies below only one of the rows before j, or below none of them
  pub unique : (k j p q x : ℕ) → j + k ≤ no_row → Known j p → Known j q → In x (B k j p) → In x (B k j q) → p ≡ q
  unfolding below_from
  unique zero j p q x s kp kq h i = absurd h
  unique (suc k) j p q x s kp kq h i =
      go (λ a b ka kb. unique k (suc j) a b x (omega arith) ka kb) (eqb (get_or parent j 0) p) refl (eqb (get_or parent j 0) q) refl h i
    where
      Both : Type 0
      Both = (a b : ℕ) → Known (suc j) a → Known (suc j) b → In x (B k (suc j) a) → In x (B k (suc j) b) → a ≡ b

      up : (a : ℕ) → Known j a → Known (suc j) a
      up a = known_later j (suc j) a (omega arith)

      one : Both → (a b : ℕ) → Known j a → Known j b → In x (tree j (B k (suc j) j) (B k (suc j) a)) → In x (B k (suc j) b) → a ≡ b
      one ih a b ka kb (inl e) m = absurd (omega (arith, (in_range k (suc j) b x m).0))
      one ih a b ka kb (inr (inl l)) m = absurd (known_off j b (omega arith) kb (ih j b (inl (omega arith)) (up b kb) l m))
      one ih a b ka kb (inr (inr l)) m = ih a b (up a ka) (up b kb) l m

      go : Both → (t : Bool) → eqb (get_or parent j 0) p ≡ t → (t' : Bool) → eqb (get_or parent j 0) q ≡ t'
          → In x (cond t (tree j (B k (suc j) j) (B k (suc j) p)) (B k (suc j) p))
          → In x (cond t' (tree j (B k (suc j) j) (B k (suc j) q)) (B k (suc j) q)) → p ≡ q
      go ih true e true e' h i = sym (eqb-true (get_or parent j 0) p e) ∙ eqb-true (get_or parent j 0) q e'
      go ih true e false e' h i = one ih p q kp kq h i
      go ih false e true e' h i = sym (one ih q p kq kp i h)
      go ih false e false e' h i = ih p q (up p kp) (up q kq) h i

  pub apart_below : (k j p : ℕ) → j + k ≤ no_row → Known j p → Apart (B k j p)
  unfolding below_from
  apart_below zero j p s kp = tt
  apart_below (suc k) j p s kp =
      let up = known_later j (suc j) p (omega arith) kp in
      go up (eqb (get_or parent j 0) p) (apart_below k (suc j) j (omega arith) (inl (omega arith))) (apart_below k (suc j) p (omega arith) up)
    where
      go : Known (suc j) p → (t : Bool) → Apart (B k (suc j) j) → Apart (B k (suc j) p) → Apart (cond t (tree j (B k (suc j) j) (B k (suc j) p)) (B k (suc j) p))
      go up true a b = (
        (λ m. omega (arith, (in_range k (suc j) j j m).0)),
        (λ m. omega (arith, (in_range k (suc j) p j m).0)),
        (λ x m m'. known_off j p (omega arith) kp (unique k (suc j) j p x (omega arith) (inl (omega arith)) up m m')),
        a,
        b,
      )
      go up false a b = b

  -- what is so of each row and of the number of its later children is so of all
  pub each_below : (P : ℕ → ℕ → Type 0) (e k j p : ℕ) → j + k ≡ e → ((i k' : ℕ) → suc i + k' ≡ e → P i (width (B k' (suc i) i))) → Each P (B k j p)
  unfolding below_from
  each_below P e zero j p s h = tt
  each_below P e (suc k) j p s h =
      go (eqb (get_or parent j 0) p) (each_below P e k (suc j) j (omega arith) h) (each_below P e k (suc j) p (omega arith) h)
    where
      go : (t : Bool) → Each P (B k (suc j) j) → Each P (B k (suc j) p) → Each P (cond t (tree j (B k (suc j) j) (B k (suc j) p)) (B k (suc j) p))
      go true a b = (h j k (omega arith), a, b)
      go false a b = b

  -- ---------------------------------------------------------------- every row's parent stands before it
  module _ (n : ℕ) (known : (j : ℕ) → j < n → Known j (get_or parent j 0)) (less : n ≤ no_row) where
    -- nothing that lies below a row is larger than the whole
    pub few_below : (b k p : ℕ) → b + k ≡ n → Known b p → size (B k b p) ≤ size (B n 0 no_row)
    few_below zero k p e (inl l) = absurd (omega arith)
    few_below zero k p e (inr q) = let z : k ≡ n = omega arith in rw (z, q) (omega arith)
    few_below (suc j) k p e kp = go (λ q kq. few_below j (suc k) q (omega arith) kq) (ℕ_discrete p j) kp
      where
        grows : (t : Bool) → size (B k (suc j) p) ≤ size (cond t (tree j (B k (suc j) j) (B k (suc j) p)) (B k (suc j) p))
        grows true = omega arith
        grows false = omega arith

        down : ((q : ℕ) → Known j q → size (B (suc k) j q) ≤ size (B n 0 no_row)) → Known j p → size (B k (suc j) p) ≤ size (B n 0 no_row)
        down ih kp' =
            let z = ih p kp' in
            let y : size (B k (suc j) p) ≤ size (B (suc k) j p) = rw (below_open k j p (eqb (get_or parent j 0) p) refl) (grows (eqb (get_or parent j 0) p)) in
            omega arith

        go : ((q : ℕ) → Known j q → size (B (suc k) j q) ≤ size (B n 0 no_row)) → Dec (p ≡ j) → Known (suc j) p → size (B k (suc j) p) ≤ size (B n 0 no_row)
        go ih (yes q) kp' =
            let r = get_or parent j 0 in
            let z = rw (below_open k j r true (eq-eqb r r refl)) at (ih r (known j (omega arith))) in
            rw q (omega (arith, z))
        go ih (no d) (inl l) = down ih (inl (omega arith))
        go ih (no d) (inr q) = down ih (inr q)

    -- a rows that are no children of p
    no_children : (p a k b : ℕ) → ((j : ℕ) → j < b + a → get_or parent j 0 ≡ p → ⊥) → children_of p parent (a + k) b ≡ children_of p parent k (b + a)
    unfolding children_of
    no_children p zero k b d = let z : 0 + k ≡ k = omega arith in let y : b + 0 ≡ b = omega arith in rw (z, y)
    no_children p (suc a) k b d =
        let z : suc a + k ≡ suc (a + k) = omega arith in
        let y : b + suc a ≡ suc b + a = omega arith in
        rw (z, y, ne_eqb (get_or parent b 0) p (d b (omega arith))) (no_children p a k (suc b) (λ j l. d j (omega arith)))

    plant_below : (f : ℕ → Forest ℕ) (k j p : ℕ) → j + k ≡ n → ((c k' : ℕ) → j ≤ c → suc c + k' ≡ n → f c ≡ B k' (suc c) c)
        → plant (λ c. c) f (children_of p parent k j) ≡ B k j p
    unfolding children_of below_from
    plant_below f zero j p s h = refl
    plant_below f (suc k) j p s h = go (eqb (get_or parent j 0) p) (h j k (omega arith) (omega arith)) (plant_below f k (suc j) p (omega arith) (λ c k' l. h c k' (omega arith)))
      where
        go : (t : Bool) → f j ≡ B k (suc j) j → plant (λ c. c) f (children_of p parent k (suc j)) ≡ B k (suc j) p
            → plant (λ c. c) f (cond t (j ∷ children_of p parent k (suc j)) (children_of p parent k (suc j))) ≡ cond t (tree j (B k (suc j) j) (B k (suc j) p)) (B k (suc j) p)
        go true a b = λ v. tree j (a v) (b v)
        go false a b = b

    grown_below : (m c k : ℕ) → suc c + k ≡ n → n ≤ c + m → grown m parent n c ≡ B k (suc c) c
    unfolding grown
    grown_below zero c k s h = absurd (omega arith)
    grown_below (suc m) c k s h =
        let y : 0 + suc c ≡ suc c = omega arith in
        rw (← s, no_children c (suc c) k 0 (λ j l q. later j l q (known j (omega arith))), y) (rw s (
        plant_below (grown m parent n) k (suc c) c s (λ i k' l s'. grown_below m i k' s' (omega arith))
        ))
      where
        later : (j : ℕ) → j < 0 + suc c → get_or parent j 0 ≡ c → Known j (get_or parent j 0) → ⊥
        later j l q (inl a) = omega arith
        later j l q (inr a) = omega arith

    pub whole_below : table_shape parent n ≡ B n 0 no_row
    unfolding table_shape grown
    whole_below = plant_below (grown n parent n) n 0 no_row (omega arith) (λ c k l s. grown_below n c k s (omega arith))
