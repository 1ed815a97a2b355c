-- A tree put into a list of brothers by two links, and forests that are so put in order: the rows, their number and their children stay.
use mathlib.Core.Path.{◌≡◌, refl, sym, ap, ◌∙◌, subst}
use mathlib.Core.Logic.{◌⊎◌, inl, inr}
use mathlib.Core.List.{List}
use mathlib.Core.Bool.{Bool, true, false, cond}
use Prim.Native.Nat.{ℕ, suc, ◌<◌}
use native.Mathlib.Omega.{arith}
use lib.ListN.{get_or, set, length-set}
use lib.Seq.{get_or-set_same, get_or-set_other}
use Rattle.std.specs.Prelude.{Option, None, Some}
use Rattle.std.specs.Ordering.{is_le}
use Rattle.meaning.specs.Tree.{Forest, bare, tree, size}
use Rattle.rows.specs.Rows.{width}
use Rattle.theory.proofs.Look.{never}
use Rattle.order.specs.Links.{forest_at, Linked, In, Apart, cmp_f, cmp_t, place_by, ordered_by, spot_of, spot_at, Ready, PutAmong}

-- ------------------------------------------------------------------ links that are kept
pub kept : (n : ℕ) (fs ns fs' ns' : List ℕ) (F : Forest ℕ) (c : ℕ)
    → ((j : ℕ) → In j F → (get_or fs' j 0 ≡ get_or fs j 0) × (get_or ns' j 0 ≡ get_or ns j 0)) → Linked n fs ns c F → Linked n fs' ns' c F
kept n fs ns fs' ns' bare c same h = h
kept n fs ns fs' ns' (tree i k r) c same (e, l, hk, hr) = (
  e,
  l,
  rw (same i (inl refl)).0 (kept n fs ns fs' ns' k (get_or fs i 0) (λ j m. same j (inr (inl m))) hk),
  rw (same i (inl refl)).1 (kept n fs ns fs' ns' r (get_or ns i 0) (λ j m. same j (inr (inr m))) hr),
)

in_lt : (n : ℕ) (fs ns : List ℕ) (F : Forest ℕ) (c j : ℕ) → Linked n fs ns c F → In j F → j < n
in_lt n fs ns bare c j h m = absurd m
in_lt n fs ns (tree i k r) c j (e, l, hk, hr) (inl m) = rw m l
in_lt n fs ns (tree i k r) c j (e, l, hk, hr) (inr (inl m)) = in_lt n fs ns k (get_or fs i 0) j hk m
in_lt n fs ns (tree i k r) c j (e, l, hk, hr) (inr (inr m)) = in_lt n fs ns r (get_or ns i 0) j hr m

-- ------------------------------------------------------------------ a tree put into a list
module _ (key : List ℕ) (c : ℕ) (K : Forest ℕ) where
  in_place : (Q : Forest ℕ) (j : ℕ) → In j (place_by key c K Q) → (j ≡ c) ⊎ In j K ⊎ In j Q
  unfolding place_by
  in_place bare j m = m
  in_place (tree b l r) j m = go (in_place r j) (is_le (cmp_t key c K b l)) m
    where
      up : (j ≡ c) ⊎ In j K ⊎ In j r → (j ≡ c) ⊎ In j K ⊎ In j (tree b l r)
      up (inl y) = inl y
      up (inr (inl y)) = inr (inl y)
      up (inr (inr y)) = inr (inr (inr (inr y)))

      go : (In j (place_by key c K r) → (j ≡ c) ⊎ In j K ⊎ In j r) → (t : Bool)
          → In j (cond t (tree c K (tree b l r)) (tree b l (place_by key c K r))) → (j ≡ c) ⊎ In j K ⊎ In j (tree b l r)
      go ih true x = x
      go ih false (inl x) = inr (inr (inl x))
      go ih false (inr (inl x)) = inr (inr (inr (inl x)))
      go ih false (inr (inr x)) = up (ih x)

  apart_place : (Q : Forest ℕ) → Apart (tree c K Q) → Apart (place_by key c K Q)
  unfolding place_by
  apart_place bare a = a
  apart_place (tree b l r) (ck, cq, kq, ak, (bl, br, lr, al, ar)) =
      go (apart_place r (ck, (λ m. cq (inr (inr m))), (λ j m m'. kq j m (inr (inr m'))), ak, ar)) (is_le (cmp_t key c K b l))
    where
      one : (b ≡ c) ⊎ In b K ⊎ In b r → ⊥
      one (inl e) = cq (inl (sym e))
      one (inr (inl m)) = kq b m (inl refl)
      one (inr (inr m)) = br m

      two : (j : ℕ) → In j l → (j ≡ c) ⊎ In j K ⊎ In j r → ⊥
      two j m (inl e) = cq (inr (inl (rw e at m)))
      two j m (inr (inl x)) = kq j x (inr (inl m))
      two j m (inr (inr x)) = lr j m x

      go : Apart (place_by key c K r) → (t : Bool) → Apart (cond t (tree c K (tree b l r)) (tree b l (place_by key c K r)))
      go ih true = (ck, cq, kq, ak, (bl, br, lr, al, ar))
      go ih false = (bl, (λ m. one (in_place r b m)), (λ j m m'. two j m (in_place r j m')), al, ih)

  size_place : (Q : Forest ℕ) → size (place_by key c K Q) ≡ size (tree c K Q)
  unfolding place_by
  size_place bare = refl
  size_place (tree b l r) = go (size_place r) (is_le (cmp_t key c K b l))
    where
      go : size (place_by key c K r) ≡ size (tree c K r) → (t : Bool) → size (cond t (tree c K (tree b l r)) (tree b l (place_by key c K r))) ≡ size (tree c K (tree b l r))
      go ih true = refl
      go ih false = omega arith

  width_place : (Q : Forest ℕ) → width (place_by key c K Q) ≡ suc (width Q)
  unfolding place_by
  width_place bare = refl
  width_place (tree b l r) = go (is_le (cmp_t key c K b l)) (width_place r)
    where
      go : (t : Bool) → width (place_by key c K r) ≡ suc (width r) → width (cond t (tree c K (tree b l r)) (tree b l (place_by key c K r))) ≡ suc (suc (width r))
      go true ih = refl
      go false ih = ap suc ih

-- ------------------------------------------------------------------ by two links
-- the tree at c, whose next brother is now v; the next brother of p is now y
module _ {n : ℕ} {fs ns : List ℕ} {c q : ℕ} (w : Ready n fs ns c q) (key : List ℕ) where
  abbrev K : Forest ℕ
  K = forest_at n fs ns (get_or fs c 0)

  abbrev Q : Forest ℕ
  Q = forest_at n fs ns q

  -- rows other than c and p keep their links
  other : (p v y x : ℕ) (F : Forest ℕ) → (In c F → ⊥) → (In p F → ⊥) → Linked n fs ns x F → Linked n fs (set (set ns c v) p y) x F
  other p v y x F nc np h =
      kept n fs ns fs (set (set ns c v) p y) F x
      (λ j m. (refl, get_or-set_other (set ns c v) p j y 0 (λ e. np (rw e at m)) ∙ get_or-set_other ns c j v 0 (λ e. nc (rw e at m)))) h

  -- after the tree at p, or in front
  abbrev Lands : ℕ → Option ℕ → Forest ℕ → Option ℕ → Type 0
  Lands x p₀ F p =
      ((p ≡ p₀) × (place_by key c K F ≡ tree c K F))
      ⊎ ((j : ℕ) × (p ≡ Some j) × In j F × Linked n fs (set (set ns c (get_or ns j 0)) j c) x (place_by key c K F))

  lands : (F : Forest ℕ) (x : ℕ) (p₀ : Option ℕ) → Linked n fs ns x F → Apart F → (In c F → ⊥) → ((j : ℕ) → In j K → In j F → ⊥) → Lands x p₀ F (spot_of key c K p₀ F)
  unfolding spot_of place_by
  lands bare x p₀ h a cF kF = inl (refl, refl)
  lands (tree b l r) x p₀ (e, lb, hl, hr) (bl, br, lr, al, ar) cF kF =
      go (is_le (cmp_t key c K b l)) (lands r (get_or ns b 0) (Some b) hr ar (λ m. cF (inr (inr m))) (λ j m m'. kF j m (inr (inr m'))))
    where
      p' : Bool → Option ℕ
      p' t = cond t p₀ (spot_of key c K (Some b) r)

      F' : Bool → Forest ℕ
      F' t = cond t (tree c K (tree b l r)) (tree b l (place_by key c K r))

      go : (t : Bool) → Lands (get_or ns b 0) (Some b) r (spot_of key c K (Some b) r)
          → ((p' t ≡ p₀) × (F' t ≡ tree c K (tree b l r)))
          ⊎ ((j : ℕ) × (p' t ≡ Some j) × In j (tree b l r) × Linked n fs (set (set ns c (get_or ns j 0)) j c) x (F' t))
      go true ih = inl (refl, refl)
      go false (inl (ep, er)) =
          let v = get_or ns b 0 in
          let here : Linked n fs (set (set ns c v) b c) x (tree b l (tree c K r)) = (
            e,
            lb,
            other b v c (get_or fs b 0) l (λ m. cF (inr (inl m))) bl hl,
            rw (get_or-set_same (set ns c v) b c 0 (rw (length-set ns c v) (omega (arith, w.nexts)))) (
              refl,
              w.inside,
              other b v c (get_or fs c 0) K w.apart.0 (λ m. kF b m (inl refl)) w.kids.holds,
              rw (get_or-set_other (set ns c v) b c c 0 (λ y. cF (inl y)), get_or-set_same ns c v 0 (omega (arith, w.inside, w.nexts)))
                  (other b v c v r (λ m. cF (inr (inr m))) br hr),
            ),
          ) in
          inr (b, ep, inl refl, subst (λ (G : Forest ℕ). Linked n fs (set (set ns c v) b c) x (tree b l G)) (sym er) here)
      go false (inr (p, ep, m, h)) =
          let v = get_or ns p 0 in
          inr (
            p,
            ep,
            inr (inr m),
            (
              e,
              lb,
              other p v c (get_or fs b 0) l (λ y. cF (inr (inl y))) (λ y. lr p y m) hl,
              rw (get_or-set_other (set ns c v) p b c 0 (λ y. br (rw y m)), get_or-set_other ns c b v 0 (λ y. cF (inl (sym y)))) h,
            ),
          )

  module _ {p : Option ℕ} (ep : p ≡ spot_at n fs ns key c q) where
    landed : Lands q None Q p
    unfolding spot_at
    landed = rw ep (lands Q q None w.list.holds w.apart.4 w.apart.1 w.apart.2)

    pub spot_inside : {i : ℕ} → p ≡ Some i → i < n
    spot_inside {i} h = go landed
      where
        go : Lands q None Q p → i < n
        go (inl (x, y)) = never cc
        go (inr (j, e, m, y)) = let z : j ≡ i = cc in rw (← z) (in_lt n fs ns Q q j w.list.holds m)

    pub placed_front : p ≡ None → PutAmong n fs ns key c q (set ns c q) c
    placed_front h = go landed
      where
        same : (F : Forest ℕ) (x : ℕ) → (In c F → ⊥) → Linked n fs ns x F → Linked n fs (set ns c q) x F
        same F x d = kept n fs ns fs (set ns c q) F x (λ j m. (refl, get_or-set_other ns c j q 0 (λ e. d (rw e at m))))

        go : Lands q None Q p → PutAmong n fs ns key c q (set ns c q) c
        go (inl (x, y)) = record {
          linked = rw y (
            refl,
            w.inside,
            same K (get_or fs c 0) w.apart.0 w.kids.holds,
            rw (get_or-set_same ns c q 0 (omega (arith, w.inside, w.nexts))) (same Q q w.apart.1 w.list.holds),
          );
          low = omega (arith, w.inside, w.few);
          long = length-set ns c q;
          rest = λ j jc jq. get_or-set_other ns c j q 0 jc;
        }
        go (inr (j, e, m, y)) = never cc

    pub placed_after : {i : ℕ} → p ≡ Some i → PutAmong n fs ns key c q (set (set ns c (get_or ns i 0)) i c) q
    placed_after {i} h = go landed
      where
        go : Lands q None Q p → PutAmong n fs ns key c q (set (set ns c (get_or ns i 0)) i c) q
        go (inl (x, y)) = never cc
        go (inr (k, e, m, y)) =
            let z : k ≡ i = cc in
            let here : In i Q = rw z at m in
            record {
              linked = rw z at y;
              low = w.low;
              long = length-set (set ns c (get_or ns i 0)) i c ∙ length-set ns c (get_or ns i 0);
              rest = λ j jc jq. get_or-set_other (set ns c (get_or ns i 0)) i j c 0 (λ x. jq (rw x here)) ∙ get_or-set_other ns c j (get_or ns i 0) 0 jc;
            }

-- ------------------------------------------------------------------ forests in order
-- so is every row, with the number of its children
abbrev pub Each : (ℕ → ℕ → Type 0) → Forest ℕ → Type 0
Each P bare = Unit {0}
Each P (tree i k r) = P i (width k) × Each P k × Each P r

module _ (key : List ℕ) where
  pub in_ordered_by : (F : Forest ℕ) (j : ℕ) → In j (ordered_by key F) → In j F
  unfolding ordered_by
  in_ordered_by bare j m = m
  in_ordered_by (tree i k r) j m = go (in_place key i (ordered_by key k) (ordered_by key r) j m) (in_ordered_by k j) (in_ordered_by r j)
    where
      go : (j ≡ i) ⊎ In j (ordered_by key k) ⊎ In j (ordered_by key r) → (In j (ordered_by key k) → In j k) → (In j (ordered_by key r) → In j r) → (j ≡ i) ⊎ In j k ⊎ In j r
      go (inl x) a b = inl x
      go (inr (inl x)) a b = inr (inl (a x))
      go (inr (inr x)) a b = inr (inr (b x))

  pub size_ordered_by : (F : Forest ℕ) → size (ordered_by key F) ≡ size F
  unfolding ordered_by
  size_ordered_by bare = refl
  size_ordered_by (tree i k r) = let a = size_place key i (ordered_by key k) (ordered_by key r) in let b = size_ordered_by k in let d = size_ordered_by r in omega arith

  pub width_ordered_by : (F : Forest ℕ) → width (ordered_by key F) ≡ width F
  unfolding ordered_by
  width_ordered_by bare = refl
  width_ordered_by (tree i k r) = width_place key i (ordered_by key k) (ordered_by key r) ∙ ap suc (width_ordered_by r)

  apart_parts : (i : ℕ) (k r : Forest ℕ) → Apart (ordered_by key k) → Apart (ordered_by key r) → Apart (tree i k r) → Apart (tree i (ordered_by key k) (ordered_by key r))
  apart_parts i k r sk sr (ik, ir, kr, ak, ar) = (
    (λ m. ik (in_ordered_by k i m)),
    (λ m. ir (in_ordered_by r i m)),
    (λ j m m'. kr j (in_ordered_by k j m) (in_ordered_by r j m')),
    sk,
    sr,
  )

  apart_ordered_by : (F : Forest ℕ) → Apart F → Apart (ordered_by key F)
  unfolding ordered_by
  apart_ordered_by bare a = a
  apart_ordered_by (tree i k r) a =
      apart_place key i (ordered_by key k) (ordered_by key r) (apart_parts i k r (apart_ordered_by k a.3) (apart_ordered_by r a.4) a)

  pub apart_both : (i : ℕ) (k r : Forest ℕ) → Apart (tree i k r) → Apart (tree i (ordered_by key k) (ordered_by key r))
  apart_both i k r a = apart_parts i k r (apart_ordered_by k a.3) (apart_ordered_by r a.4) a

  each_place : (P : ℕ → ℕ → Type 0) (i : ℕ) (k R : Forest ℕ) → Each P (tree i k R) → Each P (place_by key i k R)
  unfolding place_by
  each_place P i k bare h = h
  each_place P i k (tree j l r) (pi, pk, (pj, pl, pr)) = go (is_le (cmp_t key i k j l)) (each_place P i k r (pi, pk, pr))
    where
      go : (t : Bool) → Each P (place_by key i k r) → Each P (cond t (tree i k (tree j l r)) (tree j l (place_by key i k r)))
      go true ih = (pi, pk, (pj, pl, pr))
      go false ih = (pj, pl, ih)

  pub each_ordered_by : (P : ℕ → ℕ → Type 0) (F : Forest ℕ) → Each P F → Each P (ordered_by key F)
  unfolding ordered_by
  each_ordered_by P bare h = h
  each_ordered_by P (tree i k r) (pi, pk, pr) =
      each_place P i (ordered_by key k) (ordered_by key r) (rw (width_ordered_by k) pi, each_ordered_by P k pk, each_ordered_by P r pr)

-- ------------------------------------------------------------------ only the keys of its rows put a forest in order
module _ (key key' : List ℕ) where
  abbrev Agree : Forest ℕ → Type 0
  Agree F = (j : ℕ) → In j F → get_or key' j 0 ≡ get_or key j 0

  cmp_agree : (F G : Forest ℕ) → Agree F → Agree G → cmp_f key' F G ≡ cmp_f key F G
  unfolding cmp_f
  cmp_agree bare bare a b = refl
  cmp_agree bare (tree j l s) a b = refl
  cmp_agree (tree i k r) bare a b = refl
  cmp_agree (tree i k r) (tree j l s) a b =
      rw (
        a i (inl refl),
        b j (inl refl),
        cmp_agree k l (λ x m. a x (inr (inl m))) (λ x m. b x (inr (inl m))),
        cmp_agree r s (λ x m. a x (inr (inr m))) (λ x m. b x (inr (inr m))),
      )

  place_agree : (i : ℕ) (k R : Forest ℕ) → get_or key' i 0 ≡ get_or key i 0 → Agree k → Agree R → place_by key' i k R ≡ place_by key i k R
  unfolding place_by
  place_agree i k bare e a b = refl
  place_agree i k (tree j l r) e a b =
      rw (e, b j (inl refl), cmp_agree k l a (λ x m. b x (inr (inl m))), place_agree i k r e a (λ x m. b x (inr (inr m))))

  pub order_agree : (F : Forest ℕ) → Agree F → ordered_by key' F ≡ ordered_by key F
  unfolding ordered_by
  order_agree bare a = refl
  order_agree (tree i k r) a =
      rw (order_agree k (λ x m. a x (inr (inl m))), order_agree r (λ x m. a x (inr (inr m)))) (
      place_agree i (ordered_by key k) (ordered_by key r) (a i (inl refl))
      (λ x m. a x (inr (inl (in_ordered_by key k x m)))) (λ x m. a x (inr (inr (in_ordered_by key r x m))))
      )
