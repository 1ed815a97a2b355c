-- The levels of a tree ("A tree query is a tree"): every level down to a row's own has a row, so the top is there,
-- and a tree has fewer levels than rows, so that many rounds of reading reach every node.
use mathlib.Core.Path.{◌≡◌, refl, sym, ap, subst, ◌∙◌}
use mathlib.Core.Logic.{◌≢◌}
use mathlib.Core.Option.{none, some}
use Prim.Native.Nat.{ℕ, zero, suc, ◌≤◌, ◌<◌}
use native.Mathlib.Decide.{ℕ_discrete}
use native.Mathlib.Omega.{arith}
use lib.ListN.{length}
use Rattle.meaning.specs.Basics.{pick}
use Rattle.meaning.specs.TreeQuery.{Table, Live, Root, Tree}
use Rattle.theory.proofs.Look.{live_lt}

-- a function that takes each value up to K on the n numbers below n: K is below n
hits_lt : (n K : ℕ) (f : ℕ → ℕ) → ((k : ℕ) → k ≤ K → (i : ℕ) × (i < n) × (f i ≡ k)) → K < n
hits_lt zero K f hit = let w = (hit 0 (omega arith)).1 in absurd (omega arith)
hits_lt (suc n) zero f hit = omega arith
hits_lt (suc n) (suc K) f hit = let z = hits_lt n K g (λ k le. go k le (hit k (omega arith)) (hit (suc K) (omega arith))) in omega arith
  where
    -- the last number's value stands where suc K stood
    g : ℕ → ℕ
    g i = pick (ℕ_discrete (f i) (suc K)) (f n) (f i)

    kept : (k i : ℕ) (c : Dec (f i ≡ suc K)) → (f i ≡ suc K → f n ≡ k) → (f i ≢ suc K → f i ≡ k) → pick c (f n) (f i) ≡ k
    kept k i (yes p) l r = l p
    kept k i (no p) l r = r p

    go : (k : ℕ) → k ≤ K → (i : ℕ) × (i < suc n) × (f i ≡ k) → (i : ℕ) × (i < suc n) × (f i ≡ suc K) → (i : ℕ) × (i < n) × (g i ≡ k)
    go k le (i, li, ei) (j, lj, ej) = side (ℕ_discrete i n) (ℕ_discrete j n)
      where
        side : Dec (i ≡ n) → Dec (j ≡ n) → (i : ℕ) × (i < n) × (g i ≡ k)
        side (no ne) c = (i, omega arith, kept k i (ℕ_discrete (f i) (suc K)) (λ z. absurd (omega arith)) (λ _. ei))
        side (yes p) (no ne) = (j, omega arith, kept k j (ℕ_discrete (f j) (suc K)) (λ _. sym (ap f p) ∙ ei) (λ z. absurd (z ej)))
        side (yes p) (yes q) = let z : f i ≡ f j = ap f (p ∙ sym q) in absurd (omega arith)

module _ {T : Table} (t : Tree T) where
  pub root_level : (i : ℕ) → Root T i → t.lev i ≡ 0
  root_level i r = ap t.lev (t.single i r) ∙ t.top_lev

  -- above a row there is one at each level
  ancestor : (n i : ℕ) → Live T i → t.lev i ≡ n → (k : ℕ) → k ≤ n → (j : ℕ) × Live T j × (t.lev j ≡ k)
  ancestor zero i li e k le = (i, li, omega arith)
  ancestor (suc n) i (none, l, ei) e k le = let z = root_level i (l, ei) in absurd (omega arith)
  ancestor (suc n) i (some p, l, ei) e k le = go (t.linked i p l ei) (ancestor n p) (ℕ_discrete k (suc n))
    where
      go : Live T p × (t.lev i ≡ suc (t.lev p)) → (Live T p → t.lev p ≡ n → (k : ℕ) → k ≤ n → (j : ℕ) × Live T j × (t.lev j ≡ k))
          → Dec (k ≡ suc n) → (j : ℕ) × Live T j × (t.lev j ≡ k)
      go (lp, o) up (yes q) = (i, (some p, l, ei), omega arith)
      go (lp, o) up (no nq) = up lp (omega arith) k (omega arith)

  -- a tree has fewer levels than rows
  pub level_bound : (i : ℕ) → Live T i → t.lev i < length T
  level_bound i li = hits_lt (length T) (t.lev i) t.lev (λ k le. let (j, lj, e) = ancestor (t.lev i) i li refl k le in (j, live_lt T j lj, e))

  -- where there is a row there is a top
  pub top_root : (i : ℕ) → Live T i → Root T t.top
  top_root i li = go (ancestor (t.lev i) i li refl 0 (omega arith))
    where
      go : (j : ℕ) × Live T j × (t.lev j ≡ 0) → Root T t.top
      go (j, (none, l, e), z) = subst (Root T) (t.single j (l, e)) (l, e)
      go (j, (some p, l, e), z) = let o : t.lev j ≡ suc (t.lev p) = (t.linked j p l e).1 in absurd (omega arith)
