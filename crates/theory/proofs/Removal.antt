-- "Of two different brothers where one folds onto the other, the folding one goes, with all below it" (01, Folding): what is left folds
-- onto the whole
-- and the whole onto it, what did not fold before does not fold after, and removals come to an end where no two brothers are left that fold.
use mathlib.Core.Path.{◌≡◌, refl}
use mathlib.Core.Logic.{◌⊎◌, inl, inr}
use Prim.Native.Nat.{ℕ, zero, suc, ◌+◌, ◌≤◌, ◌<◌}
use native.Mathlib.Omega.{arith}
use Rattle.meaning.specs.Tree.{Forest, bare, tree, Tag, Any, size}
use Rattle.meaning.specs.Folding.{Folds, Onto, Reduced, cut, Shed, Sheds, done, then, dec_any, dec_onto}
use Rattle.theory.proofs.Folding.{tag_refl, any_map, folds_skip, folds_refl, onto_trans, Equal, equal_refl, equal_trans, folds_tree, onto_equal}

-- Pruned g f g: g is what is left of f when brothers have gone anywhere in it, each folding onto one that stays.
-- In general h are the brothers onto which the trees that go from f fold
pub data Pruned : Forest Tag → Forest Tag → Forest Tag → Type 0 where
  end : {h : Forest Tag} → Pruned h bare bare
  gone : {h : Forest Tag} {a : Tag} {k r s : Forest Tag} → Any (Onto a k) h → Pruned h r s → Pruned h (tree a k r) s
  kept : {h : Forest Tag} {a : Tag} {k j r s : Forest Tag} → Pruned j k j → Pruned h r s → Pruned h (tree a k r) (tree a j s)

pub pruned_refl : (h f : Forest Tag) → Pruned h f f
pruned_refl h bare = end
pruned_refl h (tree a k r) = kept (pruned_refl k k) (pruned_refl h r)

pruned_skip : {h f g : Forest Tag} (a : Tag) (k : Forest Tag) → Pruned h f g → Pruned (tree a k h) f g
pruned_skip a k end = end
pruned_skip a k (gone x m) = gone (inr x) (pruned_skip a k m)
pruned_skip a k (kept m n) = kept m (pruned_skip a k n)

pub cut_pruned : (h : Forest Tag) (P : Tag → Forest Tag → Type 0) (g : Forest Tag) (x : Any P g)
    → ((b : Tag) (j : Forest Tag) → P b j → Any (Onto b j) h) → Pruned h g (cut P g x)
cut_pruned h P bare x to = absurd x
cut_pruned h P (tree b j r) (inl p) to = gone (to b j p) (pruned_refl h r)
cut_pruned h P (tree b j r) (inr x) to = kept (pruned_refl j j) (cut_pruned h P r x to)

pub pruned_from : {h f g : Forest Tag} → Pruned h f g → Folds g f
pruned_from end = tt
pruned_from (gone {a = a} {k = k} {r = r} {s = s} x m) = folds_skip s a k r (pruned_from m)
pruned_from (kept {a = a} {k = k} {j = j} {r = r} {s = s} m n) = folds_tree a j k s r (pruned_from m) (pruned_from n)

pruned_to : {h f g : Forest Tag} → Pruned h f g → Folds g h → Folds f h
pruned_to end y = tt
pruned_to (gone x m) y = (x, pruned_to m y)
pruned_to (kept {h = h} {a = a} {k = k} {j = j} m n) (y, y') =
    (any_map (λ c i. onto_trans a k a j c i (tag_refl a, pruned_to m (folds_refl j))) h y, pruned_to n y')

-- what is left folds onto the whole and the whole onto what is left
pub pruned_equal : {f g : Forest Tag} → Pruned g f g → Equal f g
pruned_equal {g = g} m = (pruned_to m (folds_refl g), pruned_from m)

-- the trees that are left stood there before, with equals below them
pub pruned_any : {P Q : Tag → Forest Tag → Type 0} → ((b : Tag) (j j' : Forest Tag) → Equal j j' → Q b j' → P b j) → {h f g : Forest Tag}
    → Pruned h f g → Any Q g → Any P f
pruned_any step end x = x
pruned_any step (gone y m) x = inr (pruned_any step m x)
pruned_any step (kept {a = a} {k = k} {j = j} m n) (inl q) = inl (step a k j (pruned_equal m) q)
pruned_any step (kept m n) (inr x) = inr (pruned_any step n x)

-- u folds onto none of these brothers, and none of them onto u
abbrev pub Apart : Tag → Forest Tag → Forest Tag → Type 0
Apart a k r = (¬ Any (λ b j. Onto a k b j) r) × (¬ Any (λ b j. Onto b j a k) r)

-- what does not fold before removals below u, among its brothers or below them does not fold after them: the search for foldable brothers may go on
pub pruned_apart : {h k k' r r' : Forest Tag} (a : Tag) → Pruned k' k k' → Pruned h r r' → Apart a k r → Apart a k' r'
pruned_apart {k = k} {k' = k'} a m n (p, q) = (
  λ x. p (pruned_any (λ b j j' e. (onto_equal a b k k' j j' (pruned_equal m) e).1) n x),
  λ x. q (pruned_any (λ b j j' e. (onto_equal b a j j' k k' e (pruned_equal m)).1) n x),
)

-- and folded to the end is folded to the end
pub pruned_reduced : {h f g : Forest Tag} → Pruned h f g → Reduced f → Reduced g
pruned_reduced end rd = tt
pruned_reduced (gone x m) rd = pruned_reduced m rd.1
pruned_reduced (kept {a = a} m n) rd = let w = pruned_apart a m n (rd.2, rd.3) in (pruned_reduced m rd.0, pruned_reduced n rd.1, w.0, w.1)

pub pruned_size : {h f g : Forest Tag} → Pruned h f g → size g ≤ size f
pruned_size end = omega arith
pruned_size (gone x m) = let e = pruned_size m in omega arith
pruned_size (kept m n) = let e = pruned_size m in let e' = pruned_size n in omega arith

-- ------------------------------------------------------------------ one brother after the other goes
pub shed_pruned : (f g : Forest Tag) → Shed f g → Pruned g f g
shed_pruned bare g s = absurd s
shed_pruned (tree a k r) g (inl (x, e)) = rw e (gone x (pruned_refl r r))
shed_pruned (tree a k r) g (inr (inl (x, e))) = rw e (kept (pruned_refl k k) (cut_pruned _ _ r x (λ b j o. inl o)))
shed_pruned (tree a k r) g (inr (inr (inl (k', s, e)))) = rw e (kept (shed_pruned k k' s) (pruned_refl _ r))
shed_pruned (tree a k r) g (inr (inr (inr (r', s, e)))) = rw e (kept (pruned_refl k k) (pruned_skip a k (shed_pruned r r' s)))

pub shed_equal : (f g : Forest Tag) → Shed f g → Equal f g
shed_equal f g s = pruned_equal (shed_pruned f g s)

pub sheds_equal : (f g : Forest Tag) → Sheds f g → Equal f g
sheds_equal f g done = equal_refl f
sheds_equal f g (then {g = h} s t) = equal_trans f h g (shed_equal f h s) (sheds_equal h g t)

-- the tree that is cut out, and what it weighs
pub cut_found : {A : Type 0} (P : A → Forest A → Type 0) (g : Forest A) (x : Any P g)
    → (b : A) × (j : Forest A) × P b j × (size g ≡ suc (size j + size (cut P g x)))
cut_found P bare x = absurd x
cut_found P (tree b j r) (inl p) = (b, j, p, refl)
cut_found P (tree b j r) (inr x) = let w = cut_found P r x in let e = w.3 in (w.0, w.1, w.2, omega arith)

pub shed_less : (f g : Forest Tag) → Shed f g → size g < size f
shed_less bare g s = absurd s
shed_less (tree a k r) g (inl (x, e)) = rw e (omega arith)
shed_less (tree a k r) g (inr (inl (x, e))) = rw e (let c = (cut_found _ r x).3 in omega arith)
shed_less (tree a k r) g (inr (inr (inl (k', s, e)))) = rw e (let c = shed_less k k' s in omega arith)
shed_less (tree a k r) g (inr (inr (inr (r', s, e)))) = rw e (let c = shed_less r r' s in omega arith)

-- "Folding stops when no two brothers anywhere in the tree are left that fold": until then one can go
pub reduced_or_sheds : (f : Forest Tag) → Reduced f ⊎ ((g : Forest Tag) × Shed f g)
reduced_or_sheds bare = inl tt
reduced_or_sheds (tree a k r) =
    go (reduced_or_sheds k) (reduced_or_sheds r) (dec_any (λ b j. Onto a k b j) (dec_onto a k) r) (dec_any (λ b j. Onto b j a k) (λ b j. dec_onto b j a k) r)
  where
    go : Reduced k ⊎ ((g : Forest Tag) × Shed k g) → Reduced r ⊎ ((g : Forest Tag) × Shed r g) → Dec (Any (λ b j. Onto a k b j) r)
        → Dec (Any (λ b j. Onto b j a k) r) → Reduced (tree a k r) ⊎ ((g : Forest Tag) × Shed (tree a k r) g)
    go (inr (g, s)) y z w = inr (tree a g r, inr (inr (inl (g, s, refl))))
    go (inl rk) (inr (g, s)) z w = inr (tree a k g, inr (inr (inr (g, s, refl))))
    go (inl rk) (inl rr) (yes x) w = inr (r, inl (x, refl))
    go (inl rk) (inl rr) (no n) (yes x) = inr (_, inr (inl (x, refl)))
    go (inl rk) (inl rr) (no n) (no n') = inl (rk, rr, n, n')

-- so folding can be carried to the end
pub sheds_to_end : (f : Forest Tag) → (g : Forest Tag) × Sheds f g × Reduced g
sheds_to_end f = go (suc (size f)) f (omega arith)
  where
    go : (n : ℕ) (g : Forest Tag) → size g < n → (h : Forest Tag) × Sheds g h × Reduced h
    go zero g l = absurd (omega arith)
    go (suc n) g l =
        elim (reduced_or_sheds g) [
          | inl rd ↦ (g, done, rd)
          | inr (h, s) ↦ let l' = shed_less g h s in let w = go n h (omega arith) in (w.0, then s w.1, w.2)
        ]
