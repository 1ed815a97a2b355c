-- "Ascending byte order": it is a total order of byte strings, and a list in that order does not tell in which order it was filled.
use mathlib.Core.Path.{◌≡◌, refl, ◌∙◌}
use mathlib.Core.Logic.{◌⊎◌, inl, inr}
use mathlib.Core.List.{List, [], ◌∷◌}
use Prim.Native.Nat.{ℕ, ◌<◌}
use native.Mathlib.Decide.{dec_lt}
use native.Mathlib.Omega.{arith}
use Rattle.meaning.specs.Basics.{pick}
use Rattle.meaning.specs.Image.{LeL, dec_l, insert}

-- ------------------------------------------------------------------ a total order
pub le_total : (xs ys : List ℕ) → LeL xs ys ⊎ LeL ys xs
le_total [] ys = inl tt
le_total (x ∷ xs) [] = inr tt
le_total (x ∷ xs) (y ∷ ys) = go (dec_lt x y) (dec_lt y x) (le_total xs ys)
  where
    go : Dec (x < y) → Dec (y < x) → LeL xs ys ⊎ LeL ys xs → LeL (x ∷ xs) (y ∷ ys) ⊎ LeL (y ∷ ys) (x ∷ xs)
    go (yes p) q r = inl (inl p)
    go (no n) (yes q) r = inr (inl q)
    go (no n) (no m) (inl r) = inl (inr (omega arith, r))
    go (no n) (no m) (inr r) = inr (inr (omega arith, r))

pub le_antisym : (xs ys : List ℕ) → LeL xs ys → LeL ys xs → xs ≡ ys
le_antisym [] [] p q = refl
le_antisym [] (y ∷ ys) p q = absurd q
le_antisym (x ∷ xs) [] p q = absurd p
le_antisym (x ∷ xs) (y ∷ ys) (inl p) (inl q) = absurd (omega arith)
le_antisym (x ∷ xs) (y ∷ ys) (inl p) (inr (e, q)) = absurd (omega arith)
le_antisym (x ∷ xs) (y ∷ ys) (inr (e, p)) (inl q) = absurd (omega arith)
le_antisym (x ∷ xs) (y ∷ ys) (inr (e, p)) (inr (e', q)) = let r = le_antisym xs ys p q in cc

pub le_trans : (xs ys zs : List ℕ) → LeL xs ys → LeL ys zs → LeL xs zs
le_trans [] ys zs p q = tt
le_trans (x ∷ xs) [] zs p q = absurd p
le_trans (x ∷ xs) (y ∷ ys) [] p q = absurd q
le_trans (x ∷ xs) (y ∷ ys) (z ∷ zs) (inl p) (inl q) = inl (omega arith)
le_trans (x ∷ xs) (y ∷ ys) (z ∷ zs) (inl p) (inr (e, q)) = inl (omega arith)
le_trans (x ∷ xs) (y ∷ ys) (z ∷ zs) (inr (e, p)) (inl q) = inl (omega arith)
le_trans (x ∷ xs) (y ∷ ys) (z ∷ zs) (inr (e, p)) (inr (e', q)) = inr (e ∙ e', le_trans xs ys zs p q)

not_le : (xs ys : List ℕ) → ¬ LeL xs ys → LeL ys xs
not_le xs ys n = go (le_total xs ys)
  where
    go : LeL xs ys ⊎ LeL ys xs → LeL ys xs
    go (inl p) = absurd (n p)
    go (inr q) = q

-- ------------------------------------------------------------------ a record among records
pub insert_before : (x y : List ℕ) (l : List (List ℕ)) → LeL x y → insert x (y ∷ l) ≡ x ∷ (y ∷ l)
insert_before x y l p = go (dec_l x y)
  where
    go : (d : Dec (LeL x y)) → pick d (x ∷ (y ∷ l)) (y ∷ insert x l) ≡ x ∷ (y ∷ l)
    go (yes q) = refl
    go (no n) = absurd (n p)

pub insert_behind : (x y : List ℕ) (l : List (List ℕ)) → ¬ LeL x y → insert x (y ∷ l) ≡ y ∷ insert x l
insert_behind x y l n = go (dec_l x y)
  where
    go : (d : Dec (LeL x y)) → pick d (x ∷ (y ∷ l)) (y ∷ insert x l) ≡ y ∷ insert x l
    go (yes p) = absurd (n p)
    go (no m) = refl

-- where both go in front of the list
insert_front : (x y : List ℕ) (l : List (List ℕ)) → insert x l ≡ x ∷ l → insert y l ≡ y ∷ l → insert x (y ∷ l) ≡ insert y (x ∷ l)
insert_front x y l ex ey = go (dec_l x y) (dec_l y x)
  where
    go : Dec (LeL x y) → Dec (LeL y x) → insert x (y ∷ l) ≡ insert y (x ∷ l)
    go (yes p) (yes q) = cc (le_antisym x y p q)
    go (yes p) (no n) = cc (insert_before x y l p, insert_behind y x l n)
    go (no n) (yes q) = cc (insert_behind x y l n, insert_before y x l q)
    go (no n) (no m) = absurd (m (not_le x y n))

-- what is inserted first does not matter
pub insert_comm : (x y : List ℕ) (l : List (List ℕ)) → insert x (insert y l) ≡ insert y (insert x l)
insert_comm x y [] = insert_front x y [] refl refl
insert_comm x y (z ∷ l) = go (insert_comm x y l) (dec_l x z) (dec_l y z)
  where
    go : insert x (insert y l) ≡ insert y (insert x l) → Dec (LeL x z) → Dec (LeL y z) → insert x (insert y (z ∷ l)) ≡ insert y (insert x (z ∷ l))
    go ih (yes p) (yes q) =
        let bx = insert_before x z l p in
        let by = insert_before y z l q in cc (insert_front x y (z ∷ l) bx by)
    go ih (yes p) (no n) =
        cc (
          insert_before x z l p,
          insert_behind y z l n,
          insert_before x z (insert y l) p,
          insert_behind y x (z ∷ l) (λ q. n (le_trans y x z q p)),
        )
    go ih (no n) (yes q) =
        cc (
          insert_behind x z l n,
          insert_before y z l q,
          insert_before y z (insert x l) q,
          insert_behind x y (z ∷ l) (λ p. n (le_trans x y z p q)),
        )
    go ih (no n) (no m) = cc (insert_behind x z l n, insert_behind y z l m, insert_behind x z (insert y l) n, insert_behind y z (insert x l) m)
