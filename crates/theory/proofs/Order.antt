-- A forest with its brothers in image order is the forest still: it folds onto it and back, selects the same pairs and has the same nodes and labels.
use mathlib.Core.Path.{◌≡◌, refl, sym, ◌∙◌}
use mathlib.Core.Logic.{◌↔◌, inl, inr}
use mathlib.Core.Option.{Option, some}
use mathlib.Core.Bool.{Bool, true}
use Prim.Native.Nat.{ℕ}
use native.Mathlib.Omega.{arith}
use Rattle.meaning.specs.Basics.{pick}
use Rattle.meaning.specs.Document.{Doc}
use Rattle.meaning.specs.Tree.{Forest, bare, tree, Tag, size, Lays}
use Rattle.meaning.specs.Folding.{Folds}
use Rattle.meaning.specs.Image.{LeL, dec_l, record_of, records, place, ordered}
use Rattle.theory.proofs.Count.{count, size_count}
use Rattle.theory.proofs.Labels.{LabsIn}
use Rattle.theory.proofs.Folding.{tag_refl, folds_skip, folds_refl, Equal, equal_refl, equal_trans, equal_tree}

-- E does not look at the order of brothers
record Orderless (E : Forest Tag → Forest Tag → Type 0) : Type 0 where
  same : (f : Forest Tag) → E f f
  via : (f g h : Forest Tag) → E f g → E g h → E f h
  under : (a : Tag) (k k' r r' : Forest Tag) → E k k' → E r r' → E (tree a k r) (tree a k' r')
  swap : (a : Tag) (k : Forest Tag) (b : Tag) (j r : Forest Tag) → E (tree b j (tree a k r)) (tree a k (tree b j r))

module _ (E : Forest Tag → Forest Tag → Type 0) (O : Orderless E) where
  place_same : (a : Tag) (k r : Forest Tag) → E (place a k r) (tree a k r)
  place_same a k bare = O.same (tree a k bare)
  place_same a k (tree b j r) = go (dec_l (record_of a (records k)) (record_of b (records j))) (place_same a k r)
    where
      go : (d : Dec (LeL (record_of a (records k)) (record_of b (records j)))) → E (place a k r) (tree a k r)
          → E (pick d (tree a k (tree b j r)) (tree b j (place a k r))) (tree a k (tree b j r))
      go (yes p) ih = O.same (tree a k (tree b j r))
      go (no n) ih =
          O.via (tree b j (place a k r)) (tree b j (tree a k r)) (tree a k (tree b j r)) (O.under b j j (place a k r) (tree a k r) (O.same j) ih) (O.swap a k b j r)

  ordered_same : (f : Forest Tag) → E (ordered f) f
  ordered_same bare = O.same bare
  ordered_same (tree a k r) =
      O.via (place a (ordered k) (ordered r)) (tree a (ordered k) (ordered r)) (tree a k r) (place_same a (ordered k) (ordered r))
      (O.under a (ordered k) k (ordered r) r (ordered_same k) (ordered_same r))

pub ordered_lays : (D : Doc) (On : Tag → ℕ → Type 0) (f : Forest Tag) (v : Option ℕ) → Lays D On (ordered f) v ↔ Lays D On f v
ordered_lays D On =
    ordered_same (λ f g. (v : Option ℕ) → Lays D On f v ↔ Lays D On g v)
    (record {
      same = λ f v. (λ l. l, λ l. l);
      via = λ f g h x y v. (λ l. (y v).0 ((x v).0 l), λ l. (x v).1 ((y v).1 l));
      under = λ a k k' r r' x y v. (
        λ (s, l). ((s.0, s.1, s.2, (x (some s.0)).0 s.3), (y v).0 l),
        λ (s, l). ((s.0, s.1, s.2, (x (some s.0)).1 s.3), (y v).1 l),
      );
      swap = λ a k b j r v. (λ (s, l). (l.0, (s, l.1)), λ (s, l). (l.0, (s, l.1)));
    })

pub ordered_count : (q : Tag → Bool) (f : Forest Tag) → count q (ordered f) ≡ count q f
ordered_count q =
    ordered_same (λ f g. count q f ≡ count q g)
    (record { same = λ f. refl; via = λ f g h x y. x ∙ y; under = λ a k k' r r' x y. omega arith; swap = λ a k b j r. omega arith })

pub ordered_size : (f : Forest Tag) → size (ordered f) ≡ size f
ordered_size f = size_count (ordered f) ∙ ordered_count (λ _. true) f ∙ sym (size_count f)

pub ordered_labels : (P : ℕ → Type 0) (f : Forest Tag) → LabsIn P (ordered f) ↔ LabsIn P f
ordered_labels P =
    ordered_same (λ f g. LabsIn P f ↔ LabsIn P g)
    (record {
      same = λ f. (λ l. l, λ l. l);
      via = λ f g h x y. (λ l. y.0 (x.0 l), λ l. x.1 (y.1 l));
      under = λ a k k' r r' x y. (λ (l, p, q). (l, x.0 p, y.0 q), λ (l, p, q). (l, x.1 p, y.1 q));
      swap = λ a k b j r. (λ (l, p, q). (q.0, q.1, (l, p, q.2)), λ (l, p, q). (q.0, q.1, (l, p, q.2)));
    })

pub ordered_equal : (f : Forest Tag) → Equal (ordered f) f
ordered_equal =
    ordered_same Equal
    (record {
      same = equal_refl;
      via = equal_trans;
      under = equal_tree;
      swap = λ a k b j r. (swap a k b j r, swap b j a k r);
    })
  where
    swap : (a : Tag) (k : Forest Tag) (b : Tag) (j r : Forest Tag) → Folds (tree b j (tree a k r)) (tree a k (tree b j r))
    swap a k b j r = (
      inr (inl (tag_refl b, folds_refl j)),
      (inl (tag_refl a, folds_refl k), folds_skip r a k (tree b j r) (folds_skip r b j r (folds_refl r))),
    )
