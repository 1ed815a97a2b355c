-- The laws of folding (01, Folding): it is a preorder, what folds onto a forest lies wherever the forest lies, and forests that fold onto each other
-- select the same pairs and stand for each other in every folding.
use mathlib.Core.Path.{◌≡◌, refl, ◌∙◌}
use mathlib.Core.Logic.{◌↔◌, inl, inr}
use mathlib.Core.Bool.{Bool, true, false}
use mathlib.Core.Option.{Option, none, some}
use Prim.Native.Nat.{ℕ}
use Rattle.meaning.specs.Document.{Doc}
use Rattle.meaning.specs.TreeQuery.{Lab, any, lab, Fits}
use Rattle.meaning.specs.Tree.{Forest, bare, tree, Tag, Any, Under, Lays, MarkOn, OnPair, Takes}
use Rattle.meaning.specs.Folding.{LabLe, MarkLe, TagLe, Folds, Onto}
use Rattle.meaning.specs.Matching.{OnLabel}

-- ------------------------------------------------------------------ what nodes bear is ordered
lab_refl : (a : Lab) → LabLe a a
lab_refl any = tt
lab_refl (lab l) = refl

lab_trans : (a b c : Lab) → LabLe a b → LabLe b c → LabLe a c
lab_trans any b c p q = tt
lab_trans (lab l) any c p q = absurd p
lab_trans (lab l) (lab l') any p q = absurd q
lab_trans (lab l) (lab l') (lab l'') p q = p ∙ q

lab_anti : (a b : Lab) → LabLe a b → LabLe b a → a ≡ b
lab_anti any any p q = refl
lab_anti any (lab l) p q = absurd q
lab_anti (lab l) any p q = absurd p
lab_anti (lab l) (lab l') p q = λ i. lab (p i)

mark_refl : (a : Bool) → MarkLe a a
mark_refl false = tt
mark_refl true = tt

mark_trans : (a b c : Bool) → MarkLe a b → MarkLe b c → MarkLe a c
mark_trans false b c p q = tt
mark_trans true false c p q = absurd p
mark_trans true true c p q = q

mark_anti : (a b : Bool) → MarkLe a b → MarkLe b a → a ≡ b
mark_anti false false p q = refl
mark_anti false true p q = absurd q
mark_anti true false p q = absurd p
mark_anti true true p q = refl

pub tag_refl : (a : Tag) → TagLe a a
tag_refl a = (lab_refl a.lab, mark_refl a.src, mark_refl a.dst)

pub tag_trans : (a b c : Tag) → TagLe a b → TagLe b c → TagLe a c
tag_trans a b c p q = (
  lab_trans a.lab b.lab c.lab p.0 q.0,
  mark_trans a.src b.src c.src p.1 q.1,
  mark_trans a.dst b.dst c.dst p.2 q.2,
)

pub tag_anti : (a b : Tag) → TagLe a b → TagLe b a → a ≡ b
tag_anti a b p q = λ i.
    record {
      lab = lab_anti a.lab b.lab p.0 q.0 i;
      src = mark_anti a.src b.src p.1 q.1 i;
      dst = mark_anti a.dst b.dst p.2 q.2 i;
    }

-- ------------------------------------------------------------------ folding is a preorder
unfoldable pub any_map : {A : Type 0} {P Q : A → Forest A → Type 0} → ((a : A) (k : Forest A) → P a k → Q a k) → (f : Forest A) → Any P f → Any Q f
any_map h bare x = x
any_map h (tree a k r) (inl p) = inl (h a k p)
any_map h (tree a k r) (inr x) = inr (any_map h r x)

pub folds_skip : (f : Forest Tag) (a : Tag) (k g : Forest Tag) → Folds f g → Folds f (tree a k g)
folds_skip bare a k g x = tt
folds_skip (tree b j r) a k g (x, y) = (inr x, folds_skip r a k g y)

pub folds_refl : (f : Forest Tag) → Folds f f
folds_refl bare = tt
folds_refl (tree a k r) = (inl (tag_refl a, folds_refl k), folds_skip r a k r (folds_refl r))

any_folds : {P : Tag → Forest Tag → Type 0} → ((b : Tag) (j : Forest Tag) (c : Tag) (i : Forest Tag) → P b j → Onto b j c i → P c i)
    → (g h : Forest Tag) → Any P g → Folds g h → Any P h
any_folds step bare h x y = absurd x
any_folds step (tree b j r) h (inl p) (x, y) = any_map (λ c i. step b j c i p) h x
any_folds step (tree b j r) h (inr p) (x, y) = any_folds step r h p y

pub folds_trans : (f g h : Forest Tag) → Folds f g → Folds g h → Folds f h
folds_trans bare g h x y = tt
folds_trans (tree a k r) g h (x, x') y =
    (any_folds {P = Onto a k} (λ b j c i (p, q) (p', q'). (tag_trans a b c p p', folds_trans k j i q q')) g h x y, folds_trans r g h x' y)

pub onto_trans : (a : Tag) (k : Forest Tag) (b : Tag) (j : Forest Tag) (c : Tag) (i : Forest Tag) → Onto a k b j → Onto b j c i → Onto a k c i
onto_trans a k b j c i (p, q) (p', q') = (tag_trans a b c p p', folds_trans k j i q q')

-- ------------------------------------------------------------------ what folds onto a forest lies wherever the forest lies
lab_fits : (a b : Lab) (x : ℕ) → LabLe a b → Fits b x → Fits a x
lab_fits any b x p q = tt
lab_fits (lab l) any x p q = absurd p
lab_fits (lab l) (lab l') x p q = p ∙ q

mark_on : (a b : Bool) (w m : ℕ) → MarkLe a b → MarkOn b w m → MarkOn a w m
mark_on false b w m p q = tt
mark_on true false w m p q = absurd p
mark_on true true w m p q = q

pub on_label_mono : (D : Doc) (a b : Tag) (w : ℕ) → TagLe a b → OnLabel D b w → OnLabel D a w
on_label_mono D a b w p = lab_fits a.lab b.lab _ p.0

pub on_pair_mono : (D : Doc) (m n : ℕ) (a b : Tag) (w : ℕ) → TagLe a b → OnPair D m n b w → OnPair D m n a w
on_pair_mono D m n a b w p (l, s, d) = (on_label_mono D a b w p l, mark_on a.src b.src w m p.1 s, mark_on a.dst b.dst w n p.2 d)

module _ (D : Doc) (On : Tag → ℕ → Type 0) (mono : (a b : Tag) (w : ℕ) → TagLe a b → On b w → On a w) where
  any_lays : {P : Tag → Forest Tag → Type 0} {Q : Type 0} (v : Option ℕ)
      → ((b : Tag) (j : Forest Tag) (w : ℕ) → P b j → Under D v w → On b w → Lays D On j (some w) → Q) → (g : Forest Tag) → Any P g → Lays D On g v
      → Q
  any_lays v h bare x l = absurd x
  any_lays v h (tree b j r) (inl p) ((w, u, o, l), l') = h b j w p u o l
  any_lays v h (tree b j r) (inr x) (l, l') = any_lays v h r x l'

  pub folds_lays : (f g : Forest Tag) (v : Option ℕ) → Folds f g → Lays D On g v → Lays D On f v
  folds_lays bare g v x l = tt
  folds_lays (tree a k r) g v (x, y) l =
      (any_lays {P = Onto a k} v (λ b j w (p, q) u o l'. (w, u, mono a b w p o, folds_lays k j (some w) q l')) g x l, folds_lays r g v y l)

-- ------------------------------------------------------------------ two forests that fold onto each other
abbrev pub Equal : Forest Tag → Forest Tag → Type 0
Equal f g = Folds f g × Folds g f

pub equal_refl : (f : Forest Tag) → Equal f f
equal_refl f = (folds_refl f, folds_refl f)

pub equal_trans : (f g h : Forest Tag) → Equal f g → Equal g h → Equal f h
equal_trans f g h (a, b) (c, d) = (folds_trans f g h a c, folds_trans h g f d b)

pub folds_tree : (a : Tag) (k k' r r' : Forest Tag) → Folds k k' → Folds r r' → Folds (tree a k r) (tree a k' r')
folds_tree a k k' r r' x y = (inl (tag_refl a, x), folds_skip r a k' r' y)

pub equal_tree : (a : Tag) (k k' r r' : Forest Tag) → Equal k k' → Equal r r' → Equal (tree a k r) (tree a k' r')
equal_tree a k k' r r' (x, y) (z, w) = (folds_tree a k k' r r' x z, folds_tree a k' k r' r y w)

-- whether u folds onto v does not change when what lies below them is changed for equals
pub onto_equal : (a b : Tag) (k k' j j' : Forest Tag) → Equal k k' → Equal j j' → Onto a k b j ↔ Onto a k' b j'
onto_equal a b k k' j j' (x, y) (z, w) =
    (λ (p, q). (p, folds_trans k' k j' y (folds_trans k j j' q z)), λ (p, q). (p, folds_trans k k' j x (folds_trans k' j' j q w)))

takes_from : (f g : Forest Tag) → Equal f g → (D : Doc) (m n : ℕ) → Takes g D m n → Takes f D m n
takes_from bare bare e D m n t = t
takes_from bare (tree b j s) (x, y) D m n t = absurd y.0
takes_from (tree a k r) bare e D m n t = absurd t
takes_from (tree a k r) (tree b j s) (x, y) D m n t = folds_lays D (OnPair D m n) (on_pair_mono D m n) (tree a k r) (tree b j s) none x t

-- forests that fold onto each other select the same pairs
pub equal_takes : (f g : Forest Tag) → Equal f g → (D : Doc) (m n : ℕ) → Takes f D m n ↔ Takes g D m n
equal_takes f g (x, y) D m n = (takes_from g f (y, x) D m n, takes_from f g (x, y) D m n)
