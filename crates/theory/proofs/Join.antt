-- Two tables side by side: where the rows stand, and that the layings of both together are the pairs of layings.
use mathlib.Core.Path.{◌≡◌, refl, sym, ap, subst, ◌∙◌, fun_ext}
use mathlib.Core.Logic.{◌↔◌, by_cases}
use mathlib.Core.Option.{Option, none, some}
use mathlib.Core.List.{map}
use Prim.Native.Nat.{ℕ, ◌+◌, ◌-◌, ◌<◌}
use native.Mathlib.Decide.{dec_lt}
use native.Mathlib.Omega.{arith}
use lib.ListN.{length, length-map, length-append}
use Rattle.meaning.specs.Basics.{pick, mapped}
use Rattle.meaning.specs.Document.{Doc}
use Rattle.meaning.specs.TreeQuery.{Lab, Row, node, Table, at, Live, RowKept, Laying}
use Rattle.meaning.specs.Gluing.{relink, shift, join}
use Rattle.theory.proofs.Look.{never, pick_yes, pick_no, look_lt, look_left, look_right, look_map, live_lt}
use Rattle.theory.proofs.Gluing.{Closed}

pub length_join : (A B : Table) → length (join A B) ≡ length A + length B
length_join A B = simp (length-append, length-map)

pub at_left : (A B : Table) (i : ℕ) → i < length A → at (join A B) i ≡ at A i
at_left A B i lt = look_left A (map (relink (shift A)) B) i lt

pub at_right : (A B : Table) (j : ℕ) → at (join A B) (length A + j) ≡ mapped (relink (shift A)) (at B j)
at_right A B j = look_right A (map (relink (shift A)) B) j ∙ look_map (relink (shift A)) B j

pub live_left : (A B : Table) (i : ℕ) → Live A i → Live (join A B) i
live_left A B i (u, l, e) = (u, l, at_left A B i (look_lt A i e) ∙ e)

pub live_right : (A B : Table) (j : ℕ) → Live B j → Live (join A B) (length A + j)
live_right A B j (u, l, e) = (mapped (shift A) u, l, at_right A B j ∙ ap (mapped (relink (shift A))) e)

-- ------------------------------------------------------------------ a number is a row of the first or of the second
pub data Side (A : Table) (i : ℕ) : Type 0 where
  left : i < length A → Side A i
  right : (j : ℕ) → i ≡ length A + j → Side A i

pub side_of : (A : Table) (i : ℕ) → Side A i
side_of A i = by_cases (dec_lt i (length A)) left (λ ge. right (i - length A) (omega arith))

pub data JoinRow (A B : Table) (i : ℕ) (u : Option ℕ) (l : Lab) : Type 0 where
  in_first : i < length A → at A i ≡ some (node u l) → JoinRow A B i u l
  in_second : (j : ℕ) (v : Option ℕ) → i ≡ length A + j → u ≡ mapped (shift A) v → at B j ≡ some (node v l) → JoinRow A B i u l

pub join_row : (A B : Table) (i : ℕ) (u : Option ℕ) (l : Lab) → at (join A B) i ≡ some (node u l) → JoinRow A B i u l
join_row A B i u l e = go (side_of A i)
  where
    row : (j : ℕ) → i ≡ length A + j → (o : Option Row) → at B j ≡ o → mapped (relink (shift A)) o ≡ some (node u l) → JoinRow A B i u l
    row j ei none e₁ e₂ = never cc
    row j ei (some (node v k)) e₁ e₂ = in_second j v ei (let z : u ≡ mapped (shift A) v = cc in z) (let z : at B j ≡ some (node v l) = cc in z)

    go : Side A i → JoinRow A B i u l
    go (left lt) = in_first lt (sym (at_left A B i lt) ∙ e)
    go (right j ei) = row j ei (at B j) refl (sym (at_right A B j) ∙ ap (at (join A B)) (sym ei) ∙ e)

-- two functions, one on each side
abbrev pub fork : Table → (ℕ → ℕ) → (ℕ → ℕ) → ℕ → ℕ
fork A f g i = pick (dec_lt i (length A)) (f i) (g (i - length A))

pub fork_left : (A : Table) (f g : ℕ → ℕ) (i : ℕ) → i < length A → fork A f g i ≡ f i
fork_left A f g i lt = pick_yes (dec_lt i (length A)) (f i) (g (i - length A)) lt

pub fork_right : (A : Table) (f g : ℕ → ℕ) (j : ℕ) → fork A f g (length A + j) ≡ g j
fork_right A f g j =
    pick_no (dec_lt (length A + j) (length A)) (f (length A + j)) (g ((length A + j) - length A)) (λ lt. omega arith) ∙ ap g (omega arith)

-- ------------------------------------------------------------------ layings
module _ (D : Doc) (A B : Table) where
  shifted : (h : ℕ → ℕ) (j : ℕ) (o : Option Row) → RowKept D h (length A + j) (mapped (relink (shift A)) o) ↔ RowKept D (λ z. h (length A + z)) j o
  shifted h j none = (λ k. k, λ k. k)
  shifted h j (some (node none l)) = (λ k. k, λ k. k)
  shifted h j (some (node (some p) l)) = (λ k. k, λ k. k)

  pub laying_left : (h : ℕ → ℕ) → Laying D (join A B) h → Laying D A h
  laying_left h lay i = go (at A i) refl
    where
      go : (o : Option Row) → at A i ≡ o → RowKept D h i o
      go none e = tt
      go (some r) e = subst (RowKept D h i) (at_left A B i (look_lt A i e) ∙ e) (lay i)

  pub laying_right : (h : ℕ → ℕ) → Laying D (join A B) h → Laying D B (λ z. h (length A + z))
  laying_right h lay j = (shifted h j (at B j)).0 (subst (RowKept D h (length A + j)) (at_right A B j) (lay (length A + j)))

  -- a laying may be changed off the table
  laying_ext : (f h : ℕ → ℕ) → Closed A → ((i : ℕ) → i < length A → h i ≡ f i) → Laying D A f → Laying D A h
  laying_ext f h cl same lay i = go (at A i) refl (lay i)
    where
      go : (o : Option Row) → at A i ≡ o → RowKept D f i o → RowKept D h i o
      go none e k = tt
      go (some (node none l)) e (a, b, c) = let q = same i (look_lt A i e) in (rw q a, rw q b, tt)
      go (some (node (some p) l)) e (a, b, c) =
          let q = same i (look_lt A i e) in let q' = same p (live_lt A p (cl i p l e)) in
          (rw q a, rw q b, rw (q, q') c)

  pub laying_fork : (f g : ℕ → ℕ) → Closed A → Laying D A f → Laying D B g → Laying D (join A B) (fork A f g)
  laying_fork f g cl layA layB i = go (side_of A i)
    where
      go : Side A i → RowKept D (fork A f g) i (at (join A B) i)
      go (left lt) = rw (at_left A B i lt) (laying_ext f (fork A f g) cl (fork_left A f g) layA i)
      go (right j e) = rw (e, at_right A B j) ((shifted (fork A f g) j (at B j)).1 (subst (Laying D B) (sym (fun_ext (fork_right A f g))) layB j))
