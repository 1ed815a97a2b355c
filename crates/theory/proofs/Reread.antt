-- The word of an expression is read back as that expression, "sign by sign", wherever it stands and whatever is pending, as long as the limits
-- are kept: labels up to 65,535, at most 255 steps, at most 256 operands pending, at most 4,096 bytes.
use mathlib.Core.Path.{◌≡◌, refl, sym, ap, subst, ◌∙◌}
use mathlib.Core.Bool.{Bool, true, false, cond}
use mathlib.Core.List.{List, [], ◌∷◌, ◌++◌, append-nil, append_assoc}
use Prim.Native.Nat.{ℕ, zero, suc, ◌+◌, ◌-◌, ◌≤◌, ◌<◌}
use native.Mathlib.Omega.{arith}
use native.Mathlib.Nat.{add_assoc}
use lib.ListN.{length, drop, length-drop, length-append, get_or-eq_default}
use lib.Seq.{drop-append_seam, drop-drop}
use lib.Dec.{ltb, leb}
use borrow.Author.Tests.{lt-ltb, le-ltb, le-leb, ne_eqb, ltb-true, ltb-false, leb-true}
use Rattle.meaning.specs.Expression.{Expr, empty, self, child, parent, label, comp, inter, proj1, proj2, inv, steps}
use Rattle.meaning.specs.Number.{num, Got, got, broken, groups, not_above, read_up_to, read_number, largest_sign}
use Rattle.meaning.specs.Word.{Outcome, refused, answered, and_then, operand, signs, sign_of, is_step, Pending, applied, takes, at_end, on_number, run, read_word}
use Rattle.meaning.specs.Normal.{word_of}
use Rattle.theory.proofs.Numbers.{num_one, read_num, groups_got}
use Rattle.theory.proofs.Labels.{LabelsIn}
use Rattle.theory.proofs.Operands.{need}
use Rattle.theory.proofs.Limits.{InRange}
use Rattle.theory.proofs.Look.{never}

-- ------------------------------------------------------------------ a number at a place
not_above_back : (top : ℕ) (g : Got) (v n : ℕ) → not_above top g ≡ got v n → (g ≡ got v n) × (v ≤ top)
not_above_back top broken v n e = never cc
not_above_back top (got w j) v n e = go (leb w top) refl e
  where
    go : (t : Bool) → leb w top ≡ t → cond t (got w j) broken ≡ got v n → (got w j ≡ got v n) × (v ≤ top)
    go true q e' = let z : w ≡ v = cc in (e', omega (arith, leb-true w top q))
    go false q e' = never cc

-- a number that is read takes a byte or more of the bytes, and is not above the top
pub read_back : (top : ℕ) (bytes : List ℕ) (at v n : ℕ) → read_up_to top bytes at ≡ got v n → (at < length bytes) × (0 < n) × (v ≤ top)
read_back top bytes at v n e =
    let (g, le) = not_above_back top (groups true (drop at bytes)) v n e in
    let (p, q, _) = groups_got true (drop at bytes) v n g in
    let l = length-drop at bytes in (omega arith, p, le)

pub number_read : (word : List ℕ) (at v n : ℕ) → read_number word at ≡ got v n → (at < length word) × (0 < n) × (v ≤ largest_sign)
unfolding read_number
number_read = read_back largest_sign

-- a number that is written at a place is read there
read_at : (word : List ℕ) (at v : ℕ) (rest : List ℕ) → drop at word ≡ num v ++ rest → v ≤ largest_sign → read_number word at ≡ got v (length (num v))
unfolding read_number
read_at word at v rest e le = rw (e, read_num v rest, le-leb v largest_sign le)

-- the sign of a label is an operand and no step
pub sign_label : (l : ℕ) → sign_of (9 + l) ≡ operand (label l)
unfolding sign_of
sign_label l =
    let e : 9 + l - 9 ≡ l = omega arith in
    get_or-eq_default signs (operand (label (9 + l - 9))) {n = 9 + l} (omega arith) ∙ ap (λ n. operand (label n)) e

pub step_label : (l : ℕ) → is_step (9 + l) ≡ false
unfolding is_step
step_label l = rw (ne_eqb (9 + l) 2 (λ z. omega arith), ne_eqb (9 + l) 3 (λ z. omega arith))

-- ------------------------------------------------------------------ how far the reader goes
abbrev pub pend : List Expr → ℕ → Pending
pend es k = record { operands = es; steps = k }

-- an operand goes onto the pending ones
push : (e : Expr) (b : Bool) (es : List Expr) (at k : ℕ) → steps e ≡ cond b 1 0 → k + steps e ≤ 255 → length es < 256
    → applied (operand e) b (pend es k) at ≡ answered (pend (e ∷ es) (k + steps e))
push e true es at k q le lt = rw (lt-ltb (length es) 256 lt, lt-ltb k 255 (omega arith), q)
push e false es at k q le lt = rw (lt-ltb (length es) 256 lt, q) (ap (λ j. answered (pend (e ∷ es) j)) (let z : k ≡ k + 0 = omega arith in z))

take_label : (l : ℕ) (es : List Expr) (at k : ℕ) → k + 0 ≤ 255 → length es < 256
    → takes (9 + l) (pend es k) at ≡ answered (pend (label l ∷ es) (k + 0))
unfolding takes
take_label l es at k s lt = rw (sign_label l, step_label l) (push (label l) false es at k refl s lt)

module _ (word : List ℕ) where
  -- the rest of the word, read from a place on
  abbrev pub on_from : ℕ → Pending → Outcome Expr
  on_from at st = run (length word) word at st

  -- past the last byte the turns left over do nothing
  pub run_past : (k at : ℕ) (st : Pending) → length word ≤ at → run k word at st ≡ at_end word st
  unfolding run
  run_past zero at st le = refl
  run_past (suc k) at st le = rw (le-ltb at (length word) le)

  pub run_one : (k at : ℕ) (st : Pending) → at < length word
      → run (suc k) word at st ≡ on_number (λ next u. run k word next u) at st (read_number word at)
  unfolding run
  run_one k at st lt = rw (lt-ltb at (length word) lt)

  -- two ways to go on that agree behind `at` come to the same
  on_number_agree : (f g : ℕ → Pending → Outcome Expr) (at : ℕ) (st : Pending) → ((next : ℕ) (u : Pending) → at < next → f next u ≡ g next u)
      → (r : Got) → read_number word at ≡ r → on_number f at st r ≡ on_number g at st r
  on_number_agree f g at st same (got v n) e = go (takes v st at)
    where
      go : (o : Outcome Pending) → and_then o (f (at + n)) ≡ and_then o (g (at + n))
      go (refused x p) = refl
      go (answered u) = same (at + n) u (omega (arith, (number_read word at v n e).1))
  on_number_agree f g at st same broken e = refl

  -- a sign takes a byte or more, so any number of turns that reaches the end gives the same
  pub run_enough : (k j at : ℕ) (st : Pending) → length word ≤ at + k → length word ≤ at + j → run k word at st ≡ run j word at st
  run_enough zero j at st h i = run_past zero at st (omega arith) ∙ sym (run_past j at st (omega arith))
  run_enough (suc k) zero at st h i = run_past (suc k) at st (omega arith) ∙ sym (run_past zero at st (omega arith))
  run_enough (suc k) (suc j) at st h i = go (ltb at (length word)) refl (λ next u lt. run_enough k j next u (omega arith) (omega arith))
    where
      go : (t : Bool) → ltb at (length word) ≡ t → ((next : ℕ) (u : Pending) → at < next → run k word next u ≡ run j word next u)
          → run (suc k) word at st ≡ run (suc j) word at st
      go true q ih =
          run_one k at st (ltb-true at (length word) q)
          ∙ on_number_agree (λ next u. run k word next u) (λ next u. run j word next u) at st ih (read_number word at) refl
          ∙ sym (run_one j at st (ltb-true at (length word) q))
      go false q ih = run_past (suc k) at st (ltb-false at (length word) q) ∙ sym (run_past (suc j) at st (ltb-false at (length word) q))

  -- ------------------------------------------------------------------ through a part of the word
  -- the reader goes through w wherever it stands: what was pending is st before and u after it
  abbrev pub Through : List ℕ → Pending → Pending → Type 0
  Through w st u = (at : ℕ) (rest : List ℕ) → drop at word ≡ w ++ rest → on_from at st ≡ on_from (at + length w) u

  through_append : (x y : List ℕ) (st t u : Pending) → Through x st t → Through y t u → Through (x ++ y) st u
  through_append x y st t u p q at rest d =
      let dx = d ∙ append_assoc x y rest in
      let dy = sym (drop-drop (length x) at word) ∙ ap (drop (length x)) dx ∙ drop-append_seam x (y ++ rest) in
      p at (y ++ rest) dx ∙ q (at + length x) rest dy ∙ ap (λ n. on_from n u) (omega (arith, length-append x y))

  through_sign : (v : ℕ) (st u : Pending) → v ≤ largest_sign → ((at : ℕ) → takes v st at ≡ answered u) → Through (num v) st u
  through_sign v st u le t at rest d =
      let r = read_at word at v rest d le in
      run_enough (length word) (suc (length word)) at st (omega arith) (omega arith)
      ∙ run_one (length word) at st (number_read word at v (length (num v)) r).0
      ∙ ap (on_number (λ next u. on_from next u) at st) r
      ∙ ap (λ o. and_then o (on_from (at + length (num v)))) (t at)

  -- a sign of one byte
  through_byte : (v : ℕ) (st u : Pending) → v < 128 → ((at : ℕ) → takes v st at ≡ answered u) → Through (v ∷ []) st u
  through_byte v st u lt t = subst (λ w. Through w st u) (num_one v lt) (through_sign v st u (omega arith) t)

  through_binary : (op : Expr → Expr → Expr) (v : ℕ) (e f : Expr) (es : List Expr) (k : ℕ) → v < 128
      → ((j at : ℕ) → takes v (pend (f ∷ (e ∷ es)) j) at ≡ answered (pend (op e f ∷ es) j))
      → Through (word_of e) (pend es k) (pend (e ∷ es) (k + steps e))
      → Through (word_of f) (pend (e ∷ es) (k + steps e)) (pend (f ∷ (e ∷ es)) (k + steps e + steps f))
      → Through (word_of e ++ (word_of f ++ (v ∷ []))) (pend es k) (pend (op e f ∷ es) (k + (steps e + steps f)))
  through_binary op v e f es k lt t pe pf =
      let j = k + steps e + steps f in
      rw (← add_assoc k (steps e) (steps f))
      (through_append (word_of e) (word_of f ++ (v ∷ [])) (pend es k) (pend (e ∷ es) (k + steps e)) (pend (op e f ∷ es) j) pe
      (through_append (word_of f) (v ∷ []) (pend (e ∷ es) (k + steps e)) (pend (f ∷ (e ∷ es)) j) (pend (op e f ∷ es) j) pf
      (through_byte v (pend (f ∷ (e ∷ es)) j) (pend (op e f ∷ es) j) lt (t j))))

  through_unary : (op : Expr → Expr) (v : ℕ) (e : Expr) (es : List Expr) (k j : ℕ) → v < 128
      → ((at : ℕ) → takes v (pend (e ∷ es) j) at ≡ answered (pend (op e ∷ es) j))
      → Through (word_of e) (pend es k) (pend (e ∷ es) j) → Through (word_of e ++ (v ∷ [])) (pend es k) (pend (op e ∷ es) j)
  through_unary op v e es k j lt t p =
      through_append (word_of e) (v ∷ []) (pend es k) (pend (e ∷ es) j) (pend (op e ∷ es) j) p
      (through_byte v (pend (e ∷ es) j) (pend (op e ∷ es) j) lt t)

  -- ------------------------------------------------------------------ through the word of an expression
  -- the reader goes through the word of e, and e is pending then
  pub run_word : (e : Expr) (es : List Expr) (k : ℕ) → LabelsIn InRange e → k + steps e ≤ 255 → length es + need e ≤ 256
      → Through (word_of e) (pend es k) (pend (e ∷ es) (k + steps e))
  unfolding takes sign_of is_step
  run_word empty es k h s n =
      through_byte 0 (pend es k) (pend (empty ∷ es) (k + 0)) (omega arith) (λ at. push empty false es at k refl s (omega arith))
  run_word self es k h s n =
      through_byte 1 (pend es k) (pend (self ∷ es) (k + 0)) (omega arith) (λ at. push self false es at k refl s (omega arith))
  run_word child es k h s n =
      through_byte 2 (pend es k) (pend (child ∷ es) (k + 1)) (omega arith) (λ at. push child true es at k refl s (omega arith))
  run_word parent es k h s n =
      through_byte 3 (pend es k) (pend (parent ∷ es) (k + 1)) (omega arith) (λ at. push parent true es at k refl s (omega arith))
  run_word (label l) es k h s n =
      through_sign (9 + l) (pend es k) (pend (label l ∷ es) (k + 0)) (omega arith) (λ at. take_label l es at k (omega arith) (omega arith))
  run_word (comp e f) es k (he, hf) s n =
      through_binary comp 4 e f es k (omega arith) (λ j at. refl)
      (run_word e es k he (omega arith) (omega arith)) (run_word f (e ∷ es) (k + steps e) hf (omega arith) (omega arith))
  run_word (proj1 e) es k h s n = through_unary proj1 5 e es k (k + steps e) (omega arith) (λ at. refl) (run_word e es k h s n)
  run_word (proj2 e) es k h s n = through_unary proj2 6 e es k (k + steps e) (omega arith) (λ at. refl) (run_word e es k h s n)
  run_word (inter e f) es k (he, hf) s n =
      through_binary inter 7 e f es k (omega arith) (λ j at. refl)
      (run_word e es k he (omega arith) (omega arith)) (run_word f (e ∷ es) (k + steps e) hf (omega arith) (omega arith))
  run_word (inv e) es k h s n = through_unary inv 8 e es k (k + steps e) (omega arith) (λ at. refl) (run_word e es k h s n)

-- the word of an expression is accepted as that expression
pub read_word_lem : (e : Expr) → LabelsIn InRange e → steps e ≤ 255 → need e ≤ 256 → length (word_of e) ≤ 4096 → read_word (word_of e) ≡ answered e
unfolding read_word at_end
read_word_lem e h s n l =
    rw (le-ltb 4096 (length (word_of e)) l)
    (run_word (word_of e) e [] 0 h (omega arith) (omega arith) 0 [] (sym (append-nil (word_of e)))
    ∙ run_past (word_of e) (length (word_of e)) (0 + length (word_of e)) (pend (e ∷ []) (0 + steps e)) (omega arith))
