-- What one number of the code makes of the stack, and that the code may be read number by number.
use Rattle.std.specs.Prelude.{ℕ, zero, suc, ◌+◌, ◌-◌, ◌≤◌, ◌<◌, ◌≡◌, refl, List, [], ◌∷◌, length, get_or, set}
use Rattle.std.proofs.Common.{sym, ap, ◌∙◌, ⊎_elim, arith, length-set, get_or-set_same, get_or-set_other, eq-eqb, ne_eqb, lt-ltb, le-ltb}
use Rattle.basic_laws.specs.Numbers.{below_or_from}
use Rattle.model_code.specs.Codes.{AND_CODE, OPT_CODE, PLUS_CODE, SEQ_CODE}
use Rattle.layout.specs.Sizes.{MODEL_ROWS, CODE, POSITIONS}
use Rattle.and_laws.specs.Code.{Six, sixes}
use Rattle.model_code.specs.declared.Pairing.{Pairing}
use Rattle.model_code.specs.Six.{six, maybe_six, many_six, joined_six, step_code, run_code, none_pairing, stacked, Told}

stacked_set : (a : List Pairing) (n : ℕ) (x : Pairing) (m : ℕ) → m ≤ n → stacked (set a n x) m ≡ stacked a m
stacked_set a n x zero l = refl
stacked_set a n x (suc m) l = rw (get_or-set_other a n m x none_pairing (λ e. omega arith), stacked_set a n x m (omega arith))

stacked_length : (a : List Pairing) (n : ℕ) → length (stacked a n) ≡ n
stacked_length a zero = refl
stacked_length a (suc n) = ap suc (stacked_length a n)

-- The stack after the first i numbers of the code of T.
pub record Passed (T : List ℕ) (p q i : ℕ) (a : List Pairing) (top : ℕ) : Type 0 where
  pub len : length a ≡ POSITIONS
  pub low : top ≤ POSITIONS
  pub is : stacked a top ≡ run_code T p q i

-- One number more is read.
module _ (T : List ℕ) (p q i : ℕ) (a : List Pairing) (top : ℕ) (so : Passed T p q i a top) (within : i < CODE) where
  abbrev Steps : (op : ℕ) (b : List Pairing) (k : ℕ) → Type 0
  Steps op b k = stacked b k ≡ step_code p q op (stacked a top)

  passed : (op : ℕ) → op ≡ get_or T (MODEL_ROWS + i) 0 → (b : List Pairing) (k : ℕ) → length b ≡ POSITIONS → k ≤ POSITIONS → Steps op b k → Passed T p q (i + 1) b k
  passed op read b k len low steps =
      let e : i + 1 ≡ suc i = omega arith in
      let one : run_code T p q (suc i) ≡ step_code p q (get_or T (MODEL_ROWS + i) 0) (run_code T p q i) = rw (lt-ltb i CODE within) in
      record {
        len = len;
        low = low;
        is = steps ∙ ap (step_code p q op) so.is ∙ ap (λ (o : ℕ). step_code p q o (run_code T p q i)) read ∙ sym one ∙ ap (run_code T p q) (sym e);
      }

  pub passed_place : (op : ℕ) → op ≡ get_or T (MODEL_ROWS + i) 0 → op < SEQ_CODE → top < POSITIONS → (x : Pairing) → six x ≡ (sixes p q).at op → Passed T p q (i + 1) (set a top x) (top + 1)
  passed_place op read small room x is =
      let e : top + 1 ≡ suc top = omega arith in
      let front : six (get_or (set a top x) top none_pairing) ≡ (sixes p q).at op = ap six (get_or-set_same a top x none_pairing (omega (arith, so.len))) ∙ is in
      passed op read (set a top x) (top + 1) (length-set a top x ∙ so.len) (omega arith)
      (rw (e, lt-ltb op SEQ_CODE small, stacked_length a top, lt-ltb top POSITIONS room, stacked_set a top x top (omega arith)) (ap (λ (v : Six). v ∷ stacked a top) front))

  pub passed_full : (op : ℕ) → op ≡ get_or T (MODEL_ROWS + i) 0 → op < SEQ_CODE → POSITIONS ≤ top → Passed T p q (i + 1) a top
  passed_full op read small full =
      passed op read a top so.len so.low (rw (lt-ltb op SEQ_CODE small, stacked_length a top, le-ltb top POSITIONS full))

  pub passed_other : (op : ℕ) → op ≡ get_or T (MODEL_ROWS + i) 0 → AND_CODE ≤ op → Passed T p q (i + 1) a top
  passed_other op read large =
      passed op read a top so.len so.low (rw (le-ltb op SEQ_CODE (omega arith), ne_eqb op OPT_CODE (λ e. omega arith), ne_eqb op PLUS_CODE (λ e. omega arith), le-ltb op AND_CODE large))

-- A number that changes the group on top, and one that joins the two on top.
module _ (T : List ℕ) (p q i : ℕ) (a : List Pairing) where
  pub passed_opt : (top : ℕ) → Passed T p q i a top → i < CODE → (op : ℕ) → op ≡ get_or T (MODEL_ROWS + i) 0 → op ≡ OPT_CODE → 1 ≤ top → (x : Pairing) → six x ≡ maybe_six (six (get_or a (top - 1) none_pairing)) → Passed T p q (i + 1) (set a (top - 1) x) top
  passed_opt zero so w op read is l x tests = absurd (omega arith)
  passed_opt (suc k) so w op read is l x tests =
      let e : suc k - 1 ≡ k = omega arith in
      let tests' : six x ≡ maybe_six (six (get_or a k none_pairing)) = tests ∙ ap (λ (m : ℕ). maybe_six (six (get_or a m none_pairing))) e in
      let front = ap six (get_or-set_same a k x none_pairing (omega (arith, so.len, so.low))) ∙ tests' in
      rw e (passed T p q i a (suc k) so w op read (set a k x) (suc k) (length-set a k x ∙ so.len) so.low
      (rw (le-ltb op SEQ_CODE (omega arith), eq-eqb op OPT_CODE is, stacked_set a k x k (omega arith)) (ap (λ (v : Six). v ∷ stacked a k) front)))

  pub passed_opt_none : (top : ℕ) → Passed T p q i a top → i < CODE → (op : ℕ) → op ≡ get_or T (MODEL_ROWS + i) 0 → op ≡ OPT_CODE → top < 1 → Passed T p q (i + 1) a top
  passed_opt_none (suc k) so w op read is l = absurd (omega arith)
  passed_opt_none zero so w op read is l =
      passed T p q i a zero so w op read a zero so.len so.low (rw (le-ltb op SEQ_CODE (omega arith), eq-eqb op OPT_CODE is))

  pub passed_plus : (top : ℕ) → Passed T p q i a top → i < CODE → (op : ℕ) → op ≡ get_or T (MODEL_ROWS + i) 0 → op ≡ PLUS_CODE → 1 ≤ top → (x : Pairing) → six x ≡ many_six (six (get_or a (top - 1) none_pairing)) → Passed T p q (i + 1) (set a (top - 1) x) top
  passed_plus zero so w op read is l x tests = absurd (omega arith)
  passed_plus (suc k) so w op read is l x tests =
      let e : suc k - 1 ≡ k = omega arith in
      let tests' : six x ≡ many_six (six (get_or a k none_pairing)) = tests ∙ ap (λ (m : ℕ). many_six (six (get_or a m none_pairing))) e in
      let front = ap six (get_or-set_same a k x none_pairing (omega (arith, so.len, so.low))) ∙ tests' in
      rw e (passed T p q i a (suc k) so w op read (set a k x) (suc k) (length-set a k x ∙ so.len) so.low
      (rw (le-ltb op SEQ_CODE (omega arith), ne_eqb op OPT_CODE (λ (n : op ≡ OPT_CODE). omega arith), eq-eqb op PLUS_CODE is, stacked_set a k x k (omega arith)) (ap (λ (v : Six). v ∷ stacked a k) front)))

  pub passed_plus_none : (top : ℕ) → Passed T p q i a top → i < CODE → (op : ℕ) → op ≡ get_or T (MODEL_ROWS + i) 0 → op ≡ PLUS_CODE → top < 1 → Passed T p q (i + 1) a top
  passed_plus_none (suc k) so w op read is l = absurd (omega arith)
  passed_plus_none zero so w op read is l =
      passed T p q i a zero so w op read a zero so.len so.low (rw (le-ltb op SEQ_CODE (omega arith), ne_eqb op OPT_CODE (λ (n : op ≡ OPT_CODE). omega arith), eq-eqb op PLUS_CODE is))

  pub passed_join : (top : ℕ) → Passed T p q i a top → i < CODE → (op : ℕ) → op ≡ get_or T (MODEL_ROWS + i) 0 → SEQ_CODE ≤ op → (op ≡ OPT_CODE → ⊥) → (op ≡ PLUS_CODE → ⊥) → op < AND_CODE → 2 ≤ top → (x : Pairing) → six x ≡ joined_six op (six (get_or a (top - 2) none_pairing)) (six (get_or a (top - 1) none_pairing)) → Passed T p q (i + 1) (set a (top - 2) x) (top - 1)
  passed_join zero so w op read n₁ n₂ n₃ n₄ l x tests = absurd (omega arith)
  passed_join (suc zero) so w op read n₁ n₂ n₃ n₄ l x tests = absurd (omega arith)
  passed_join (suc (suc k)) so w op read n₁ n₂ n₃ n₄ l x tests =
      let e : suc (suc k) - 2 ≡ k = omega arith in
      let f : suc (suc k) - 1 ≡ suc k = omega arith in
      let tests' : six x ≡ joined_six op (six (get_or a k none_pairing)) (six (get_or a (suc k) none_pairing)) =
      tests ∙ ap (λ (m : ℕ). joined_six op (six (get_or a m none_pairing)) (six (get_or a (suc (suc k) - 1) none_pairing))) e ∙ ap (λ (m : ℕ). joined_six op (six (get_or a k none_pairing)) (six (get_or a m none_pairing))) f in
      let front = ap six (get_or-set_same a k x none_pairing (omega (arith, so.len, so.low))) ∙ tests' in
      passed T p q i a (suc (suc k)) so w op read (set a (suc (suc k) - 2) x) (suc (suc k) - 1) (length-set a (suc (suc k) - 2) x ∙ so.len) (omega (arith, so.low))
      (rw (e, f, le-ltb op SEQ_CODE n₁, ne_eqb op OPT_CODE n₂, ne_eqb op PLUS_CODE n₃, lt-ltb op AND_CODE n₄, stacked_set a k x k (omega arith)) (ap (λ (v : Six). v ∷ stacked a k) front))

  pub passed_join_none : (top : ℕ) → Passed T p q i a top → i < CODE → (op : ℕ) → op ≡ get_or T (MODEL_ROWS + i) 0 → SEQ_CODE ≤ op → (op ≡ OPT_CODE → ⊥) → (op ≡ PLUS_CODE → ⊥) → op < AND_CODE → top < 2 → Passed T p q (i + 1) a top
  passed_join_none zero so w op read n₁ n₂ n₃ n₄ l =
      passed T p q i a zero so w op read a zero so.len so.low (rw (le-ltb op SEQ_CODE n₁, ne_eqb op OPT_CODE n₂, ne_eqb op PLUS_CODE n₃, lt-ltb op AND_CODE n₄))
  passed_join_none (suc zero) so w op read n₁ n₂ n₃ n₄ l =
      passed T p q i a 1 so w op read a 1 so.len so.low (rw (le-ltb op SEQ_CODE n₁, ne_eqb op OPT_CODE n₂, ne_eqb op PLUS_CODE n₃, lt-ltb op AND_CODE n₄))
  passed_join_none (suc (suc k)) so w op read n₁ n₂ n₃ n₄ l = absurd (omega arith)

-- Numbers past the room for the code are none.
run_stays : (T : List ℕ) (p q k d n : ℕ) → CODE ≤ k → n ≡ d + k → run_code T p q n ≡ run_code T p q k
run_stays T p q k zero n l e = let f : n ≡ k = omega arith in ap (run_code T p q) f
run_stays T p q k (suc d) zero l e = absurd (omega arith)
run_stays T p q k (suc d) (suc n) l e = rw (le-ltb n CODE (omega arith)) (run_stays T p q k d n l (omega arith))

abbrev head_or : Six → List Six → Six
head_or v [] = v
head_or v (x ∷ l) = x

one_left : (a : List Pairing) (top : ℕ) (v : Six) → stacked a top ≡ v ∷ [] → six (get_or a 0 none_pairing) ≡ v
one_left a zero v e = absurd (omega (arith, ap length e))
one_left a (suc zero) v e = ap (head_or v) e
one_left a (suc (suc k)) v e = absurd (omega (arith, ap length e))

run_same : (T : List ℕ) (p q i n : ℕ) → i ≤ n → (i < n → i < CODE → ⊥) → run_code T p q i ≡ run_code T p q n
run_same T p q i n l over =
    ⊎_elim
    (λ (b : i < CODE). let e : i ≡ n = ⊎_elim (λ (c : i < n). absurd (over c b)) (λ (c : n ≤ i). omega arith) (below_or_from i n) in ap (run_code T p q) e)
    (λ (b : CODE ≤ i). sym (run_stays T p q i (n - i) n b (omega arith)))
    (below_or_from i CODE)

pub passed_all : (T : List ℕ) (p q i n : ℕ) (a : List Pairing) (top : ℕ) → Passed T p q i a top → i ≤ n → (i < n → i < CODE → ⊥) → Told T p q n (get_or a 0 none_pairing).clash
passed_all T p q i n a top so l over v e = ap (λ (w : Six). w.pq) (one_left a top v (so.is ∙ run_same T p q i n l over ∙ e))
