-- The code of a group, and that a pass over a table in which it is spelled tells whether two places can both come next.
use Rattle.std.specs.Prelude.{ℕ, zero, suc, ◌+◌, ◌≤◌, ◌<◌, ◌≡◌, refl, Bool, List, [], ◌∷◌, ◌++◌, length, get_or, set}
use Rattle.std.proofs.Common.{sym, ap, ◌∙◌, arith, add-one, length-set, get_or-set_same, get_or-set_other, ne_eqb, lt-ltb, le-ltb}
use Rattle.model_code.specs.Codes.{ALSO_CODE, ALT_CODE, AND_CODE, OPT_CODE, PLUS_CODE, SEQ_CODE}
use Rattle.layout.specs.Sizes.{MODEL_ROWS, CODE, MODEL, POSITIONS}
use Rattle.rules.specs.Walk.{Group, place, seq, alt, opt, plus, and, Members, one, also}
use Rattle.rules.specs.Bytes.{GRPGTCNT}
use Rattle.model_sets.specs.Sets.{size, size_m, Numbered, NumberedM, amount}
use Rattle.and_laws.specs.Fold.{clash}
use Rattle.and_laws.specs.Code.{Six, sixes, eval, eval_m, six_eval}
use Rattle.model_code.specs.Six.{put_code, code_next, step_code, run_code, Told}
use Rattle.model_sets.specs.Numbering.{size_one, size_m_one}

abbrev mutual
  pub codes : Group → List ℕ
  codes (place n) = n ∷ []
  codes (seq g h) = codes g ++ (codes h ++ SEQ_CODE ∷ [])
  codes (alt g h) = codes g ++ (codes h ++ ALT_CODE ∷ [])
  codes (opt g) = codes g ++ OPT_CODE ∷ []
  codes (plus g) = codes g ++ PLUS_CODE ∷ []
  codes (and m) = codes_m m ++ (AND_CODE + amount m) ∷ []

  pub codes_m : Members → List ℕ
  codes_m (one g) = codes g
  codes_m (also m g) = codes_m m ++ (codes g ++ ALSO_CODE ∷ [])

-- The first n numbers of the code in a table.
abbrev pub code_in : List ℕ → ℕ → List ℕ
code_in T zero = []
code_in T (suc n) = code_in T n ++ get_or T (MODEL_ROWS + n) 0 ∷ []

-- The code does not ask what stands in the rows.
pub code_same : (T S : List ℕ) → ((k : ℕ) → MODEL_ROWS ≤ k → get_or S k 0 ≡ get_or T k 0) → (n : ℕ) → code_in S n ≡ code_in T n
code_same T S same zero = refl
code_same T S same (suc n) = rw (code_same T S same n, same (MODEL_ROWS + n) (omega arith))

-- A number put behind n others.
module _ (T : List ℕ) (n op : ℕ) (room : n < CODE) where
  put_is : put_code T n op ≡ set T (MODEL_ROWS + n) op
  put_is = rw (lt-ltb n CODE room)

  pub put_next : code_next n ≡ n + 1
  put_next = rw (lt-ltb n CODE room)

  pub put_rows : (k : ℕ) → k < MODEL_ROWS → get_or (put_code T n op) k 0 ≡ get_or T k 0
  put_rows k h = ap (λ (S : List ℕ). get_or S k 0) put_is ∙ get_or-set_other T (MODEL_ROWS + n) k op 0 (λ e. omega arith)

  pub put_length : length (put_code T n op) ≡ length T
  put_length = ap length put_is ∙ length-set T (MODEL_ROWS + n) op

  before_put : (m : ℕ) → m ≤ n → code_in (set T (MODEL_ROWS + n) op) m ≡ code_in T m
  before_put zero l = refl
  before_put (suc m) l = rw (before_put m (omega arith), get_or-set_other T (MODEL_ROWS + n) (MODEL_ROWS + m) op 0 (λ e. omega arith))

  pub code_put : length T ≡ MODEL → code_in (put_code T n op) (code_next n) ≡ code_in T n ++ op ∷ []
  code_put len =
      let e : code_next n ≡ suc n = put_next ∙ add-one n in
      simp (e, put_is, before_put n (omega arith), get_or-set_same T (MODEL_ROWS + n) op 0 (omega arith))

-- Numbers are read one after the other.
abbrev run_numbers : (p q : ℕ) → List ℕ → List Six → List Six
run_numbers p q [] st = st
run_numbers p q (o ∷ os) st = run_numbers p q os (step_code p q o st)

module _ (p q : ℕ) where
  run_append : (a b : List ℕ) (st : List Six) → run_numbers p q (a ++ b) st ≡ run_numbers p q b (run_numbers p q a st)
  run_append [] b st = refl
  run_append (o ∷ a) b st = run_append a b (step_code p q o st)

  run_in : (T : List ℕ) (n : ℕ) → n ≤ CODE → run_code T p q n ≡ run_numbers p q (code_in T n) []
  run_in T zero l = refl
  run_in T (suc n) l =
      rw (lt-ltb n CODE (omega arith), run_in T n (omega arith)) (sym (run_append (code_in T n) (get_or T (MODEL_ROWS + n) 0 ∷ []) []))

  at_number : (n : ℕ) (st : List Six) → n < POSITIONS → length st < POSITIONS → step_code p q n st ≡ (sixes p q).at n ∷ st
  at_number n st small room = rw (lt-ltb n SEQ_CODE small, lt-ltb (length st) POSITIONS room)

  at_close : (k : ℕ) (st : List Six) → step_code p q (AND_CODE + k) st ≡ st
  at_close k st =
      rw (le-ltb (AND_CODE + k) SEQ_CODE (omega arith), ne_eqb (AND_CODE + k) OPT_CODE (λ (e : AND_CODE + k ≡ OPT_CODE). omega arith), ne_eqb (AND_CODE + k) PLUS_CODE (λ (e : AND_CODE + k ≡ PLUS_CODE). omega arith), le-ltb (AND_CODE + k) AND_CODE (omega arith))

  -- The code of two groups and of what joins them makes one value of theirs.
  two : (a b : List ℕ) (o : ℕ) (v w : Six) (st : List Six) → run_numbers p q a st ≡ v ∷ st → run_numbers p q b (v ∷ st) ≡ w ∷ (v ∷ st) → run_numbers p q (a ++ (b ++ o ∷ [])) st ≡ step_code p q o (w ∷ (v ∷ st))
  two a b o v w st e f = run_append a (b ++ o ∷ []) st ∙ ap (run_numbers p q (b ++ o ∷ [])) e ∙ run_append b (o ∷ []) (v ∷ st) ∙ ap (step_code p q o) f

  after : (a : List ℕ) (o : ℕ) (v : Six) (st : List Six) → run_numbers p q a st ≡ v ∷ st → run_numbers p q (a ++ o ∷ []) st ≡ step_code p q o (v ∷ st)
  after a o v st e = run_append a (o ∷ []) st ∙ ap (step_code p q o) e

  abbrev value : Group → Six
  value g = eval (sixes p q) g

  abbrev value_m : Members → Six
  value_m m = eval_m (sixes p q) m

  mutual
    spelled : (g : Group) (lo : ℕ) → Numbered g lo → lo + size g ≤ POSITIONS → (st : List Six) → length st + size g ≤ POSITIONS → run_numbers p q (codes g) st ≡ value g ∷ st
    spelled (place n) lo d l st h = at_number n st (omega (arith, d)) (omega arith)
    spelled (seq g h) lo d l st r =
        two (codes g) (codes h) SEQ_CODE (value g) (value h) st (spelled g lo d.0 (omega arith) st (omega arith))
        (spelled h (lo + size g) d.1 (omega arith) (value g ∷ st) (omega (arith, size_one g)))
    spelled (alt g h) lo d l st r =
        two (codes g) (codes h) ALT_CODE (value g) (value h) st (spelled g lo d.0 (omega arith) st (omega arith))
        (spelled h (lo + size g) d.1 (omega arith) (value g ∷ st) (omega (arith, size_one g)))
    spelled (opt g) lo d l st r = after (codes g) OPT_CODE (value g) st (spelled g lo d l st r)
    spelled (plus g) lo d l st r = after (codes g) PLUS_CODE (value g) st (spelled g lo d l st r)
    spelled (and m) lo d l st r = after (codes_m m) (AND_CODE + amount m) (value_m m) st (spelled_m m lo d l st r) ∙ at_close (amount m) (value_m m ∷ st)

    spelled_m : (m : Members) (lo : ℕ) → NumberedM m lo → lo + size_m m ≤ POSITIONS → (st : List Six) → length st + size_m m ≤ POSITIONS → run_numbers p q (codes_m m) st ≡ value_m m ∷ st
    spelled_m (one g) lo d l st r = spelled g lo d l st r
    spelled_m (also m g) lo d l st r =
        two (codes_m m) (codes g) ALSO_CODE (value_m m) (value g) st (spelled_m m lo d.0 (omega arith) st (omega arith))
        (spelled g (lo + size_m m) d.1 (omega arith) (value_m m ∷ st) (omega (arith, size_m_one m)))

  -- What the pass tells of a table in which the code of g is spelled.
  pub told_clash : (T : List ℕ) (n : ℕ) (g : Group) → n ≤ CODE → code_in T n ≡ codes g → Numbered g 1 → size g ≤ GRPGTCNT → (r : Bool) → Told T p q n r → r ≡ clash g p q
  told_clash T n g l is d small r told =
      told (value g) (run_in T n l ∙ ap (λ (os : List ℕ). run_numbers p q os []) is ∙ spelled g 1 d (omega arith) [] (omega arith)) ∙ ap (λ (v : Six). v.pq) (six_eval p q g)
