-- The rows of a model, put into the table of rows number by number, and what they then say.
use Rattle.std.specs.Prelude.{ℕ, zero, suc, ◌+◌, ◌*◌, ◌/◌, ◌%◌, ◌≤◌, ◌<◌, ◌≡◌, refl, Bool, true, false, cond, List, length, get_or, set, eqb}
use Rattle.std.proofs.Common.{ap, ◌∙◌, ⊎_elim, arith, length-set, get_or-set_same, get_or-set_other, below_more}
use Rattle.basic_laws.specs.Numbers.{below_or_from}
use Rattle.rules.specs.Walk.{Group}
use Rattle.rules.specs.TypeFile.{Place, Content, model}
use Rattle.rules.specs.Bytes.{GRPGTCNT, element_limit}
use Rattle.layout.specs.Sizes.{MODEL_ROW, ROWS, LAST_BITS, POSITIONS, RAISE, REQUIRED, ROW}
use Rattle.model_sets.specs.Sets.{size, next_in, complete_in, required_in}
use Rattle.model_table.specs.Shows.{Says}
use Rattle.type_tables.specs.Tables.{row_at, bit_of, complete_at, next_row, complete_row, required_row, raised_at}
use Rattle.model_rows.specs.Bits.{cell_of, packed_of, flag_is, packed_bit, lowest_bit, single_bit}

-- The rows are put one after the other.

-- How much higher the required place after the place u is kept than the table has it, where that is `raise` after a place. At the start it is kept as it is.
abbrev pub lifted : (raise u : ℕ) → ℕ
lifted raise zero = 0
lifted raise (suc u) = raise

pub lifted_later : (raise u : ℕ) → 1 ≤ u → lifted raise u ≡ raise
lifted_later raise zero l = absurd (omega arith)
lifted_later raise (suc u) l = refl

-- What is asked of a model's table of `count` places for its rows to be put: each required place is one, or 0.
pub record RowsDue (table : List ℕ) (e count : ℕ) (rows : List ℕ) : Type 0 where
  pub element : e ≤ element_limit
  pub few : count ≤ GRPGTCNT
  pub len : length rows ≡ ROWS
  pub required : (u : ℕ) → u ≤ count → get_or table (u * MODEL_ROW + POSITIONS) 0 ≤ GRPGTCNT

-- The row of the element e after the place u holds the row u of a model's table, the required place `raise` higher.
pub record RowHas (table : List ℕ) (e u raise : ℕ) (S : List ℕ) : Type 0 where
  pub bits : (j : ℕ) → j < LAST_BITS → get_or S (row_at e u + j) 0 ≡ packed_of table (u * MODEL_ROW + 8 * j)
  pub last : get_or S (row_at e u + LAST_BITS) 0 ≡ cell_of table (u * MODEL_ROW + GRPGTCNT)
  pub required : get_or S (row_at e u + REQUIRED) 0 ≡ get_or table (u * MODEL_ROW + POSITIONS) 0 + raise

-- The first j numbers of that row, and nothing else, are put into T.
pub record BitsPut (table : List ℕ) (e u : ℕ) (T S : List ℕ) (j : ℕ) : Type 0 where
  pub len : length S ≡ ROWS
  pub under : (k : ℕ) → k < row_at e u → get_or S k 0 ≡ get_or T k 0
  pub over : (k : ℕ) → row_at e u + j ≤ k → get_or S k 0 ≡ get_or T k 0
  pub bits : (i : ℕ) → i < j → get_or S (row_at e u + i) 0 ≡ packed_of table (u * MODEL_ROW + 8 * i)

-- The row, and nothing else, is put into T.
pub record RowPut (table : List ℕ) (e u raise : ℕ) (T S : List ℕ) : Type 0 where
  pub len : length S ≡ ROWS
  pub under : (k : ℕ) → k < row_at e u → get_or S k 0 ≡ get_or T k 0
  pub over : (k : ℕ) → row_at e u + ROW ≤ k → get_or S k 0 ≡ get_or T k 0
  pub has : RowHas table e u raise S

-- The first n rows of e, and nothing else, are put into T.
pub record RowsPut (table : List ℕ) (e raise : ℕ) (T S : List ℕ) (n : ℕ) : Type 0 where
  pub len : length S ≡ ROWS
  pub under : (k : ℕ) → k < row_at e 0 → get_or S k 0 ≡ get_or T k 0
  pub over : (k : ℕ) → row_at e n ≤ k → get_or S k 0 ≡ get_or T k 0
  pub has : (u : ℕ) → u < n → RowHas table e u (lifted raise u) S

-- A row is as it was where its numbers are.
row_has_still : (table : List ℕ) (e u raise : ℕ) (T S : List ℕ) → ((k : ℕ) → row_at e u ≤ k → k < row_at e u + ROW → get_or S k 0 ≡ get_or T k 0) → RowHas table e u raise T → RowHas table e u raise S
row_has_still table e u raise T S same h =
    record {
      bits = λ j l. same (row_at e u + j) (omega arith) (omega arith) ∙ h.bits j l;
      last = same (row_at e u + LAST_BITS) (omega arith) (omega arith) ∙ h.last;
      required = same (row_at e u + REQUIRED) (omega arith) (omega arith) ∙ h.required;
    }

module _ (table : List ℕ) (e u : ℕ) (T : List ℕ) (e_to : e ≤ element_limit) (u_to : u ≤ GRPGTCNT) where
  pub bits_none : length T ≡ ROWS → BitsPut table e u T T 0
  bits_none l = record { len = l; under = λ k h. refl; over = λ k h. refl; bits = λ i h. absurd (omega arith) }

  pub bits_more : (S : List ℕ) (j at v : ℕ) → BitsPut table e u T S j → j < LAST_BITS → at ≡ row_at e u + j → v ≡ packed_of table (u * MODEL_ROW + 8 * j) → BitsPut table e u T (set S at v) (j + 1)
  bits_more S j at v h l w q =
      let m = h.len in
      record {
        len = length-set S at v ∙ m;
        under = λ k lt. get_or-set_other S at k v 0 (omega arith) ∙ h.under k lt;
        over = λ k le. get_or-set_other S at k v 0 (omega arith) ∙ h.over k (omega arith);
        bits =
            below_more (λ (i : ℕ). get_or (set S at v) (row_at e u + i) 0 ≡ packed_of table (u * MODEL_ROW + 8 * i)) j
            (λ i lt. get_or-set_other S at (row_at e u + i) v 0 (omega arith) ∙ h.bits i lt)
            (rw (← w) (get_or-set_same S at v 0 (omega arith)) ∙ q);
      }

  -- The last two numbers are put.
  pub row_put : (raise : ℕ) (S : List ℕ) (i j a b : ℕ) → BitsPut table e u T S LAST_BITS → i ≡ row_at e u + LAST_BITS → j ≡ row_at e u + REQUIRED → a ≡ cell_of table (u * MODEL_ROW + GRPGTCNT) → b ≡ get_or table (u * MODEL_ROW + POSITIONS) 0 + raise
      → RowPut table e u raise T (set (set S i a) j b)
  row_put raise S i j a b h w y p q =
      let m = h.len in
      let R : List ℕ = set S i a in
      let n : length R ≡ ROWS = length-set S i a ∙ m in
      let else : (k : ℕ) → (k ≡ i → ⊥) → (k ≡ j → ⊥) → get_or (set R j b) k 0 ≡ get_or S k 0 =
      λ k x y. get_or-set_other R j k b 0 y ∙ get_or-set_other S i k a 0 x in
      record {
        len = length-set R j b ∙ n;
        under = λ k lt. else k (omega arith) (omega arith) ∙ h.under k lt;
        over = λ k le. else k (omega arith) (omega arith) ∙ h.over k (omega arith);
        has = record {
          bits = λ k lt. else (row_at e u + k) (omega arith) (omega arith) ∙ h.bits k lt;
          last = rw (← w) (get_or-set_other R j i b 0 (omega arith) ∙ get_or-set_same S i a 0 (omega arith)) ∙ p;
          required = rw (← y) (get_or-set_same R j b 0 (omega arith)) ∙ q;
        };
      }

module _ (table : List ℕ) (e raise : ℕ) (T : List ℕ) where
  pub rows_first : (S : List ℕ) → RowPut table e 0 0 T S → RowsPut table e raise T S 1
  rows_first S r =
      record {
        len = r.len;
        under = r.under;
        over = λ k le. r.over k (omega arith);
        has = below_more (λ (v : ℕ). RowHas table e v (lifted raise v) S) 0 (λ v lt. absurd (omega arith)) r.has;
      }

  pub rows_more : (R S : List ℕ) (u : ℕ) → 1 ≤ u → RowsPut table e raise T R u → RowPut table e u raise R S → RowsPut table e raise T S (u + 1)
  rows_more R S u from h r =
      record {
        len = r.len;
        under = λ k lt. r.under k (omega arith) ∙ h.under k lt;
        over = λ k le. r.over k (omega arith) ∙ h.over k (omega arith);
        has =
            below_more (λ (v : ℕ). RowHas table e v (lifted raise v) S) u
            (λ v lt. row_has_still table e v (lifted raise v) R S (λ k a b. r.under k (omega arith)) (h.has v lt))
            (rw (lifted_later raise u from) r.has);
      }

-- The rows that were put say what the model's table says.

-- What the row of the element e after the place u is to say of the content; `b` says whether its numbers are raised.
pub record RowSays (c : Content) (b : Bool) (e u : ℕ) (rows : List ℕ) : Type 0 where
  pub next : (p : ℕ) → 1 ≤ p → p ≤ GRPGTCNT → bit_of (get_or rows (row_at e u + p / 8) 0) (p % 8) ≡ next_row c u p
  pub complete : complete_at rows e u ≡ complete_row c u
  pub required : get_or rows (row_at e u + REQUIRED) 0 ≡ raised_at b u (required_row c u)

pub row_says_still : (c : Content) (b : Bool) (e u : ℕ) (T S : List ℕ) → ((k : ℕ) → row_at e u ≤ k → k < row_at e u + ROW → get_or S k 0 ≡ get_or T k 0) → RowSays c b e u T → RowSays c b e u S
row_says_still c b e u T S same h =
    record {
      next = λ p x y. ap (λ (v : ℕ). bit_of v (p % 8)) (same (row_at e u + p / 8) (omega arith) (omega arith)) ∙ h.next p x y;
      complete = ap (λ (x : ℕ). eqb (x % 2) 1) (same (row_at e u) (omega arith) (omega arith)) ∙ h.complete;
      required = same (row_at e u + REQUIRED) (omega arith) (omega arith) ∙ h.required;
    }

module _ (table : List ℕ) (e u raise : ℕ) (S : List ℕ) (h : RowHas table e u raise S) where
  -- The bit p of the row is the number p of the table's row.
  bit_at_lem : (p : ℕ) → p ≤ GRPGTCNT → bit_of (get_or S (row_at e u + p / 8) 0) (p % 8) ≡ eqb (get_or table (u * MODEL_ROW + p) 0) 1
  bit_at_lem p l = ⊎_elim inside end (below_or_from (p / 8) LAST_BITS)
    where
      inside : p / 8 < LAST_BITS → bit_of (get_or S (row_at e u + p / 8) 0) (p % 8) ≡ eqb (get_or table (u * MODEL_ROW + p) 0) 1
      inside k =
          let z : u * MODEL_ROW + 8 * (p / 8) + p % 8 ≡ u * MODEL_ROW + p = omega arith in
          ap (λ (x : ℕ). bit_of x (p % 8)) (h.bits (p / 8) k)
          ∙ packed_bit table (u * MODEL_ROW + 8 * (p / 8)) (p % 8) (omega arith)
          ∙ ap (λ (i : ℕ). eqb (get_or table i 0) 1) z

      end : LAST_BITS ≤ p / 8 → bit_of (get_or S (row_at e u + p / 8) 0) (p % 8) ≡ eqb (get_or table (u * MODEL_ROW + p) 0) 1
      end k =
          let a : p / 8 ≡ LAST_BITS = omega arith in
          let b : p % 8 ≡ 0 = omega arith in
          let z : p ≡ GRPGTCNT = omega arith in
          rw (a, b, z) (single_bit table (u * MODEL_ROW + GRPGTCNT) _ h.last)

-- A number raised as the table of a type has it.
raised_by : (b : Bool) (u n : ℕ) → n + lifted (cond b RAISE 0) u ≡ raised_at b u n
raised_by b zero n = omega arith
raised_by true (suc u) n = omega arith
raised_by false (suc u) n = omega arith

-- A row of a model's table says what is computed of the model.
pub row_says : (table : List ℕ) (g : Group) (ps : List Place) (n e u : ℕ) (b : Bool) (S : List ℕ) → Says g table → u ≤ size g → RowHas table e u (lifted (cond b RAISE 0) u) S → RowSays (model g ps n) b e u S
row_says table g ps n e u b S t l h =
    let raise : ℕ = lifted (cond b RAISE 0) u in
    let y : u * MODEL_ROW + 0 ≡ u * MODEL_ROW = omega arith in
    let z : row_at e u + 0 / 8 ≡ row_at e u = omega arith in
    record {
      next = λ p x w. bit_at_lem table e u raise S h p w ∙ flag_is (next_in g u p) _ (t.next u p l x w);
      complete = lowest_bit (get_or S (row_at e u) 0) ∙ (rw (y, z) at (bit_at_lem table e u raise S h 0 (omega arith))) ∙ flag_is (complete_in g u) _ (t.complete u l);
      required = h.required ∙ ap (λ (r : ℕ). r + raise) (t.required u l) ∙ raised_by b u (required_in g u);
    }
