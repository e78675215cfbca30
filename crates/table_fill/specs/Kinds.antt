-- What is put of each kind of content: a model, EMPTY, and the document itself.
use Rattle.std.specs.Prelude.{ℕ, zero, suc, ◌+◌, ◌/◌, ◌%◌, ◌^◌, ◌≤◌, ◌<◌, ◌≡◌, Bool, false, cond, List, length, get_or, set, replicate, eqb}
use Rattle.std.proofs.Math.Path.{refl}
use Rattle.std.proofs.Common.{sym, ◌∙◌, ⊎_elim, arith, length-set, get_or-set_same, get_or-set_other, ne_eqb}
use Rattle.std.proofs.Math.Decide.{ℕ_discrete}
use Rattle.std.proofs.Math.Nat.{div-eq_of_lt}
use Rattle.std.proofs.Math.Numerals.{unary_clauses}
use Rattle.std.proofs.lemmas.List.{length-replicate}
use Rattle.basic_laws.specs.Numbers.{below_or_from}
use Rattle.rules.specs.Reading.{got}
use Rattle.rules.specs.Walk.{Group, place}
use Rattle.rules.specs.TypeFile.{Place, empty, model, Element, type_file}
use Rattle.rules.specs.Judge.{place_at}
use Rattle.rules.specs.Elements.{element_at, content_of, places_in}
use Rattle.layout.specs.Sizes.{ROWS, PLACES, FACTS, RAISE, REQUIRED, ROW}
use Rattle.model_sets.specs.Sets.{size}
use Rattle.model_table.specs.Shows.{Says}
use Rattle.rules_laws.specs.Within.{type_file_count}
use Rattle.rules.specs.Bytes.{GRPGTCNT, element_limit}
use Rattle.type_laws.specs.Names.{type_file_element, type_file_distinct, is_named_join}
use Rattle.text.specs.Words.{same_text_refl}
use Rattle.type_tables.specs.Tables.{row_at, bit_of, named_by}
use Rattle.model_rows.specs.Rows.{RowsPut, RowSays, row_says}
use Rattle.table_fill.specs.Places.{PlacePut, places_none, places_more}
use Rattle.table_fill.specs.Told.{NoMembers, none_lent, none_rest}
use Rattle.table_fill.specs.Filled.{Filled, RowsFor, largest_same, members_same, filled_more}
use Rattle.basic_laws.specs.Numbers.{replicate_at}

-- A model: its table row by row.
pub rows_model : (table : List ℕ) (g : Group) (ps : List Place) (n e : ℕ) (b : Bool) (T S : List ℕ) → Says g table → size g ≡ length ps → size g ≤ GRPGTCNT → RowsPut table e (cond b RAISE 0) T S (length ps + 1) → RowsFor (model g ps n) b e T S
rows_model table g ps n e b T S says counted few h =
    record {
      len = h.len;
      under = h.under;
      over = λ k l. h.over k (omega arith);
      says = λ u l. row_says table g ps n e u b S says (omega arith) (h.has u (omega arith));
    }

-- A row with its first number alone

less_pow : (k : ℕ) → k < 2 ^ k
less_pow zero = omega arith
less_pow (suc k) = simp unary_clauses (omega (arith, less_pow k))

high_bit : (x k : ℕ) → x ≤ k → bit_of x k ≡ false
high_bit x k l =
    let h : x < 2 ^ k = omega (arith, less_pow k) in
    rw (div-eq_of_lt h)

-- No place from x on may come next where the first number of the row is x and the others are 0.
module _ (e u : ℕ) (S : List ℕ) (x : ℕ) (first : get_or S (row_at e u) 0 ≡ x) (others : (j : ℕ) → 1 ≤ j → j < REQUIRED → get_or S (row_at e u + j) 0 ≡ 0) where
  no_place : (p : ℕ) → x ≤ p → p ≤ GRPGTCNT → bit_of (get_or S (row_at e u + p / 8) 0) (p % 8) ≡ false
  no_place p l h = ⊎_elim low high (below_or_from p 8)
    where
      low : p < 8 → bit_of (get_or S (row_at e u + p / 8) 0) (p % 8) ≡ false
      low b =
          let y : row_at e u + p / 8 ≡ row_at e u = omega arith in
          let z : p % 8 ≡ p = omega arith in
          rw (y, z, first) (high_bit x p l)

      high : 8 ≤ p → bit_of (get_or S (row_at e u + p / 8) 0) (p % 8) ≡ false
      high b = rw (others (p / 8) (omega arith) (omega arith)) (high_bit 0 (p % 8) (omega arith))

-- EMPTY: the content is complete at the start.
pub rows_empty : (e : ℕ) (T : List ℕ) → e ≤ element_limit → length T ≡ ROWS → ((k : ℕ) → row_at e 0 ≤ k → get_or T k 0 ≡ 0) → RowsFor empty false e T (set T (row_at e 0) 1)
rows_empty e T e_to l rest =
    let S : List ℕ = set T (row_at e 0) 1 in
    let first : get_or S (row_at e 0) 0 ≡ 1 = get_or-set_same T (row_at e 0) 1 0 (omega arith) in
    let others : (j : ℕ) → 1 ≤ j → get_or S (row_at e 0 + j) 0 ≡ 0 =
    λ j a. get_or-set_other T (row_at e 0) (row_at e 0 + j) 1 0 (omega arith) ∙ rest (row_at e 0 + j) (omega arith) in
    record {
      len = length-set T (row_at e 0) 1 ∙ l;
      under = λ k h. get_or-set_other T (row_at e 0) k 1 0 (omega arith);
      over = λ k h. get_or-set_other T (row_at e 0) k 1 0 (omega arith);
      says = λ u h.
          let z : u ≡ 0 = omega arith in
          rw z record {
            next = λ p a b. no_place e 0 S 1 first (λ j c d. others j c) p a b;
            complete = rw first;
            required = others REQUIRED (omega arith);
          };
    }

-- The document

-- The document element is required at the start, and completes the document.
abbrev pub document_rows : List ℕ → List ℕ
document_rows T = set (set (set T 0 2) REQUIRED 1) ROW 1

module _ (T : List ℕ) (l : length T ≡ ROWS) (zeros : (k : ℕ) → get_or T k 0 ≡ 0) (ps : List Place) (counted : length ps ≡ 1) where
  abbrev T₁ : List ℕ
  T₁ = set T 0 2

  abbrev T₂ : List ℕ
  T₂ = set T₁ REQUIRED 1

  abbrev S : List ℕ
  S = document_rows T

  len₁ : length T₁ ≡ ROWS
  len₁ = length-set T 0 2 ∙ l

  len₂ : length T₂ ≡ ROWS
  len₂ = length-set T₁ REQUIRED 1 ∙ len₁

  at_0 : get_or S 0 0 ≡ 2
  at_0 = get_or-set_other T₂ ROW 0 1 0 (omega arith) ∙ get_or-set_other T₁ REQUIRED 0 1 0 (omega arith) ∙ get_or-set_same T 0 2 0 (omega arith)

  at_required : get_or S REQUIRED 0 ≡ 1
  at_required = get_or-set_other T₂ ROW REQUIRED 1 0 (omega arith) ∙ get_or-set_same T₁ REQUIRED 1 0 (omega (arith, len₁))

  at_second : get_or S ROW 0 ≡ 1
  at_second = get_or-set_same T₂ ROW 1 0 (omega (arith, len₂))

  kept : (k : ℕ) → ROW < k → get_or S k 0 ≡ get_or T k 0
  kept k h = get_or-set_other T₂ ROW k 1 0 (omega arith) ∙ get_or-set_other T₁ REQUIRED k 1 0 (omega arith) ∙ get_or-set_other T 0 k 2 0 (omega arith)

  between : (k : ℕ) → 1 ≤ k → k < REQUIRED → get_or S k 0 ≡ 0
  between k a b = get_or-set_other T₂ ROW k 1 0 (omega arith) ∙ get_or-set_other T₁ REQUIRED k 1 0 (omega arith) ∙ get_or-set_other T 0 k 2 0 (omega arith) ∙ zeros k

  at_start_lem : RowSays (model (place 1) ps 1) false 0 0 S
  at_start_lem = record { next = λ p a b. by_place p (ℕ_discrete p 1) a b; complete = rw at_0; required = at_required }
    where
      by_place : (p : ℕ) → Dec (p ≡ 1) → 1 ≤ p → p ≤ GRPGTCNT → bit_of (get_or S (row_at 0 0 + p / 8) 0) (p % 8) ≡ eqb 1 p
      by_place p (yes z) a b = rw (z, at_0)
      by_place p (no z) a b = no_place 0 0 S 2 at_0 (λ j c d. between (0 + j) (omega arith) (omega arith)) p (omega arith) b ∙ sym (ne_eqb 1 p (λ y. omega arith))

  after_it : RowSays (model (place 1) ps 1) false 0 1 S
  after_it =
      record {
        next = λ p a b. no_place 0 1 S 1 at_second (λ j c d. kept (ROW + j) (omega arith) ∙ zeros (ROW + j)) p a b;
        complete = rw at_second;
        required = kept (ROW + REQUIRED) (omega arith) ∙ zeros (ROW + REQUIRED);
      }

  rows_document : RowsFor (model (place 1) ps 1) false 0 T S
  rows_document =
      record {
        len = length-set T₂ ROW 1 ∙ len₂;
        under = λ k h. absurd (omega arith);
        over = λ k h. kept k (omega arith);
        says = by_row;
      }
    where
      by_row : (u : ℕ) → u ≤ length ps → RowSays (model (place 1) ps 1) false 0 u S
      by_row zero h = at_start_lem
      by_row (suc zero) h = after_it
      by_row (suc (suc u)) h = absurd (omega arith)

-- The tables before anything is put.

abbrev pub no_rows : List ℕ
no_rows = replicate ROWS 0

abbrev pub no_places : List ℕ
no_places = replicate PLACES 0

abbrev pub no_facts : List ℕ
no_facts = replicate FACTS 0

module _ (long : ℕ) (s : List ℕ) (es : List Element) (read : type_file long s ≡ got es) where
  -- The document's one place names the first element.
  document_names : 1 ≡ named_by s es (places_in (content_of es 0)) 1
  unfolding place_at
  document_names =
      let x = element_at es 0 in
      let h = (type_file_count long s es read).0 in
      let n = (type_file_element long s es read 0 h).name in
      let i = is_named_join s x s x.at x.size refl (same_text_refl s x.at x.size) in
      rw (ne_eqb x.size 0 (λ z. omega (arith, n.some))) (sym (type_file_distinct long s es read 0 h s x.at x.size i))

  filled_none : (M : List ℕ) → NoMembers s M → Filled s es no_rows no_places no_facts M 0
  filled_none M none =
      record {
        rows_len = length-replicate {A = ℕ} ROWS 0;
        places_len = length-replicate {A = ℕ} PLACES 0;
        facts_len = length-replicate {A = ℕ} FACTS 0;
        rows_rest = λ k h. replicate_at {A = ℕ} ROWS 0 k;
        facts_rest = λ k h. replicate_at {A = ℕ} FACTS 0 k;
        lent = none_lent s M none;
        members_rest = λ k h. none_rest s M none k;
        raised = λ k. false;
        says = λ e h. absurd (omega arith);
      }

  pub filled_document : (P F M : List ℕ) → NoMembers s M → PlacePut 0 1 1 no_places no_facts P F → Filled s es (document_rows no_rows) P F M 1
  filled_document P F M none w =
      let h = filled_none M none in
      let ps = places_in (content_of es 0) in
      let put =
      places_more long s es read ps 0 no_places no_facts no_places no_facts 1 (omega arith) (omega arith)
      (places_none long s es read ps 0 no_places no_facts h.places_len h.facts_len (λ k a b. replicate_at {A = ℕ} FACTS 0 k)) 1 document_names P F w in
      filled_more long s es read 0 false no_rows no_places no_facts M h (document_rows no_rows) no_facts P F F M
      (rows_document no_rows h.rows_len (λ k. replicate_at {A = ℕ} ROWS 0 k) ps refl)
      (record { len = h.facts_len; under = λ k l. refl; over = λ k l. refl; tags = λ l. absurd (omega arith) })
      put
      (largest_same 0 F put.facts_len)
      (members_same s (content_of es 0) 0 M h.lent refl)
