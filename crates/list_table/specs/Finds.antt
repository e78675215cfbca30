-- What the table of lists says, and what the loops over it find.
use Prim.Native.Nat.{ℕ, zero, suc, ◌+◌, ◌*◌, ◌≤◌, ◌<◌}
use Rattle.std.specs.Prelude.{◌≡◌, Option, Some, None, is_some, IfSome, Bool, false, ◌||◌, ◌⊎◌, length, get_or, set, eqb}
use Rattle.std.proofs.Math.Path.{refl, sym, ap}
use Rattle.std.proofs.Common.{◌∙◌, subst, true≢false, inl, inr, length-append, length-set, get_or-set_same, get_or-set_other, eq-eqb, ne_eqb, le-leb}
use Rattle.std.proofs.Math.Bool.{true, or-true}
use mathlib.Core.List.{List, [], ◌∷◌, ◌++◌}
use Rattle.std.proofs.Math.Decide.{ℕ_discrete, dec_lt}
use native.Mathlib.Omega.{arith}
use Rattle.std.proofs.lemmas.Bool.{lt-leb}
use Rattle.rules.specs.Bytes.{same_text, ATTCNT}
use Rattle.rules.specs.Attributes.{required, implied, literal, Attribute, is_called, attribute_from, attribute_of, attribute_at, is_required, needs_tag}
use Rattle.layout.specs.Sizes.{ATTRIBUTE, LIST}
use Rattle.layout.specs.declared.AttributeNo.{AttributeNo}
use Rattle.attribute_defaults.specs.DefaultOf.{default_is}
use Rattle.list_table.specs.declared.Row.{Row}
use Rattle.list_table.specs.Lists.{row_in, RowOf, is_named, number_of, ListAt, Added, Copied}

pub get_d_past : (l : List ℕ) (i : ℕ) → length l ≤ i → 0 ≡ get_or l i 0
get_d_past [] i h = refl
get_d_past (x ∷ l) zero h = absurd (omega (arith, h))
get_d_past (x ∷ l) (suc i) h = get_d_past l i (omega (arith, h))

-- A row is read number by number.
pub row_is : (l : List ℕ) (i : ℕ) {a b v d n : ℕ} → a ≡ get_or l i 0 → b ≡ get_or l (i + 1) 0 → v ≡ get_or l (i + 2) 0 → d ≡ get_or l (i + 3) 0 → n ≡ get_or l (i + 4) 0
    → ◌≡◌ {A = Row} (record { name = a; size = b; value = v; default = d; width = n }) (row_in l i)
row_is l i p q r t u = rw (p, q, r, t, u)

-- Attributes are found by number.

pub at_before : (xs : List Attribute) (x : Attribute) (k : ℕ) → k < length xs → attribute_at (xs ++ x ∷ []) k ≡ attribute_at xs k
unfolding attribute_at
at_before [] x k h = absurd (omega (arith, h))
at_before (a ∷ xs) x zero h = refl
at_before (a ∷ xs) x (suc k) h = at_before xs x k (omega (arith, h))

pub at_last : (xs : List Attribute) (x : Attribute) → attribute_at (xs ++ x ∷ []) (length xs) ≡ x
unfolding attribute_at
at_last [] x = refl
at_last (a ∷ xs) x = at_last xs x

-- One of them may be required.

pub required_is : (x n : ℕ) → x ≡ 0 → is_required (default_is x n) ≡ true
required_is x n e = rw (default_is, eq-eqb x 0 e)

pub required_not : (x n : ℕ) → (x ≡ 0 → ⊥) → is_required (default_is x n) ≡ false
required_not x n h = by_tests (eqb x 0) (eqb x 1) (ne_eqb x 0 h)
  where
    by_tests : (a b : Bool) → a ≡ false → is_required (elim a [ true ↦ required | false ↦ elim b [ true ↦ implied | false ↦ literal (record { at = x; size = n }) ] ]) ≡ false
    by_tests true b e = absurd (true≢false e)
    by_tests false true e = refl
    by_tests false false e = refl

needs_found : (xs : List Attribute) (k : ℕ) → k < length xs → is_required (attribute_at xs k).default ≡ true → needs_tag xs ≡ true
unfolding attribute_at needs_tag
needs_found [] k h e = absurd (omega (arith, h))
needs_found (a ∷ xs) zero h e = ap (λ b. b || needs_tag xs) e
needs_found (a ∷ xs) (suc k) h e = ap (λ b. is_required a.default || b) (needs_found xs k (omega (arith, h)) e) ∙ or-true (is_required a.default)

needs_none : (xs : List Attribute) → ((k : ℕ) → k < length xs → is_required (attribute_at xs k).default ≡ false) → needs_tag xs ≡ false
unfolding attribute_at needs_tag
needs_none [] f = refl
needs_none (a ∷ xs) f = ap (λ b. b || needs_tag xs) (f 0 (omega arith)) ∙ needs_none xs (λ k h. f (suc k) (omega (arith, h)))

-- None of the first k attributes of the list at b is required.
pub record NoneRequired (l : List ℕ) (b k : ℕ) : Type 0 where
  none : (j : ℕ) → j < k → (row_in l (b + 1 + ATTRIBUTE * j)).default ≡ 0 → ⊥

module _ (l : List ℕ) (b : ℕ) where
  pub required_first_lem : NoneRequired l b 0
  required_first_lem = record { none = λ j h e. absurd (omega (arith, h)) }

  pub required_turn : (k : ℕ) (r : Row) → NoneRequired l b k → r ≡ row_in l (b + 1 + ATTRIBUTE * k) → (r.default ≡ 0 → ⊥) → NoneRequired l b (k + 1)
  required_turn k r w e n = record { none = λ j h. by_last j h (ℕ_discrete j k) }
    where
      by_last : (j : ℕ) → j < k + 1 → Dec (j ≡ k) → (row_in l (b + 1 + ATTRIBUTE * j)).default ≡ 0 → ⊥
      by_last j h (yes q) z = n (ap Row.default e ∙ ap (λ m. (row_in l (b + 1 + ATTRIBUTE * m)).default) (sym q) ∙ z)
      by_last j h (no q) z = w.none j (omega (arith, h, q)) z

  module _ (long : ℕ) (s : List ℕ) (xs : List Attribute) (a : ListAt long s l b xs) where
    pub required_found : (k n : ℕ) (r : Row) → n ≡ length xs → k < n → r ≡ row_in l (b + 1 + ATTRIBUTE * k) → r.default ≡ 0 → true ≡ needs_tag xs
    required_found k n r m h e z =
        let o = a.rows k (omega (arith, h, m)) in
        sym (needs_found xs k (omega (arith, h, m)) (ap is_required (sym o.default) ∙ required_is _ _ (sym (ap Row.default e) ∙ z)))

    pub required_none : (k n : ℕ) → n ≡ length xs → n ≤ k → NoneRequired l b k → false ≡ needs_tag xs
    required_none k n m h w =
        sym (needs_none xs (λ j g. ap is_required (sym (a.rows j g).default) ∙ required_not _ _ (w.none j (omega (arith, g, h, m)))))

-- One of them may be called so.

module _ (s t : List ℕ) (at size : ℕ) where
  from_found : (m : ℕ) (xs : List Attribute) (k : ℕ) → k < length xs → ((j : ℕ) → j < k → is_called s (attribute_at xs j) t at size ≡ false) → is_called s (attribute_at xs k) t at size ≡ true
      → attribute_from m s xs t at size ≡ m + k
  unfolding attribute_at attribute_from
  from_found m [] k h f e = absurd (omega (arith, h))
  from_found m (a ∷ xs) zero h f e = rw (attribute_from, e) (omega arith)
  from_found m (a ∷ xs) (suc k) h f e = rw (attribute_from, f 0 (omega arith)) (from_found (m + 1) xs k (omega (arith, h)) (λ j g. f (suc j) (omega (arith, g))) e ∙ omega arith)

  from_none : (m : ℕ) (xs : List Attribute) → ((j : ℕ) → j < length xs → is_called s (attribute_at xs j) t at size ≡ false) → attribute_from m s xs t at size ≡ 0
  unfolding attribute_at attribute_from
  from_none m [] f = refl
  from_none m (a ∷ xs) f = rw (attribute_from, f 0 (omega arith)) (from_none (m + 1) xs (λ j g. f (suc j) (omega (arith, g))))

  -- What a row says is what its attribute says: one of this size lies in the type file.
  named_row : (long : ℕ) (r : Row) (x : Attribute) → RowOf long s r x → is_named s r t at size ≡ is_called s x t at size
  named_row long r x o = by_size (ℕ_discrete x.size size)
    where
      by_size : Dec (x.size ≡ size) → is_named s r t at size ≡ is_called s x t at size
      by_size (yes q) =
          let i : x.at + size ≤ length s = omega (arith, o.inside, q) in
          rw (is_named, is_called, o.size, eq-eqb _ _ q, o.name, le-leb _ _ i, o.name)
      by_size (no q) = rw (is_named, is_called, o.size, ne_eqb _ _ q)

  -- None of the first k rows of the list at b is called so.
  pub record NoneNamed (l : List ℕ) (b k : ℕ) : Type 0 where
    none : (j : ℕ) → j < k → is_named s (row_in l (b + 1 + ATTRIBUTE * j)) t at size ≡ false

  module _ (l : List ℕ) (b : ℕ) where
    pub named_first : NoneNamed l b 0
    named_first = record { none = λ j h. absurd (omega (arith, h)) }

    pub named_turn : (k : ℕ) (r : Row) {v : Bool} → NoneNamed l b k → r ≡ row_in l (b + 1 + ATTRIBUTE * k) → v ≡ is_named s r t at size → v ≡ false → NoneNamed l b (k + 1)
    named_turn k r w e n z = record { none = λ j h. by_last j h (ℕ_discrete j k) }
      where
        by_last : (j : ℕ) → j < k + 1 → Dec (j ≡ k) → is_named s (row_in l (b + 1 + ATTRIBUTE * j)) t at size ≡ false
        by_last j h (yes q) = ap (λ m. is_named s (row_in l (b + 1 + ATTRIBUTE * m)) t at size) q ∙ ap (λ (x : Row). is_named s x t at size) (sym e) ∙ sym n ∙ z
        by_last j h (no q) = w.none j (omega (arith, h, q))

    module _ (long : ℕ) (xs : List Attribute) (a : ListAt long s l b xs) where
      before : (k : ℕ) → k ≤ length xs → NoneNamed l b k → (j : ℕ) → j < k → is_called s (attribute_at xs j) t at size ≡ false
      before k h w j g = sym (named_row long _ _ (a.rows j (omega (arith, g, h)))) ∙ w.none j g

      pub named_found : (k n : ℕ) (r : Row) {v : Bool} → n ≡ length xs → k < n → NoneNamed l b k → r ≡ row_in l (b + 1 + ATTRIBUTE * k) → v ≡ is_named s r t at size → v ≡ true → k + 1 ≡ attribute_of s xs t at size
      unfolding attribute_of
      named_found k n r m h w o f z =
          let here : is_called s (attribute_at xs k) t at size ≡ true = sym (named_row long _ _ (a.rows k (omega (arith, h, m)))) ∙ ap (λ (x : Row). is_named s x t at size) (sym o) ∙ sym f ∙ z in
          let e : k + 1 ≡ 1 + k = omega arith in
          e ∙ sym (from_found 1 xs k (omega (arith, h, m)) (before k (omega (arith, h, m)) w) here)

      pub named_none : (k n : ℕ) → n ≡ length xs → k ≤ n → n ≤ k → NoneNamed l b k → 0 ≡ attribute_of s xs t at size
      unfolding attribute_of
      named_none k n m g h w = sym (from_none 1 xs (λ j i. before k (omega (arith, g, m)) w j (omega (arith, i, h, m))))

-- An attribute that was looked for is found or not.
pub number_none : (r : Option AttributeNo) → ((a : AttributeNo) → r ≡ Some a → ⊥) → number_of r ≡ 0
number_none None h = refl
number_none (Some a) h = absurd (h a refl)

pub number_not : (r : Option AttributeNo) {b : Bool} → b ≡ is_some r → b ≡ false → number_of r ≡ 0
number_not None e h = refl
number_not (Some a) e h = absurd (true≢false (sym e ∙ h))

pub number_some : (r : Option AttributeNo) {b : Bool} → IfSome r (λ a. (1 ≤ a.0) × (a.0 ≤ ATTCNT)) → b ≡ is_some r → b ≡ true → number_of r ≡ 0 → ⊥
number_some None w e h z = true≢false (sym h ∙ e)
number_some (Some a) w e h z = omega (arith, w, z)

-- A row is called so, by the tests that the code makes.
module _ (s : List ℕ) (r : Row) (t : List ℕ) (at size : ℕ) where
  pub named_size : (r.size ≡ size → ⊥) → false ≡ is_named s r t at size
  named_size h = rw (is_named, ne_eqb _ _ h)

  pub named_outside : r.size ≡ size → length s < r.name + size → false ≡ is_named s r t at size
  named_outside e h = rw (is_named, eq-eqb _ _ e, lt-leb _ _ h)

  pub named_text : r.size ≡ size → r.name + size ≤ length s → {v : Bool} → v ≡ same_text s r.name t at size → v ≡ is_named s r t at size
  named_text e h q = rw (is_named, eq-eqb _ _ e, le-leb _ _ h) q

-- Rows are written.

-- The five numbers from i on are those of r.
abbrev pub put_row : List ℕ → ℕ → Row → List ℕ
put_row l i r = set (set (set (set (set l i r.name) (i + 1) r.size) (i + 2) r.value) (i + 3) r.default) (i + 4) r.width

module _ (l : List ℕ) (i : ℕ) (r : Row) where
  abbrev a1 : List ℕ
  a1 = set l i r.name

  abbrev a2 : List ℕ
  a2 = set a1 (i + 1) r.size

  abbrev a3 : List ℕ
  a3 = set a2 (i + 2) r.value

  abbrev a4 : List ℕ
  a4 = set a3 (i + 3) r.default

  l1 : length a1 ≡ length l
  l1 = length-set l i r.name

  l2 : length a2 ≡ length l
  l2 = length-set a1 (i + 1) r.size ∙ l1

  l3 : length a3 ≡ length l
  l3 = length-set a2 (i + 2) r.value ∙ l2

  l4 : length a4 ≡ length l
  l4 = length-set a3 (i + 3) r.default ∙ l3

  put_length : length (put_row l i r) ≡ length l
  put_length = length-set a4 (i + 4) r.width ∙ l4

  put_before : (j : ℕ) → j < i → get_or (put_row l i r) j 0 ≡ get_or l j 0
  put_before j h =
      get_or-set_other a4 (i + 4) j r.width 0 (omega (arith, h)) ∙ get_or-set_other a3 (i + 3) j r.default 0 (omega (arith, h)) ∙ get_or-set_other a2 (i + 2) j r.value 0 (omega (arith, h))
      ∙ get_or-set_other a1 (i + 1) j r.size 0 (omega (arith, h)) ∙ get_or-set_other l i j r.name 0 (omega (arith, h))

  put_behind : (j : ℕ) → i + 5 ≤ j → get_or (put_row l i r) j 0 ≡ get_or l j 0
  put_behind j h =
      get_or-set_other a4 (i + 4) j r.width 0 (omega (arith, h)) ∙ get_or-set_other a3 (i + 3) j r.default 0 (omega (arith, h)) ∙ get_or-set_other a2 (i + 2) j r.value 0 (omega (arith, h))
      ∙ get_or-set_other a1 (i + 1) j r.size 0 (omega (arith, h)) ∙ get_or-set_other l i j r.name 0 (omega (arith, h))

  -- The row, where a number before it is written too.
  put_row_lem : (n : ℕ) → 1 ≤ i → i + 4 < length l → row_in (set (put_row l i r) 0 n) i ≡ r
  put_row_lem n f h =
      sym
      (row_is (set (put_row l i r) 0 n) i {a = r.name} {b = r.size} {v = r.value} {d = r.default} {n = r.width}
      (sym
      (first i f ∙ get_or-set_other a4 (i + 4) i r.width 0 (omega arith) ∙ get_or-set_other a3 (i + 3) i r.default 0 (omega arith) ∙ get_or-set_other a2 (i + 2) i r.value 0 (omega arith)
      ∙ get_or-set_other a1 (i + 1) i r.size 0 (omega arith) ∙ get_or-set_same l i r.name 0 (omega (arith, h))))
      (sym
      (first (i + 1) (omega arith) ∙ get_or-set_other a4 (i + 4) (i + 1) r.width 0 (omega arith) ∙ get_or-set_other a3 (i + 3) (i + 1) r.default 0 (omega arith)
      ∙ get_or-set_other a2 (i + 2) (i + 1) r.value 0 (omega arith) ∙ get_or-set_same a1 (i + 1) r.size 0 (omega (arith, h, l1))))
      (sym
      (first (i + 2) (omega arith) ∙ get_or-set_other a4 (i + 4) (i + 2) r.width 0 (omega arith) ∙ get_or-set_other a3 (i + 3) (i + 2) r.default 0 (omega arith)
      ∙ get_or-set_same a2 (i + 2) r.value 0 (omega (arith, h, l2))))
      (sym (first (i + 3) (omega arith) ∙ get_or-set_other a4 (i + 4) (i + 3) r.width 0 (omega arith) ∙ get_or-set_same a3 (i + 3) r.default 0 (omega (arith, h, l3))))
      (sym (first (i + 4) (omega arith) ∙ get_or-set_same a4 (i + 4) r.width 0 (omega (arith, h, l4)))))
    where
      first : (j : ℕ) → 1 ≤ j → get_or (set (put_row l i r) 0 n) j 0 ≡ get_or (put_row l i r) j 0
      first j g = get_or-set_other (put_row l i r) 0 j n 0 (omega (arith, g))

-- Two tables that are alike over a list have the same list there.
row_alike : (l m : List ℕ) (i j : ℕ) → ((q : ℕ) → q < ATTRIBUTE → get_or m (j + q) 0 ≡ get_or l (i + q) 0) → row_in m j ≡ row_in l i
row_alike l m i j f =
    let first : get_or m j 0 ≡ get_or l i 0 = ap (λ x. get_or m x 0) (omega arith) ∙ f 0 (omega arith) ∙ ap (λ x. get_or l x 0) (omega arith) in
    sym (row_is m j (sym first) (sym (f 1 (omega arith))) (sym (f 2 (omega arith))) (sym (f 3 (omega arith))) (sym (f 4 (omega arith))))

-- A row is put as that of the attribute k, and the number of attributes.
pub row_added : (l : List ℕ) (k : ℕ) (r : Row) → length l ≡ LIST → k < ATTCNT → Added k r l (set (put_row l (1 + ATTRIBUTE * k) r) 0 (k + 1))
row_added l k r full room =
    record {
      long = length-set (put_row l (1 + ATTRIBUTE * k) r) 0 (k + 1) ∙ put_length l (1 + ATTRIBUTE * k) r;
      counted = get_or-set_same (put_row l (1 + ATTRIBUTE * k) r) 0 (k + 1) 0 (omega (arith, put_length l (1 + ATTRIBUTE * k) r, full));
      row = put_row_lem l (1 + ATTRIBUTE * k) r (k + 1) (omega arith) (omega (arith, full, room));
      rest = λ j f o. get_or-set_other (put_row l (1 + ATTRIBUTE * k) r) 0 j (k + 1) 0 (omega (arith, f)) ∙ by_side j o;
    }
  where
    by_side : (j : ℕ) → (j < 1 + ATTRIBUTE * k) ⊎ (1 + ATTRIBUTE * (k + 1) ≤ j) → get_or (put_row l (1 + ATTRIBUTE * k) r) j 0 ≡ get_or l j 0
    by_side j (inl h) = put_before l (1 + ATTRIBUTE * k) r j h
    by_side j (inr h) = put_behind l (1 + ATTRIBUTE * k) r j (omega (arith, h))

-- A further attribute is put behind those of a list.
pub list_put : (l : List ℕ) (k : ℕ) (r : Row) → length l ≡ LIST → k < ATTCNT → (long : ℕ) (s : List ℕ) (xs : List Attribute) (x : Attribute) → length xs ≡ k → ListAt long s l 0 xs → RowOf long s r x
    → ListAt long s (set (put_row l (1 + ATTRIBUTE * k) r) 0 (k + 1)) 0 (xs ++ x ∷ [])
list_put l k r full room long s xs x m a o =
    record {
      counted = get_or-set_same (put_row l (1 + ATTRIBUTE * k) r) 0 (k + 1) 0 (omega (arith, put_length l (1 + ATTRIBUTE * k) r, full)) ∙ sym (more ∙ omega (arith, m));
      few = omega (arith, more, m, room);
      rows = λ j h. by_last j (omega (arith, h, more, m)) (ℕ_discrete j k);
    }
  where
    more : length (xs ++ x ∷ []) ≡ length xs + 1
    more = length-append xs (x ∷ [])

    now : List ℕ
    now = set (put_row l (1 + ATTRIBUTE * k) r) 0 (k + 1)

    by_last : (j : ℕ) → j ≤ k → Dec (j ≡ k) → RowOf long s (row_in now (1 + ATTRIBUTE * j)) (attribute_at (xs ++ x ∷ []) j)
    by_last j h (yes q) =
        let row : row_in now (1 + ATTRIBUTE * j) ≡ r = ap (λ n. row_in now (1 + ATTRIBUTE * n)) q ∙ put_row_lem l (1 + ATTRIBUTE * k) r (k + 1) (omega arith) (omega (arith, full, room)) in
        let last : attribute_at (xs ++ x ∷ []) j ≡ x = ap (attribute_at (xs ++ x ∷ [])) (q ∙ sym m) ∙ at_last xs x in
        subst (λ (y : Attribute). RowOf long s (row_in now (1 + ATTRIBUTE * j)) y) (sym last) (subst (λ (y : Row). RowOf long s y x) (sym row) o)
    by_last j h (no q) =
        let same : row_in now (1 + ATTRIBUTE * j) ≡ row_in l (1 + ATTRIBUTE * j) =
        row_alike l now (1 + ATTRIBUTE * j) (1 + ATTRIBUTE * j) (λ y g. get_or-set_other (put_row l (1 + ATTRIBUTE * k) r) 0 (1 + ATTRIBUTE * j + y) (k + 1) 0 (omega arith) ∙ put_before l (1 + ATTRIBUTE * k) r (1 + ATTRIBUTE * j + y) (omega (arith, g, h, q))) in
        subst (λ (y : Attribute). RowOf long s (row_in now (1 + ATTRIBUTE * j)) y) (sym (at_before xs x j (omega (arith, h, q, m))))
        (subst (λ (y : Row). RowOf long s y (attribute_at xs j)) (sym same) (a.rows j (omega (arith, h, q, m))))

-- Lists are copied.

-- The first i numbers of a list stand in the table from `from` on, and all others are what they were.
pub record Copying (list : List ℕ) (from : ℕ) (before after : List ℕ) (i : ℕ) : Type 0 where
  pub long : length after ≡ length before
  there : (j : ℕ) → j < i → get_or after (from + j) 0 ≡ get_or list j 0
  below : (j : ℕ) → j < from → get_or after j 0 ≡ get_or before j 0
  above : (j : ℕ) → from + i ≤ j → get_or after j 0 ≡ get_or before j 0

module _ (list : List ℕ) (from : ℕ) (before : List ℕ) where
  pub copying_first : Copying list from before before 0
  copying_first = record { long = refl; there = λ j h. absurd (omega (arith, h)); below = λ j h. refl; above = λ j h. refl }

  pub copying_turn : (after : List ℕ) (i x : ℕ) → Copying list from before after i → x ≡ get_or list i 0 → from + i < length before → Copying list from before (set after (from + i) x) (i + 1)
  copying_turn after i x w e h =
      record {
        long = length-set after (from + i) x ∙ w.long;
        there = λ j g. by_last j g (ℕ_discrete j i);
        below = λ j g. get_or-set_other after (from + i) j x 0 (omega (arith, g)) ∙ w.below j g;
        above = λ j g. get_or-set_other after (from + i) j x 0 (omega (arith, g)) ∙ w.above j (omega (arith, g));
      }
    where
      by_last : (j : ℕ) → j < i + 1 → Dec (j ≡ i) → get_or (set after (from + i) x) (from + j) 0 ≡ get_or list j 0
      by_last j g (yes q) = ap (λ n. get_or (set after (from + i) x) (from + n) 0) q ∙ get_or-set_same after (from + i) x 0 (omega (arith, h, w.long)) ∙ e ∙ ap (λ n. get_or list n 0) (sym q)
      by_last j g (no q) = get_or-set_other after (from + i) (from + j) x 0 (omega (arith, g, q)) ∙ w.there j (omega (arith, g, q))

-- A list that is copied as far as its rows go.
pub copied : (list : List ℕ) (from : ℕ) (before after : List ℕ) (i n : ℕ) → Copying list from before after i → i ≤ LIST → i ≡ 1 + ATTRIBUTE * n → ((long : ℕ) (s : List ℕ) (xs : List Attribute) → ListAt long s list 0 xs → n ≡ length xs)
    → Copied list from before after
copied list from before after i n w room end counts =
    record { long = w.long; outside = outside; inside = λ j h. by_copied j h (dec_lt j i); behind = behind; there = there; others = others }
  where
    outside : (j : ℕ) → (j < from) ⊎ (from + LIST ≤ j) → get_or after j 0 ≡ get_or before j 0
    outside j (inl h) = w.below j h
    outside j (inr h) = w.above j (omega (arith, h, room))

    by_copied : (j : ℕ) → j < LIST → Dec (j < i) → (get_or after (from + j) 0 ≡ get_or list j 0) ⊎ (get_or after (from + j) 0 ≡ get_or before (from + j) 0)
    by_copied j h (yes l) = inl (w.there j l)
    by_copied j h (no l) = inr (w.above (from + j) (omega (arith, l)))

    behind : (long : ℕ) (s : List ℕ) (xs : List Attribute) → ListAt long s list 0 xs → (j : ℕ) → from + 1 + ATTRIBUTE * length xs ≤ j → get_or after j 0 ≡ get_or before j 0
    behind long s xs a j h = w.above j (omega (arith, h, end, counts long s xs a))

    there : (long : ℕ) (s : List ℕ) (xs : List Attribute) → ListAt long s list 0 xs → ListAt long s after from xs
    there long s xs a =
        let m = counts long s xs a in
        let zeroth : get_or after from 0 ≡ get_or list 0 0 = ap (λ x. get_or after x 0) (omega arith) ∙ w.there 0 (omega (arith, end)) in
        record {
          counted = zeroth ∙ a.counted;
          few = a.few;
          rows = λ k h.
              subst (λ (y : Row). RowOf long s y (attribute_at xs k))
              (sym (row_alike list after (1 + ATTRIBUTE * k) (from + 1 + ATTRIBUTE * k) (λ q g. ap (λ x. get_or after x 0) (omega arith) ∙ w.there (1 + ATTRIBUTE * k + q) (omega (arith, g, h, m, end)))))
              (a.rows k h);
        }

    others : (long : ℕ) (s : List ℕ) (b : ℕ) (xs : List Attribute) → (b + LIST ≤ from) ⊎ (from + LIST ≤ b) → ListAt long s before b xs → ListAt long s after b xs
    others long s b xs o a =
        record {
          counted = same b (omega arith) (omega arith) o ∙ a.counted;
          few = a.few;
          rows = λ k h.
              subst (λ (y : Row). RowOf long s y (attribute_at xs k))
              (sym (row_alike before after (b + 1 + ATTRIBUTE * k) (b + 1 + ATTRIBUTE * k) (λ q g. same (b + 1 + ATTRIBUTE * k + q) (omega arith) (omega (arith, g, h, a.few)) o)))
              (a.rows k h);
        }
      where
        same : (j : ℕ) → b ≤ j → j < b + LIST → (b + LIST ≤ from) ⊎ (from + LIST ≤ b) → get_or after j 0 ≡ get_or before j 0
        same j l h (inl p) = w.below j (omega (arith, h, p))
        same j l h (inr p) = w.above j (omega (arith, l, p, room))
