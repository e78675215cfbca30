-- The numbers of the members of one group: no two have one, they follow one another, and those that cannot be nothing come first. So the bits of the members
-- that have not begun say whether the group lacks a member, and which place the only one that is left requires.
use Rattle.std.specs.Prelude.{ℕ, ◌+◌, ◌-◌, ◌≤◌, ◌<◌, ◌≡◌, refl, Bool, true, false, ◌⊎◌, List, [], ◌∷◌, eqb, leb}
use Rattle.std.proofs.Common.{sym, ◌∙◌, ap, subst, inl, inr, arith, eqb-true, eq-eqb, le-leb}
use Rattle.std.proofs.lemmas.Bool.{false≢true, lt-leb}
use Rattle.std.proofs.Math.Decide.{dec_lt}
use Rattle.rules.specs.Walk.{Group, Members, one, also}
use Rattle.basic_laws.specs.Truth.{or_left, or_right, or_cases, not_true, not_both, bool_cases}
use Rattle.model_sets.specs.Sets.{has, has_m, nullable, required_first, amount}
use Rattle.and_laws.specs.Base.{mem}
use Rattle.and_laws.specs.Sets.{meets, GoodM}
use Rattle.and_laws.specs.Rest.{all_m, any_m}
use Rattle.and_laws.specs.Req.{required_rest}
use Rattle.and_laws.specs.Rows.{fine}
use Rattle.and_laws.specs.Filed.{Distinct, all_each, each_all, lone_one, lone_two, IsNumber, Filed, fine_number, filed_fine, filed_rest}
use Rattle.member_laws.specs.Members.{needs, spares, number_for, number_in, Each}

-- Two tests that hold together are one.
pub both_tests : (a b : Bool) → (a ≡ true → b ≡ true) → (b ≡ true → a ≡ true) → a ≡ b
both_tests true b f g = sym (f refl)
both_tests false true f g = g refl
both_tests false false f g = refl

pub amount_both : (m : Members) → amount m ≡ needs m + spares m
amount_both (one g) = bool_cases (nullable g) (λ x. rw x) (λ x. rw x)
amount_both (also m g) = bool_cases (nullable g) (λ x. rw x (omega (arith, amount_both m))) (λ x. rw x (omega (arith, amount_both m)))

module _ (first N : ℕ) where
  -- The member k has the number n.
  abbrev pub IsNumbered : Members → ℕ → Group → Type 0
  IsNumbered (one g) n k = (n ≡ number_for first N 0 0 g) × (k ≡ g)
  IsNumbered (also m g) n k = IsNumbered m n k ⊎ ((n ≡ number_for first N (needs m) (spares m) g) × (k ≡ g))

  pub each_at : (P : ℕ → Group → Type 0) (m : Members) → Each P first N m → (n : ℕ) (k : Group) → IsNumbered m n k → P n k
  each_at P (one g) x n k (e, d) = rw (e, d) x
  each_at P (also m g) (x, y) n k (inl i) = each_at P m x n k i
  each_at P (also m g) (x, y) n k (inr (e, d)) = rw (e, d) y

  pub at_each : (P : ℕ → Group → Type 0) (m : Members) → ((n : ℕ) (k : Group) → IsNumbered m n k → P n k) → Each P first N m
  at_each P (one g) f = f _ g (refl, refl)
  at_each P (also m g) f = (at_each P m (λ n k i. f n k (inl i)), f _ g (inr (refl, refl)))

  pub numbered_has : (m : Members) (n : ℕ) (k : Group) → IsNumbered m n k → (p : ℕ) → has k p ≡ true → has_m m p ≡ true
  numbered_has (one g) n k (e, d) p h = rw d at h
  numbered_has (also m g) n k (inl i) p h = or_left _ (numbered_has m n k i p h)
  numbered_has (also m g) n k (inr (e, d)) p h = or_right (has_m m p) (rw d at h)

  pub any_numbered : (t : Group → Bool) (m : Members) → any_m t m ≡ true → (n : ℕ) × (k : Group) × IsNumbered m n k × (t k ≡ true)
  any_numbered t (one g) i = (number_for first N 0 0 g, g, (refl, refl), i)
  any_numbered t (also m g) i = or_cases (any_m t m) (t g) (λ x. let (n, k, j, y) = any_numbered t m x in (n, k, inl j, y)) (λ y. (number_for first N (needs m) (spares m) g, g, inr (refl, refl), y)) i

  pub numbered_any : (t : Group → Bool) (m : Members) (n : ℕ) (k : Group) → IsNumbered m n k → t k ≡ true → any_m t m ≡ true
  numbered_any t (one g) n k (e, d) x = rw d at x
  numbered_any t (also m g) n k (inl i) x = or_left _ (numbered_any t m n k i x)
  numbered_any t (also m g) n k (inr (e, d)) x = or_right (any_m t m) (rw d at x)

  -- The member that has the place p has the number that is said of p, and no other has it.
  pub place_numbered : (m : Members) (p : ℕ) → has_m m p ≡ true → (k : Group) × IsNumbered m (number_in first N m p) k × (has k p ≡ true)
  place_numbered (one g) p h = (g, (refl, refl), h)
  place_numbered (also m g) p h =
      bool_cases
      (has g p)
      (λ x. (g, inr (rw x, refl), x))
      (λ x. inner (place_numbered m p (or_cases (has_m m p) (has g p) (λ z. z) (λ z. absurd (not_both x z)) h)) (rw x))
    where
      inner : (k : Group) × IsNumbered m (number_in first N m p) k × (has k p ≡ true) → number_in first N (also m g) p ≡ number_in first N m p → (k : Group) × IsNumbered (also m g) (number_in first N (also m g) p) k × (has k p ≡ true)
      inner (k, i, y) e = (k, inl (subst (λ (n : ℕ). IsNumbered m n k) (sym e) i), y)

  pub numbered_place : (m : Members) → GoodM m → (n : ℕ) (k : Group) → IsNumbered m n k → (p : ℕ) → has k p ≡ true → number_in first N m p ≡ n
  numbered_place (one g) d n k (e, z) p h = sym e
  numbered_place (also m g) (d, c, a) n k (inl i) p h =
      let x : has g p ≡ false = not_true (has g p) (a p (numbered_has m n k i p h)) in
      rw x (numbered_place m d n k i p h)
  numbered_place (also m g) (d, c, a) n k (inr (e, z)) p h = let x : has g p ≡ true = rw z at h in rw x (sym e)

  -- Those that cannot be nothing are numbered before the others.
  pub data Ranged (m : Members) (n : ℕ) (k : Group) : Type 0 where
    needed : nullable k ≡ false → first ≤ n → n < first + needs m → Ranged m n k
    spare : nullable k ≡ true → first + N ≤ n → n < first + N + spares m → Ranged m n k

  -- The number of a member goes by whether it can be nothing.
  number_of : {C : Type 0} (g : Group) (a b : ℕ) → (nullable g ≡ true → number_for first N a b g ≡ first + N + b → C) → (nullable g ≡ false → number_for first N a b g ≡ first + a → C) → C
  number_of g a b f h = bool_cases (nullable g) (λ x. f x (rw x)) (λ x. h x (rw x))

  counts : {C : Type 0} (m : Members) (g : Group) → (nullable g ≡ true → needs (also m g) ≡ needs m → spares (also m g) ≡ spares m + 1 → C) → (nullable g ≡ false → needs (also m g) ≡ needs m + 1 → spares (also m g) ≡ spares m → C) → C
  counts m g f h = bool_cases (nullable g) (λ x. f x (rw x (omega arith)) (rw x)) (λ x. h x (rw x) (rw x (omega arith)))

  pub numbered_range : (m : Members) (n : ℕ) (k : Group) → IsNumbered m n k → Ranged m n k
  numbered_range (one g) n k (e, d) =
      number_of
      g
      0
      0
      (λ x y. let z : spares (one g) ≡ 1 = rw x in spare (rw (d, x)) (omega arith) (omega arith))
      (λ x y. let z : needs (one g) ≡ 1 = rw x in needed (rw (d, x)) (omega arith) (omega arith))
  numbered_range (also m g) n k (inl i) = counts m g (λ x y z. wider y z (numbered_range m n k i)) (λ x y z. wider_2 y z (numbered_range m n k i))
    where
      wider : needs (also m g) ≡ needs m → spares (also m g) ≡ spares m + 1 → Ranged m n k → Ranged (also m g) n k
      wider y z (needed a b c) = needed a b (omega arith)
      wider y z (spare a b c) = spare a b (omega arith)

      wider_2 : needs (also m g) ≡ needs m + 1 → spares (also m g) ≡ spares m → Ranged m n k → Ranged (also m g) n k
      wider_2 y z (needed a b c) = needed a b (omega arith)
      wider_2 y z (spare a b c) = spare a b (omega arith)
  numbered_range (also m g) n k (inr (e, d)) =
      counts
      m
      g
      (λ x y z. let v : n ≡ first + N + spares m = rw x at e in spare (rw (d, x)) (omega arith) (omega arith))
      (λ x y z. let v : n ≡ first + needs m = rw x at e in needed (rw (d, x)) (omega arith) (omega arith))

  -- No two members have one number.
  apart_last : (m : Members) (g : Group) → needs (also m g) ≤ N → (n : ℕ) (k : Group) → IsNumbered m n k → n ≡ number_for first N (needs m) (spares m) g → ⊥
  apart_last m g l n k i e = go (numbered_range m n k i)
    where
      go : Ranged m n k → ⊥
      go (needed a b c) = counts m g (λ x y z. let v : n ≡ first + N + spares m = rw x at e in omega arith) (λ x y z. let v : n ≡ first + needs m = rw x at e in omega arith)
      go (spare a b c) = counts m g (λ x y z. let v : n ≡ first + N + spares m = rw x at e in omega arith) (λ x y z. let v : n ≡ first + needs m = rw x at e in omega arith)

  pub numbered_once : (m : Members) → needs m ≤ N → (n : ℕ) (k h : Group) → IsNumbered m n k → IsNumbered m n h → k ≡ h
  numbered_once (one g) l n k h (e, d) (x, y) = d ∙ sym y
  numbered_once (also m g) l n k h (inl i) (inl j) = numbered_once m (less l) n k h i j
    where
      less : needs (also m g) ≤ N → needs m ≤ N
      less l = counts m g (λ x y z. omega arith) (λ x y z. omega arith)
  numbered_once (also m g) l n k h (inl i) (inr (x, y)) = absurd (apart_last m g l n k i x)
  numbered_once (also m g) l n k h (inr (e, d)) (inl j) = absurd (apart_last m g l n h j e)
  numbered_once (also m g) l n k h (inr (e, d)) (inr (x, y)) = d ∙ sym y

  -- The numbers, the last member's first: those that cannot be nothing and those that can.
  abbrev pub numbers_of : Members → List ℕ
  numbers_of (one g) = number_for first N 0 0 g ∷ []
  numbers_of (also m g) = number_for first N (needs m) (spares m) g ∷ numbers_of m

  pub filed_each : (S B null : ℕ → Bool) (r : ℕ → ℕ) (m : Members) → Each (IsNumber S B null r) first N m → Filed S B null r m (numbers_of m)
  filed_each S B null r (one g) x = (number_for first N 0 0 g, refl, x)
  filed_each S B null r (also m g) (x, y) = (number_for first N (needs m) (spares m) g, numbers_of m, refl, y, filed_each S B null r m x)

  pub mem_numbered : (m : Members) (n : ℕ) → mem (numbers_of m) n ≡ true → (k : Group) × IsNumbered m n k
  mem_numbered (one g) n i = (g, (or_cases (eqb (number_for first N 0 0 g) n) false (λ x. sym (eqb-true (number_for first N 0 0 g) n x)) (λ y. absurd (false≢true y)) i, refl))
  mem_numbered (also m g) n i =
      or_cases
      (eqb (number_for first N (needs m) (spares m) g) n)
      (mem (numbers_of m) n)
      (λ x. (g, inr (sym (eqb-true (number_for first N (needs m) (spares m) g) n x), refl)))
      (λ y. let (k, j) = mem_numbered m n y in (k, inl j))
      i

  pub distinct_numbers : (m : Members) → needs m ≤ N → Distinct (numbers_of m)
  distinct_numbers (one g) l = (refl, refl)
  distinct_numbers (also m g) l = (
    not_true (mem (numbers_of m) (number_for first N (needs m) (spares m) g)) (λ i. let (k, j) = mem_numbered m _ i in apart_last m g l _ k j refl),
    distinct_numbers m (counts m g (λ x y z. omega arith) (λ x y z. omega arith)),
  )

  -- Every number below the amounts is a member's.
  pub number_needed : (m : Members) (n : ℕ) → first ≤ n → n < first + needs m → mem (numbers_of m) n ≡ true
  number_needed (one g) n a b =
      number_of g 0 0 (λ x y. let z : needs (one g) ≡ 0 = rw x in absurd (omega arith)) (λ x y. let z : needs (one g) ≡ 1 = rw x in or_left _ (eq-eqb (number_for first N 0 0 g) n (omega arith)))
  number_needed (also m g) n a b =
      counts
      m
      g
      (λ x y z. or_right (eqb (number_for first N (needs m) (spares m) g) n) (number_needed m n a (omega arith)))
      (λ x y z. last x (omega arith) (number_needed m n a) (dec_lt n (first + needs m)))
    where
      last : nullable g ≡ false → n ≤ first + needs m → (n < first + needs m → mem (numbers_of m) n ≡ true) → Dec (n < first + needs m) → mem (numbers_of (also m g)) n ≡ true
      last x l f (yes c) = or_right (eqb (number_for first N (needs m) (spares m) g) n) (f c)
      last x l f (no c) = or_left _ (eq-eqb (number_for first N (needs m) (spares m) g) n (let v : number_for first N (needs m) (spares m) g ≡ first + needs m = rw x in omega arith))

  pub number_spare : (m : Members) (n : ℕ) → first + N ≤ n → n < first + N + spares m → mem (numbers_of m) n ≡ true
  number_spare (one g) n a b =
      number_of g 0 0 (λ x y. let z : spares (one g) ≡ 1 = rw x in or_left _ (eq-eqb (number_for first N 0 0 g) n (omega arith))) (λ x y. let z : spares (one g) ≡ 0 = rw x in absurd (omega arith))
  number_spare (also m g) n a b =
      counts
      m
      g
      (λ x y z. last x (omega arith) (number_spare m n a) (dec_lt n (first + N + spares m)))
      (λ x y z. or_right (eqb (number_for first N (needs m) (spares m) g) n) (number_spare m n a (omega arith)))
    where
      last : nullable g ≡ true → n ≤ first + N + spares m → (n < first + N + spares m → mem (numbers_of m) n ≡ true) → Dec (n < first + N + spares m) → mem (numbers_of (also m g)) n ≡ true
      last x l f (yes c) = or_right (eqb (number_for first N (needs m) (spares m) g) n) (f c)
      last x l f (no c) = or_left _ (eq-eqb (number_for first N (needs m) (spares m) g) n (let v : number_for first N (needs m) (spares m) g ≡ first + N + spares m = rw x in omega arith))

-- A group with as many needed as there are: its numbers are those from the first on, so many as there are members.
module _ (first : ℕ) (m : Members) where
  pub numbers_range : (n : ℕ) → mem (numbers_of first (needs m) m) n ≡ true → (first ≤ n) × (n < first + amount m)
  numbers_range n i = let (k, j) = mem_numbered first (needs m) m n i in go k (numbered_range first (needs m) m n k j)
    where
      go : (k : Group) → Ranged first (needs m) m n k → (first ≤ n) × (n < first + amount m)
      go k (needed a b c) = omega (arith, amount_both m)
      go k (spare a b c) = omega (arith, amount_both m)

  pub range_numbers : (n : ℕ) → first ≤ n → n < first + amount m → mem (numbers_of first (needs m) m) n ≡ true
  range_numbers n a b = go (dec_lt n (first + needs m))
    where
      go : Dec (n < first + needs m) → mem (numbers_of first (needs m) m) n ≡ true
      go (yes c) = number_needed first (needs m) m n a c
      go (no c) = number_spare first (needs m) m n (omega arith) (omega (arith, amount_both m))

  -- The test of a number says whether its member can be nothing.
  null_numbered : (n : ℕ) (k : Group) → IsNumbered first (needs m) m n k → leb (first + needs m) n ≡ nullable k
  null_numbered n k i = go (numbered_range first (needs m) m n k i)
    where
      go : Ranged first (needs m) m n k → leb (first + needs m) n ≡ nullable k
      go (needed a b c) = lt-leb (first + needs m) n c ∙ sym a
      go (spare a b c) = le-leb (first + needs m) n b ∙ sym a

  abbrev null : ℕ → Bool
  null n = leb (first + needs m) n

  -- The bit of each member says whether it has begun, and the table what it requires at its start.
  module _ (S B : ℕ → Bool) (r : ℕ → ℕ) (marked : Each (λ (n : ℕ) (g : Group). B n ≡ meets g S) first (needs m) m) (due : Each (λ (n : ℕ) (g : Group). r n ≡ required_first g) first (needs m) m) where
    filed : Filed S B null r m (numbers_of first (needs m) m)
    filed =
        filed_each
        first
        (needs m)
        S
        B
        null
        r
        m
        (at_each first (needs m) (IsNumber S B null r) m (λ n k i. (each_at first (needs m) (λ (n : ℕ) (g : Group). B n ≡ meets g S) m marked n k i, null_numbered n k i, each_at first (needs m) (λ (n : ℕ) (g : Group). r n ≡ required_first g) m due n k i)))

    -- No member is lacking exactly if all have begun that cannot be nothing.
    pub none_lacks : ((j : ℕ) → j < needs m → B (first + j) ≡ true) → all_m (fine S) m ≡ true
    none_lacks f =
        filed_fine S B null r m (numbers_of first (needs m) m) filed
        ∙ each_all (fine_number S B null r) (numbers_of first (needs m) m) (λ n i. let (k, j) = mem_numbered first (needs m) m n i in go n (numbered_range first (needs m) m n k j))
      where
        go : (n : ℕ) {k : Group} → Ranged first (needs m) m n k → fine_number S B null r n ≡ true
        go n (needed a b c) = let e : first + (n - first) ≡ n = omega arith in or_left _ (subst (λ (z : ℕ). B z ≡ true) e (f (n - first) (omega arith)))
        go n (spare a b c) = or_right (B n) (le-leb (first + needs m) n b)

    pub lacks_none : all_m (fine S) m ≡ true → (j : ℕ) → j < needs m → B (first + j) ≡ true
    lacks_none e j l =
        or_cases
        (B (first + j))
        (null (first + j))
        (λ x. x)
        (λ y. absurd (not_both (lt-leb (first + needs m) (first + j) (omega arith)) y))
        (all_each (fine_number S B null r) (numbers_of first (needs m) m) (sym (filed_fine S B null r m (numbers_of first (needs m) m) filed) ∙ e) (first + j) (number_needed first (needs m) m (first + j) (omega arith) (omega arith)))

    among : (j : ℕ) → j < amount m → mem (numbers_of first (needs m) m) (first + j) ≡ true
    among j l = range_numbers (first + j) (omega arith) (omega arith)

    behind : (n : ℕ) → mem (numbers_of first (needs m) m) n ≡ true → (j : ℕ) × (j < amount m) × (n ≡ first + j)
    behind n i = let x = numbers_range n i in (n - first, omega arith, omega arith)

    -- The place that is required is that of the only member that has not begun.
    pub rest_one : (j : ℕ) → j < amount m → B (first + j) ≡ false → ((i : ℕ) → i < amount m → B (first + i) ≡ false → i ≡ j) → required_rest m S ≡ r (first + j)
    rest_one j l e f =
        filed_rest S B null r m (numbers_of first (needs m) m) filed
        ∙ lone_one B r (numbers_of first (needs m) m) (distinct_numbers first (needs m) m (omega arith)) (first + j) (among j l) e (λ n i z. let (k, v, w) = behind n i in w ∙ ap (◌+◌ first) (f k v (rw (← w) z)))

    pub rest_two : (i j : ℕ) → (i ≡ j → ⊥) → i < amount m → j < amount m → B (first + i) ≡ false → B (first + j) ≡ false → required_rest m S ≡ 0
    rest_two i j n k l x y =
        filed_rest S B null r m (numbers_of first (needs m) m) filed
        ∙ lone_two B r (numbers_of first (needs m) m) (first + i) (first + j) (λ e. n (omega arith)) (among i k) (among j l) x y
