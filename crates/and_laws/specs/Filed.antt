-- The members of an "&" group by number: which have begun is a bit for each, and the bits say whether the group lacks a member and which place the only
-- member left requires.
use Rattle.std.specs.Prelude.{ℕ, ◌≡◌, refl, Bool, true, false, ◌&&◌, ◌||◌, not, cond, List, [], ◌∷◌, eqb}
use Rattle.std.proofs.Common.{sym, ◌∙◌, ap, subst, eqb-true, eq-eqb}
use Rattle.std.proofs.lemmas.Bool.{false≢true}
use borrow.Author.Tests as tests
use Rattle.basic_laws.specs.Truth.{or_left, or_right, or_cases, and_left, and_right, and_both, not_true, not_both, bool_cases, false_not}
use Rattle.model_sets.specs.Sets.{nullable, required_first}
use Rattle.rules.specs.Walk.{Group, Members, one, also}
use Rattle.and_laws.specs.Base.{mem}
use Rattle.and_laws.specs.Sets.{meets}
use Rattle.and_laws.specs.Rest.{all_m}
use Rattle.and_laws.specs.Req.{any_idle, required_rest}
use Rattle.and_laws.specs.Rows.{fine}

-- These laws are of lists of numbers.

abbrev pub all_of : (ℕ → Bool) → List ℕ → Bool
all_of t [] = true
all_of t (n ∷ ns) = all_of t ns && t n

abbrev pub any_of : (ℕ → Bool) → List ℕ → Bool
any_of t [] = false
any_of t (n ∷ ns) = any_of t ns || t n

-- No number stands twice.
abbrev pub Distinct : List ℕ → Type 0
Distinct [] = true ≡ true
Distinct (n ∷ ns) = (mem ns n ≡ false) × Distinct ns

pub all_each : (t : ℕ → Bool) (ns : List ℕ) → all_of t ns ≡ true → (n : ℕ) → mem ns n ≡ true → t n ≡ true
all_each t [] e n i = absurd (false≢true i)
all_each t (k ∷ ns) e n i =
    or_cases (eqb k n) _ (λ x. subst (λ (z : ℕ). t z ≡ true) (eqb-true k n x) (and_right (all_of t ns) _ e)) (λ y. all_each t ns (and_left (all_of t ns) _ e) n y) i

pub each_all : (t : ℕ → Bool) (ns : List ℕ) → ((n : ℕ) → mem ns n ≡ true → t n ≡ true) → all_of t ns ≡ true
each_all t [] f = refl
each_all t (k ∷ ns) f = and_both (each_all t ns (λ n i. f n (or_right (eqb k n) i))) (f k (or_left _ (eq-eqb k k refl)))

pub any_some : (t : ℕ → Bool) (ns : List ℕ) → any_of t ns ≡ true → (n : ℕ) × (mem ns n ≡ true) × (t n ≡ true)
any_some t [] e = absurd (false≢true e)
any_some t (k ∷ ns) e = or_cases (any_of t ns) _ (λ x. let (n, i, y) = any_some t ns x in (n, or_right (eqb k n) i, y)) (λ y. (k, or_left _ (eq-eqb k k refl), y)) e

pub some_any : (t : ℕ → Bool) (ns : List ℕ) (n : ℕ) → mem ns n ≡ true → t n ≡ true → any_of t ns ≡ true
some_any t [] n i e = absurd (false≢true i)
some_any t (k ∷ ns) n i e = or_cases (eqb k n) _ (λ x. or_right (any_of t ns) (subst (λ (z : ℕ). t z ≡ true) (sym (eqb-true k n x)) e)) (λ y. or_left _ (some_any t ns n y e)) i

-- This is what the only one requires that has not begun, and 0 if there are more or none.
abbrev pub lone_of : (ℕ → Bool) → (ℕ → ℕ) → List ℕ → ℕ
lone_of B r [] = 0
lone_of B r (n ∷ ns) = cond (B n) (lone_of B r ns) (cond (any_of (λ (k : ℕ). not (B k)) ns) 0 (r n))

module _ (B : ℕ → Bool) (r : ℕ → ℕ) where
  -- Where n alone has not begun, it is what n requires.
  pub lone_one : (ns : List ℕ) → Distinct ns → (n : ℕ) → mem ns n ≡ true → B n ≡ false → ((k : ℕ) → mem ns k ≡ true → B k ≡ false → k ≡ n) → lone_of B r ns ≡ r n
  lone_one [] d n i e f = absurd (false≢true i)
  lone_one (k ∷ ns) (x, d) n i e f =
      bool_cases
      (B k)
      (λ b. rw b (lone_one ns d n (or_cases (eqb k n) _ (λ y. absurd (not_both e (subst (λ (z : ℕ). B z ≡ true) (eqb-true k n y) b))) (λ y. y) i) e (λ j m g. f j (or_right (eqb k j) m) g)))
      (λ b.
      let same : k ≡ n = f k (or_left _ (eq-eqb k k refl)) b in
      let none : any_of (λ (j : ℕ). not (B j)) ns ≡ false = not_true (any_of (λ (j : ℕ). not (B j)) ns) (λ y.
      let (j, m, z) = any_some (λ (j : ℕ). not (B j)) ns y in
      not_both x (subst (λ (z : ℕ). mem ns z ≡ true) (f j (or_right (eqb k j) m) (tests.not-true (B j) z) ∙ sym same) m)) in
      rw (b, none) (ap r same))

  -- Where two have not begun, it is 0.
  pub lone_two : (ns : List ℕ) → (a b : ℕ) → (a ≡ b → ⊥) → mem ns a ≡ true → mem ns b ≡ true → B a ≡ false → B b ≡ false → lone_of B r ns ≡ 0
  lone_two [] a b n i j x y = absurd (false≢true i)
  lone_two (k ∷ ns) a b n i j x y =
      bool_cases
      (B k)
      (λ c. rw c (lone_two ns a b n (out a c i x) (out b c j y) x y))
      (λ c. rw (c, other))
    where
      out : (z : ℕ) → B k ≡ true → mem (k ∷ ns) z ≡ true → B z ≡ false → mem ns z ≡ true
      out z c m e = or_cases (eqb k z) _ (λ w. absurd (not_both e (subst (λ (v : ℕ). B v ≡ true) (eqb-true k z w) c))) (λ w. w) m

      other : any_of (λ (v : ℕ). not (B v)) ns ≡ true
      other =
          or_cases
          (eqb k a)
          _
          (λ w. or_cases (eqb k b) _ (λ v. absurd (n (sym (eqb-true k a w) ∙ eqb-true k b v))) (λ v. some_any (λ (z : ℕ). not (B z)) ns b v (false_not (B b) y)) j)
          (λ w. some_any (λ (z : ℕ). not (B z)) ns a w (false_not (B a) x))
          i

-- The members of a group stand for their numbers.

module _ (S : ℕ → Bool) (B : ℕ → Bool) (null : ℕ → Bool) (r : ℕ → ℕ) where
  -- The bit of a member's number says whether it has begun, and the table says whether it can be nothing and what it requires.
  abbrev pub IsNumber : ℕ → Group → Type 0
  IsNumber n g = (B n ≡ meets g S) × (null n ≡ nullable g) × (r n ≡ required_first g)

  -- The members have these numbers, the last member's first.
  abbrev pub Filed : Members → List ℕ → Type 0
  Filed (one g) ns = (n : ℕ) × (ns ≡ n ∷ []) × IsNumber n g
  Filed (also m g) ns = (n : ℕ) × (ks : List ℕ) × (ns ≡ n ∷ ks) × IsNumber n g × Filed m ks

  -- A member that has not begun can be nothing.
  abbrev pub fine_number : ℕ → Bool
  fine_number n = B n || null n

  pub filed_fine : (m : Members) (ns : List ℕ) → Filed m ns → all_m (fine S) m ≡ all_of fine_number ns
  filed_fine (one g) ns (n, e, (b, c, d)) = rw (e, b, c)
  filed_fine (also m g) ns (n, ks, e, (b, c, d), f) = rw (e, b, c) (ap (λ (z : Bool). z && fine S g) (filed_fine m ks f))

  filed_idle : (m : Members) (ns : List ℕ) → Filed m ns → any_idle S m ≡ any_of (λ (k : ℕ). not (B k)) ns
  filed_idle (one g) ns (n, e, (b, c, d)) = rw (e, b)
  filed_idle (also m g) ns (n, ks, e, (b, c, d), f) = rw (e, b) (ap (λ (z : Bool). z || not (meets g S)) (filed_idle m ks f))

  pub filed_rest : (m : Members) (ns : List ℕ) → Filed m ns → required_rest m S ≡ lone_of B r ns
  filed_rest (one g) ns (n, e, (b, c, d)) = rw (e, b, d)
  filed_rest (also m g) ns (n, ks, e, (b, c, d), f) = rw (e, b, d, filed_rest m ks f, filed_idle m ks f)
