-- Truth values: what follows from a test, and from `||`, `&&` and `cond`.
use Rattle.std.specs.Prelude.{◌≡◌, refl, Bool, true, false, not, ◌&&◌, ◌||◌, cond, eqb}
use Rattle.std.proofs.lemmas.Bool.{false≢true}

-- What follows from a test follows where it is true and where it is false.
pub bool_cases : {C : Type 0} (a : Bool) → (a ≡ true → C) → (a ≡ false → C) → C
bool_cases true f g = f refl
bool_cases false f g = g refl

-- What cannot be true is false.
pub not_true : (a : Bool) → (a ≡ true → ⊥) → a ≡ false
not_true true f = absurd (f refl)
not_true false f = refl

pub not_both : {a : Bool} → a ≡ false → a ≡ true → ⊥
not_both x y = false≢true (rw x at y)

pub false_not : (a : Bool) → a ≡ false → not a ≡ true
false_not a e = rw e

-- A test from which a true one would follow is false where that one is.
pub no_from : {a b : Bool} → (a ≡ true → b ≡ true) → b ≡ false → a ≡ false
no_from {a} f e = not_true a (λ x. not_both e (f x))

pub or_left : {a : Bool} (b : Bool) → a ≡ true → a || b ≡ true
or_left b e = rw e

pub or_right : (a : Bool) {b : Bool} → b ≡ true → a || b ≡ true
or_right true e = refl
or_right false e = e

-- What follows from each of two follows from either.
pub or_cases : {C : Type 0} (a b : Bool) → (a ≡ true → C) → (b ≡ true → C) → a || b ≡ true → C
or_cases true b f g e = f refl
or_cases false b f g e = g e

pub and_left : (a b : Bool) → a && b ≡ true → a ≡ true
and_left true b e = refl
and_left false b e = e

pub and_right : (a b : Bool) → a && b ≡ true → b ≡ true
and_right true b e = e
and_right false b e = absurd (false≢true e)

pub and_both : {a b : Bool} → a ≡ true → b ≡ true → a && b ≡ true
and_both x y = rw (x, y)

pub and_split : (a b : Bool) → a && b ≡ true → (a ≡ true) × (b ≡ true)
and_split a b e = (and_left a b e, and_right a b e)

-- Neither of two is true where none is.
pub or_none : (a b : Bool) → a || b ≡ false → (a ≡ false) × (b ≡ false)
or_none true b e = absurd (not_both e refl)
or_none false b e = (refl, e)

pub cond_yes : {A : Type 0} {c : Bool} (x y : A) → c ≡ true → cond c x y ≡ x
cond_yes x y e = rw e

pub cond_no : {A : Type 0} {c : Bool} (x y : A) → c ≡ false → cond c x y ≡ y
cond_no x y e = rw e

pub cond_same : {A : Type 0} (c : Bool) (x : A) → cond c x x ≡ x
cond_same true x = refl
cond_same false x = refl

-- A bit that is put where a test is true says the test.
pub eqb_bit : (b : Bool) → eqb (cond b 1 0) 1 ≡ b
eqb_bit true = refl
eqb_bit false = refl
