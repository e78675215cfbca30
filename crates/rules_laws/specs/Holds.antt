-- What holds of a reading, carried under the branches of a rule: of a refusal by its number and position, and of what is got.
use Rattle.std.specs.Prelude.{ℕ, ◌≡◌, refl, Bool, true, false}
use Rattle.std.proofs.Common.{subst}
use Rattle.rules.specs.Reading.{Reading, refused, got, and_then}

pub data Holds {A : Type 0} (R : (number position : ℕ) → Type 0) (P : A → Type 0) : Reading A → Type 0 where
  stops : {n k : ℕ} → R n k → Holds R P (refused n k)
  reads : {a : A} → P a → Holds R P (got a)

-- Of any refusal, and of whatever is got.
abbrev pub Any : (number position : ℕ) → Type 0
Any n k = Unit {0}

-- Of what is got, P holds; of a refusal, R.
abbrev pub Gives : {A : Type 0} → (A → Type 0) → Reading A → Type 0
Gives P r = Holds Any P r

abbrev pub Refuses : {A : Type 0} → ((number position : ℕ) → Type 0) → Reading A → Type 0
Refuses {A} R r = Holds R (λ (a : A). Unit {0}) r

module _ {R : (number position : ℕ) → Type 0} where
  was_refused : {A : Type 0} {P : A → Type 0} {n k : ℕ} → Holds R P (refused n k) → R n k
  was_refused (stops h) = h

  was_got : {A : Type 0} {P : A → Type 0} {a : A} → Holds R P (got a) → P a
  was_got (reads p) = p

  -- What holds of a reading holds by an equation of it.
  pub refused_so : {A : Type 0} {P : A → Type 0} {r : Reading A} {n k : ℕ} → Holds R P r → r ≡ refused n k → R n k
  refused_so {P = P} h e = was_refused (subst (Holds R P) e h)

  pub got_so : {A : Type 0} {P : A → Type 0} {r : Reading A} {a : A} → Holds R P r → r ≡ got a → P a
  got_so {P = P} h e = was_got (subst (Holds R P) e h)

  pub each : {A : Type 0} {P : A → Type 0} (r : Reading A) → ((n k : ℕ) → r ≡ refused n k → R n k) → ((a : A) → r ≡ got a → P a) → Holds R P r
  each (refused n k) f g = stops (f n k refl)
  each (got a) f g = reads (g a refl)

  -- What holds, with the equation of what was got.
  pub known : {A : Type 0} {P : A → Type 0} {r : Reading A} → Holds R P r → Holds R (λ (a : A). (r ≡ got a) × P a) r
  known (stops h) = stops h
  known (reads p) = reads (refl, p)

  pub so : {A : Type 0} {Q : (number position : ℕ) → Type 0} {P S : A → Type 0} {r : Reading A} → Holds R P r → ((n k : ℕ) → R n k → Q n k) → ((a : A) → P a → S a) → Holds Q S r
  so (stops {n} {k} h) f g = stops (f n k h)
  so (reads {a} p) f g = reads (g a p)

  -- Reading goes on, with what holds of what was got.
  pub on : {A B : Type 0} {P : A → Type 0} {Q : B → Type 0} {f : A → Reading B} {r : Reading A} → Holds R P r → ((a : A) → P a → Holds R Q (f a)) → Holds R Q (and_then r f)
  on (stops h) f = stops h
  on (reads {a} p) f = f a p

  -- A test parts two ways.
  pub either : {A : Type 0} {P : A → Type 0} {x y : Reading A} (b : Bool) → (b ≡ true → Holds R P x) → (b ≡ false → Holds R P y) → Holds R P (elim b [ true ↦ x | false ↦ y ])
  either true f g = f refl
  either false f g = g refl

-- What is got is one thing.
pub got_one : {A : Type 0} {a b : A} → got a ≡ got b → a ≡ b
got_one e = cc

-- Two ways to go on that agree where P holds.
pub on_same : {A B : Type 0} {P : A → Type 0} {f h : A → Reading B} {r : Reading A} → Gives P r → ((a : A) → P a → f a ≡ h a) → and_then r f ≡ and_then r h
on_same (stops h) e = refl
on_same (reads {a} p) e = e a p

-- A test between two things that are read.
pub whichever : {A : Type 0} (P : A → Type 0) {x y : A} (b : Bool) → (b ≡ true → P x) → (b ≡ false → P y) → P (elim b [ true ↦ x | false ↦ y ])
whichever P true f g = f refl
whichever P false f g = g refl
