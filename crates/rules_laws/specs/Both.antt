-- Two readings that go alike: both refuse by one number at one position, or of what both get P holds.
use Rattle.std.specs.Prelude.{ℕ, ◌≡◌, refl, Bool, true, false}
use Rattle.std.proofs.Common.{sym, ap}
use Rattle.std.proofs.lemmas.Bool.{false≢true}
use Rattle.rules.specs.Reading.{Reading, refused, got, and_then}
use Rattle.rules_laws.specs.Holds.{Holds, stops, reads, Refuses}

pub data Both {A B : Type 0} (R : (number position : ℕ) → Type 0) (P : A → B → Type 0) : Reading A → Reading B → Type 0 where
  stop : {n k : ℕ} → R n k → Both R P (refused n k) (refused n k)
  read : {a : A} {b : B} → P a b → Both R P (got a) (got b)

module _ {R : (number position : ℕ) → Type 0} where
  pub on : {A B C D : Type 0} {P : A → B → Type 0} {Q : C → D → Type 0} {f : A → Reading C} {h : B → Reading D} {r : Reading A} {q : Reading B} → Both R P r q → ((a : A) (b : B) → P a b → Both R Q (f a) (h b)) → Both R Q (and_then r f) (and_then q h)
  on (stop x) f = stop x
  on (read {a} {b} p) f = f a b p

  pub either : {A B : Type 0} {P : A → B → Type 0} {x y : Reading A} {u v : Reading B} (b c : Bool) → b ≡ c → (b ≡ true → Both R P x u) → (b ≡ false → Both R P y v) → Both R P (elim b [ true ↦ x | false ↦ y ]) (elim c [ true ↦ u | false ↦ v ])
  either true true e f g = f refl
  either true false e f g = absurd (false≢true (sym e))
  either false true e f g = absurd (false≢true e)
  either false false e f g = g refl

  pub so : {A B : Type 0} {S : (number position : ℕ) → Type 0} {P Q : A → B → Type 0} {r : Reading A} {q : Reading B} → Both R P r q → ((n k : ℕ) → R n k → S n k) → ((a : A) (b : B) → P a b → Q a b) → Both S Q r q
  so (stop {n} {k} x) f g = stop (f n k x)
  so (read {a} {b} p) f g = read (g a b p)

  -- What holds of the first of them.
  pub first : {A B : Type 0} {P : A → B → Type 0} {Q : A → Type 0} {r : Reading A} {q : Reading B} → Both R P r q → ((a : A) (b : B) → P a b → Q a) → Holds R Q r
  first (stop x) f = stops x
  first (read {a} {b} p) f = reads (f a b p)

  pub refusals : {A B : Type 0} {P : A → B → Type 0} {r : Reading A} {q : Reading B} → Both R P r q → Refuses R r
  refusals (stop x) = stops x
  refusals (read p) = reads tt

  -- A reading goes like itself.
  pub itself : {A : Type 0} {P : A → Type 0} {r : Reading A} → Holds R P r → Both R (λ (a b : A). (a ≡ b) × P a) r r
  itself (stops x) = stop x
  itself (reads p) = read (refl, p)

-- Readings that get the same are the same.
pub same : {R : (number position : ℕ) → Type 0} {A : Type 0} {r q : Reading A} → Both R (λ (a b : A). a ≡ b) r q → r ≡ q
same (stop x) = refl
same (read e) = ap got e
