-- Whether an "&" stands in a text.
use Rattle.std.specs.Prelude.{ℕ, ◌+◌, ◌<◌, ◌≡◌, Bool, true, false, ◌||◌, eqb, List}
use Rattle.std.proofs.Common.{sym, subst, arith, eq-eqb, ne_eqb}
use Rattle.std.proofs.Math.Decide.{ℕ_discrete}
use Rattle.rules.specs.Bytes.{byte_at, AND}

-- Whether one stands among the first n bytes.
abbrev pub Tells : List ℕ → ℕ → Bool → Type 0
Tells s n true = (i : ℕ) × (i < n) × (byte_at s i ≡ AND)
Tells s n false = (i : ℕ) → i < n → byte_at s i ≡ AND → ⊥

-- One byte more is looked at.
pub tells_more : (s : List ℕ) (n : ℕ) (b : Bool) → Tells s n b → Tells s (n + 1) (b || eqb (byte_at s n) AND)
tells_more s n true (i, l, e) = (i, omega arith, e)
tells_more s n false h = go (ℕ_discrete (byte_at s n) AND)
  where
    none : (byte_at s n ≡ AND → ⊥) → (i : ℕ) → i < n + 1 → byte_at s i ≡ AND → Dec (i ≡ n) → ⊥
    none f i l e (yes z) = f (rw z at e)
    none f i l e (no z) = h i (omega arith) e

    go : Dec (byte_at s n ≡ AND) → Tells s (n + 1) (eqb (byte_at s n) AND)
    go (yes e) = subst (Tells s (n + 1)) (sym (eq-eqb (byte_at s n) AND e)) (n, omega arith, e)
    go (no f) = subst (Tells s (n + 1)) (sym (ne_eqb (byte_at s n) AND f)) (λ i l e. none f i l e (ℕ_discrete i n))
