-- An attribute of a start tag by the tests that the code makes.
use Rattle.std.specs.Prelude.{ℕ, ◌+◌, ◌-◌, ◌≤◌, ◌<◌, ◌≡◌, refl, true, false, List, length}
use Rattle.std.proofs.Common.{arith}
use borrow.Author.Tests.{eq-eqb, ne_eqb, lt-ltb, le-ltb}
use Rattle.rules.specs.Bytes.{byte_at, name_end, separators_end, VI}
use Rattle.rules.specs.Reading.{refused, got, and_then}
use Rattle.rules.specs.Attributes.{quote, literal_end}
use Rattle.rules.specs.Document.{specification}
use Rattle.text.specs.Words.{byte_is_in, test_in}

-- `=` behind a name that ends at e stands at j.
pub record EqualsAt (s : List ℕ) (e j : ℕ) : Type 0 where
  pub behind : j ≡ separators_end s e
  pub here : byte_at s j ≡ VI

pub equals_in : {s : List ℕ} {e j : ℕ} → EqualsAt s e j → j < length s
equals_in {s} {e} {j} x = byte_is_in s j VI x.here (omega arith)

-- The opening quote of a literal behind a `=` that stands at j: it stands at k.
pub record QuoteAt (s : List ℕ) (j k : ℕ) : Type 0 where
  pub behind : k ≡ separators_end s (j + 1)
  pub here : quote (byte_at s k) ≡ true

pub quote_in : {s : List ℕ} {j k : ℕ} → QuoteAt s j k → k < length s
quote_in {s} {j} {k} y = test_in quote refl s k y.here

-- The attribute whose name, from i on, ends at e.
module _ (long : ℕ) (s : List ℕ) (i e : ℕ) (q : e ≡ name_end s i) where
  pub name_long : long < e - i → refused 3 i ≡ specification long s i
  unfolding specification
  name_long h = rw (specification, lt-ltb _ _ (rw q at h))

  module _ (h : e - i ≤ long) where
    pub equals_missing : (j : ℕ) → j ≡ separators_end s e → (byte_at s j ≡ VI → ⊥) → refused 4 j ≡ specification long s i
    unfolding specification
    equals_missing j p n = rw (p, q, specification, le-ltb _ _ (rw q at h), ne_eqb _ _ (rw (p, q) at n))

    module _ (j : ℕ) (x : EqualsAt s e j) where
      pub quote_missing : (k : ℕ) → k ≡ separators_end s (j + 1) → quote (byte_at s k) ≡ false → refused 4 k ≡ specification long s i
      unfolding specification
      quote_missing k r n = rw (r, x.behind, q, specification, le-ltb _ _ (rw q at h), eq-eqb _ _ (rw (x.behind, q) at x.here), rw (r, x.behind, q) at n)

      module _ (k : ℕ) (y : QuoteAt s j k) where
        from_literal : and_then (literal_end s k) (λ (z : ℕ). got (record { at = i; size = e - i; quote = k; width = z - (k + 1) })) ≡ specification long s i
        unfolding specification
        from_literal = rw (y.behind, x.behind, q, specification, le-ltb _ _ (rw q at h), eq-eqb _ _ (rw (x.behind, q) at x.here), rw (y.behind, x.behind, q) at y.here)

        pub literal_refused : (a b : ℕ) → literal_end s k ≡ refused a b → refused a b ≡ specification long s i
        literal_refused a b l = rw l at from_literal

        pub literal_read : (z : ℕ) → literal_end s k ≡ got z → got (record { at = i; size = e - i; quote = k; width = z - (k + 1) }) ≡ specification long s i
        literal_read z l = rw l at from_literal
