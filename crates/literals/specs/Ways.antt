-- The scan of a literal: a byte that does not end it is passed, and each way in which it ends is what the rules say.
use Rattle.std.specs.Prelude.{ℕ, ◌+◌, ◌≤◌, ◌<◌, ◌≡◌, refl, ◌&&◌, List, length, drop, eqb}
use Rattle.std.proofs.Common.{suc-add, eq-eqb, ne_eqb, lt-ltb, le-ltb}
use Rattle.rules.specs.Bytes.{byte_at, AND}
use Rattle.rules.specs.Reading.{refused, got}
use Rattle.rules.specs.Attributes.{is_reference, ends_literal, in_literal, literal_end}
use Rattle.text.specs.Words.{Before}

pub in_literal_lem : (q : ℕ) → Before (in_literal q) (ends_literal q)
unfolding in_literal
in_literal_lem q = record {
  none = refl;
  found = λ b r e. rw (e, in_literal);
  more = λ b r e. rw (e, in_literal);
  along = λ b r i. rw (suc-add i 1, suc-add i 2);
}

-- Where the scan comes to e: the closing quote, a reference, the input's end.
pub literal_closes : (t : List ℕ) (i e : ℕ) → e ≡ i + 1 + in_literal (byte_at t i) (drop (i + 1) t) → e < length t → byte_at t e ≡ byte_at t i → literal_end t i ≡ got e
unfolding literal_end
literal_closes t i e q h b = rw (q, literal_end, lt-ltb _ _ (rw q at h), eq-eqb _ _ (rw q at b))

pub literal_refers : (t : List ℕ) (i e : ℕ) → e ≡ i + 1 + in_literal (byte_at t i) (drop (i + 1) t) → e < length t → (byte_at t e ≡ byte_at t i → ⊥) → literal_end t i ≡ refused 5 e
unfolding literal_end
literal_refers t i e q h b = rw (q, literal_end, lt-ltb _ _ (rw q at h), ne_eqb _ _ (rw q at b))

pub literal_cut : (t : List ℕ) (i e : ℕ) → e ≡ i + 1 + in_literal (byte_at t i) (drop (i + 1) t) → length t ≤ e → literal_end t i ≡ refused 4 (length t)
unfolding literal_end
literal_cut t i e q h = rw (literal_end, le-ltb _ _ (rw q at h))

-- Whether a literal ends at a byte that is not its quote: where a reference stands.
pub literal_other : (t : List ℕ) (q e : ℕ) → (byte_at t e ≡ q → ⊥) → ends_literal q t e ≡ (eqb (byte_at t e) AND && is_reference t e)
literal_other t q e n = rw (ne_eqb _ _ n)
