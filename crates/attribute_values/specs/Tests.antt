-- A part of a text, and the bytes of a value, by the tests that the code makes.
use Rattle.std.specs.Prelude.{ℕ, suc, ◌+◌, ◌-◌, ◌≤◌, ◌<◌, ◌≡◌, Bool, true, false, not, ◌||◌, List, [], ◌∷◌, length, take, drop, eqb}
use Rattle.std.specs.List.{list_all}
use Rattle.std.proofs.Math.Path.{refl}
use Rattle.std.proofs.Common.{sym, ◌∙◌}
use native.Mathlib.Omega.{arith}
use borrow.Author.Tests.{le-leb, lt-leb}
use Rattle.rules.specs.Bytes.{byte_at, letter, digit, name_byte, span, name_end, TAB, RS, RE}
use Rattle.rules.specs.Attributes.{every, cdata, number, name, fits}
use Rattle.basic_laws.specs.Truth.{bool_cases}
use Rattle.attribute_values.specs.Parts.{part_in}

-- A part that lies in the text, and one that does not.
pub part_in_lem : (t : List ℕ) (at size : ℕ) → at + size ≤ length t → part_in t at size ≡ take size (drop at t)
part_in_lem t at size h = rw (part_in, le-leb _ _ h)

pub part_out : (t : List ℕ) (at size : ℕ) → length t < at + size → part_in t at size ≡ []
part_out t at size h = rw (part_in, lt-leb _ _ h)

-- The same part by its end.
pub part_to : (t : List ℕ) (at size : ℕ) → at + size ≤ length t → take (at + size - at) (drop at t) ≡ part_in t at size
part_to t at size h = let e : at + size - at ≡ size = omega arith in rw e (sym (part_in_lem t at size h))

more : (m n : ℕ) → eqb m n ≡ eqb (suc m) (suc n)
more m n = grind arith

none : (n : ℕ) → false ≡ eqb 0 (suc n)
none n = grind arith

-- All bytes pass the test, in the library's words.
pub all_every : (t : ℕ → Bool) (v : List ℕ) → list_all t v ≡ every t v
unfolding span
all_every t [] = refl
all_every t (x ∷ xs) = bool_cases (t x) (λ e. rw (e, span) (all_every t xs ∙ more (span t xs) (length xs))) (λ e. rw (e, span) (none (length xs)))

-- CDATA: no byte 9, 10 or 13.
abbrev pub plain : ℕ → Bool
plain b = not (eqb b TAB || (eqb b RS || eqb b RE))

pub cdata_is : (long : ℕ) (s v : List ℕ) → list_all plain v ≡ fits long s cdata v
unfolding fits
cdata_is long s v = all_every plain v

-- NUMBER: 1 to so many bytes, all of them digits.
module _ (long : ℕ) (s v : List ℕ) where
  pub number_empty : length v ≡ 0 → fits long s number v ≡ false
  unfolding fits
  number_empty e = rw (fits, e)

  pub number_long : 1 ≤ length v → long < length v → fits long s number v ≡ false
  unfolding fits
  number_long h l = rw (fits, le-leb _ _ h, lt-leb _ _ l)

  pub number_is : 1 ≤ length v → length v ≤ long → fits long s number v ≡ every digit v
  unfolding fits
  number_is h l = rw (fits, le-leb _ _ h, le-leb _ _ l)

  -- NAME: a letter, then bytes of a name, at most so many.
  pub name_other : letter (byte_at v 0) ≡ false → fits long s name v ≡ false
  unfolding fits
  name_other e = rw (fits, e)

  pub name_long : letter (byte_at v 0) ≡ true → long < length v → fits long s name v ≡ false
  unfolding fits
  name_long e l = rw (fits, e, lt-leb _ _ l)

  pub name_is : letter (byte_at v 0) ≡ true → length v ≤ long → fits long s name v ≡ eqb (name_end v 0) (length v)
  unfolding fits name_end
  name_is e l = let z : 0 + span name_byte v ≡ span name_byte v = omega arith in rw (fits, e, le-leb _ _ l, z)
