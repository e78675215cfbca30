-- The result of reading a piece of input: something, or a refusal by number and position (paper 01, "Refusal
-- numbers").
use Rattle.std.specs.Prelude.{ℕ}

pub data Reading (A : Type 0) : Type 0 where
  refused : (number position : ℕ) → Reading A
  got : A → Reading A

-- Reading goes on with what was got; a refusal ends it.
abbrev pub and_then : {A B : Type 0} → Reading A → (A → Reading B) → Reading B
and_then (refused n p) f = refused n p
and_then (got a) f = f a
