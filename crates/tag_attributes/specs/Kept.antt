-- Attributes that are kept: one more is written behind those before, and they are the first of the tag.
use Prim.Native.Nat.{ℕ, zero, suc, ◌+◌, ◌≤◌, ◌<◌}
use Rattle.std.specs.Prelude.{◌≡◌, refl, Bool, true, false, ltb}
use Rattle.std.proofs.Math.Path.{sym, ap}
use Rattle.std.proofs.Common.{◌∙◌, subst, arith, take_all, length-take-le, ltb-true, ltb-false}
use mathlib.Core.List.{List, [], ◌∷◌, ◌++◌}
use Rattle.std.proofs.Math.Decide.{ℕ_discrete}
use Rattle.std.proofs.Math.Numerals.{add-one}
use Rattle.std.proofs.Math.ListN.{length, take, length-append}
use Rattle.std.proofs.lemmas.List.{take-append-le}
use Rattle.rules.specs.Bytes.{ATTCNT}
use Rattle.rules.specs.Document as rules
use Rattle.tag_attributes.specs.declared.Written.{Written}
use Rattle.tag_attributes.specs.Given.{written_as, kept_in, kept_of, KeptAs, WrittenIn, GivenIn, Keeps}

-- None is kept yet.
pub kept_none : (g : List ℕ) → KeptAs g 0 []
unfolding kept_of
kept_none g = record { few = omega arith; kept = refl }

pub given_none : (end : ℕ) (g : List ℕ) → GivenIn end g 0
given_none end g k h = absurd (omega (arith, h))

-- As many are kept as are counted.
kept_length : (g : List ℕ) (n : ℕ) → length (kept_of g n) ≡ n
unfolding kept_of
kept_length g zero = refl
kept_length g (suc n) = length-append (kept_of g n) (written_as (kept_in g n) ∷ []) ∙ omega (arith, kept_length g n)

-- Two tables that are alike in the first n.
kept_alike : (g g' : List ℕ) (n : ℕ) → ((k : ℕ) → k < n → kept_in g' k ≡ kept_in g k) → kept_of g' n ≡ kept_of g n
unfolding kept_of
kept_alike g g' zero f = refl
kept_alike g g' (suc n) f =
    let before : kept_of g' n ≡ kept_of g n = kept_alike g g' n (λ k h. f k (omega (arith, h))) in
    let last : written_as (kept_in g' n) ≡ written_as (kept_in g n) = ap written_as (f n (omega arith)) in
    cc

-- What so many of a list tell of its length.
take_few : (ws : List rules.Written) → length (take (ATTCNT + 1) ws) ≤ ATTCNT → take (ATTCNT + 1) ws ≡ ws
take_few ws h = by_test (ltb (ATTCNT + 1) (length ws)) refl
  where
    by_test : (b : Bool) → ltb (ATTCNT + 1) (length ws) ≡ b → take (ATTCNT + 1) ws ≡ ws
    by_test true e = absurd (omega (arith, h, length-take-le (ATTCNT + 1) ws (omega (arith, ltb-true (ATTCNT + 1) (length ws) e))))
    by_test false e = take_all (ATTCNT + 1) ws (ltb-false (ATTCNT + 1) (length ws) e)

take_many : (ws : List rules.Written) → ATTCNT < length (take (ATTCNT + 1) ws) → ATTCNT + 1 ≤ length ws
take_many ws h = by_test (ltb (length ws) (ATTCNT + 1)) refl
  where
    by_test : (b : Bool) → ltb (length ws) (ATTCNT + 1) ≡ b → ATTCNT + 1 ≤ length ws
    by_test true e = omega (arith, h, ap length (take_all (ATTCNT + 1) ws (omega (arith, ltb-true (length ws) (ATTCNT + 1) e))), ltb-true (length ws) (ATTCNT + 1) e)
    by_test false e = ltb-false (length ws) (ATTCNT + 1) e

-- One more attribute of a tag, which had ws before.
module _ (g : List ℕ) (n : ℕ) (w : Written) (g' : List ℕ) (m : ℕ) (x : Keeps g n w g' m) where
  by_room : {P : Type 0} → (n ≤ ATTCNT → P) → (ATTCNT < n → P) → P
  by_room {P} f h = by_test (ltb ATTCNT n) refl
    where
      by_test : (b : Bool) → ltb ATTCNT n ≡ b → P
      by_test true e = h (ltb-true ATTCNT n e)
      by_test false e = f (ltb-false ATTCNT n e)

  pub given_more : (end : ℕ) → WrittenIn end w → GivenIn end g n → GivenIn end g' m
  given_more end i a = by_room (λ h k l. by_last h k (omega (arith, l, (x.more h).0)) (ℕ_discrete k n)) (λ h k l. rw (x.enough h).1 (a k (omega (arith, l, (x.enough h).0))))
    where
      by_last : n ≤ ATTCNT → (k : ℕ) → k ≤ n → Dec (k ≡ n) → WrittenIn end (kept_in g' k)
      by_last h k l (yes q) = subst (WrittenIn end) (sym (ap (kept_in g') q ∙ (x.more h).1)) i
      by_last h k l (no q) = subst (WrittenIn end) (sym ((x.more h).2 k (omega (arith, l, q)))) (a k (omega (arith, l, q)))

  pub kept_more : (ws : List rules.Written) → KeptAs g n ws → KeptAs g' m (ws ++ written_as w ∷ [])
  unfolding kept_of
  kept_more ws a = by_room room full
    where
      room : n ≤ ATTCNT → KeptAs g' m (ws ++ written_as w ∷ [])
      room h =
          let e : kept_of g n ≡ take (ATTCNT + 1) ws = a.kept in
          let all : take (ATTCNT + 1) ws ≡ ws = take_few ws (omega (arith, kept_length g n, ap length e)) in
          let more : length (ws ++ written_as w ∷ []) ≡ length ws + 1 = length-append ws (written_as w ∷ []) in
          let before : kept_of g' n ≡ ws = kept_alike g g' n (x.more h).2 ∙ e ∙ all in
          let last : written_as (kept_in g' n) ≡ written_as w = ap written_as (x.more h).1 in
          let now : kept_of g' (suc n) ≡ ws ++ written_as w ∷ [] = cc in
          let short : length (ws ++ written_as w ∷ []) ≤ ATTCNT + 1 = omega (arith, more, kept_length g n, ap length (e ∙ all)) in
          let count : m ≡ suc n = (x.more h).0 ∙ add-one n in
          record { few = omega (arith, count, h); kept = ap (kept_of g') count ∙ now ∙ sym (take_all (ATTCNT + 1) (ws ++ written_as w ∷ []) short) }

      full : ATTCNT < n → KeptAs g' m (ws ++ written_as w ∷ [])
      full h =
          let e : kept_of g n ≡ take (ATTCNT + 1) ws = a.kept in
          let many : ATTCNT + 1 ≤ length ws = take_many ws (omega (arith, kept_length g n, ap length e, h)) in
          let count : m ≡ n = (x.enough h).0 in
          let same : g' ≡ g = (x.enough h).1 in
          record { few = omega (arith, count, a.few); kept = ap (kept_of g') count ∙ ap (λ (l : List ℕ). kept_of l n) same ∙ e ∙ sym (take-append-le (ATTCNT + 1) ws (written_as w ∷ []) many) }
