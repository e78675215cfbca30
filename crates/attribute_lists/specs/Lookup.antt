-- Which element a list is for, and whether any element has one.
use Prim.Native.Nat.{ℕ, zero, suc, ◌+◌, ◌-◌, ◌≤◌, ◌<◌}
use Rattle.std.specs.Prelude.{◌≡◌, Bool, true, false, not, ◌||◌, get_or, eqb}
use Rattle.std.proofs.Math.Path.{refl, sym}
use Rattle.std.proofs.Common.{◌∙◌, ap, arith}
use Rattle.std.specs.List.{list_any}
use Rattle.std.proofs.Math.Bool.{or-false, or_assoc, or-true}
use mathlib.Core.List.{List, [], ◌∷◌}
use Rattle.std.proofs.Math.Decide.{ℕ_discrete}
use Rattle.std.proofs.Math.ListN.{length, take}
use borrow.Author.Tests.{eq-eqb, ne_eqb, lt-ltb, le-ltb, le-leb, lt-leb}
use Rattle.rules.specs.Bytes.{byte_at, letter, name_end, GRPO, element_limit}
use Rattle.rules.specs.Reading.{refused, got}
use Rattle.rules.specs.Attributes.{AttList}
use Rattle.rules.specs.TypeFile.{unfit, declared_from, is_listed, listed_element}
use Rattle.rules.specs.TypeFile as rules
use Rattle.attribute_lists.specs.Listed.{Headed, is_head, any_in}

-- The element of a list, by the tests that the code makes.

pub listed_head : (long : ℕ) (s heads : List ℕ) (ls : List AttList) (k : ℕ) → Headed long s heads ls → 1 ≤ k → k ≤ element_limit → is_listed ls k ≡ not (eqb (get_or heads (k - 1) 0) 0)
listed_head long s heads ls k h l m =
    let e : k - 1 + 1 ≡ k = omega (arith, l) in
    ap (is_listed ls) (sym e) ∙ h.has (k - 1) (omega (arith, l, m))

module _ (long : ℕ) (s : List ℕ) (es : List rules.Element) (ls : List AttList) (i : ℕ) where
  module _ (l : letter (byte_at s i) ≡ false) where
    pub listed_group : byte_at s i ≡ GRPO → refused 5 i ≡ listed_element long s es ls i
    unfolding listed_element
    listed_group b = rw (listed_element, l, eq-eqb _ _ b)

    pub listed_unfit : (byte_at s i ≡ GRPO → ⊥) → listed_element long s es ls i ≡ unfit s i
    unfolding listed_element
    listed_unfit b = rw (listed_element, l, ne_eqb _ _ b)

  module _ (l : letter (byte_at s i) ≡ true) (e : ℕ) (ends : e ≡ name_end s i) where
    pub listed_long : long < e - i → refused 3 i ≡ listed_element long s es ls i
    unfolding listed_element
    listed_long h = rw (listed_element, l, ← ends, lt-ltb _ _ h)

    module _ (short : e - i ≤ long) {k : ℕ} (found : k ≡ declared_from 1 s es i (e - i)) where
      pub listed_undeclared : k ≡ 0 → refused 10 i ≡ listed_element long s es ls i
      unfolding listed_element
      listed_undeclared h = rw (listed_element, l, ← ends, le-ltb _ _ short, ← ends, ← found, lt-leb 1 k (omega (arith, h)))

      module _ (some : k ≡ 0 → ⊥) {b : Bool} (listed : is_listed ls k ≡ b) where
        pub listed_twice : b ≡ true → refused 20 i ≡ listed_element long s es ls i
        unfolding listed_element
        listed_twice h = rw (listed_element, l, ← ends, le-ltb _ _ short, ← ends, ← found, le-leb 1 k (omega (arith, some)), ← ends, ← found, listed, h)

        pub listed_got : b ≡ false → got (record { element = k; at = e }) ≡ listed_element long s es ls i
        unfolding listed_element
        listed_got h = rw (listed_element, l, ← ends, le-ltb _ _ short, ← ends, ← found, le-leb 1 k (omega (arith, some)), ← ends, ← found, listed, h, ← ends, ← found)

-- An element may have a list.

any_cons : (h : ℕ) (heads : List ℕ) (n : ℕ) → any_in (h ∷ heads) (suc n) ≡ (is_head h || any_in heads n)
unfolding any_in
any_cons h heads zero = sym (or-false (is_head h))
any_cons h heads (suc n) = ap (λ b. b || is_head (get_or heads n 0)) (any_cons h heads n) ∙ or_assoc (is_head h) (any_in heads n) (is_head (get_or heads n 0))

pub any_taken : (heads : List ℕ) (n : ℕ) → n ≤ length heads → list_any is_head (take n heads) ≡ any_in heads n
unfolding any_in
any_taken [] zero l = refl
any_taken [] (suc n) l = absurd (omega (arith, l))
any_taken (h ∷ heads) zero l = refl
any_taken (h ∷ heads) (suc n) l = ap (λ b. is_head h || b) (any_taken heads n (omega (arith, l))) ∙ sym (any_cons h heads n)

pub any_found : (heads : List ℕ) (k n : ℕ) → k < n → (get_or heads k 0 ≡ 0 → ⊥) → any_in heads n ≡ true
unfolding any_in
any_found heads k zero h f = absurd (omega (arith, h))
any_found heads k (suc n) h f = by_last (ℕ_discrete k n) (λ l. any_found heads k n l f)
  where
    by_last : Dec (k ≡ n) → (k < n → any_in heads n ≡ true) → any_in heads (suc n) ≡ true
    by_last (yes q) ih = ap (λ b. any_in heads n || not b) (ne_eqb (get_or heads n 0) 0 (λ z. f (ap (λ m. get_or heads m 0) q ∙ z))) ∙ or-true (any_in heads n)
    by_last (no q) ih = ap (λ b. b || not (eqb (get_or heads n 0) 0)) (ih (omega (arith, h, q)))
