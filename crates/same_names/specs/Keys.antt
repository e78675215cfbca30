-- Laws of the loops that find places of the same name: what each has done, a turn of it, and its end.
use Prim.Native.Nat.{ℕ, zero, suc, ◌+◌, ◌-◌, ◌≤◌, ◌<◌}
use Rattle.std.specs.Prelude.{◌≡◌, refl, Bool, true, false, ◌||◌, List, eqb, length, get_or, set}
use Rattle.std.proofs.Math.Path.{sym, ap}
use Rattle.std.proofs.Common.{◌∙◌, true≢false, add-one, below_more, length-set, get_or-set_same, get_or-set_other}
use Rattle.std.proofs.Math.Bool.{or-false}
use Rattle.std.proofs.Math.Decide.{ℕ_discrete}
use native.Mathlib.Omega.{arith}
use borrow.Author.Tests.{eq-eqb, ne_eqb}
use Rattle.rules.specs.Judge.{same_place}
use Rattle.layout.specs.Sizes.{POSITIONS}
use Rattle.basic_laws.specs.Truth.{not_true, or_left, or_right, not_both}
use Rattle.model_names.specs.Places.{place_in, places_of, key_of}
use Rattle.model_names.proofs.Keys.{key_differs}

-- One of the n numbers from q on has that key.
unfoldable pub any_key : List ℕ → (key n q : ℕ) → Bool
any_key keys key zero q = false
any_key keys key (suc n) q = eqb (get_or keys q 0) key || any_key keys key n (suc q)

-- The keys of the places before p are known.
pub record Keyed (s names keys : List ℕ) (p : ℕ) : Type 0 where
  pub len : length keys ≡ POSITIONS
  pub known : (x : ℕ) → 1 ≤ x → x < p → get_or keys x 0 ≡ key_of s (place_in names (x - 1))

pub keyed_one : (s names keys : List ℕ) (p v : ℕ) → Keyed s names keys p → p < POSITIONS → v ≡ key_of s (place_in names (p - 1)) → Keyed s names (set keys p v) (p + 1)
keyed_one s names keys p v a h e =
    record {
      len = length-set keys p v ∙ a.len;
      known =
          λ x from to.
          below_more (λ (y : ℕ). 1 ≤ y → get_or (set keys p v) y 0 ≡ key_of s (place_in names (y - 1))) p
          (λ y l b. get_or-set_other keys p y v 0 (omega arith) ∙ a.known y b l)
          (λ b. get_or-set_same keys p v 0 (omega (arith, a.len)) ∙ e) x to from;
    }

-- No place from q on before i has the name of p.
pub record Unlike (s names : List ℕ) (n p q i : ℕ) : Type 0 where
  pub other : (x : ℕ) → q ≤ x → x < i → same_place s (places_of names n) p x ≡ true → ⊥

module _ (s names : List ℕ) (n p q i : ℕ) (so_far : Unlike s names n p q i) where
  pub unlike_name : (same : Bool) → same ≡ same_place s (places_of names n) p i → same ≡ false → Unlike s names n p q (i + 1)
  unlike_name same a e =
      record {
        other =
            λ x from to.
            below_more (λ (y : ℕ). q ≤ y → same_place s (places_of names n) p y ≡ true → ⊥) i (λ y l b. so_far.other y b l)
            (λ b r. true≢false (sym r ∙ sym a ∙ e)) x to from;
      }

  -- A place with another key has another name.
  pub unlike_key : (keys : List ℕ) → ((x : ℕ) → 1 ≤ x → x ≤ n → get_or keys x 0 ≡ key_of s (place_in names (x - 1))) → 1 ≤ p → p ≤ n → 1 ≤ i → i ≤ n
      → (get_or keys i 0 ≡ get_or keys p 0 → ⊥) → Unlike s names n p q (i + 1)
  unlike_key keys known p_from p_to i_from i_to ne =
      unlike_name _ refl
      (not_true (same_place s (places_of names n) p i)
      (λ r. ne (known i i_from i_to ∙ sym (key_differs s names n p i p_from p_to i_from i_to r) ∙ sym (known p p_from p_to))))

-- Whether a place after p shares its key, looked at up to i.
pub record Shares (keys : List ℕ) (key n p : ℕ) (some : Bool) (i : ℕ) : Type 0 where
  pub after : p < i
  pub within : i ≤ n + 1
  pub still : some || any_key keys key (n + 1 - i) i ≡ any_key keys key (n - p) (suc p)

module _ (keys : List ℕ) (key n p : ℕ) where
  pub shares_start : p ≤ n → Shares keys key n p false (p + 1)
  shares_start h =
      let l : n + 1 - suc p ≡ n - p = omega arith in
      record { after = omega arith; within = omega arith; still = rw (add-one p, l) }

  module _ (some : Bool) (i : ℕ) (k : Shares keys key n p some i) where
    pub shares_hit : i ≤ n → get_or keys i 0 ≡ key → Shares keys key n p true (i + 1)
    unfolding any_key
    shares_hit h e =
        let l : n + 1 - i ≡ suc (n + 1 - (i + 1)) = omega arith in
        let a = k.after in
        record {
          after = omega arith;
          within = omega arith;
          still = sym (or_right some (or_left (any_key keys key (n + 1 - (i + 1)) (suc i)) (eq-eqb (get_or keys i 0) key e))) ∙ (rw l at k.still);
        }

    pub shares_miss : i ≤ n → (get_or keys i 0 ≡ key → ⊥) → Shares keys key n p some (i + 1)
    unfolding any_key
    shares_miss h ne =
        let l : n + 1 - i ≡ suc (n + 1 - (i + 1)) = omega arith in
        let a = k.after in
        record {
          after = omega arith;
          within = omega arith;
          still = ap (λ (x : ℕ). some || any_key keys key (n + 1 - (i + 1)) x) (add-one i) ∙ (rw (l, ne_eqb (get_or keys i 0) key ne) at k.still);
        }

    pub shares_end : n < i → some ≡ any_key keys key (n - p) (suc p)
    unfolding any_key
    shares_end h =
        let l : n + 1 - i ≡ 0 = omega arith in
        sym (or-false some) ∙ (rw l at k.still)

no_key : (keys : List ℕ) (key n q : ℕ) → any_key keys key n q ≡ false → (x : ℕ) → q ≤ x → x < q + n → get_or keys x 0 ≡ key → ⊥
unfolding any_key
no_key keys key zero q e x a b k = absurd (omega arith)
no_key keys key (suc n) q e x a b k = here (ℕ_discrete q x) (no_key keys key n (suc q))
  where
    later : (b : Bool) → b || any_key keys key n (suc q) ≡ false → any_key keys key n (suc q) ≡ false
    later true f = absurd (true≢false f)
    later false f = f

    here : Dec (q ≡ x) → (any_key keys key n (suc q) ≡ false → (x : ℕ) → suc q ≤ x → x < suc q + n → get_or keys x 0 ≡ key → ⊥) → ⊥
    here (yes i) r = not_both e (or_left (any_key keys key n (suc q)) (eq-eqb (get_or keys q 0) key (rw i k)))
    here (no ne) r = r (later (eqb (get_or keys q 0) key) e) x (omega arith) (omega arith) k

-- No place after p shares its key, so none has its name.
pub unshared : (s names keys : List ℕ) (n p : ℕ) → 1 ≤ p → p ≤ n → ((x : ℕ) → 1 ≤ x → x ≤ n → get_or keys x 0 ≡ key_of s (place_in names (x - 1)))
    → any_key keys (get_or keys p 0) (n - p) (suc p) ≡ false → (x : ℕ) → p + 1 ≤ x → x < n + 1 → same_place s (places_of names n) p x ≡ true → ⊥
unshared s names keys n p p_from p_to known none x a b e =
    no_key keys (get_or keys p 0) (n - p) (suc p) none x (omega arith) (omega arith)
    (known x (omega arith) (omega arith) ∙ sym (key_differs s names n p x p_from p_to (omega arith) (omega arith) e) ∙ sym (known p p_from p_to))
