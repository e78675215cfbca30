-- Laws of the names of events.
use Prim.Native.Nat.{ℕ, zero, suc, ◌+◌, ◌-◌, ◌*◌, ◌≤◌, ◌<◌}
use Rattle.std.specs.Prelude.{◌≡◌, Bool, true, false, ◌||◌, List, [], ◌∷◌, get_or, eqb}
use native.Mathlib.Omega.{arith}
use Rattle.std.proofs.Math.ListN.{get_or-eq_default}
use borrow.Author.Tests.{eq-eqb, ne_eqb, lt-ltb, le-ltb}
use Rattle.rules.specs.Events.{event_width}
use Rattle.rules.specs.Listing.{attribute_width}
use Rattle.rules.specs.Printed.{word, upper}
use Rattle.rules.specs.Bytes.{MINUS, SPACE, element_limit}
use Rattle.rules.specs.Judge.{record_width}
use Rattle.line_text.specs.Adds.{Adds}
use Rattle.line_text.specs.Words.{puts_both}
use Rattle.event_names.specs.Names.{Fits, name_in, starts_within, starts_at, record_within, record_of, attribute_in, named_at}

-- A name and the space after it.
pub puts_name : {before middle after : List ℕ} {at q r : ℕ} {x name : List ℕ} → x ≡ name → Adds before at middle q x → Adds middle q after r (SPACE ∷ []) → Adds before at after r (word name SPACE)
unfolding word
puts_name e a b = rw (← e) (puts_both a b)

pub puts_no_name : {before after : List ℕ} {at r : ℕ} {name : List ℕ} → name ≡ [] → Adds before at after r (SPACE ∷ []) → Adds before at after r (word name SPACE)
unfolding word
puts_no_name e a = rw e a

pub name_zero : (s elements : List ℕ) (number : ℕ) → number ≡ 0 → MINUS ∷ [] ≡ name_in s elements number
name_zero s elements number e = rw e

module _ (s elements : List ℕ) (fits : Fits s elements) where
  -- An element by its number, above 0.
  name_of : (number : ℕ) → 0 < number → name_in s elements number ≡ upper s (get_or elements (record_width * (number - 1)) 0) (get_or elements (record_width * (number - 1) + 1) 0)
  name_of zero h = absurd (omega arith)
  name_of (suc k) h = let z : suc k - 1 ≡ k = omega arith in rw z

  pub name_by : (x number from size : ℕ) → number ≡ x → 0 < number → from ≡ get_or elements (record_width * (number - 1)) 0 → size ≡ get_or elements (record_width * (number - 1) + 1) 0 → upper s from size ≡ name_in s elements x
  name_by x number from size e h f z = rw (f, z, ← e, name_of number h)

  -- None has a number above 64.
  pub name_none : (number : ℕ) → element_limit < number → name_in s elements number ≡ []
  unfolding upper
  name_none zero h = absurd (omega arith)
  name_none (suc k) h = rw (get_or-eq_default elements 0 {n = record_width * k + 1} (omega (arith, fits.whole)))

-- The element that starts next: at the event j, or behind it.
module _ (numbers : List ℕ) (j n : ℕ) (h : j < n) {b : Bool} (test : b ≡ (eqb (get_or numbers (event_width * j) 0) 1 || eqb (get_or numbers (event_width * j) 0) 2)) where
  pub starts_here : b ≡ true → get_or numbers (event_width * j + 1) 0 ≡ starts_at numbers j n
  unfolding starts_within
  starts_here e =
      let z : n - j ≡ suc (n - (j + 1)) = omega arith in
      rw (z, starts_within, ← test, e)

  pub starts_behind : b ≡ false → starts_at numbers (j + 1) n ≡ starts_at numbers j n
  unfolding starts_within
  starts_behind e =
      let z : n - j ≡ suc (n - (j + 1)) = omega arith in
      rw (z, starts_within, ← test, e)

pub starts_none : (numbers : List ℕ) (j n : ℕ) → n ≤ j → 0 ≡ starts_at numbers j n
unfolding starts_within
starts_none numbers j n h =
    let z : n - j ≡ 0 = omega arith in
    rw (z, starts_within)

-- The record of an attribute: the record k, or one behind it.
module _ (attributes : List ℕ) (total e a : ℕ) where
  abbrev pub record_left : ℕ → ℕ
  record_left k = record_within attributes (total - k) k e a

  pub record_first : record_left 0 ≡ record_of attributes total e a
  record_first =
      let z : total - 0 ≡ total = omega arith in
      rw z

  module _ (k : ℕ) (h : k < total) where
    pub record_here : get_or attributes (attribute_width * k) 0 ≡ e → get_or attributes (attribute_width * k + 1) 0 ≡ a → k ≡ record_left k
    unfolding record_within
    record_here f g =
        let z : total - k ≡ suc (total - (k + 1)) = omega arith in
        rw (z, record_within, eq-eqb _ _ f, eq-eqb _ _ g)

    pub record_other : (get_or attributes (attribute_width * k) 0 ≡ e → ⊥) → record_left (k + 1) ≡ record_left k
    unfolding record_within
    record_other f =
        let z : total - k ≡ suc (total - (k + 1)) = omega arith in
        rw (z, record_within, ne_eqb _ _ f)

    pub record_behind : get_or attributes (attribute_width * k) 0 ≡ e → (get_or attributes (attribute_width * k + 1) 0 ≡ a → ⊥) → record_left (k + 1) ≡ record_left k
    unfolding record_within
    record_behind f g =
        let z : total - k ≡ suc (total - (k + 1)) = omega arith in
        rw (z, record_within, eq-eqb _ _ f, ne_eqb _ _ g)

  pub record_none : (k : ℕ) → total ≤ k → k ≤ total → total ≡ record_left k
  unfolding record_within
  record_none k h l =
      let z : total - k ≡ 0 = omega arith in
      rw (z, record_within) (omega arith)

-- The name of an attribute, by its record.
module _ (s attributes : List ℕ) (total e a : ℕ) {x y k : ℕ} (first : x ≡ e - 1 + 1) (second : y ≡ a - 1 + 1) (found : k ≡ record_of attributes total x y) where
  stands : k ≡ record_of attributes total (e - 1 + 1) (a - 1 + 1)
  stands = rw (← first, ← second) found

  pub attribute_by : (from size : ℕ) → k < total → from ≡ get_or attributes (attribute_width * k + 2) 0 → size ≡ get_or attributes (attribute_width * k + 3) 0 → upper s from size ≡ attribute_in s attributes total e a
  unfolding attribute_in
  attribute_by from size h f z = rw (f, z, attribute_in, ← stands, lt-ltb _ _ h, ← stands)

  pub attribute_none : total ≤ k → attribute_in s attributes total e a ≡ []
  unfolding attribute_in
  attribute_none h = rw (attribute_in, ← stands, le-ltb _ _ h)

-- The name that an event has.
module _ (s elements attributes : List ℕ) (total : ℕ) (numbers : List ℕ) (k n : ℕ) {b : Bool} (test : b ≡ (eqb (get_or numbers (event_width * k) 0) 7 || eqb (get_or numbers (event_width * k) 0) 8)) where
  pub named_attribute : b ≡ true → {e : ℕ} → e ≡ starts_at numbers (k + 1) n → attribute_in s attributes total e (get_or numbers (event_width * k + 1) 0) ≡ named_at s elements attributes total numbers k n
  unfolding named_at
  named_attribute h f = rw (named_at, ← test, h, f)

  pub named_element : b ≡ false → name_in s elements (get_or numbers (event_width * k + 1) 0) ≡ named_at s elements attributes total numbers k n
  unfolding named_at
  named_element h = rw (named_at, ← test, h)

pub puts_named : {before after : List ℕ} {at r : ℕ} {x name : List ℕ} → x ≡ name → Adds before at after r (word x SPACE) → Adds before at after r (word name SPACE)
puts_named e a = rw (← e) a
