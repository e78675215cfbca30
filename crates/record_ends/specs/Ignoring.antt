-- Laws of a byte 13 that is held, and of one that is ignored at once.
use Rattle.std.specs.Prelude.{ℕ, ◌-◌, ◌≤◌, ◌<◌, ◌≡◌, refl, Bool, true, false, not, ◌&&◌, ◌||◌, List, eqb, ltb}
use Rattle.std.proofs.Common.{sym, ◌∙◌, arith}
use Rattle.std.proofs.Math.Path.{ap}
use borrow.Author.Tests.{eqb-true, eqb-false, eq-eqb, ne_eqb, lt-ltb, le-ltb}
use Rattle.rules.specs.Settings.{settings}
use Rattle.rules.specs.Bytes.{byte_at, RE, MDC}
use Rattle.rules.specs.Settling.{Open}
use Rattle.rules.specs.Records.{at_once, is_ignored}
use Rattle.record_ends.specs.Held.{line_of, is_held, shown_end, Since}

-- Held

module _ (edition : ℕ) (d : List ℕ) where
  held_first : (since : ℕ) → (edition ≡ 2 → ⊥) → is_held edition d since ≡ false
  held_first since h = ap (λ (b : Bool). b && (ltb 0 since && eqb (byte_at d (since - 1)) RE)) (ne_eqb edition 2 h)

  held_byte : (since : ℕ) → edition ≡ 2 → (since ≡ 0 → ⊥) → is_held edition d since ≡ eqb (byte_at d (since - 1)) RE
  held_byte since h some = rw (eq-eqb edition 2 h, lt-ltb 0 since (omega arith))

  pub shown_short : (after : ℕ) → is_held edition d after ≡ true → shown_end edition d after ≡ after - 1
  shown_short after e = ap {B = ℕ} (λ (x : Bool). elim x as (λ _. ℕ) [ true ↦ after - 1 | false ↦ after ]) e

  pub shown_whole : (after : ℕ) → is_held edition d after ≡ false → shown_end edition d after ≡ after
  shown_whole after e = ap {B = ℕ} (λ (x : Bool). elim x as (λ _. ℕ) [ true ↦ after - 1 | false ↦ after ]) e

  -- What ends in another byte, as a tag does, is shown whole.
  pub shown_tag : (after : ℕ) → 1 ≤ after → byte_at d (after - 1) ≡ MDC → shown_end edition d after ≡ after
  shown_tag after some b = by_edition (eqb edition 2) refl
    where
      by_edition : (x : Bool) → eqb edition 2 ≡ x → shown_end edition d after ≡ after
      by_edition true e = shown_whole after (held_byte after (eqb-true edition 2 e) (λ z. omega arith) ∙ ne_eqb (byte_at d (after - 1)) RE (λ z. omega arith))
      by_edition false e = shown_whole after (held_first after (eqb-false edition 2 e))

-- Ignored at once

module _ (long edition : ℕ) (d : List ℕ) (at since mark : ℕ) (o : Open) where
  pub ignored_first : (edition ≡ 2 → ⊥) → is_ignored (settings long edition) d at (line_of since mark) o ≡ false
  unfolding is_ignored
  ignored_first h = ap (λ (b : Bool). b && (eqb (byte_at d at) RE && at_once d at (line_of since mark) o)) (ne_eqb edition 2 h)

  module _ (second : edition ≡ 2) where
    pub ignored_other : (byte_at d at ≡ RE → ⊥) → is_ignored (settings long edition) d at (line_of since mark) o ≡ false
    unfolding is_ignored
    ignored_other h = rw (is_ignored, eq-eqb edition 2 second, ne_eqb (byte_at d at) RE h)

    module _ (b : byte_at d at ≡ RE) where
      at_once_lem : is_ignored (settings long edition) d at (line_of since mark) o ≡ at_once d at (line_of since mark) o
      unfolding is_ignored
      at_once_lem = rw (is_ignored, eq-eqb edition 2 second, eq-eqb (byte_at d at) RE b)

      pub ignored_marked : since < mark → is_ignored (settings long edition) d at (line_of since mark) o ≡ not (eqb mark at)
      unfolding at_once
      ignored_marked h = at_once_lem ∙ rw (at_once, lt-ltb since mark h)

      module _ {u : ℕ} (s : Since since u o) (h : mark ≤ since) where
        plain : is_ignored (settings long edition) d at (line_of since mark) o ≡ (eqb u 0 || (ltb since at && eqb (byte_at d (since - 1)) RE))
        unfolding at_once
        plain = at_once_lem ∙ rw (at_once, le-ltb since mark h, s.fresh)

        pub ignored_fresh : u ≡ 0 → is_ignored (settings long edition) d at (line_of since mark) o ≡ true
        ignored_fresh z = plain ∙ rw (eq-eqb u 0 z)

        pub ignored_directly : (u ≡ 0 → ⊥) → since ≡ at → is_ignored (settings long edition) d at (line_of since mark) o ≡ false
        ignored_directly n z = plain ∙ rw (ne_eqb u 0 n, le-ltb since at (omega arith))

        pub ignored_held : (u ≡ 0 → ⊥) → since ≤ at → (since ≡ at → ⊥) → is_ignored (settings long edition) d at (line_of since mark) o ≡ is_held edition d since
        ignored_held n l z = plain ∙ rw (ne_eqb u 0 n, lt-ltb since at (omega arith)) (sym (held_byte edition d since second (λ e. n (eqb-true u 0 (sym s.fresh ∙ s.begun e)))))
