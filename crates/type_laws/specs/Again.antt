-- A declaration read again, from its name on: no gap stands before a name, so the same element is read, but for its attributes, which come with a list.
use Rattle.std.specs.Prelude.{ℕ, ◌+◌, ◌≤◌, ◌<◌, ◌≡◌, refl, true, false, ◌&&◌, List, [], ◌∷◌, ◌++◌, length, take, leb}
use Rattle.std.proofs.Common.{sym, ◌∙◌, arith, leb-true, ne_eqb}
use Rattle.rules.specs.Bytes.{byte_at, letter, separator, separators_end, MINUS, RE, RS, SPACE, TAB}
use Rattle.rules.specs.Reading.{got}
use Rattle.rules.specs.TypeFile.{at_dashes, gap, Element, head, Declared, element, type_file}
use Rattle.rules.specs.Elements.{element_at}
use Rattle.basic_laws.specs.Truth.{or_cases, and_left}
use Rattle.text.specs.Words.{span_end, gap_on_end, gap_start}
use Rattle.rules_laws.specs.Declarations.{bare, bares}
use Rattle.type_laws.specs.Made.{type_file_made}
use Rattle.type_laws.specs.Names.{type_file_element}

letter_least : (b : ℕ) → letter b ≡ true → 65 ≤ b
unfolding letter
letter_least b e =
    or_cases (leb 65 b && leb b 90) (leb 97 b && leb b 122) (λ x. leb-true 65 b (and_left _ _ x)) (λ y. let l = leb-true 97 b (and_left _ _ y) in omega arith) e

not_separator : (b : ℕ) → 65 ≤ b → separator b ≡ false
unfolding separator
not_separator b l = rw (ne_eqb b TAB (λ e. omega arith), ne_eqb b RS (λ e. omega arith), ne_eqb b RE (λ e. omega arith), ne_eqb b SPACE (λ e. omega arith))

no_separators : (s : List ℕ) (i : ℕ) → 65 ≤ byte_at s i → separators_end s i ≡ i
unfolding separators_end
no_separators s i l = sym (span_end separator s i _ (not_separator (byte_at s i) l) refl)

gap_none : (s : List ℕ) (i : ℕ) → letter (byte_at s i) ≡ true → gap s i ≡ got i
gap_none s i e =
    let l = letter_least (byte_at s i) e in
    let d : at_dashes s i ≡ false = rw (ne_eqb (byte_at s i) MINUS (λ z. omega arith)) in
    sym (gap_start s i) ∙ rw (no_separators s i l) (gap_on_end (length s) s i d (λ z. omega arith))

-- The gap before the name is passed, or there is none.
element_again : (long : ℕ) (s : List ℕ) (es : List Element) (from i : ℕ) → gap s from ≡ got i → letter (byte_at s i) ≡ true → element long s i es ≡ element long s from es
unfolding element head
element_again long s es from i g l = rw (gap_none s i l, g)

module _ (long : ℕ) (s : List ℕ) (es : List Element) (read : type_file long s ≡ got es) (k : ℕ) (few : k < length es) where
  pub type_file_again : (d : Declared) × (element long s (element_at es k).at (take k (bares es)) ≡ got d) × (d.elements ≡ take k (bares es) ++ bare (element_at es k) ∷ [])
  type_file_again =
      let m = type_file_made long s es read k few in
      (_, element_again long s (take k (bares es)) m.from (element_at es k).at m.begins m.named ∙ m.read, refl)

  -- What its record may hold.
  pub type_file_sizes : (1 ≤ (element_at es k).size) × ((element_at es k).size ≤ long) × ((element_at es k).at + (element_at es k).size ≤ length s) × ((element_at es k).start ≤ 1) × ((element_at es k).end ≤ 1)
  type_file_sizes =
      let e = type_file_element long s es read k few in
      (e.name.some, (type_file_made long s es read k few).short, e.name.ends, e.start, e.end)
