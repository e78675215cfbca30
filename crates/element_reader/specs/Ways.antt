-- Laws of the rules' element declarations: each way that reading goes, and what is kept of one.
use Rattle.std.specs.Prelude.{ℕ, Result, Ok, Err, ◌+◌, ◌≤◌, ◌<◌, ◌≡◌, refl, true, false, ◌&&◌, ◌||◌, List, [], ◌∷◌, ◌++◌, eqb}
use Rattle.std.proofs.Common.{arith, eq-eqb, ne_eqb}
use Rattle.rules.specs.Bytes.{byte_at, GRPO, MDC, MINUS, PLUS, element_limit}
use Rattle.rules.specs.Reading.{Reading, refused, got}
use Rattle.rules.specs.TypeFile.{Head, Declared, ContentEnd, gap, unfit, head, close, content, rest, element, declare}
use Rattle.rules.specs.TypeFile as rules
use Rattle.text.specs.Refusal.{refusal_of}
use Rattle.text.specs.declared.Fault.{Fault}
use Rattle.element_reader.specs.declared.Element.{Element}
use Rattle.element_reader.specs.Keeps.{KeepsElement, MeetsElement, ElementIn}
pub use Rattle.element_names.specs.Records.{recorded_at}

-- The end of the declaration.
module _ (s : List ℕ) (i : ℕ) where
  pub close_end : byte_at s i ≡ MDC → close s i ≡ got (i + 1)
  unfolding close
  close_end b = rw (eq-eqb _ _ b, close)

  pub close_exception : (byte_at s i ≡ MDC → ⊥) → ((eqb (byte_at s i) MINUS || eqb (byte_at s i) PLUS) && eqb (byte_at s (i + 1)) GRPO) ≡ true → close s i ≡ refused 5 i
  unfolding close
  close_exception b q = rw (ne_eqb _ _ b, q, close)

  pub close_unfit : (byte_at s i ≡ MDC → ⊥) → ((eqb (byte_at s i) MINUS || eqb (byte_at s i) PLUS) && eqb (byte_at s (i + 1)) GRPO) ≡ false → close s i ≡ unfit s i
  unfolding close
  close_unfit b q = rw (ne_eqb _ _ b, q, close)

-- What follows the head.
module _ (long : ℕ) (s : List ℕ) (es : List rules.Element) (h : Head) where
  pub rest_gap : {f : Fault} → gap s h.at ≡ refusal_of f → rest long s es h ≡ refusal_of f
  unfolding rest
  rest_gap q = rw (q, rest)

  module _ {i : ℕ} (g : gap s h.at ≡ got i) where
    pub rest_content : {f : Fault} → content long s h.at i ≡ refusal_of f → rest long s es h ≡ refusal_of f
    unfolding rest
    rest_content q = rw (g, rest, q)

    module _ {x : ContentEnd} (b : content long s h.at i ≡ got x) where
      pub rest_between : {f : Fault} → gap s x.at ≡ refusal_of f → rest long s es h ≡ refusal_of f
      unfolding rest
      rest_between q = rw (g, rest, b, q)

      module _ {j : ℕ} (l : gap s x.at ≡ got j) where
        pub rest_close : {f : Fault} → close s j ≡ refusal_of f → rest long s es h ≡ refusal_of f
        unfolding rest
        rest_close q = rw (g, rest, b, l, q)

        pub rest_got : {k : ℕ} → close s j ≡ got k
            → rest long s es h ≡ got (record { elements = es ++ declare h x ∷ []; at = k })
        unfolding rest
        rest_got q = rw (g, rest, b, l, q)

-- A declaration.
module _ (long : ℕ) (s : List ℕ) (at : ℕ) (es : List rules.Element) where
  pub element_head : {f : Fault} → head long s at es ≡ refusal_of f → element long s at es ≡ refusal_of f
  unfolding element
  element_head q = rw (q, element)

  pub element_rest : {h : Head} → head long s at es ≡ got h → element long s at es ≡ rest long s es h
  unfolding element
  element_rest q = rw (q, element)

-- An answer and the reading that it meets.

module _ (end from : ℕ) (names table : List ℕ) (es : List rules.Element) where
  pub element_meets : (e : Element) (d : Declared) (x : Reading Declared) → x ≡ got d → KeepsElement end from names table es e d → MeetsElement end from names table es (Ok e) x
  element_meets e d x q h = rw q h

  pub element_refused : (f : Fault) (x : Reading Declared) → x ≡ refused f.number f.at → MeetsElement end from names table es (Err f) x
  element_refused f x q = rw q (refl, refl)

-- A declaration that goes on from a later place goes on from an earlier one.
pub element_from : {from later : ℕ} (end : ℕ) (names table : List ℕ) (es : List rules.Element) (r : Result Element Fault) (x : Reading Declared) → from ≤ later
    → MeetsElement end later names table es r x → MeetsElement end from names table es r x
element_from end names table es (Ok e) (refused n k) l h = h
element_from {from} {later} end names table es (Ok e) (got d) l h = record {
  element = h.element;
  grows = h.grows;
  at = h.at;
  onward = omega arith;
  at_in = h.at_in;
  name = h.name;
  name_in = h.name_in;
  size = h.size;
  size_in = h.size_in;
  start = h.start;
  end_tag_lem = h.end_tag_lem;
  repeated_at = h.repeated_at;
  content = h.content;
}
element_from end names table es (Err f) (refused n k) l h = h
element_from end names table es (Err f) (got d) l h = h

pub element_room : (count : ℕ) (r : Result Element Fault) → count < element_limit → ElementIn count r
element_room count (Ok e) h = h
element_room count (Err f) h = tt
