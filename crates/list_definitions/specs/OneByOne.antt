-- A list, definition after definition.
use Prim.Native.Nat.{ℕ, suc, ◌+◌, ◌-◌, ◌<◌}
use Rattle.std.specs.Prelude.{◌≡◌, refl, Bool, true, false, ◌&&◌, List, [], ◌∷◌, ◌++◌, length, get_or, set, eqb, leb}
use Rattle.std.proofs.Math.Path.{sym, ap}
use Rattle.std.proofs.Common.{◌∙◌, arith, eq-eqb, ne_eqb}
use Rattle.std.proofs.Math.ListN.{length-append}
use Rattle.rules.specs.Bytes.{byte_at, letter, ATTCNT, MDC}
use Rattle.rules.specs.Reading.{got, and_then}
use Rattle.rules.specs.Attributes.{Attribute}
use Rattle.rules.specs.TypeFile.{gap, unfit, tokens_of, definition, definitions, list_from}
use Rattle.text.specs.declared.Fault.{Fault}
use Rattle.text.specs.Refusal.{refusal_of}
use Rattle.text.specs.Words.{test_in}
use Rattle.name_tokens.specs.Tokens.{parts_of}
use Rattle.list_table.specs.declared.Row.{Row}
use Rattle.list_table.specs.Lists.{RowOf, ListAt}
use Rattle.attribute_definitions.specs.Definition.{DefinedAs}
use Rattle.list_definitions.specs.ListAs.{ListAs}

pub closes_other : (b n : ℕ) → (b ≡ MDC → ⊥) → false ≡ (eqb b MDC && leb 1 n)
closes_other b n h = rw (ne_eqb _ _ h)

pub closes_first : (b n : ℕ) → b ≡ MDC → leb 1 n ≡ (eqb b MDC && leb 1 n)
closes_first b n h = rw (eq-eqb _ _ h)

-- What was read so far: the attributes are in the list, their tokens in the table, and the rest is still to be read.
pub record Reads (long : ℕ) (s : List ℕ) (from : ℕ) (list seen : List ℕ) (n m at : ℕ) : Type 0 where
  pub xs : List Attribute
  pub counted : length xs ≡ n
  pub listed : ListAt long s list 0 xs
  pub parts : parts_of seen m ≡ tokens_of xs
  due : definitions long s (suc (ATTCNT - n)) xs at ≡ list_from long s from

counted_none : (l : List ℕ) → get_or (set l 0 0) 0 0 ≡ 0
counted_none [] = refl
counted_none (x ∷ l) = refl

pub reads_first : (long : ℕ) (s : List ℕ) (from : ℕ) (list seen : List ℕ) → Reads long s from (set list 0 0) seen 0 0 from
unfolding parts_of tokens_of list_from
reads_first long s from list seen =
    record { xs = []; counted = refl; listed = record { counted = counted_none list; few = omega arith; rows = λ k h. absurd (omega (arith, h)) }; parts = refl; due = refl }

module _ (long : ℕ) (s : List ℕ) (from : ℕ) (list seen : List ℕ) (n m at : ℕ) (r : Reads long s from list seen n m at) where
  pub reads_gap : {f : Fault} → gap s at ≡ refusal_of f → list_from long s from ≡ refusal_of f
  unfolding definitions
  reads_gap {f} q =
      let e : definitions long s (suc (ATTCNT - n)) r.xs at ≡ refusal_of f = rw (definitions, q) in
      sym r.due ∙ e

  module _ {i : ℕ} (g : gap s at ≡ got i) {b : ℕ} (byte : b ≡ byte_at s i) {k : Bool} (closed : k ≡ (eqb b MDC && leb 1 n)) where
    here : (eqb (byte_at s i) MDC && leb 1 (length r.xs)) ≡ k
    here = ap (λ l. eqb (byte_at s i) MDC && leb 1 l) r.counted ∙ ap (λ y. eqb y MDC && leb 1 n) (sym byte) ∙ sym closed

    pub reads_end : k ≡ true → ListAs long s list (i + 1) (list_from long s from)
    unfolding definitions
    reads_end h =
        let e : definitions long s (suc (ATTCNT - n)) r.xs at ≡ got (record { attributes = r.xs; at = i + 1 }) = rw (definitions, g, and_then, here ∙ h) in
        record { attributes = r.xs; read = sym r.due ∙ e; listed = r.listed }

    pub closed_in : k ≡ true → i < length s
    closed_in h = test_in (λ y. eqb y MDC && leb 1 n) refl s i (ap (λ y. eqb y MDC && leb 1 n) (sym byte) ∙ sym closed ∙ h)

    module _ (on : k ≡ false) where
      pub reads_unfit : letter (byte_at s i) ≡ false → list_from long s from ≡ unfit s i
      unfolding definitions
      reads_unfit l =
          let e : definitions long s (suc (ATTCNT - n)) r.xs at ≡ unfit s i = rw (definitions, g, and_then, here ∙ on, l) in
          sym r.due ∙ e

      module _ (l : letter (byte_at s i) ≡ true) where
        pub reads_refused : {f : Fault} → definition long s r.xs at i ≡ refusal_of f → list_from long s from ≡ refusal_of f
        unfolding definitions
        reads_refused {f} q =
            let e : definitions long s (suc (ATTCNT - n)) r.xs at ≡ refusal_of f = rw (definitions, g, and_then, here ∙ on, l, q) in
            sym r.due ∙ e

        pub reads_turn : (now after : List ℕ) (row : Row) (j e : ℕ) → n < ATTCNT → DefinedAs long s after row j e r.xs (definition long s r.xs at i)
            → ((o : ℕ) (t : List ℕ) (xs : List Attribute) (x : Attribute) → length xs ≡ n → ListAt o t list 0 xs → RowOf o t row x → ListAt o t now 0 (xs ++ x ∷ []))
            → Reads long s from now after (n + 1) j e
        unfolding definitions
        reads_turn now after row j e room d put =
            let a = d.attribute in
            let left : suc (ATTCNT - (n + 1)) ≡ ATTCNT - n = omega (arith, room) in
            let turn : definitions long s (suc (ATTCNT - n)) r.xs at ≡ definitions long s (ATTCNT - n) (r.xs ++ a ∷ []) e = rw (definitions, g, and_then, here ∙ on, l, d.read) in
            record {
              xs = r.xs ++ a ∷ [];
              counted = length-append r.xs (a ∷ []) ∙ ap (λ y. y + 1) r.counted;
              listed = put long s r.xs a r.counted r.listed d.row;
              parts = d.parts;
              due = ap (λ y. definitions long s y (r.xs ++ a ∷ []) e) left ∙ sym turn ∙ r.due;
            }
