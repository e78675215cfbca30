-- The attributes of a start tag one after the other: what is still to be read, and what is kept of those that were.
use Rattle.std.specs.Prelude.{ℕ, zero, suc, ◌+◌, ◌-◌, ◌≤◌, ◌<◌, ◌≡◌, refl, true, false, List, [], ◌∷◌, ◌++◌, length, eqb}
use Rattle.std.proofs.Math.Path.{sym}
use Rattle.std.proofs.Common.{◌∙◌, ap, true≢false, arith}
use borrow.Author.Tests.{eq-eqb, ne_eqb, lt-ltb, le-ltb}
use Rattle.rules.specs.Bytes.{byte_at, letter, name_end, separators_end, MDC}
use Rattle.rules.specs.Reading.{Reading, refused, got, and_then}
use Rattle.rules.specs.Document.{Written, Tag, specification, specifications, start_tag_at}
use Rattle.text.specs.Words.{letter_in, separators_end_from, separators_end_le}
use Rattle.rules_laws.specs.Holds.{got_so}
use Rattle.rules_laws.specs.Pieces.{specification_read}
use Rattle.tag_attributes.specs.declared.Written as code
use Rattle.tag_attributes.specs.Given.{written_as, WrittenIn, Keeps}
use Rattle.tag_attributes.specs.Kept.{kept_none, given_none, kept_more, given_more}
use Rattle.tags.specs.Given.{ReadAs}

-- What comes of the attributes ws and of those that follow at i, where separators are passed: in so many turns more.
unfoldable pub specifications_on : ℕ → (turns : ℕ) → List ℕ → (name e i : ℕ) → List Written → Reading Tag
specifications_on long turns d name e i ws =
    elim (eqb (byte_at d i) MDC) [
      | true ↦ got (record { name = name; size = e - name; after = i + 1; written = ws })
      | false ↦ elim (letter (byte_at d i)) [
        | true ↦ and_then (specification long d i) λ w. specifications long turns d name e (w.quote + 1 + w.width + 1) (ws ++ w ∷ [])
        | false ↦ refused 4 i
      ]
    ]

specifications_on_lem : (long : ℕ) (turns : ℕ) (d : List ℕ) (name e at : ℕ) (ws : List Written) → specifications long (suc turns) d name e at ws ≡ specifications_on long turns d name e (separators_end d at) ws
unfolding specifications specifications_on
specifications_on_lem long turns d name e at ws = refl

letter_no_close : (b : ℕ) → letter b ≡ true → b ≡ MDC → ⊥
unfolding letter
letter_no_close b l e = true≢false (sym l ∙ rw e)

-- A start tag whose name, from i on, ends at e.
module _ (long : ℕ) (s : List ℕ) (i e : ℕ) (q : e ≡ name_end s i) where
  pub start_long : long < e - i → start_tag_at long s i ≡ refused 3 i
  unfolding start_tag_at
  start_long h = rw (start_tag_at, lt-ltb _ _ (rw q at h))

  module _ (h : e - i ≤ long) (j : ℕ) (p : j ≡ separators_end s e) where
    pub start_on : start_tag_at long s i ≡ specifications_on long (length s) s i e j []
    unfolding start_tag_at
    start_on = rw (p, q, start_tag_at, le-ltb _ _ (rw q at h)) (specifications_on_lem long (length s) s i (name_end s i) (name_end s i) [])

    -- It gives no attributes.
    pub start_ends : byte_at s j ≡ MDC → start_tag_at long s i ≡ got (record { name = i; size = e - i; after = j + 1; written = [] })
    unfolding specifications_on
    start_ends g = start_on ∙ rw (specifications_on, eq-eqb _ _ g)

-- The attribute at j stands in the text, behind the position before.
module _ (long : ℕ) (s : List ℕ) (j : ℕ) {w : code.Written} (l : letter (byte_at s j) ≡ true) (r : specification long s j ≡ got (written_as w)) where
  pub written_in : WrittenIn (length s) w
  written_in =
      let h = got_so (specification_read long s j l) r in
      let f = h.parted in
      let k = h.inside in
      (omega arith, omega arith)

  pub written_on : j < w.quote
  written_on =
      let h = got_so (specification_read long s j l) r in
      let f = h.parted in
      let k = h.at in
      omega arith

-- Nothing is kept of a tag that gives none.
pub read_none : (end : ℕ) (g : List ℕ) → ReadAs end g 0 []
read_none end g = record { kept = kept_none g; inside = given_none end g }

-- At j: x, what the tag is read as, is what comes of the attributes that were read and of those that follow. Of the former n are kept.
pub record Goes (long : ℕ) (s : List ℕ) (i e : ℕ) (x : Reading Tag) (g : List ℕ) (n j : ℕ) : Type 0 where
  turns : ℕ
  ws : List Written
  enough : length s ≤ turns + j
  pub inside : j ≤ length s
  due : specifications_on long turns s i e j ws ≡ x
  pub read : ReadAs (length s) g n ws

module _ (long : ℕ) (s : List ℕ) (i e : ℕ) where
  pub goes_first : (first : ℕ) (g : List ℕ) → first ≤ length s → Goes long s i e (specifications_on long (length s) s i e first []) g 0 first
  goes_first first g h = record { turns = length s; ws = []; enough = omega arith; inside = h; due = refl; read = read_none (length s) g }

  -- The attribute at j is read, and those behind it.
  module _ (j : ℕ) (l : letter (byte_at s j) ≡ true) (w : code.Written) (r : specification long s j ≡ got (written_as w)) where
    read_one : (turns : ℕ) (ws : List Written) → specifications_on long turns s i e j ws ≡ specifications long turns s i e (w.quote + 1 + w.width + 1) (ws ++ written_as w ∷ [])
    unfolding specifications_on
    read_one turns ws = rw (specifications_on, ne_eqb _ _ (letter_no_close _ l), l, r)

    further : (turns : ℕ) (ws : List Written) (k : ℕ) → k ≡ separators_end s (w.quote + w.width + 2)
        → specifications_on long (suc turns) s i e j ws ≡ specifications_on long turns s i e k (ws ++ written_as w ∷ [])
    further turns ws k p =
        let same : w.quote + 1 + w.width + 1 ≡ w.quote + w.width + 2 = omega arith in
        let on : List Written = ws ++ written_as w ∷ [] in
        read_one (suc turns) ws ∙ specifications_on_lem long turns s i e (w.quote + 1 + w.width + 1) on ∙ ap (λ (z : ℕ). specifications_on long turns s i e z on) (ap (separators_end s) same ∙ sym p)

  module _ (x : Reading Tag) (g : List ℕ) (n j : ℕ) (a : Goes long s i e x g n j) where
    pub goes_turn : letter (byte_at s j) ≡ true → (w : code.Written) → specification long s j ≡ got (written_as w) → (g' : List ℕ) (m k : ℕ) → Keeps g n w g' m → k ≡ separators_end s (w.quote + w.width + 2)
        → Goes long s i e x g' m k
    goes_turn l w r g' m k y p = by_turns a.turns a.enough a.due
      where
        by_turns : (turns : ℕ) → length s ≤ turns + j → specifications_on long turns s i e j a.ws ≡ x → Goes long s i e x g' m k
        by_turns zero h d = absurd (omega (arith, h, letter_in s j l))
        by_turns (suc turns) h d =
            let v = written_in long s j l r in
            let f = written_on long s j l r in
            let from = separators_end_from s (w.quote + w.width + 2) in
            record {
              turns = turns;
              ws = a.ws ++ written_as w ∷ [];
              enough = omega arith;
              inside = rw p (separators_end_le s (w.quote + w.width + 2) (omega arith));
              due = sym (further j l w r turns a.ws k p) ∙ d;
              read = record { kept = kept_more g n w g' m y a.ws a.read.kept; inside = given_more g n w g' m y (length s) v a.read.inside };
            }

    pub goes_refused : letter (byte_at s j) ≡ true → (number at : ℕ) → specification long s j ≡ refused number at → x ≡ refused number at
    unfolding specifications_on
    goes_refused l number at r = sym a.due ∙ rw (specifications_on, ne_eqb _ _ (letter_no_close _ l), l, r)

    pub goes_ends : byte_at s j ≡ MDC → (ws : List Written) × (x ≡ got (record { name = i; size = e - i; after = j + 1; written = ws })) × ReadAs (length s) g n ws
    unfolding specifications_on
    goes_ends h = (a.ws, sym a.due ∙ rw (specifications_on, eq-eqb _ _ h), a.read)

    pub goes_wrong : letter (byte_at s j) ≡ false → (byte_at s j ≡ MDC → ⊥) → x ≡ refused 4 j
    unfolding specifications_on
    goes_wrong l h = sym a.due ∙ rw (specifications_on, ne_eqb _ _ h, l)
