-- What comes next, from what stands there: a blank is data where data may come next and it is not ignored at
-- once; the rest is what it is whatever is open.
use Rattle.std.specs.Prelude.{ℕ, zero, suc, ◌+◌, ◌≤◌, ◌<◌, ◌≡◌, refl, Bool, true, false, List, [], ◌∷◌, length, eqb, leb}
use Rattle.std.proofs.Common.{sym, ◌∙◌, ap, arith, leb-true, leb-false, ne_eqb}
use Rattle.rules.specs.Settings.{Settings}
use Rattle.rules.specs.Reading.{refused, got, and_then}
use Rattle.rules.specs.TypeFile.{Content, empty, model, Element}
use Rattle.rules.specs.Document.{Piece, start_tag, end_tag, skipped, blank, data_byte, piece}
use Rattle.rules.specs.Elements.{content_of}
use Rattle.rules.specs.Decisions.{pcdata}
use Rattle.rules.specs.Given.{piece_attributed}
use Rattle.rules.specs.Settling.{Open, fitting}
use Rattle.rules.specs.Records.{Line, is_fresh, is_ignored, record_ends}
use Rattle.rules.specs.Reader.{piece_under}
use Rattle.layout.specs.declared.ElementNo.{ElementNo}
use Rattle.layout.specs.Typed.{element_no}
use Rattle.rules_laws.specs.Runs.{is_run, run_end, run_end_in}
use Rattle.and_laws.specs.Taken.{IsLast}
use Rattle.document_laws.specs.Decide.{fits_in, decided}
use Rattle.document_laws.specs.Under.{under_end, under_skipped, under_blank, under_ignored, under_data}
use Rattle.type_tables.specs.Tables.{Entered}
use Rattle.record_ends.specs.Held.{Since}
use Rattle.pieces.specs.Finds.{Named, Starts}
use Rattle.blanks.specs.declared.Next.TheVariants as next
use Rattle.blanks.specs.Next.{Names, Ignored, skips, separates, ToSettle, runs, starts, Follows, MarksOf, Ahead}

-- What stands there whatever is open

module _ (c : Settings) (s : List ℕ) (es : List Element) (d : List ℕ) (at : ℕ) (l : Line) (o : Open) where
  under_listed : {p : Piece} → piece c.name_length d at ≡ got p → piece_attributed c.name_length s es d at p ≡ got tt
      → piece_under c s es d at l o ≡ got (record_ends c d at l o p)
  unfolding piece_under
  under_listed e i = rw (piece_under, e, and_then, i)

  pub under_misgiven : {p : Piece} {n k : ℕ} → piece c.name_length d at ≡ got p → piece_attributed c.name_length s es d at p ≡ refused n k
      → piece_under c s es d at l o ≡ refused n k
  unfolding piece_under
  under_misgiven e i = rw (piece_under, e, and_then, i)

  pub named_start : {x after : ℕ} → Named c.name_length s es d start_tag at x after → Names c s es d l o start_tag at x after
  unfolding record_ends
  named_start n = record { name = n.name; size = n.size; written = n.written; there = under_listed n.there n.listed; number = n.number }

  pub named_end : {x after : ℕ} → Named c.name_length s es d end_tag at x after → Names c s es d l o end_tag at x after
  named_end n = record { name = n.name; size = n.size; written = n.written; there = under_end c s es d at l o n.there; number = n.number }

  pub follows_start : {x : ElementNo} {after : ℕ} (marks : List ℕ) → Starts c.name_length s es d at x.0 after marks
      → Follows c s es d l o at (next.Token x after) × MarksOf c s es d at (next.Token x after) marks
  follows_start marks f = (starts f.some (named_start f.tag), λ some. f.marked)

  pub follows_end : {x : ElementNo} {after : ℕ} → Named c.name_length s es d end_tag at x.0 after × (1 ≤ x.0) → Follows c s es d l o at (next.End x after)
  follows_end f = (named_end f.0, f.1)

  pub follows_skipped : {after : ℕ} → piece c.name_length d at ≡ got (skipped after) → Ignored c s es d l o at after
  follows_skipped e = skips (under_skipped c s es d at l o e)

  pub follows_data : {after : ℕ} → piece c.name_length d at ≡ got data_byte → after ≡ run_end d (at + 1) → ToSettle c s es d l o at 0 after
  follows_data e a =
      let there = under_data c s es d at l o e in
      runs refl (record { run = ap is_run there; fits = λ w. let no : ◌≡◌ {A = ℕ} 0 1 = cc in absurd (omega arith); ends = a })

-- Blanks

-- A blank is ignored where data does not fit, and begins a run where it does. The tables answer of the
-- element e, which the open one is.
says : (s : List ℕ) (es : List Element) (o : Open) {e : ℕ} {r : Bool} → o.element ≡ e → r ≡ leb 1 ((decided s es).fits e o.taken pcdata) → r ≡ leb 1 (fitting s es (decided s es) o pcdata)
says s es o n q = q ∙ ap (λ (k : ℕ). leb 1 ((decided s es).fits k o.taken pcdata)) (sym n)

none_fits : (k : ℕ) → leb 1 k ≡ false → k ≡ 0
none_fits k h = let l = leb-false 1 k h in omega arith

-- The tables answer only where the element has a model, and there u is the place taken last.
fresh_last : (taken : List ℕ) (u : ℕ) → IsLast taken u → ◌≡◌ {A = Bool} (elim taken [ [] ↦ true | p ∷ ps ↦ false ]) (eqb u 0)
fresh_last [] zero l = refl
fresh_last [] (suc u) l = absurd l
fresh_last (p ∷ ps) zero l = let z : ◌≡◌ {A = ℕ} 0 1 = cc in absurd (omega arith)
fresh_last (p ∷ ps) (suc u) l = sym (ne_eqb (suc u) 0 (λ z. omega arith))

entered_fresh : (s : List ℕ) (es : List Element) (M begun : List ℕ) (level e u : ℕ) (o : Open) → Entered es M begun level e u o → 1 ≤ (decided s es).fits e o.taken pcdata → is_fresh o ≡ eqb u 0
unfolding fits_in
entered_fresh s es M begun level e u o r h = by_content (content_of es e) refl h
  where
    by_content : (x : Content) → content_of es e ≡ x → 1 ≤ fits_in s es x o.taken pcdata → is_fresh o ≡ eqb u 0
    by_content empty i f = absurd (omega arith)
    by_content (model g ps n) i f = fresh_last o.taken u (r.stands i).last

module _ (c : Settings) (s : List ℕ) (es : List Element) (d M begun : List ℕ) (level e u : ℕ) (line : Line) (o : Open) (at : ℕ) (r : Entered es M begun level e u o) {fits : Bool} (q : fits ≡ leb 1 ((decided s es).fits e o.taken pcdata)) (b : piece c.name_length d at ≡ got blank) where
  pub follows_separator : fits ≡ false → Ignored c s es d line o at (at + 1)
  follows_separator z = by_test (is_ignored c d at line o) refl
    where
      by_test : (x : Bool) → is_ignored c d at line o ≡ x → Ignored c s es d line o at (at + 1)
      by_test true i = skips (under_ignored c s es d at line o b i)
      by_test false i = separates (under_blank c s es d at line o b i) (none_fits (fitting s es (decided s es) o pcdata) (sym (says s es o r.number q) ∙ z)) refl

  -- What the code asks of record ends, where data fits.
  pub since_last : fits ≡ true → (line.since ≡ 0 → is_fresh o ≡ true) → Since line.since u o
  since_last z n = record { fresh = entered_fresh s es M begun level e u o r (leb-true 1 ((decided s es).fits e o.taken pcdata) (sym q ∙ z)); begun = n }

  pub follows_ignored : is_ignored c d at line o ≡ true → Ignored c s es d line o at (at + 1)
  follows_ignored i = skips (under_ignored c s es d at line o b i)

  pub follows_blank : fits ≡ true → is_ignored c d at line o ≡ false → {after : ℕ} → after ≡ run_end d (at + 1) → ToSettle c s es d line o at 0 after
  follows_blank z i a =
      runs refl (record { run = ap is_run (under_blank c s es d at line o b i); fits = λ _. leb-true 1 (fitting s es (decided s es) o pcdata) (sym (says s es o r.number q) ∙ z); ends = a })

-- Where reading goes on

-- A run of data from the next position on.
pub ahead_run : (d : List ℕ) (at : ℕ) → at < length d → {after : ℕ} → after ≡ run_end d (at + 1) → Ahead (length d) at (next.Token (element_no 0) after)
ahead_run d at h e = let (i, j) = run_end_in d (at + 1) (omega arith) in (omega arith, omega arith, omega arith)
