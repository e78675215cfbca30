-- The table of elements that the judge leaves, and the lines by the numbers of the buffers, as what the rules read.
use Prim.Native.Nat.{ℕ, zero, suc, ◌+◌, ◌-◌, ◌*◌, ◌≤◌, ◌<◌}
use Rattle.std.specs.Prelude.{◌≡◌, Bool, ◌||◌, drop, get_or, replicate}
use Rattle.std.proofs.Math.Path.{refl}
use Rattle.std.proofs.Common.{sym, ap, ◌∙◌, subst, take_at, get_or-append-add, get_or-drop}
use Rattle.std.proofs.Math.Bool.{true, false}
use mathlib.Core.List.{List, [], ◌∷◌, ◌++◌}
use native.Mathlib.Omega.{arith}
use Rattle.std.proofs.Math.Decide.{dec_lt}
use Rattle.std.proofs.Math.ListN.{length}
use Rattle.std.proofs.lemmas.List.{length-replicate}
use Rattle.std.proofs.Math.Dec.{eqb}
use Rattle.std.proofs.Math.Seq.{drop-drop}
use Rattle.rules.specs.Settings.{Settings}
use Rattle.rules.specs.Lent.{numbers, filled_with}
use Rattle.rules.specs.TypeFile.{Element}
use Rattle.rules.specs.Judge.{Answer, records, Accepts, Judged, accepts, record_width}
use Rattle.rules.specs.Elements.{element_at}
use Rattle.rules.specs.Events.{Event, event_width}
use Rattle.rules.specs.Reader.{event_numbers}
use Rattle.numbers.specs.Stores.{records_length, lent_length}
use Rattle.rules_laws.specs.Within.{type_file_count}
use Rattle.element_reader.specs.Keeps.{Recorded}
use Rattle.element_index.specs.Seeking.{recorded_offset, recorded_size}
use Rattle.type_laws.specs.Again.{type_file_sizes}
use Rattle.answer_laws.specs.Judge.{settled_one}
use Rattle.rules.specs.Printed.{program_settings, name_text, starts_next, attribute_text, event_text, line, event_lines, events_text, program_name_length}
use Rattle.layout.specs.Sizes.{RECORDS}
use Rattle.event_names.specs.Names.{Fits, name_in, starts_within, attribute_in, named_at}
use Rattle.event_lines.specs.TextOf.{line_at, lines_from, text_of}
use Rattle.basic_laws.specs.Numbers.{replicate_at}

-- What was judged under the settings that the program gives.
pub judged_given : {c : Settings} {s before : List ℕ} {a : Answer} {after : List ℕ} → c ≡ program_settings → Judged numbers c s before a after → Judged numbers program_settings s before a after
judged_given {s = s} {before} {a} {after} e x = subst (λ (d : Settings). Judged numbers d s before a after) e x

-- Past the last element there is none: its name is empty.
element_past : (es : List Element) (k : ℕ) → length es ≤ k → ((element_at es k).at ≡ 0) × ((element_at es k).size ≡ 0)
unfolding element_at
element_past [] k h = (refl, refl)
element_past (e ∷ es) zero h = absurd (omega arith)
element_past (e ∷ es) (suc k) h = element_past es k (omega arith)

module _ (s : List ℕ) (es : List Element) (accepted : Accepts program_settings s es) (a : Answer) (before elements : List ℕ) (lent : before ≡ replicate RECORDS 0) (judged : Judged numbers program_settings s before a elements) where
  few : record_width * length es ≤ RECORDS
  few = omega (arith, type_file_count program_settings.name_length s es accepted.elements)

  elements_are : elements ≡ filled_with (records es) before
  elements_are = (settled_one judged (accepts es accepted (omega (arith, few, ap length lent, length-replicate {A = ℕ} RECORDS 0)) refl refl)).1

  recorded : Recorded elements es
  recorded = rw elements_are (take_at (records es) (drop (length (records es)) before) (record_width * length es) (records_length es))

  -- Behind the records the table is as it was lent.
  behind : (j : ℕ) → record_width * length es ≤ j → get_or elements j 0 ≡ 0
  behind j h =
      let z : j ≡ length (records es) + (j - record_width * length es) = omega (arith, records_length es) in
      rw (elements_are, z, get_or-append-add, get_or-drop, lent, replicate_at)

  at_is : (k : ℕ) → get_or elements (record_width * k) 0 ≡ (element_at es k).at
  at_is k = by_place (dec_lt k (length es))
    where
      by_place : Dec (k < length es) → get_or elements (record_width * k) 0 ≡ (element_at es k).at
      by_place (yes h) = recorded_offset elements es recorded k h
      by_place (no h) = behind (record_width * k) (omega arith) ∙ sym (element_past es k (omega arith)).0

  size_is : (k : ℕ) → get_or elements (record_width * k + 1) 0 ≡ (element_at es k).size
  size_is k = by_place (dec_lt k (length es))
    where
      by_place : Dec (k < length es) → get_or elements (record_width * k + 1) 0 ≡ (element_at es k).size
      by_place (yes h) = recorded_size elements es recorded k h
      by_place (no h) = behind (record_width * k + 1) (omega arith) ∙ sym (element_past es k (omega arith)).1

  name_fits : (k : ℕ) → ((element_at es k).size ≤ program_name_length) × ((element_at es k).at + (element_at es k).size ≤ length s)
  name_fits k = by_place (dec_lt k (length es))
    where
      by_place : Dec (k < length es) → ((element_at es k).size ≤ program_name_length) × ((element_at es k).at + (element_at es k).size ≤ length s)
      by_place (yes h) = let z = type_file_sizes program_settings.name_length s es accepted.elements k h in (z.1, z.2)
      by_place (no h) = let z = element_past es k (omega arith) in (omega arith, omega arith)

  pub table_fits : Fits s elements
  table_fits =
      record {
        whole = ap length elements_are ∙ lent_length numbers (records es) before (omega (arith, few, records_length es, ap length lent, length-replicate {A = ℕ} RECORDS 0)) ∙ ap length lent ∙ length-replicate {A = ℕ} RECORDS 0;
        short = λ k. rw (size_is k) (name_fits k).0;
        inside = λ k. rw (at_is k, size_is k) (name_fits k).1;
      }

  pub names_are : (k : ℕ) → name_in s elements k ≡ name_text s es k
  names_are zero = refl
  names_are (suc k) = rw (at_is k, size_is k)

-- The element that starts next, and the lines, by the numbers of the lent buffer are those of the events.
module _ (buffer rest : List ℕ) where
  number_at : (e : Event) (ev : List Event) (i j : ℕ) → drop (event_width * i) buffer ≡ event_numbers (e ∷ ev) ++ rest → get_or buffer (event_width * i + j) 0 ≡ get_or (event_numbers (e ∷ ev) ++ rest) j 0
  number_at e ev i j q = sym (get_or-drop (event_width * i) buffer j 0) ∙ ap (λ (l : List ℕ). get_or l j 0) q

  kind_at : (e : Event) (ev : List Event) (i : ℕ) → drop (event_width * i) buffer ≡ event_numbers (e ∷ ev) ++ rest → get_or buffer (event_width * i) 0 ≡ e.kind
  unfolding event_numbers
  kind_at e ev i q = let first : event_width * i + 0 ≡ event_width * i = omega arith in rw first at (number_at e ev i 0 q)

  next_at : (e : Event) (ev : List Event) (i : ℕ) → drop (event_width * i) buffer ≡ event_numbers (e ∷ ev) ++ rest → drop (event_width * (i + 1)) buffer ≡ event_numbers ev ++ rest
  unfolding event_numbers
  next_at e ev i q =
      let next : event_width * (i + 1) ≡ event_width * i + event_width = omega arith in
      rw (next, ← drop-drop event_width (event_width * i) buffer, q)

  starts_are : (ev : List Event) (i : ℕ) → drop (event_width * i) buffer ≡ event_numbers ev ++ rest → starts_within buffer (length ev) i ≡ starts_next ev
  unfolding starts_within starts_next event_numbers
  starts_are [] i q = refl
  starts_are (e ∷ ev) i q = by_kind (eqb e.kind 1 || eqb e.kind 2) refl (starts_are ev (i + 1) (next_at e ev i q))
    where
      by_kind : (b : Bool) → (eqb e.kind 1 || eqb e.kind 2) ≡ b → starts_within buffer (length ev) (i + 1) ≡ starts_next ev → starts_within buffer (suc (length ev)) i ≡ starts_next (e ∷ ev)
      by_kind true x ih = rw (starts_within, starts_next, kind_at e ev i q, x) (number_at e ev i 1 q)
      by_kind false x ih = rw (starts_within, starts_next, kind_at e ev i q, x) ih

  module _ (s : List ℕ) (es : List Element) (elements : List ℕ) (names : (k : ℕ) → name_in s elements k ≡ name_text s es k)
      (attributes : List ℕ) (total : ℕ) (named : (e a : ℕ) → attribute_in s attributes total e a ≡ attribute_text s es e a) where
    name_is : (e : Event) (ev : List Event) (i : ℕ) → drop (event_width * i) buffer ≡ event_numbers (e ∷ ev) ++ rest → named_at s elements attributes total buffer i (i + suc (length ev)) ≡ event_text s es e ev
    unfolding named_at event_numbers
    name_is e ev i q = by_kind (eqb e.kind 7 || eqb e.kind 8) refl
      where
        left : i + suc (length ev) - (i + 1) ≡ length ev
        left = omega arith

        by_kind : (b : Bool) → (eqb e.kind 7 || eqb e.kind 8) ≡ b → named_at s elements attributes total buffer i (i + suc (length ev)) ≡ event_text s es e ev
        by_kind true x = rw (named_at, event_text, kind_at e ev i q, x, number_at e ev i 1 q, left, starts_are ev (i + 1) (next_at e ev i q)) (named (starts_next ev) e.number)
        by_kind false x = rw (named_at, event_text, kind_at e ev i q, x, number_at e ev i 1 q) (names e.number)

    line_is : (e : Event) (ev : List Event) (i : ℕ) → drop (event_width * i) buffer ≡ event_numbers (e ∷ ev) ++ rest
        → line_at s elements attributes total buffer i (i + suc (length ev)) ≡ line e.kind (event_text s es e ev) e.offset e.size
    unfolding event_numbers line_at
    line_is e ev i q = rw (kind_at e ev i q, name_is e ev i q, number_at e ev i 2 q, number_at e ev i 3 q)

    pub lines_from_lem : (ev : List Event) (i : ℕ) → drop (event_width * i) buffer ≡ event_numbers ev ++ rest → lines_from s elements attributes total buffer (length ev) i ≡ event_lines s es ev
    unfolding event_numbers lines_from event_lines
    lines_from_lem [] i q = refl
    lines_from_lem (e ∷ ev) i q = rw (line_is e ev i q, lines_from_lem ev (i + 1) (next_at e ev i q))

-- The whole text of the events.
pub text_is : {text : List ℕ} (s elements attributes : List ℕ) (total : ℕ) (buffer : List ℕ) (n : ℕ) → text ≡ text_of s elements attributes total buffer n
    → (es : List Element) (ev : List Event) (rest : List ℕ) → ((k : ℕ) → name_in s elements k ≡ name_text s es k) → ((e a : ℕ) → attribute_in s attributes total e a ≡ attribute_text s es e a)
    → buffer ≡ event_numbers ev ++ rest → n ≡ length ev → text ≡ events_text s es ev
unfolding text_of events_text
text_is s elements attributes total buffer n t es ev rest names named q count = t ∙ rw (count, lines_from_lem buffer rest s es elements names attributes total named ev 0 q)
