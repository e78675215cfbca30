-- What is listed of the attributes of a type that is accepted.
use Rattle.std.specs.Prelude.{ℕ, ◌*◌, ◌≤◌, ◌≡◌, refl, List, length, replicate}
use Rattle.std.proofs.Common.{sym, ap, ◌∙◌, subst, arith}
use Rattle.std.proofs.lemmas.List.{length-replicate}
use Rattle.rules.specs.Settings.{Settings}
use Rattle.rules.specs.Bytes.{ATTCNT, element_limit}
use Rattle.rules.specs.Lent.{numbers, filled_with, zeroed}
use Rattle.rules.specs.Reading.{Reading, got}
use Rattle.rules.specs.TypeFile.{Element}
use Rattle.rules.specs.Judge.{Answer, acceptance, records, Refuses, Accepts, Judged, record_width}
use Rattle.rules.specs.Listing.{attribute_count, list_numbers, Lists}
use Rattle.rules.specs.Printed.{program_settings}
use Rattle.layout.specs.Sizes.{ATTRIBUTE_RECORDS, RECORDS}
use Rattle.rules_laws.specs.Within.{type_file_count}
use Rattle.type_laws.specs.Attributes.{type_file_attributes, attributes_count}
use Rattle.answer_laws.specs.Judge.{settled_one, refuses_some}
use Rattle.type_judge.specs.declared.TypeFault.{TypeFault}
use Rattle.type_judge.specs.declared.TypeFault.TheVariants.{Malformed, Ambiguous}
use Rattle.type_judge.specs.Decides.{refusal_by}
use Rattle.printed_text.specs.Accepted.{ListedIn}
use Rattle.printed_text.specs.Attributes.{attributes_fit, attributes_named}

-- What was listed under the settings that the program gives.
pub listed_given : {c : Settings} {s before : List ℕ} {a : Answer} {after : List ℕ} → c ≡ program_settings → Lists numbers c s before a after → Lists numbers program_settings s before a after
listed_given {s = s} {before} {a} {after} e x = subst (λ (d : Settings). Lists numbers d s before a after) e x

-- Two readings of one type file have the same elements.
same_elements : {c : Settings} {s : List ℕ} {es fs : List Element} → Accepts c s es → Accepts c s fs → es ≡ fs
same_elements {es = es} {fs} a b = go a.elements b.elements
  where
    go : {x : Reading (List Element)} → x ≡ got es → x ≡ got fs → es ≡ fs
    go p q = cc

module _ (c : Settings) (s : List ℕ) (es : List Element) (accepted : Accepts c s es) where
  few : (record_width * length es ≤ RECORDS) × (attribute_count es ≤ ATTCNT * element_limit)
  few =
      let n = type_file_count c.name_length s es accepted.elements in
      (omega arith, omega (arith, attributes_count c.name_length s es (type_file_attributes c.name_length s es accepted.elements)))

  -- The type is not refused where all its elements have room.
  not_refused : (a : Answer) → Refuses c s RECORDS a → ⊥
  not_refused a r =
      let zeros : List ℕ = replicate RECORDS 0 in
      let room : length zeros ≡ RECORDS = length-replicate {A = ℕ} RECORDS 0 in
      let judged : Judged numbers c s zeros a (zeroed zeros) = Judged.refuses (rw room r) refl in
      let other : Judged numbers c s zeros (acceptance (length es)) (filled_with (records es) zeros) = Judged.accepts es accepted (omega (arith, room, few)) refl refl in
      refuses_some r (ap (λ (x : Answer). x.number) (settled_one judged other).0)

  pub listed_one : (before : List ℕ) (a : Answer) (after : List ℕ) → length before ≡ ATTRIBUTE_RECORDS → Lists numbers c s before a after → (a ≡ acceptance (attribute_count es)) × (after ≡ filled_with (list_numbers 1 es) before)
  listed_one before a after h (Lists.refuses r z) = absurd (not_refused a r)
  listed_one before a after h (Lists.no_room ds w l e z) = absurd (omega (arith, few, ap attribute_count (same_elements w accepted)))
  listed_one before a after h (Lists.accepts ds w f e z) =
      let same = same_elements w accepted in
      (e ∙ ap (λ (l : List Element). acceptance (attribute_count l)) same, z ∙ ap (λ (l : List Element). filled_with (list_numbers 1 l) before) same)

module _ (s before : List ℕ) (lent : length before ≡ ATTRIBUTE_RECORDS) (es : List Element) (accepted : Accepts program_settings s es) {a : Answer} {after : List ℕ} (l : Lists numbers program_settings s before a after) where
  pub listed_in : (t : ℕ) → a ≡ acceptance t → ListedIn s after t
  listed_in t e = rw (counted es accepted) (
      record {
        few = (few program_settings s es accepted).1;
        fits = attributes_fit program_settings.name_length s after _ es (listed_one program_settings s es accepted before a after lent l).1 refl (type_file_attributes program_settings.name_length s es accepted.elements);
        named = λ ds b. rw (sym (counted es accepted) ∙ counted ds b) (attributes_named program_settings.name_length s after _ ds (listed_one program_settings s ds b before a after lent l).1);
      }
      )
    where
      counted : (ds : List Element) → Accepts program_settings s ds → t ≡ attribute_count ds
      counted ds b = ap (λ (x : Answer). x.count) (sym e ∙ (listed_one program_settings s ds b before a after lent l).0)

  -- It is not refused.
  pub listed_not : {b : Answer} → a ≡ b → 1 ≤ b.input → ⊥
  listed_not e h = omega (arith, ap (λ (x : Answer). x.input) (sym e ∙ (listed_one program_settings s es accepted before a after lent l).0))

-- A refusal names its input.
pub refusal_names : (x : TypeFault) → 1 ≤ (refusal_by x).input
refusal_names (Malformed f) = omega arith
refusal_names (Ambiguous c) = omega arith
