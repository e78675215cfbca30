-- Laws of the verdict on a type file, and of the lent buffer.
use Rattle.std.specs.Prelude.{ℕ, ◌*◌, ◌≤◌, ◌<◌, ◌≡◌, refl, List, length, take, drop, Option, Some, None, Result, Ok, Err, IsErrAnd}
use Rattle.std.proofs.Common.{ap, arith, length-append, take-append-drop}
use Rattle.rules.specs.Settings.{Settings}
use Rattle.rules.specs.Lent.{Lent, standing, room, filled_with, zeroed}
use Rattle.rules.specs.Reading.{Reading, refused, got}
use Rattle.rules.specs.TypeFile.{Element, type_file}
use Rattle.rules.specs.Judge.{first_repeated, Legible, Refuses, Accepts, malformed, repeated, ambiguous, no_room, Judged, refuses, accepts, refusal, acceptance, record_width}
use Rattle.rules.specs.Bytes.{element_limit}
use Rattle.numbers.specs.Stores.{records_length}
use Rattle.text.specs.declared.Fault.{Fault}
use Rattle.element_content.specs.Kept.{place, place_some}
use Rattle.element_records.specs.declared.Clash.{Clash}
use Rattle.element_records.specs.declared.Progress.{Progress}
use Rattle.type_judge.specs.declared.TypeFault.{TypeFault}
use Rattle.element_records.specs.Progress.{Pending, KeepsProgress}
use Rattle.attribute_lists.specs.Listed.{HeadedAs}
use Rattle.type_file.specs.File.{MeetsFile}
use Rattle.type_judge.specs.Decides.{answer_of, refusal_by, Decides}

-- What a `?` gives, which makes this of an error.
pub raised : {A E : Type 0} {x : E} (r : Result A E) → IsErrAnd r (λ e. e ≡ x) → r ≡ Err x
raised (Ok _) h = elim h [ ]
raised (Err e) h = ap Err h

-- The verdict on a type file that was refused, or read.
module _ (c : Settings) (s : List ℕ) (room : ℕ) (legible : Legible c s) where
  pub decides_malformed : (elements heads : List ℕ) (f : Fault) → MeetsFile c.name_length s elements heads (Err f) (type_file c.name_length s) → Refuses c s room (refusal f.number f.at 0 0)
  decides_malformed elements heads f m = by_reading (type_file c.name_length s) refl m
    where
      by_reading : (x : Reading (List Element)) → type_file c.name_length s ≡ x → MeetsFile c.name_length s elements heads (Err f) x → Refuses c s room (refusal f.number f.at 0 0)
      by_reading (refused n k) y h = malformed legible n k y (rw (h.0, h.1))
      by_reading (got es) y h = absurd h

  -- An "&" is refused.
  pub decides_repeated : (es : List Element) → type_file c.name_length s ≡ got es → (n : ℕ) → place (first_repeated es) ≡ Some n → Refuses c s room (refusal 25 n 0 0)
  decides_repeated es y n e =
      let (q, z) = place_some (first_repeated es) e in
      repeated legible es y (omega arith) (ap (λ (k : ℕ). refusal 25 k 0 0) q)

  module _ (es : List Element) (y : type_file c.name_length s ≡ got es) (none : first_repeated es ≡ 0) (o : Option Clash) (h : Pending s o es) where
    pub decides_ambiguous : (x : Clash) → o ≡ Some x → Refuses c s room (refusal 9 x.at x.first x.second)
    decides_ambiguous x e = ambiguous legible es y none x.at x.first x.second (rw e at h) refl

    module _ (e : o ≡ None) where
      unambiguous : Pending s None es
      unambiguous = rw e at h

      pub decides_full : (n : ℕ) → n ≡ length es → room < record_width * n → Refuses c s room (refusal 19 0 0 0)
      decides_full n e l = no_room legible es y none unambiguous (rw e at l) refl

      pub decides_accepted : (elements heads : List ℕ) (p : Progress) → KeepsProgress s elements p es → HeadedAs c.name_length s heads es → record_width * p.count ≤ room → Decides c s room elements heads (Ok p.count)
      decides_accepted elements heads p k u l =
          let all : Accepts c s es = record { legible = legible; elements = y; unrepeated = none; unambiguous = unambiguous } in
          (es, all, k.counted, rw k.counted at l, k.room, k.recorded, u)

-- What the lent buffer holds after the verdict.
module _ (l : Lent) (c : Settings) (s before elements heads : List ℕ) (v : Result ℕ TypeFault) (d : Decides c s (room l before) elements heads v) where
  -- The records stand in the table, and fit the buffer.
  pub accepted_fits : (n : ℕ) → v ≡ Ok n → (n ≤ element_limit) × (record_width * n ≤ room l before) × (record_width * n ≤ length elements)
  accepted_fits n e =
      let (es, a, count, fits, few, w, u) = rw e at d in
      let whole = ap length (take-append-drop (record_width * length es) elements) in
      (omega arith, omega arith, omega (arith, length-append (take (record_width * length es) elements) (drop (record_width * length es) elements), ap length w, records_length es))

  pub judged_accepts : (n : ℕ) (after : List ℕ) → v ≡ Ok n → after ≡ filled_with (standing l (take (record_width * n) elements)) before → Judged l c s before (answer_of (Ok n)) after
  judged_accepts n after e q =
      let (es, a, count, fits, few, w, u) = rw e at d in
      accepts es a fits (ap acceptance count) (rw (q, count, w))

  pub judged_refuses : (after : List ℕ) → ((n : ℕ) → v ≡ Ok n → ⊥) → after ≡ zeroed before → Judged l c s before (answer_of v) after
  judged_refuses after other q = by_verdict v refl d
    where
      by_verdict : (u : Result ℕ TypeFault) → v ≡ u → Decides c s (room l before) elements heads u → Judged l c s before (answer_of v) after
      by_verdict (Ok n) e h = absurd (other n e)
      by_verdict (Err x) e h = rw e (refuses h q)
