-- What the element reader's answer makes of what is kept.
use Rattle.std.specs.Prelude.{ℕ, zero, suc, Option, Some, None, Ok, Err, ◌+◌, ◌*◌, ◌≤◌, ◌<◌, ◌≡◌, refl, List, [], ◌∷◌, ◌++◌, length, take}
use Rattle.std.proofs.Common.{sym, ap, ◌∙◌, arith, ne_eqb}
use Rattle.std.specs.Option.{option_or}
use Rattle.rules.specs.Reading.{Reading, refused, got}
use Rattle.rules.specs.TypeFile.{Content, empty, model, Element, Declared, earlier}
use Rattle.rules.specs.Judge.{first_repeated, record_width}
use Rattle.rules_laws.specs.Groups.{earlier_none}
use Rattle.rules.specs.Bytes.{GRPGTCNT, element_limit, type_limit}
use Rattle.text.specs.declared.Fault.{Fault}
use Rattle.element_content.specs.declared.Model.{Model}
use Rattle.element_content.specs.Kept.{place, repeated_of, KeepsContent, content_places}
use Rattle.element_reader.specs.Keeps.{KeepsElement, MeetsElement}
use Rattle.element_reader.specs.declared as declared
use Rattle.element_records.specs.declared.Clash.{Clash}
use Rattle.element_records.specs.declared.Progress.{Progress}
use Rattle.element_records.specs.Progress.{numbers_of, tokens_of, PendingWith, KeepsProgress, MeetsStep}
use Rattle.element_records.specs.Records.{length_more, repeated_more, numbers_kept, recorded_more}

-- The first of two positions that is given.
pub place_or : (i j : ℕ) → option_or (place i) (place j) ≡ place (earlier i j)
place_or zero j = refl
place_or (suc i) j = rw (ne_eqb (suc i) 0 (λ e. omega arith), earlier)

-- What the element reader's answer makes of a step.
module _ (s : List ℕ) (from : ℕ) (names table : List ℕ) (es : List Element) where
  pub element_refused : (elements : List ℕ) (x : Reading Declared) (f : Fault) → MeetsElement (length s) from names table es (Err f) x → MeetsStep s elements from (Err f) x
  element_refused elements (refused n k) f m = m
  element_refused elements (got d) f m = m

  pub element_kept : (x : Reading Declared) (e : declared.Element.Element) → MeetsElement (length s) from names table es (Ok e) x
      → (d : Declared) × (x ≡ got d) × KeepsElement (length s) from names table es e d
  element_kept (refused n k) e m = absurd m
  element_kept (got d) e m = (d, refl, m)

  module _ (e : declared.Element.Element) (d : Declared) (k : KeepsElement (length s) from names table es e d) where
    -- Its numbers fit, and so do its places.
    pub element_fits : length s ≤ type_limit → (e.offset < 4294967296) × (e.size < 4294967296) × (tokens_of e.model < 4294967296)
    element_fits h =
        (omega (arith, k.name, k.name_in), omega (arith, k.size, k.size_in), by_content e.model k.element.content k.content)
      where
        by_content : (m : Option Model) (c : Content) → KeepsContent names table m c → tokens_of m < 4294967296
        by_content None c w = omega arith
        by_content (Some m) empty w = absurd w
        by_content (Some m) (model g ps n) w = omega (arith, w.0, w.1)

    pub element_places : (m : Model) → e.model ≡ Some m → m.places ≤ GRPGTCNT
    element_places m q = content_places names table m k.element.content (rw q at k.content)

    pub element_step : (before after : List ℕ) (p : Progress) (c : Option Clash) (first : Option ℕ) (x : Reading Declared) → x ≡ got d → KeepsProgress s before p es → p.count < element_limit
        → take (record_width * (p.count + 1)) after ≡ take (record_width * p.count) before ++ numbers_of e → first ≡ place (earlier (first_repeated es) k.element.repeated)
        → (first_repeated es ≡ 0 → repeated_of e.model ≡ None → PendingWith s c es k.element.content)
        → MeetsStep s after from (Ok (record { at = e.at; count = p.count + 1; clash = c; repeated = first })) x
    element_step before after p c first x y h few w o q =
        let all : first_repeated (es ++ k.element ∷ []) ≡ earlier (first_repeated es) k.element.repeated = repeated_more es k.element in
        let m = length_more es k.element in
        let n = h.counted in
        rw y (
          record {
            counted = rw k.grows (omega arith);
            room = rw k.grows (omega arith);
            recorded =
                rw k.grows
                (recorded_more before after p.count e es k.element n h.recorded w (numbers_kept names table e k.element k.name k.size k.start k.end_tag_lem k.content));
            at_in = omega (arith, k.at, k.at_in);
            repeated_at = rw (k.grows, all) o;
            pending =
                rw k.grows
                (λ z.
                let (a, b) = earlier_none (first_repeated es) k.element.repeated (sym all ∙ z) in
                q a (k.repeated_at ∙ ap place b) k.element refl);
          },
          k.at,
          k.onward,
        )
